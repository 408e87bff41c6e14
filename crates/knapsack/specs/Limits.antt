-- What the code counts on once a problem has passed its refusals: weights and profits in pairs, few of them, each in its limit.
use Rattle.std.specs.Prelude.{ℕ, ◌≤◌, ◌≡◌, List, length, get_or}

-- 'refusals 2 to 6 give the limits': none of 1, 2, 4 and 5 applies. Past a list's end `get_or` gives 0, so each d is in its limit.
pub record InLimits (weights profits : List ℕ) : Type 0 where
  pub paired : length weights ≡ length profits
  pub few : length weights ≤ 64
  pub light : (d : ℕ) → get_or weights d 0 ≤ 65535
  pub cheap : (d : ℕ) → get_or profits d 0 ≤ 1000000
