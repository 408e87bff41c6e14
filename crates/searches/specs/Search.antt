-- 'The search': what it holds, and how its open records lie in the lent list.
use Rattle.std.specs.Prelude.{Bool, true, false, List, [], ◌∷◌, ◌++◌, ℕ, suc, ℤ, take, drop}
use Rattle.std.specs.Int.Signed.{lt_z}
use Rattle.searches.specs.Places.{Place}

-- 'It holds a best value (at first the starting bound), perhaps a path, the open count and accepted picks.' A path that isn't held is all 0.
pub record Search : Type 0 where
  pub best : ℤ
  pub held : Bool
  pub path : List ℕ
  pub opened : ℕ
  pub picks : ℕ

-- 'accepted picks stand at the u64 maximum'
abbrev pub most_picks : ℕ
most_picks = 18446744073709551615

-- the open records: the first places of the list
unfoldable pub open_in : Search → List Place → List Place
open_in s list = take s.opened list

-- without the one in that place: 'later ones moving down by one'
unfoldable pub without : ℕ → List Place → List Place
without place ps = take place ps ++ drop (suc place) ps

-- 'drained records with a bound above the best value', in order
unfoldable pub above_best : ℤ → List Place → List Place
above_best best [] = []
above_best best (p ∷ ps) = elim (lt_z best p.bound) [ true ↦ p ∷ above_best best ps | false ↦ above_best best ps ]
