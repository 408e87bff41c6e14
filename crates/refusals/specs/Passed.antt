-- What the code counts on once a problem has passed refusals 1 to 6.
use Rattle.std.specs.Prelude.{◌≤◌, ◌<◌}
use Rattle.knapsack.specs.Limits.{InLimits}
use Rattle.calls.specs.Asked.{Problem}

-- 'refusals 2 to 6 give the limits'
pub record Passed (p : Problem) : Type 0 where
  pub limits : InLimits p.weights p.profits
  pub page : p.page ≤ 65535
  pub some_width : 0 < p.width
  pub width : p.width ≤ 256
