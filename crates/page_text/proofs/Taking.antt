-- Whether some byte of a path takes an item, as the library's `any` tells it.
use mathlib.Core.Path.{◌≡◌, refl, ap}
use mathlib.Core.Bool.{Bool, ◌||◌}
use mathlib.Core.List.{List, [], ◌∷◌}
use Prim.Native.Nat.{ℕ, ◌+◌, ◌*◌}
use lib.Dec.{eqb}
use Rattle.std.specs.List.{list_any}
use Rattle.knapsack.specs.Items.{takes}
use Rattle.jobs.specs.Page.{taken}

pub taken_by_any : (d : ℕ) (path : List ℕ) → list_any (λ b. eqb b (2 * d + 1)) path ≡ taken d path
unfolding taken takes
taken_by_any d [] = refl
taken_by_any d (b ∷ bs) = ap (λ (t : Bool). eqb b (2 * d + 1) || t) (taken_by_any d bs)
