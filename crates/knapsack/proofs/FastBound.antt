-- The four laws of the fast bound: all that proofs outside use of it, but for `blocks`, which computes it and opens it.
use Prim.Native.Nat.{ℕ, ◌+◌, ◌-◌, ◌≤◌}
use mathlib.Core.Path.{◌≡◌, refl}
use mathlib.Core.Logic.{⊎_elim, by_cases}
use mathlib.Core.List.{List, [], ◌∷◌}
use native.Mathlib.Decide.{dec_le}
use native.Mathlib.Omega.{arith}
use borrow.Author.Tests.{le-leb, lt-leb}
use Rattle.knapsack.specs.Items.{Item, counted}
use Rattle.knapsack.specs.Best.{best}
use Rattle.knapsack.specs.FastBound.{fast_bound, total_profit}
use Rattle.knapsack.proofs.Best.{best_no_items, best_skips_or_takes, best_grows}

-- an item never lowers the bound, and one that fits raises it by its profit
keeps : (i : Item) (is : List Item) (capacity : ℕ) → fast_bound is capacity ≤ fast_bound (i ∷ is) capacity
unfolding fast_bound
keeps i is c = omega arith

adds :
    (i : Item) (is : List Item) (capacity : ℕ) →
    counted i.weight ≤ capacity →
    i.profit + fast_bound is capacity ≤ fast_bound (i ∷ is) capacity
unfolding fast_bound
adds i is c h = rw le-leb (omega arith)

pub fast_bound_at_least_best : (items : List Item) (capacity : ℕ) → best items capacity ≤ fast_bound items capacity
fast_bound_at_least_best [] c = omega (arith, best_no_items c)
fast_bound_at_least_best (i ∷ is) c =
    let below = fast_bound_at_least_best is c in
    ⊎_elim
    (λ skip. omega (arith, keeps i is c))
    (λ take. omega (arith, best_grows is (c - counted i.weight) c (omega arith), adds i is c take.0))
    (best_skips_or_takes i is c)

pub fast_bound_at_most_total : (items : List Item) (capacity : ℕ) → fast_bound items capacity ≤ total_profit items
unfolding fast_bound total_profit
fast_bound_at_most_total [] c = omega arith
fast_bound_at_most_total (i ∷ is) c =
    let below = fast_bound_at_most_total is c in
    by_cases (dec_le (counted i.weight) c)
    (λ h. rw le-leb (omega arith))
    (λ h. rw (lt-leb (counted i.weight) c (omega arith)) (omega arith))

pub fast_bound_none_left : (capacity : ℕ) → fast_bound [] capacity ≡ 0
unfolding fast_bound
fast_bound_none_left c = refl

pub fast_bound_one_left : (i : Item) (capacity : ℕ) → fast_bound (i ∷ []) capacity ≡ best (i ∷ []) capacity
unfolding fast_bound best
fast_bound_one_left i c =
    by_cases (dec_le (counted i.weight) c)
    (λ h. rw (le-leb (counted i.weight) c h) (omega arith))
    (λ h. rw (lt-leb (counted i.weight) c (omega arith)) (omega arith))
