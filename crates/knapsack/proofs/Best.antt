-- The laws of the best completion: what one item does to it, that it grows with the capacity, and that it is the optimum of the 0/1 knapsack.
use Prim.Native.Nat.{ℕ, suc, ◌+◌, ◌-◌, ◌≤◌}
use mathlib.Core.Path.{◌≡◌, refl, ap}
use mathlib.Core.Logic.{◌⊎◌, inl, inr, ⊎_elim, by_cases}
use mathlib.Core.Bool.{Bool, true, false}
use mathlib.Core.List.{List, [], ◌∷◌}
use native.Mathlib.Decide.{dec_le}
use native.Mathlib.Omega.{arith}
use borrow.Author.Tests.{le-leb, lt-leb}
use Rattle.knapsack.specs.Items.{Item, counted}
use Rattle.knapsack.specs.Knapsack.{weight_of, profit_of, SelectionFits, Earned, Optimum}
use Rattle.knapsack.specs.Best.{best}

-- ---- one item: only these four proofs look into `best`

pub best_no_items : (capacity : ℕ) → best [] capacity ≡ 0
unfolding best
best_no_items c = refl

pub best_if_skipped : (i : Item) (is : List Item) (capacity : ℕ) → best is capacity ≤ best (i ∷ is) capacity
unfolding best
best_if_skipped i is c =
    by_cases (dec_le (counted i.weight) c)
    (λ h. rw le-leb (omega arith))
    (λ h. rw (lt-leb (counted i.weight) c (omega arith)) (omega arith))

pub best_if_taken :
    (i : Item) (is : List Item) (capacity : ℕ) →
    counted i.weight ≤ capacity →
    i.profit + best is (capacity - counted i.weight) ≤ best (i ∷ is) capacity
unfolding best
best_if_taken i is c h = rw le-leb (omega arith)

pub best_skips_or_takes :
    (i : Item) (is : List Item) (capacity : ℕ) →
    (best (i ∷ is) capacity ≡ best is capacity) ⊎
    ((counted i.weight ≤ capacity) × (best (i ∷ is) capacity ≡ i.profit + best is (capacity - counted i.weight)))
unfolding best
best_skips_or_takes i is c =
    let taken = i.profit + best is (c - counted i.weight) in
    by_cases (dec_le (counted i.weight) c)
    (λ h. by_cases (dec_le taken (best is c)) (λ k. inl (rw le-leb (omega arith))) (λ k. inr (h, rw le-leb (omega arith))))
    (λ h. inl (rw (lt-leb (counted i.weight) c (omega arith))))

-- ---- the capacity

pub best_grows : (items : List Item) (small large : ℕ) → small ≤ large → best items small ≤ best items large
best_grows [] c d h = omega (arith, best_no_items c)
best_grows (i ∷ is) c d h =
    let w = counted i.weight in
    ⊎_elim
    (λ skip. omega (arith, best_grows is c d h, best_if_skipped i is d))
    (λ take. omega (arith, best_grows is (c - w) (d - w) (omega arith), best_if_taken i is d (omega arith)))
    (best_skips_or_takes i is c)

-- ---- some selection that fits earns it

earned_none : (capacity : ℕ) → Earned [] capacity 0
unfolding weight_of profit_of
earned_none c =
    record { selection = []; fits = record { each_item = refl; in_capacity = omega arith }; earns = refl }

earned_skip : (i : Item) (is : List Item) (capacity x : ℕ) → Earned is capacity x → Earned (i ∷ is) capacity x
unfolding weight_of profit_of
earned_skip i is c x s =
    record {
      selection = false ∷ s.selection;
      fits = record { each_item = ap suc s.fits.each_item; in_capacity = omega arith };
      earns = s.earns;
    }

earned_take :
    (i : Item) (is : List Item) (capacity x : ℕ) →
    counted i.weight ≤ capacity →
    Earned is (capacity - counted i.weight) x →
    Earned (i ∷ is) capacity (i.profit + x)
unfolding weight_of profit_of
earned_take i is c x h s =
    record {
      selection = true ∷ s.selection;
      fits = record { each_item = ap suc s.fits.each_item; in_capacity = omega arith };
      earns = omega arith;
    }

pub best_is_earned : (items : List Item) (capacity : ℕ) → Earned items capacity (best items capacity)
best_is_earned [] c = rw best_no_items (earned_none c)
best_is_earned (i ∷ is) c =
    let left = c - counted i.weight in
    ⊎_elim
    (λ skip. rw skip (earned_skip i is c (best is c) (best_is_earned is c)))
    (λ take. rw take.1 (earned_take i is c (best is left) take.0 (best_is_earned is left)))
    (best_skips_or_takes i is c)

-- ---- and none that fits earns more

light_earns_less :
    (items : List Item) (sel : List Bool) (capacity : ℕ) →
    weight_of items sel ≤ capacity →
    profit_of items sel ≤ best items capacity
unfolding weight_of profit_of
light_earns_less [] sel c h = omega arith
light_earns_less (i ∷ is) [] c h = omega arith
light_earns_less (i ∷ is) (true ∷ sel) c h =
    omega (arith, light_earns_less is sel (c - counted i.weight) (omega arith), best_if_taken i is c (omega arith))
light_earns_less (i ∷ is) (false ∷ sel) c h = omega (arith, light_earns_less is sel c h, best_if_skipped i is c)

pub best_is_most :
    (items : List Item) (capacity : ℕ) (sel : List Bool) →
    SelectionFits items capacity sel →
    profit_of items sel ≤ best items capacity
best_is_most items c sel h = light_earns_less items sel c (omega arith)

-- ---- the optimum

pub best_is_optimum : (items : List Item) (capacity : ℕ) → Optimum items capacity (best items capacity)
best_is_optimum items c = record { earned = best_is_earned items c; most = best_is_most items c }

pub optimum_unique :
    (items : List Item) (capacity x y : ℕ) → Optimum items capacity x → Optimum items capacity y → x ≡ y
optimum_unique items c x y a b =
    omega (arith, a.most b.earned.selection b.earned.fits, b.most a.earned.selection a.earned.fits)
