-- Two ways to add up what is taken agree: over the items of a selection, and over the bytes of a path that it keeps.
use mathlib.Core.Path.{◌≡◌, refl, sym, ◌∙◌}
use mathlib.Core.Bool.{Bool, true, false, cond}
use mathlib.Core.List.Memᴰ
use mathlib.Core.List.{List, [], ◌∷◌}
use Prim.Native.Nat.{ℕ, zero, suc, ◌+◌, ◌≤◌, ◌<◌}
use native.Mathlib.Omega.{arith}
use lib.Dec.{eqb, ltb}
use lib.ListN.{length, get_or, drop}
use lib.Seq.{drop-cons}
use borrow.Author.Tests.{eqb-true, eqb-false, eq-eqb, ne_eqb, ltb-true, ltb-false}
use Rattle.knapsack.specs.Items.{Item, no_item, counted, item_of}
use Rattle.knapsack.specs.Knapsack.{weight_of, profit_of}
use Rattle.knapsack.proofs.Cases.{by_test}
use Rattle.theorems.proofs.Path.{share, sum_taken, times_named, named_is}
use Rattle.theorems.proofs.Whole.{hit, col, col_none}
use Rattle.demand2.specs.Records.{Keeps}

-- what the items that a selection takes add up to
unfoldable pub total : (Item → ℕ) → List Item → List Bool → ℕ
total f [] sel = 0
total f (i ∷ is) [] = 0
total f (i ∷ is) (b ∷ sel) = cond b (f i) 0 + total f is sel

pub weight_total : (items : List Item) (sel : List Bool) → weight_of items sel ≡ total (λ i. counted i.weight) items sel
unfolding weight_of total
weight_total [] sel = refl
weight_total (i ∷ is) [] = refl
weight_total (i ∷ is) (true ∷ sel) = omega (arith, weight_total is sel)
weight_total (i ∷ is) (false ∷ sel) = omega (arith, weight_total is sel)

pub profit_total : (items : List Item) (sel : List Bool) → profit_of items sel ≡ total (λ i. i.profit) items sel
unfolding profit_of total
profit_total [] sel = refl
profit_total (i ∷ is) [] = refl
profit_total (i ∷ is) (true ∷ sel) = omega (arith, profit_total is sel)
profit_total (i ∷ is) (false ∷ sel) = omega (arith, profit_total is sel)

-- ---- the sum of g 0 .. g (n - 1)

unfoldable pub sum_to : ℕ → (ℕ → ℕ) → ℕ
sum_to zero g = 0
sum_to (suc n) g = sum_to n g + g n

sum_zero : (n : ℕ) → sum_to n (λ _. 0) ≡ 0
unfolding sum_to
sum_zero zero = refl
sum_zero (suc n) = omega (arith, sum_zero n)

sum_same : (n : ℕ) (g h : ℕ → ℕ) → ((k : ℕ) → k < n → g k ≡ h k) → sum_to n g ≡ sum_to n h
unfolding sum_to
sum_same zero g h e = refl
sum_same (suc n) g h e = omega (arith, sum_same n g h (λ k l. e k (omega arith)), e n (omega arith))

sum_add : (n : ℕ) (g h : ℕ → ℕ) → sum_to n (λ k. g k + h k) ≡ sum_to n g + sum_to n h
unfolding sum_to
sum_add zero g h = refl
sum_add (suc n) g h = omega (arith, sum_add n g h)

-- c where k is m, else nothing
abbrev only : ℕ → ℕ → ℕ → ℕ
only m c k = cond (eqb m k) c 0

only_out : (n m c : ℕ) → n ≤ m → sum_to n (only m c) ≡ 0
unfolding sum_to
only_out zero m c h = refl
only_out (suc n) m c h = rw (ne_eqb m n (λ e. omega arith)) (omega (arith, only_out n m c (omega arith)))

only_in : (n m c : ℕ) → m < n → sum_to n (only m c) ≡ c
unfolding sum_to
only_in zero m c h = absurd (omega arith)
only_in (suc n) m c h =
    by_test (λ _. sum_to n (only m c) + only m c n ≡ c) (eqb m n)
    (λ t. let e = eqb-true m n t in rw (eq-eqb m n e) (omega (arith, only_out n m c (omega arith))))
    (λ t. let e = eqb-false m n t in rw (ne_eqb m n e) (omega (arith, only_in n m c (omega (arith, e)))))

-- ---- over the items: the first n, and the rest

-- what item k adds to a selection
abbrev pub entry : (Item → ℕ) → List Item → List Bool → ℕ → ℕ
entry f items sel k = cond (get_or sel k false) (f (get_or items k no_item)) 0

total_next : (f : Item → ℕ) (items : List Item) (sel : List Bool) (n : ℕ) → n < length items → n < length sel → total f (drop n items) (drop n sel) ≡ entry f items sel n + total f (drop (suc n) items) (drop (suc n) sel)
unfolding total
total_next f items sel n h l = rw (drop-cons items n no_item h, drop-cons sel n false l)

pub total_split : (f : Item → ℕ) (items : List Item) (sel : List Bool) (n : ℕ) → n ≤ length items → length sel ≡ length items → total f items sel ≡ sum_to n (entry f items sel) + total f (drop n items) (drop n sel)
unfolding sum_to
total_split f items sel zero h l = omega arith
total_split f items sel (suc n) h l =
    omega (arith, total_split f items sel n (omega arith) l, total_next f items sel n (omega arith) (omega arith))

-- ---- over the bytes of a path: item by item

columns : (f : Item → ℕ) (items : List Item) (n : ℕ) (p : List ℕ) → ((k : ℕ) → n ≤ k → times_named k p ≡ 0) → sum_taken f items p ≡ sum_to n (λ k. col f items k p)
unfolding sum_taken col hit times_named
columns f items n [] h = sym (sum_zero n)
columns f items n (b ∷ p) h =
    let inside : item_of b < n = by_test (λ _. item_of b < n) (ltb (item_of b) n) (λ t. ltb-true _ _ t) (λ t. absurd (omega (arith, h (item_of b) (ltb-false (item_of b) n t), (named_is (item_of b) b (item_of b) refl).0 refl))) in
    omega (arith, sum_add n (only (item_of b) (share f items b)) (λ k. col f items k p), only_in n (item_of b) (share f items b) inside, columns f items n p (λ k l. omega (arith, h k l)))

column_once : (f : Item → ℕ) (items : List Item) (sel : List Bool) (k : ℕ) (p : List ℕ) → times_named k p ≡ 1 → Keeps p sel → col f items k p ≡ entry f items sel k
unfolding col hit times_named share
column_once f items sel k [] h keeps = absurd (omega arith)
column_once f items sel k (b ∷ p) h keeps =
    by_test (λ _. only (item_of b) (share f items b) k + col f items k p ≡ entry f items sel k) (eqb (item_of b) k)
    (λ t. let e = eqb-true (item_of b) k t in
    let here : share f items b ≡ entry f items sel k = rw (← keeps b (Memᴰ.head refl), e) in
    rw t (omega (arith, col_none f items k p (omega (arith, (named_is k b (item_of b) refl).0 (sym e))))))
    (λ t. let e = eqb-false (item_of b) k t in
    rw t (omega (arith, column_once f items sel k p (omega (arith, (named_is k b (item_of b) refl).1 (λ q. e (sym q)))) (λ c m. keeps c (Memᴰ.tail m)))))

-- A path that names each of the first n items once and no other adds up to what a selection that keeps it adds up to on those items.
pub path_sum : (f : Item → ℕ) (items : List Item) (sel : List Bool) (n : ℕ) (p : List ℕ) → ((k : ℕ) → k < n → times_named k p ≡ 1) → ((k : ℕ) → n ≤ k → times_named k p ≡ 0) → Keeps p sel → sum_taken f items p ≡ sum_to n (entry f items sel)
path_sum f items sel n p once none keeps =
    columns f items n p none ∙ sum_same n (λ k. col f items k p) (entry f items sel) (λ k l. column_once f items sel k p (once k l) keeps)
