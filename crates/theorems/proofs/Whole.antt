-- The selection that a path is: no terminal whose path is achieved is worth more than the record.
use mathlib.Core.Path.{◌≡◌, refl, sym, ap}
use mathlib.Core.Bool.{Bool, false, cond}
use mathlib.Core.List.{List, [], ◌∷◌}
use Prim.Native.Nat.{ℕ, suc, ◌+◌, ◌≤◌, ◌<◌}
use native.Mathlib.Omega.{arith}
use lib.Dec.{eqb, ltb}
use lib.ListN.{length, get_or, drop, length-drop}
use borrow.Author.Tests.{eqb-true, ltb-true, ltb-false, eqb-false, eq-eqb, ne_eqb}
use Rattle.knapsack.specs.Best.{best}
use Rattle.knapsack.specs.Items.{Item, no_item, counted, item_of, is_take}
use Rattle.knapsack.specs.Knapsack.{weight_of, profit_of}
use Rattle.knapsack.proofs.Best.{best_is_most}
use Rattle.knapsack.proofs.Cases.{by_test}
use Rattle.diagram.specs.Node.{Node}
use Rattle.theorems.proofs.Growth.{drop_next}
use Rattle.theorems.proofs.Path.{share, sum_taken, times_named, Valid, drop_head, named_is, PathUp}

-- the first byte that names item k says whether it is taken
unfoldable pub takes_item : ℕ → List ℕ → Bool
takes_item k [] = false
takes_item k (b ∷ p) = cond (eqb (item_of b) k) (is_take b) (takes_item k p)

unfoldable pub chosen : ℕ → List Item → List ℕ → List Bool
chosen k [] p = []
chosen k (i ∷ is) p = takes_item k p ∷ chosen (suc k) is p

-- what the bytes that name item k add
unfoldable pub hit : (Item → ℕ) → List Item → ℕ → ℕ → ℕ
hit f items k b = cond (eqb (item_of b) k) (share f items b) 0

unfoldable pub col : (Item → ℕ) → List Item → ℕ → List ℕ → ℕ
col f items k [] = 0
col f items k (b ∷ p) = hit f items k b + col f items k p

hit_in : (f : Item → ℕ) (items : List Item) (k b : ℕ) → item_of b ≡ k → hit f items k b ≡ cond (is_take b) (f (get_or items k no_item)) 0
unfolding hit share
hit_in f items k b e = rw (eq-eqb (item_of b) k e, e)

hit_out : (f : Item → ℕ) (items : List Item) (k b : ℕ) → (item_of b ≡ k → ⊥) → hit f items k b ≡ 0
unfolding hit
hit_out f items k b e = rw (ne_eqb (item_of b) k e)

hit_share : (f : Item → ℕ) (items : List Item) (k b : ℕ) → item_of b ≡ k → hit f items k b ≡ share f items b
unfolding hit
hit_share f items k b e = rw (eq-eqb (item_of b) k e)

takes_in : (k b : ℕ) (p : List ℕ) → item_of b ≡ k → takes_item k (b ∷ p) ≡ is_take b
unfolding takes_item
takes_in k b p e = rw (eq-eqb (item_of b) k e)

takes_out : (k b : ℕ) (p : List ℕ) → (item_of b ≡ k → ⊥) → takes_item k (b ∷ p) ≡ takes_item k p
unfolding takes_item
takes_out k b p e = rw (ne_eqb (item_of b) k e)

pub col_none : (f : Item → ℕ) (items : List Item) (k : ℕ) (p : List ℕ) → times_named k p ≡ 0 → col f items k p ≡ 0
unfolding col times_named
col_none f items k [] h = refl
col_none f items k (b ∷ p) h =
    by_test (λ _. hit f items k b + col f items k p ≡ 0) (eqb (item_of b) k)
    (λ t. absurd (omega (arith, (named_is k b (item_of b) refl).0 (sym (eqb-true (item_of b) k t)))))
    (λ t. omega (arith, hit_out f items k b (eqb-false (item_of b) k t), col_none f items k p (omega arith)))

col_once : (f : Item → ℕ) (items : List Item) (k : ℕ) (p : List ℕ) → times_named k p ≡ 1 → col f items k p ≡ cond (takes_item k p) (f (get_or items k no_item)) 0
unfolding col times_named
col_once f items k [] h = absurd (omega arith)
col_once f items k (b ∷ p) h =
    by_test (λ _. hit f items k b + col f items k p ≡ cond (takes_item k (b ∷ p)) (f (get_or items k no_item)) 0) (eqb (item_of b) k)
    (λ t. let e = eqb-true (item_of b) k t in
    rw (takes_in k b p e) (omega (arith, hit_in f items k b e, col_none f items k p (omega (arith, (named_is k b (item_of b) refl).0 (sym e))))))
    (λ t. let e = eqb-false (item_of b) k t in
    rw (takes_out k b p e) (omega (arith, hit_out f items k b e, col_once f items k p (omega (arith, (named_is k b (item_of b) refl).1 (λ q. e (sym q)))))))

-- the columns from item k on
unfoldable cols : (Item → ℕ) → List Item → ℕ → List Item → List ℕ → ℕ
cols f items k [] p = 0
cols f items k (i ∷ is) p = col f items k p + cols f items (suc k) is p

unfoldable hits : (Item → ℕ) → List Item → ℕ → List Item → ℕ → ℕ
hits f items k [] b = 0
hits f items k (i ∷ is) b = hit f items k b + hits f items (suc k) is b

cols_cons : (f : Item → ℕ) (items : List Item) (k : ℕ) (is : List Item) (b : ℕ) (p : List ℕ) → cols f items k is (b ∷ p) ≡ hits f items k is b + cols f items k is p
unfolding cols hits col
cols_cons f items k [] b p = refl
cols_cons f items k (i ∷ is) b p = omega (arith, cols_cons f items (suc k) is b p)

cols_nil : (f : Item → ℕ) (items : List Item) (k : ℕ) (is : List Item) → cols f items k is [] ≡ 0
unfolding cols col
cols_nil f items k [] = refl
cols_nil f items k (i ∷ is) = omega (arith, cols_nil f items (suc k) is)

hits_out : (f : Item → ℕ) (items : List Item) (k : ℕ) (is : List Item) (b : ℕ) → item_of b < k → hits f items k is b ≡ 0
unfolding hits
hits_out f items k [] b h = refl
hits_out f items k (i ∷ is) b h = omega (arith, hit_out f items k b (λ e. omega arith), hits_out f items (suc k) is b (omega arith))

hits_in : (f : Item → ℕ) (items : List Item) (k : ℕ) (is : List Item) (b : ℕ) → k ≤ item_of b → item_of b < k + length is → hits f items k is b ≡ share f items b
unfolding hits
hits_in f items k [] b l h = absurd (omega arith)
hits_in f items k (i ∷ is) b l h =
    by_test (λ _. hit f items k b + hits f items (suc k) is b ≡ share f items b) (eqb (item_of b) k)
    (λ t. let e = eqb-true (item_of b) k t in omega (arith, hit_share f items k b e, hits_out f items (suc k) is b (omega arith)))
    (λ t. let e = eqb-false (item_of b) k t in omega (arith, hit_out f items k b e, hits_in f items (suc k) is b (omega (arith, e)) (omega arith)))

-- the selection of a path
module _ (items : List Item) (p : List ℕ) where
  weight_cols : (k : ℕ) (is : List Item) → drop k items ≡ is → ((opts : ℕ) → k ≤ opts → opts < k + length is → times_named opts p ≡ 1) → weight_of is (chosen k is p) ≡ cols (λ i. counted i.weight) items k is p
  unfolding weight_of chosen cols
  weight_cols k [] e h = refl
  weight_cols k (i ∷ is) e h =
      let c = col_once (λ i. counted i.weight) items k p (h k (omega arith) (omega arith)) in
      let g = drop_head items k i is e in
      let r = weight_cols (suc k) is (drop_next items k i is e) (λ opts a b. h opts (omega arith) (omega arith)) in
      by_test (λ t. takes_item k p ≡ t → weight_of (i ∷ is) (t ∷ chosen (suc k) is p) ≡ col (λ i. counted i.weight) items k p + cols (λ i. counted i.weight) items (suc k) is p) (takes_item k p)
      (λ _ t. let c' = rw (t, g) at c in omega arith)
      (λ _ t. let c' = rw t at c in omega arith) refl

  profit_cols : (k : ℕ) (is : List Item) → drop k items ≡ is → ((opts : ℕ) → k ≤ opts → opts < k + length is → times_named opts p ≡ 1) → profit_of is (chosen k is p) ≡ cols (λ i. i.profit) items k is p
  unfolding profit_of chosen cols
  profit_cols k [] e h = refl
  profit_cols k (i ∷ is) e h =
      let c = col_once (λ i. i.profit) items k p (h k (omega arith) (omega arith)) in
      let g = drop_head items k i is e in
      let r = profit_cols (suc k) is (drop_next items k i is e) (λ opts a b. h opts (omega arith) (omega arith)) in
      by_test (λ t. takes_item k p ≡ t → profit_of (i ∷ is) (t ∷ chosen (suc k) is p) ≡ col (λ i. i.profit) items k p + cols (λ i. i.profit) items (suc k) is p) (takes_item k p)
      (λ _ t. let c' = rw (t, g) at c in omega arith)
      (λ _ t. let c' = rw t at c in omega arith) refl

chosen_length : (k : ℕ) (is : List Item) (p : List ℕ) → length (chosen k is p) ≡ length is
unfolding chosen
chosen_length k [] p = refl
chosen_length k (i ∷ is) p = ap suc (chosen_length (suc k) is p)

-- the record of a whole path: its value is v, and it decides every item
pub record Whole (items : List Item) (page v : ℕ) (p : List ℕ) : Type 0 where
  pub left_over : ℕ
  pub valid : Valid items page (record { capacity = left_over; value = v; bound = 0; depth = length items; path = p })

-- what a path takes that names no item below k and none from the last of `is` on
sum_part : (f : Item → ℕ) (items : List Item) (k : ℕ) (is : List Item) (p : List ℕ) → ((opts : ℕ) → opts < k → times_named opts p ≡ 0) → ((opts : ℕ) → k + length is ≤ opts → times_named opts p ≡ 0) → sum_taken f items p ≡ cols f items k is p
unfolding sum_taken times_named
sum_part f items k is [] l h = sym (cols_nil f items k is)
sum_part f items k is (b ∷ p) l h =
    let one = (named_is (item_of b) b (item_of b) refl).0 refl in
    let lt : item_of b < k + length is = by_test (λ _. item_of b < k + length is) (ltb (item_of b) (k + length is)) (λ t. ltb-true _ _ t)
    (λ t. absurd (omega (arith, h (item_of b) (ltb-false (item_of b) (k + length is) t)))) in
    let ge : k ≤ item_of b = by_test (λ _. k ≤ item_of b) (ltb (item_of b) k) (λ t. absurd (omega (arith, l (item_of b) (ltb-true (item_of b) k t)))) (λ t. ltb-false _ _ t) in
    omega (arith, cols_cons f items k is b p, hits_in f items k is b ge lt, sum_part f items k is p (λ opts q. omega (arith, l opts q)) (λ opts q. omega (arith, h opts q)))

-- No terminal whose path is achieved is worth more than the record.
pub up_most : (items : List Item) (r₀ n : Node) (p : List ℕ) → r₀.depth ≤ length items → n.depth ≡ length items → PathUp items r₀ n p → n.value ≤ r₀.value + best (drop r₀.depth items) r₀.capacity
up_most items r₀ n p dp dn u =
    let k = r₀.depth in
    let is = drop k items in
    let ln = length-drop k items in
    let once : (opts : ℕ) → k ≤ opts → opts < k + length is → times_named opts p ≡ 1 = λ opts a b. u.once opts a (omega arith) in
    let high : (opts : ℕ) → k + length is ≤ opts → times_named opts p ≡ 0 = λ opts a. u.high opts (omega arith) in
    let w = weight_cols items p k is refl once in
    let q = profit_cols items p k is refl once in
    omega (arith, best_is_most is r₀.capacity (chosen k is p) (record { each_item = chosen_length k is p; in_capacity = omega (arith, u.weights, sum_part (λ i. counted i.weight) items k is p u.low high) }), u.profits, sum_part (λ i. i.profit) items k is p u.low high)
