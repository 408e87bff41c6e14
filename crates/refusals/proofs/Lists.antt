-- The tests of 4, 5 and 8 as std's words on lists, as an iterator answers them, and what they say of each number.
use Rattle.std.proofs.Common.{ℕ, zero, suc, ◌≡◌, ◌+◌, ◌≤◌, Bool, true, false, cond, ◌&&◌, ◌||◌, ltb, eqb, List, [], ◌∷◌, ◌++◌, get_or, refl, ap, ◌∙◌, arith, add-zero, zero-add, count_by}
use Rattle.std.specs.List.{list_any, list_all, range_with_len}
use Rattle.std.proofs.lemmas.List.Recursion.{same_from_clauses, is_count_by, and_push}
use borrow.Author.Tests.{ltb-false}
use Rattle.knapsack.specs.Items.{item_of}
use Rattle.knapsack.proofs.Cases.{by_test}
use Rattle.calls.specs.Rows.{namings}
use Rattle.calls.specs.Refusals.{some_above, each_once}

pub any_above : (limit : ℕ) (xs : List ℕ) → list_any (ltb limit) xs ≡ some_above limit xs
unfolding some_above
any_above limit = same_from_clauses (list_any (ltb limit)) (some_above limit) (λ x b. ltb limit x || b) refl (λ _ _. refl) (λ _ _. refl)

-- where none is above, each is in the limit
none_above : (limit x : ℕ) (xs : List ℕ) → some_above limit (x ∷ xs) ≡ false → (x ≤ limit) × (some_above limit xs ≡ false)
unfolding some_above
none_above limit x xs =
    by_test (λ t. (t || some_above limit xs) ≡ false → (x ≤ limit) × (some_above limit xs ≡ false)) (ltb limit x)
    (λ t e. absurd cc)
    (λ t e. (ltb-false limit x t, e))

pub all_in_limit : (limit : ℕ) (xs : List ℕ) → some_above limit xs ≡ false → (d : ℕ) → get_or xs d 0 ≤ limit
all_in_limit limit [] e d = omega arith
all_in_limit limit (x ∷ xs) e zero = (none_above limit x xs e).0
all_in_limit limit (x ∷ xs) e (suc d) = all_in_limit limit xs (none_above limit x xs e).1 d

pub namings_count : (item : ℕ) (path : List ℕ) → namings item path ≡ count_by (λ b. eqb (item_of b) item) path
unfolding namings
namings_count item = is_count_by (namings item) (λ b. eqb (item_of b) item) refl step
  where
    step : (b : ℕ) (bs : List ℕ) → cond (eqb (item_of b) item) 1 0 + namings item bs ≡ cond (eqb (item_of b) item) (1 + namings item bs) (namings item bs)
    step b bs = by_test (λ t. cond t 1 0 + namings item bs ≡ cond t (1 + namings item bs) (namings item bs)) (eqb (item_of b) item) (λ _. refl) (λ _. omega arith)

-- the numbers from a on, with one more at their end
range_more : (a n : ℕ) → range_with_len a (suc n) ≡ range_with_len a n ++ (a + n) ∷ []
range_more a zero = rw add-zero refl
range_more a (suc n) = rw (range_more (a + 1) n) (let e : a + 1 + n ≡ a + suc n = omega arith in rw e refl)

and-comm : (a b : Bool) → (a && b) ≡ (b && a)
and-comm true true = refl
and-comm true false = refl
and-comm false true = refl
and-comm false false = refl

-- a test of each item below d, from the first one on
pub all_once : (d : ℕ) (path : List ℕ) → list_all (λ k. eqb (namings k path) 1) (range_with_len 0 d) ≡ each_once d path
unfolding each_once
all_once zero path = refl
all_once (suc d) path =
    ap (list_all once) (range_more 0 d) ∙ and_push (list_all once) once refl (λ _ _. refl) (range_with_len 0 d) (0 + d)
    ∙ rw (zero-add, all_once d path) (and-comm (each_once d path) (eqb (namings d path) 1))
  where
    once : ℕ → Bool
    once k = eqb (namings k path) 1
