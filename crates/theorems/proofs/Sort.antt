-- The insertion sort is a permutation, so the coming layer as ordered has each of its rows once.
use mathlib.Core.Path.{◌≡◌, refl, sym, ap, ◌∙◌}
use mathlib.Core.Bool.{Bool, cond}
use mathlib.Core.List.Memᴰ
use mathlib.Core.List.Permᴰ
use mathlib.Core.List.{List, [], ◌∷◌, ◌++◌, Memᴰ, Permᴰ}
use mathlib.Core.Logic.{⊎_elim}
use Prim.Native.Nat.{ℕ, zero, suc, ◌-◌, ◌≤◌, ◌<◌}
use native.Mathlib.Omega.{arith}
use lib.ListN.{length}
use Rattle.knapsack.proofs.Cases.{by_test}
use Rattle.diagram.specs.Rule2.{by_capacity, ordered}
use Rattle.diagram.specs.Rule6.{insert_by, sort_by}
use Rattle.diagram.specs.Tables.{Diagram, rows_from, rows_of, coming}
use Rattle.theorems.proofs.Rows.{rows_below, range_mem, range_in}

pub insert_perm : (b : ℕ → ℕ → Bool) (x : ℕ) (xs : List ℕ) → Permᴰ (insert_by b x xs) (x ∷ xs)
unfolding insert_by
insert_perm b x [] = Permᴰ.refl (x ∷ [])
insert_perm b x (z ∷ xs) =
    by_test (λ t. Permᴰ (cond t (x ∷ z ∷ xs) (z ∷ insert_by b x xs)) (x ∷ z ∷ xs)) (b x z)
    (λ e. Permᴰ.refl (x ∷ z ∷ xs))
    (λ e. Permᴰ.trans (Permᴰ.cons refl (insert_perm b x xs)) (Permᴰ.swap refl refl))

pub sort_perm : (b : ℕ → ℕ → Bool) (xs : List ℕ) → Permᴰ (sort_by b xs) xs
unfolding sort_by
sort_perm b [] = Permᴰ.nil
sort_perm b (x ∷ xs) = Permᴰ.trans (insert_perm b x (sort_by b xs)) (Permᴰ.cons refl (sort_perm b xs))

-- membership as data goes along a permutation (the library has it truncated)
pub perm_mem : {a : ℕ} {l m : List ℕ} → Permᴰ l m → Memᴰ a l → Memᴰ a m
perm_mem Permᴰ.nil k = k
perm_mem (Permᴰ.cons e d) (Memᴰ.head h) = Memᴰ.head (h ∙ e)
perm_mem (Permᴰ.cons e d) (Memᴰ.tail k) = Memᴰ.tail (perm_mem d k)
perm_mem (Permᴰ.swap e f) (Memᴰ.head h) = Memᴰ.tail (Memᴰ.head (h ∙ e))
perm_mem (Permᴰ.swap e f) (Memᴰ.tail (Memᴰ.head h)) = Memᴰ.head (h ∙ f)
perm_mem (Permᴰ.swap e f) (Memᴰ.tail (Memᴰ.tail k)) = Memᴰ.tail (Memᴰ.tail k)
perm_mem (Permᴰ.trans d₁ d₂) k = perm_mem d₂ (perm_mem d₁ k)

-- the rows of a list that differ
pub data Apart : List ℕ → Type 0 where
  apart_none : Apart []
  apart_next : {x : ℕ} {xs : List ℕ} → (Memᴰ x xs → ⊥) → Apart xs → Apart (x ∷ xs)

pub rows_apart : (i n : ℕ) → Apart (rows_from i n)
unfolding rows_from
rows_apart i zero = apart_none
rows_apart i (suc n) = apart_next (λ m. let h = rows_below (suc i) n i m in omega arith) (rows_apart (suc i) n)

pub perm_apart : {l m : List ℕ} → Permᴰ l m → Apart l → Apart m
perm_apart Permᴰ.nil a = a
perm_apart (Permᴰ.cons e d) (apart_next n a) = apart_next (λ k. n (rw e (perm_mem (Permᴰ.symm d) k))) (perm_apart d a)
perm_apart (Permᴰ.swap e f) (apart_next n (apart_next n' a)) = apart_next (λ k. ⊎_elim (λ q. n (Memᴰ.head (e ∙ sym q ∙ sym f))) (λ q. n' (rw f q)) (Memᴰ.cases_cons k)) (apart_next (λ k. n (Memᴰ.tail (rw e k))) a)
perm_apart (Permᴰ.trans d₁ d₂) a = perm_apart d₂ (perm_apart d₁ a)

pub apart_parts : (a b : List ℕ) (x : ℕ) → Apart (a ++ b) → Memᴰ x a → Memᴰ x b → ⊥
apart_parts [] b x p k m = elim k [ ]
apart_parts (y ∷ a) b x (apart_next n p) (Memᴰ.head e) m = n (Memᴰ.append_right a (rw (← e) m))
apart_parts (y ∷ a) b x (apart_next n p) (Memᴰ.tail k) m = apart_parts a b x p k m

pub perm_length : {l m : List ℕ} → Permᴰ l m → length l ≡ length m
perm_length Permᴰ.nil = refl
perm_length (Permᴰ.cons e d) = ap suc (perm_length d)
perm_length (Permᴰ.swap e f) = refl
perm_length (Permᴰ.trans d₁ d₂) = perm_length d₁ ∙ perm_length d₂

-- ---- the coming layer in the order in which it is squashed or expanded: each of its rows, once

pub in_layer : (d : Diagram) (r : ℕ) → d.start ≤ r → r < length d.nodes → Memᴰ r (ordered d)
unfolding ordered coming
in_layer d r h k = perm_mem (Permᴰ.symm (sort_perm (by_capacity d.nodes) (rows_of (coming d)))) (range_mem (coming d) r h k)

pub ordered_in : (d : Diagram) (r : ℕ) → Memᴰ r (ordered d) → (d.start ≤ r) × (r < length d.nodes)
unfolding ordered coming
ordered_in d r m = range_in (coming d) r (perm_mem (sort_perm (by_capacity d.nodes) (rows_of (coming d))) m)

pub ordered_apart : (d : Diagram) → Apart (ordered d)
unfolding ordered coming rows_of
ordered_apart d = perm_apart (Permᴰ.symm (sort_perm (by_capacity d.nodes) (rows_of (coming d)))) (rows_apart d.start (length d.nodes - d.start))

pub rows_length : (i n : ℕ) → length (rows_from i n) ≡ n
unfolding rows_from
rows_length i zero = refl
rows_length i (suc n) = ap suc (rows_length (suc i) n)

pub ordered_length : (d : Diagram) → length (ordered d) ≡ length d.nodes - d.start
unfolding ordered coming rows_of
ordered_length d = perm_length (sort_perm (by_capacity d.nodes) (rows_of (coming d))) ∙ rows_length d.start (length d.nodes - d.start)
