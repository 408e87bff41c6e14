-- What the rows 1 to 9 say where none applies, as the theorems read it: at most 64 items, small profits, width 1 to 256, a valid record.
use mathlib.Core.Path.{◌≡◌, refl, sym, ap, ◌∙◌}
use mathlib.Core.Logic.{inl, inr, ◌≢◌}
use mathlib.Core.List.{List, [], ◌∷◌, ◌++◌, Memᴰ}
use mathlib.Core.Option.{none}
use Prim.Native.Nat.{ℕ, zero, suc, ◌+◌, ◌≤◌}
use native.Mathlib.Decide.{ℕ_discrete, dec_le}
use native.Mathlib.Omega.{arith}
use lib.IntN.{ℤ, ℤ_discrete}
use lib.ListN.{length, get_or}
use Rattle.words.specs.I64.{mid, word}
use Rattle.words.proofs.Laws.{word_natural}
use Rattle.knapsack.specs.Items.{Item, no_item, counted}
use Rattle.knapsack.proofs.Limits.{length_items}
use Rattle.calls.specs.Asked.{Problem, Given, items_of, items_in, record_of}
use Rattle.calls.specs.Rows.{Row1, Row5, Row7, Row8, Row9, namings, taken_weight, taken_profit}
use Rattle.calls.specs.Table.{problem_rows, record_rows, Clear, end, past}
use Rattle.calls.specs.Refusals.{compile_refusal}
use Rattle.calls.proofs.Refusals.{accepted_exactly}
use Rattle.theorems.proofs.Path.{share, sum_taken, names_it, times_named, Valid}

-- what isn't different is equal, of numbers that can be compared
pub not_different : (a b : ℕ) → ¬ (a ≢ b) → a ≡ b
not_different a b h = elim (ℕ_discrete a b) [ yes e ↦ e | no n ↦ absurd (h n) ]

pub not_different_i64 : (a b : ℤ) → ¬ (a ≢ b) → a ≡ b
not_different_i64 a b h = elim (ℤ_discrete a b) [ yes e ↦ e | no n ↦ absurd (h n) ]

-- 1 and 5 don't apply: as many items as weights, and their profits are small
pub count_of : (p : Problem) → ¬ Row1 p → length (items_in p) ≡ length p.weights
count_of p a1 = length_items p.weights p.profits (not_different _ _ a1)

profits_small : (ws ps : List ℕ) → ((q : ℕ) → Memᴰ q ps → q ≤ 1000000) → (i : ℕ) → (get_or (items_of ws ps) i no_item).profit ≤ 1000000
unfolding items_of
profits_small [] ps h i = omega arith
profits_small (w ∷ ws) [] h i = omega arith
profits_small (w ∷ ws) (p ∷ ps) h zero = h p (Memᴰ.head refl)
profits_small (w ∷ ws) (p ∷ ps) h (suc i) = profits_small ws ps (λ q m. h q (Memᴰ.tail m)) i

pub small_of : (p : Problem) → ¬ Row5 p → (i : ℕ) → (get_or (items_in p) i no_item).profit ≤ 1000000
small_of p a5 i = profits_small p.weights p.profits (λ q m. elim (dec_le q 1000000) [ yes h ↦ h | no k ↦ absurd (a5 (q, m, omega arith)) ]) i

-- what 8 and 9 count and add up is what the theorems count and add up
pub same_namings : (d : ℕ) (path : List ℕ) → namings d path ≡ times_named d path
unfolding namings times_named names_it
same_namings d [] = refl
same_namings d (b ∷ path) = omega (arith, same_namings d path)

pub same_weight : (items : List Item) (path : List ℕ) → taken_weight items path ≡ sum_taken (λ i. counted i.weight) items path
unfolding taken_weight sum_taken share
same_weight items [] = refl
same_weight items (b ∷ path) = omega (arith, same_weight items path)

pub same_profit : (items : List Item) (path : List ℕ) → taken_profit items path ≡ sum_taken (λ i. i.profit) items path
unfolding taken_profit sum_taken share
same_profit items [] = refl
same_profit items (b ∷ path) = omega (arith, same_profit items path)

-- an input that passes 1 to 9
pub record Accepted (p : Problem) (g : Given) : Type 0 where
  pub few : length (items_in p) ≤ 64
  pub small : (i : ℕ) → (get_or (items_in p) i no_item).profit ≤ 1000000
  pub wide : 1 ≤ p.width
  pub narrow : p.width ≤ 256
  pub valid : Valid (items_in p) p.page (record_of g)

-- 1 and 7 to 9 don't apply
pub valid_of : (p : Problem) (g : Given) → ¬ Row1 p → ¬ Row7 p g → ¬ Row8 p g → ¬ Row9 p g → Valid (items_in p) p.page (record_of g)
unfolding record_of
valid_of p g a1 a7 a8 a9 =
    let items = items_in p in
    let n = count_of p a1 in
    record {
      deep = elim (dec_le g.depth (length p.weights)) [ yes h ↦ omega arith | no h ↦ absurd (a7 (inl (omega arith))) ];
      long = not_different _ _ (λ h. a7 (inr h));
      once = λ k l. sym (same_namings k g.path) ∙ not_different _ _ (λ h. a8 (k, l, h));
      weights = ap (λ (w : ℕ). w + g.capacity) (sym (same_weight items g.path)) ∙ not_different _ _ (λ h. a9 (inl h));
      profits = ap (λ (s : ℕ). mid + s) (sym (same_profit items g.path)) ∙ sym (word_natural (taken_profit items g.path)) ∙ ap word (not_different_i64 _ _ (λ h. a9 (inr h)));
    }

clear_accepted : (p : Problem) (g : Given) → Clear (problem_rows p ++ record_rows p g) → Accepted p g
clear_accepted p g (past a1 (past a2 (past a3 (past a4 (past a5 (past a6 (past a7 (past a8 (past a9 end))))))))) =
    record {
      few = omega (arith, count_of p a1);
      small = small_of p a5;
      wide = elim (dec_le 1 p.width) [ yes h ↦ h | no k ↦ absurd (a6 (inl (omega arith))) ];
      narrow = elim (dec_le p.width 256) [ yes h ↦ h | no k ↦ absurd (a6 (inr (omega arith))) ];
      valid = valid_of p g a1 a7 a8 a9;
    }

pub accepted : (p : Problem) (g : Given) → compile_refusal p g ≡ none → Accepted p g
accepted p g e = clear_accepted p g ((accepted_exactly p g).0 e)
