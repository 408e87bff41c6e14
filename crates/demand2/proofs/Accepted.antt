-- Accepted input, read as the theorems read it: the limits of 1 to 6, and a record that passes 7 to 9, in both directions; compile refuses neither.
use mathlib.Core.Path.{◌≡◌, sym, ap, subst, ◌∙◌}
use mathlib.Core.Logic.{inr, ⊎_elim}
use mathlib.Core.List.{List, [], ◌++◌}
use mathlib.Core.Option.{none}
use Prim.Native.Nat.{ℕ, ◌+◌, ◌≤◌}
use native.Mathlib.Omega.{arith}
use lib.IntN.{ℤ, pos}
use lib.ListN.{length, get_or}
use Rattle.words.specs.I64.{word, number}
use Rattle.words.proofs.Laws.{word_natural}
use Rattle.knapsack.specs.Items.{no_item}
use Rattle.diagram.specs.Record.{Record}
use Rattle.calls.specs.Asked.{Problem, Given, record_of}
use Rattle.calls.specs.Rows.{taken_profit}
use Rattle.calls.specs.Table.{Row, problem_rows, record_rows, Clear, end, past}
use Rattle.calls.specs.Refusals.{compile_refusal}
use Rattle.calls.proofs.Refusals.{accepted_exactly}
use Rattle.call_laws.proofs.Accepted.{not_different_i64, count_of, small_of, same_namings, same_weight, same_profit, valid_of}
use Rattle.theorems.proofs.Path.{sum_taken, Valid as ValidRecord}
use Rattle.demand2.specs.Records.{items_in, item_count, Allowed, Valid, given_of}
use Rattle.demand2.proofs.Numbers.{number_natural}

-- ---- the items

pub count_is : (p : Problem) → Allowed p → length (items_in p) ≡ item_count p
count_is p a = count_of p a.passes1

pub few_items : (p : Problem) → Allowed p → length (items_in p) ≤ 64
few_items p a = let h = a.passes2 in omega (arith, count_is p a)

pub small_profits : (p : Problem) → Allowed p → (i : ℕ) → (get_or (items_in p) i no_item).profit ≤ 1000000
small_profits p a = small_of p a.passes5

-- ---- a record that passes 7 to 9

pub value_is : (p : Problem) (g : Given) → Valid p g → pos (taken_profit (items_in p) g.path) ≡ g.value
value_is p g v = not_different_i64 _ _ (λ h. v.passes9 (inr h))

pub valid_record : (p : Problem) (g : Given) → Allowed p → Valid p g → ValidRecord (items_in p) p.page (record_of g)
valid_record p g a v = valid_of p g a.passes1 v.passes7 v.passes8 v.passes9

-- the value's word is read back
pub value_back : (p : Problem) (g : Given) → Valid p g → number (word g.value) ≡ g.value
value_back p g v =
    let n = taken_profit (items_in p) g.path in
    subst (λ (z : ℤ). number (word z) ≡ z) (value_is p g v) (ap number (word_natural n) ∙ number_natural n)

pub record_valid : (p : Problem) (r : Record) → Allowed p → ValidRecord (items_in p) p.page r → Valid p (given_of r)
unfolding given_of
record_valid p r a v =
    let items = items_in p in
    let n = count_is p a in
    record {
      passes7 = ⊎_elim (λ h. omega (arith, v.deep)) (λ h. h v.long);
      passes8 = λ z. z.2 (same_namings z.0 r.path ∙ v.once z.0 z.1);
      passes9 = ⊎_elim (λ h. h (ap (λ (w : ℕ). w + r.capacity) (same_weight items r.path) ∙ v.weights))
          (λ h. h (ap pos (same_profit items r.path) ∙ sym (number_natural (sum_taken (λ i. i.profit) items r.path)) ∙ ap number v.profits));
    }

-- ---- compile's own test of 1 to 9

-- none of the rows 1 to 9 applies, whatever rows follow
pub clear_all : (p : Problem) (g : Given) {rs : List Row} → Clear ((problem_rows p ++ record_rows p g) ++ rs) → Allowed p × Valid p g
clear_all p g (past a1 (past a2 (past a3 (past a4 (past a5 (past a6 (past a7 (past a8 (past a9 c))))))))) = (
  record { passes1 = a1; passes2 = a2; passes3 = a3; passes4 = a4; passes5 = a5; passes6 = a6 },
  record { passes7 = a7; passes8 = a8; passes9 = a9 },
)

-- An input is accepted, 1 to 9, exactly if its problem is allowed and its record valid.
pub accepted_is : (p : Problem) (g : Given) → (compile_refusal p g ≡ none → Allowed p × Valid p g) × (Allowed p → Valid p g → compile_refusal p g ≡ none)
accepted_is p g = (
  (λ e. clear_all p g {rs = []} ((accepted_exactly p g).0 e)),
  (λ a v. (accepted_exactly p g).1 (past a.passes1 (past a.passes2 (past a.passes3 (past a.passes4 (past a.passes5 (past a.passes6 (past v.passes7 (past v.passes8 (past v.passes9 end)))))))))),
)
