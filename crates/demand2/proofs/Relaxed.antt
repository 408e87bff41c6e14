-- Statement 3: a relaxed value is at least that of every selection that fits, keeps the record's path and beats the bound; without a value none does.
use mathlib.Core.Path.{◌≡◌, refl, sym, subst, ◌∙◌}
use mathlib.Core.Bool.{Bool, not}
use Prim.Native.Nat.{ℕ, ◌+◌, ◌≤◌}
use native.Mathlib.Omega.{arith}
use lib.Dec.{T}
use lib.IntN.{pos}
use lib.Signed.{lt_z, ◌≤ℤ◌, lt_z_yes, lt_z_no}
use Rattle.words.specs.I64.{mid, number}
use Rattle.words.proofs.Laws.{word_natural}
use Rattle.knapsack.specs.Knapsack.{profit_of}
use Rattle.knapsack.proofs.Cases.{by_test}
use Rattle.diagram.specs.Node.{node_at}
use Rattle.calls.specs.Asked.{record_of}
use Rattle.demand2.specs.Records.{items_in, earns}
use Rattle.demand2.specs.Statements.{RelaxedBounds, RelaxedNone}
use Rattle.demand2.proofs.Numbers.{natural_at_most, natural_is_i64, below_natural, number_at_least, true_test}
use Rattle.demand2.proofs.Selections.{most, optimum_is_most}
use Rattle.demand2.proofs.Seen.{value_of_lem, seen_best}
use Rattle.demand2.proofs.Outcomes.{most_small, finds}

-- 3, the value
pub relaxed_bounds : RelaxedBounds
relaxed_bounds q a rs f m sel c h =
    let o = f.outcome in
    let k = profit_of (items_in q.problem) sel in
    let small = most_small q f.rooms o f.runs f.allowed f.valid in
    let reached : k ≤ most (items_in q.problem) (record_of q.given) = natural_at_most _ _ ((optimum_is_most q.problem q.given f.allowed f.valid).most sel c) in
    let t = finds q f.rooms o f.runs f.allowed f.valid (λ r. let z : ◌≡◌ {A = ℕ} 0 1 = cc in absurd (omega arith)) (mid + k) (below_natural q.lower k f.lower_is_i64 (omega arith) h) (omega arith) in
    record {
      value = number (node_at o.diagram.nodes t.row).value;
      best = seen_best q a rs f ∙ value_of_lem o.diagram o.best t.row t.is_row;
      at_least = number_at_least (pos k) _ (natural_is_i64 k (omega arith)) (omega (arith, word_natural k, t.least));
    }

-- 3, without a value
pub relaxed_none : RelaxedNone
relaxed_none q a rs f m n sel c =
    by_test (λ b. lt_z q.lower (earns q.problem sel) ≡ b → earns q.problem sel ≤ℤ q.lower) (lt_z q.lower (earns q.problem sel))
    (λ _ e. let b = relaxed_bounds q a rs f m sel c (lt_z_yes (true_test _ e)) in let z : ◌≡◌ {A = ℕ} 0 1 = cc b.best in absurd (omega arith))
    (λ _ e. lt_z_no (subst (λ (b : Bool). T (not b)) (sym e) tt))
    refl
