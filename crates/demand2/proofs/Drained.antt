-- Statement 5: the drained records of a relaxed run are valid, strictly deeper and bounded, and they cover every value above the bound that isn't found exactly.
use mathlib.Core.Path.{◌≡◌, refl, sym, ap, subst, ◌∙◌}
use mathlib.Core.List.Memᴰ
use mathlib.Core.List.{List, Memᴰ}
use Prim.Native.Nat.{ℕ, ◌+◌, ◌≤◌}
use native.Mathlib.Omega.{arith}
use lib.IntN.{ℤ, pos}
use lib.Signed.{◌≤ℤ◌, clash_ℤ}
use Rattle.words.specs.I64.{mid, InI64, word, number}
use Rattle.words.proofs.Laws.{word_natural}
use Rattle.knapsack.specs.Knapsack.{profit_of}
use Rattle.diagram.specs.After6.{drained}
use Rattle.diagram.specs.Node.{node_at}
use Rattle.diagram.specs.Record.{Record}
use Rattle.diagram.specs.Run.{relaxing}
use Rattle.calls.specs.Asked.{Problem, Given, record_of}
use Rattle.calls.specs.Compile.{Request, Compiled}
use Rattle.theorems.proofs.Drain.{LeadsTo}
use Rattle.theorems.proofs.Leads.{Ensures, reached, leads}
use Rattle.demand2.specs.Records.{items_in, given_of, Finished}
use Rattle.demand2.specs.Statements.{Drained, DrainedRecords, Covers, DrainedCover}
use Rattle.demand2.proofs.Numbers.{number_natural, natural_at_most, natural_is_i64, below_word, at_most_word, between_is_i64, number_rises, number_at_least}
use Rattle.demand2.proofs.Accepted.{count_is, record_valid}
use Rattle.demand2.proofs.Selections.{most, worth_is, optimum_is_most}
use Rattle.demand2.proofs.Seen.{value_of_lem, seen_best, seen_best_exact}
use Rattle.demand2.proofs.Outcomes.{most_small, drained_is_valid, ensures, drained_bounded}

given_are : (r : Record) → ((given_of r).depth ≡ r.depth) × ((given_of r).bound ≡ number r.bound)
unfolding given_of
given_are r = (refl, refl)

-- handing a record to the next call changes nothing of what it is worth
same_most : (p : Problem) (r : Record) → most (items_in p) (record_of (given_of r)) ≡ most (items_in p) r
unfolding most record_of given_of
same_most p r = refl

module _ (q : Request) (a : Compiled) (rs : List Given) (f : Finished q a rs) (relaxed : q.mode ≡ relaxing) where
  -- a record of the outcome's list
  one_drained : (r : Record) → Memᴰ r (drained q.given.path f.outcome) → Drained q a (given_of r)
  one_drained r i =
      let o = f.outcome in
      let v = drained_is_valid q f.rooms o f.runs f.allowed f.valid relaxed r i in
      let b = drained_bounded q.given.path o r i in
      let g = given_are r in
      record {
        valid = record_valid q.problem r f.allowed v.0;
        deeper = omega (arith, v.1, g.0);
        deep = omega (arith, v.0.deep, g.0, count_is q.problem f.allowed);
        value = number (node_at o.diagram.nodes b.row).value;
        best = seen_best q a rs f ∙ value_of_lem o.diagram o.best b.row b.is_best;
        bounded = subst (λ (z : ℤ). z ≤ℤ number (node_at o.diagram.nodes b.row).value) (sym g.1) (number_rises _ _ b.bounded);
      }

  -- a record that leads to the word of x covers x
  leads_covers : (x : ℤ) → InI64 x → LeadsTo (items_in q.problem) (word x) (drained q.given.path f.outcome) → Covers q.problem rs x
  leads_covers x ix l =
      let r = l.rec in
      let p = q.problem in
      let v = (drained_is_valid q f.rooms f.outcome f.runs f.allowed f.valid relaxed r l.is_in).0 in
      let n = optimum_is_most p (given_of r) f.allowed (record_valid p r f.allowed v) in
      let m = most (items_in p) r in
      let earned : x ≤ℤ pos m = subst (λ (z : ℤ). x ≤ℤ z) (number_natural m) (number_at_least x (mid + m) ix (omega (arith, l.worth, worth_is (items_in p) p.page r v))) in
      record {
        drained = given_of r;
        is_drained = subst (λ (s : List Given). Memᴰ (given_of r) s) (sym f.drains) (Memᴰ.map given_of l.is_in);
        bound = subst (λ (z : ℤ). x ≤ℤ z) (sym (given_are r).1) (number_at_least x r.bound ix l.seen);
        selection = n.selection;
        completes = n.completes;
        earned = subst (λ (z : ℤ). x ≤ℤ z) (sym (n.earned ∙ ap pos (same_most p r))) earned;
      }

-- 5, each record
pub drained_records : DrainedRecords
drained_records q a rs f m g i =
    let z = Memᴰ.of_map given_of (drained q.given.path f.outcome) (subst (λ (s : List Given). Memᴰ g s) f.drains i) in
    subst (λ (h : Given). Drained q a h) z.2 (one_drained q a rs f m z.0 z.1)

-- 5, the covering statement
pub drained_cover : DrainedCover
drained_cover q a rs f m x above beats sel c e =
    let o = f.outcome in
    let k = profit_of (items_in q.problem) sel in
    let small = most_small q f.rooms o f.runs f.allowed f.valid in
    let reach : k ≤ most (items_in q.problem) (record_of q.given) = natural_at_most _ _ ((optimum_is_most q.problem q.given f.allowed f.valid).most sel c) in
    let ix = between_is_i64 q.lower x k f.lower_is_i64 (omega arith) above e in
    let hx : word x ≤ mid + k = subst (λ (w : ℕ). word x ≤ w) (word_natural k) (at_most_word x (pos k) ix (natural_is_i64 k (omega arith)) e) in
    by_ensured ix (ensures q f.rooms o f.runs f.allowed f.valid m (word x) (below_word q.lower x f.lower_is_i64 ix above) (omega arith))
  where
    by_ensured : InI64 x → Ensures (items_in q.problem) (word x) q.given.path f.outcome → Covers q.problem rs x
    by_ensured ix (reached t) =
        clash_ℤ (beats _ (seen_best_exact q a rs f ∙ value_of_lem f.outcome.diagram f.outcome.best_exact t.row t.is_row)) (number_at_least x _ ix t.least)
    by_ensured ix (leads n l) = leads_covers q a rs f m x ix l
