-- How many layers a compile answers: one for each item that is decided, and one more at the end, so at most 65.
use mathlib.Core.Path.{◌≡◌, refl, ap, sym, subst, ◌∙◌}
use mathlib.Core.Bool.{Bool, true, false}
use mathlib.Core.List.{List, [], ◌∷◌}
use mathlib.Core.Option.{none}
use Prim.Native.Nat.{ℕ, suc, ◌≤◌}
use native.Mathlib.Omega.{arith}
use lib.ListN.{length, drop, length-drop}
use Rattle.std.proofs.lemmas.List.{length-reverse}
use Rattle.knapsack.specs.Items.{Item}
use Rattle.diagram.specs.Record.{Record}
use Rattle.diagram.specs.Rule1.{root_only, rooted}
use Rattle.diagram.specs.Rule2.{store_empty, store_last, has_rows, grow, grown}
use Rattle.diagram.specs.Run.{Mode, Settings, Run, going, stopped, and_then}
use Rattle.diagram.specs.Tables.{Range, Diagram, with_nodes}
use Rattle.diagram.specs.After4.{CutsetKind}
use Rattle.diagram.specs.After6.{Outcome, outcome, finished}
use Rattle.theorems.proofs.Holds.{Holds, held, void, then_holds, need_holds, only_holds}
use Rattle.theorems.proofs.Growth.{drop_next}
use Rattle.theorems.proofs.Layers.{Comes, first, after}
use Rattle.theorems.proofs.Frames.{comes_stored}
use Rattle.theorems.proofs.Runs.{compiled as finished-run, tables_hold}
use Rattle.calls.specs.Asked.{items_in, record_of}
use Rattle.calls.specs.Refusals.{compile_refusal}
use Rattle.calls.specs.Compile.{Request, Rooms, rooms_of, Compiled, compiled, compiled_of, Effect, effect, settings_of, run_of, after as after_effect, compile}
use Rattle.call_laws.specs.Statements.{LayersFit}
use Rattle.call_laws.proofs.Accepted.{accepted}
use Rattle.call_laws.proofs.View.{View, early, halted, overfull, done, view}

-- ---- the layers of a growth

-- at most n layers are stored
abbrev Stores : ℕ → Diagram → Type 0
Stores n d = length d.layers ≤ n

last_stored : (b : Bool) (d : Diagram) → Stores (suc (length d.layers)) (store_last b d)
unfolding store_last
last_stored true d = omega arith
last_stored false d = omega arith

empty_stored : (d : Diagram) → Stores (suc (length d.layers)) (store_empty d)
unfolding store_empty
empty_stored d = omega arith

-- what is shown of each run that a step can give, with the step known
then_knowing : {P : Diagram → Type 0} (x r : Run) (f : Diagram → Run) → r ≡ x → ((e : Diagram) → r ≡ going e → Holds P (f e)) → Holds P (and_then x f)
then_knowing (going e) r f s h = h e s
then_knowing (stopped n e) r f s h = void

module _ (opts : Settings) (items : List Item) (r : Record) where
  grow_stores : (is : List Item) (k : ℕ) (d : Diagram) → Comes opts items r k d → drop k items ≡ is → k ≤ length items → Holds (Stores (suc (length items))) (grow opts is k d)
  unfolding grow
  grow_stores [] k d c e h = held (omega (arith, last_stored (has_rows d) d, comes_stored c))
  grow_stores (i ∷ is) k d c e h =
      only_holds {P = Stores (suc (length items))} _ _ _
      (λ _. then_knowing {P = Stores (suc (length items))} _ _ _ refl (λ f s. grow_stores is (suc k) f (after i is f c e s) (drop_next items k i is e) (omega (arith, length-drop k items, ap (length {A = Item}) e))))
      (λ _. omega (arith, empty_stored d, comes_stored c))

  grown_stores : r.depth ≤ length items → Holds (Stores (suc (length items))) (grown opts items r)
  unfolding grown rooted
  grown_stores h =
      then_holds {P = λ d. d ≡ root_only r} _ (need_holds _ _ _ _ (λ _. held refl))
      (λ d q. subst (λ (x : Diagram). Holds (Stores (suc (length items))) (grow opts (drop r.depth items) r.depth x)) (sym q) (grow_stores (drop r.depth items) r.depth (root_only r) first refl h))

-- ---- of a finished run

-- what comes after the last layer keeps them
outcome_layers : (m : Mode) (k : CutsetKind) (d : Diagram) → (outcome m k d).diagram.layers ≡ d.layers
unfolding outcome with_nodes
outcome_layers m k d = refl

run_stores : (q : Request) (m : Rooms) (o : Outcome) → compile_refusal q.problem q.given ≡ none → run_of q m ≡ finished o → length o.diagram.layers ≤ 65
unfolding run_of
run_stores q m o a e =
    let ok = accepted q.problem q.given a in
    let items = items_in q.problem in
    let opts = settings_of q m in
    let r = record_of q.given in
    let c = finished-run items opts q.kind r o e in
    let s : length c.tables.layers ≤ suc (length items) = tables_hold items opts q.kind r o (Stores (suc (length items))) c (grown_stores opts items r ok.valid.deep) in
    let t : o.diagram.layers ≡ c.tables.layers = ap (λ (z : Outcome). z.diagram.layers) c.is_outcome ∙ outcome_layers opts.mode q.kind c.tables in
    omega (arith, s, ap (length {A = Range}) t, ok.few)

-- ---- of the answer

answer_stores : (path : List ℕ) (o : Outcome) → length (compiled_of path o).layers ≡ length o.diagram.layers
unfolding compiled_of
answer_stores path o = length-reverse o.diagram.layers

fit_view : (q : Request) (m : Rooms) (c : Compiled) {x : Effect} → View q m x → x.answer ≡ compiled c → length c.layers ≤ 65
unfolding effect
fit_view q m c (early n e) a = let z : ◌≡◌ {A = ℕ} 0 1 = cc in absurd (omega arith)
fit_view q m c (halted n d e f) a = let z : ◌≡◌ {A = ℕ} 0 1 = cc in absurd (omega arith)
fit_view q m c (overfull o e f h) a = let z : ◌≡◌ {A = ℕ} 0 1 = cc in absurd (omega arith)
fit_view q m c (done o e f h) a =
    let z : compiled_of q.given.path o ≡ c = cc in
    omega (arith, run_stores q m o e f, answer_stores q.given.path o, ap (λ (b : Compiled). length b.layers) z)

pub layers_fit : LayersFit
unfolding compile after_effect
layers_fit q l c e = fit_view q (rooms_of l) c (view q (rooms_of l)) e
