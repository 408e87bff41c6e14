-- The end of a grown run, from what `finalize` promises to the effect that the definition names.
use mathlib.Core.Path.{◌≡◌, refl, ap, sym, ◌∙◌}
use mathlib.Core.Bool.{Bool, true, false, cond}
use mathlib.Core.List.{List, [], reverse}
use Prim.Native.Nat.{ℕ}
use lib.Dec.{leb}
use lib.ListN.{length}
use Rattle.std.specs.Prelude.{Result, Ok, Err}
use Rattle.reasons.specs.Numbers.{numbered}
use Rattle.diagram.specs.Node.{Edge}
use Rattle.diagram.specs.Tables.{Range, Diagram, with_nodes}
use Rattle.diagram.specs.Run.{Mode}
use Rattle.diagram.specs.After4.{CutsetKind}
use Rattle.diagram.specs.After6.{Outcome, outcome, drained}
use Rattle.layout.specs.Table.{over}
use Rattle.layout.specs.Rows.{node_table, edge_table}
use Rattle.layout.specs.Records.{record_table}
use Rattle.calls.specs.Compile.{compiled, compiled_of, effect, drain_into}
use Rattle.theorems.proofs.Fits.{outcome_long}
use Rattle.branch.specs.declared.Counts.{Counts}
use Rattle.layers.specs.Stored.{layers_from}
use Rattle.layers.proofs.Whole.{as_stored}
use Rattle.cutset.specs.declared.Kind.{Kind}
use Rattle.cutset.specs.Whole.{kind_of}
use Rattle.grow.specs.declared.Growth.{Growth}
use Rattle.finalize.specs.declared.Finished.{Finished}
use Rattle.finalize.specs.declared.Given.{Given}
use Rattle.finalize.specs.Ended.{Tells, Finalized}
use Rattle.compile.specs.declared.Compiled.{Compiled}
use Rattle.compile.specs.Answered.{answer_from, finishing, Effected, Concluded}

-- what the end of a run leaves alone
outcome_layers : (m : Mode) (k : CutsetKind) (d : Diagram) → (outcome m k d).diagram.layers ≡ d.layers
unfolding outcome with_nodes
outcome_layers m k d = refl

-- the code's counts and layers are those of the outcome
record Sizes (o : Outcome) (g : Growth) : Type 0 where
  nodes_are : g.counts.nodes ≡ length o.diagram.nodes
  edges_are : g.counts.edges ≡ length o.diagram.edges
  layers_are : g.layers ≡ layers_from (reverse o.diagram.layers)

-- the answer of a run whose records fit
answered : (o : Outcome) (path : List ℕ) (f : Finished) (g : Growth) → Tells o path f → Sizes o g → finishing (Ok (length (drained path o))) f g ≡ answer_from (compiled (compiled_of path o))
unfolding compiled_of
answered o path f g e c = rw (e.exact_is, e.best_is, e.path_is, e.best_exact_is, e.exact_path_is, c.nodes_are, c.edges_are, c.layers_are) refl

-- whether they fit or not
by_room : (t : Bool) (o : Outcome) (path old_n old_e rs : List ℕ) (f : Finished) (ns' es rs' : List ℕ) (g : Growth) (a : Result Compiled ℕ) → Tells o path f → Sizes o g → ns' ≡ over (node_table o.diagram.nodes) old_n → es ≡ over (edge_table o.diagram.edges) old_e → numbered f.drained ≡ cond t (Ok (length (drained path o))) (Err 13) → rs' ≡ over (record_table (cond t (drained path o) [])) rs → a ≡ finishing (numbered f.drained) f g → Effected (drain_into t path o) old_n old_e rs a ns' es rs'
unfolding drain_into effect
by_room true o path old_n old_e rs f ns' es rs' g a e c n h d r z =
    record {
      answer_is = z ∙ ap (λ x. finishing x f g) d ∙ answered o path f g e c;
      nodes_are = n;
      edges_are = h;
      records_are = r;
    }
by_room false o path old_n old_e rs f ns' es rs' g a e c n h d r z =
    record { answer_is = z ∙ ap (λ x. finishing x f g) d; nodes_are = n; edges_are = h; records_are = r }

pub concluded : (g : Growth) (relaxed : Bool) (kind : Kind) (given : Given) (ns es rs : List ℕ) (f : Finished) (a : Result Compiled ℕ) (ns' rs' : List ℕ) → Finalized g.counts g.start g.layers g.last relaxed kind given ns es rs f ns' rs' → a ≡ finishing (numbered f.drained) f g → Concluded g relaxed kind given ns es rs a ns' rs'
concluded g relaxed kind given ns es rs f a ns' rs' done z =
    record {
      does = λ s items r d old_n old_e w m.
          let o = outcome s.mode (kind_of kind) d in
          let e = done.does s items r d old_n old_e w m in
          let long = outcome_long s.mode (kind_of kind) d in
          by_room (leb (length (drained r.path o)) given.room) o r.path old_n old_e rs f ns' es rs' g a e.told
          (record {
            nodes_are = ap (λ (x : Counts). x.nodes) w.counts_are ∙ sym long.0;
            edges_are = ap (λ (x : Counts). x.edges) w.counts_are ∙ sym (ap (length {A = Edge}) long.1);
            layers_are = as_stored g.layers ∙ ap (λ (x : List Range). layers_from (reverse x)) (w.layers_are ∙ sym (outcome_layers s.mode (kind_of kind) d));
          })
          e.nodes_are
          (w.held.edges_are ∙ ap (λ (x : List Edge). over (edge_table x) old_e) (sym long.1))
          e.drained_is
          e.records_are
          z;
    }
