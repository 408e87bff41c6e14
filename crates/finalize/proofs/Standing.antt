-- From a grown diagram in the tables, over its local bounds, to the rows of a finished run.
use mathlib.Core.Path.{◌≡◌, refl, sym, ap, subst, ◌∙◌}
use mathlib.Core.Bool.{Bool, true, false}
use mathlib.Core.List.{List, [], ◌∷◌}
use Prim.Native.Nat.{ℕ, ◌≤◌}
use native.Mathlib.Omega.{arith}
use lib.ListN.{length}
use Rattle.std.specs.Prelude.{Option, Result}
use Rattle.diagram.specs.Record.{Record}
use Rattle.diagram.specs.Node.{Node}
use Rattle.diagram.specs.Run.{Mode, exactly, restricted, relaxing, is_relaxing}
use Rattle.diagram.specs.Tables.{Range, Diagram, with_nodes}
use Rattle.diagram.specs.After1.{best_node}
use Rattle.diagram.specs.After4.{no_cutset, cutset_of}
use Rattle.diagram.specs.After5.{local_bounds}
use Rattle.diagram.specs.After6.{outcome, drained}
use Rattle.layout.specs.Table.{over}
use Rattle.layout.specs.Rows.{node_table}
use Rattle.layout.specs.Records.{record_table}
use Rattle.layout.proofs.Records.{over_none}
use Rattle.branch.specs.State.{counts_of}
use Rattle.layers.specs.declared.Layers.{Layers}
use Rattle.layers.specs.declared.Layer.{Layer}
use Rattle.layers.specs.Stored.{stored, last_of}
use Rattle.theorems.proofs.Local.{bounds_dressed}
use Rattle.rows.specs.declared.NodeId.{NodeId}
use Rattle.finish.specs.Terminals.{row_of, Within}
use Rattle.finish.specs.Sits.{Sits}
use Rattle.finish.specs.Bounds as Steps
use Rattle.finish.specs.Bounds.{Layered, Rewritten, was_squashed, BoundsComputed}
use Rattle.finish.proofs.Depths.{deep_dressed, path_room}
use Rattle.finish.proofs.Grown.{Ends, ranged_of}
use Rattle.finish.proofs.Rewriting.{nodes_within, edges_within}
use Rattle.cutset.specs.declared.Kind.{Kind}
use Rattle.cutset.specs.Trace.{Ranged}
use Rattle.cutset.specs.Whole.{kind_of, LastIn, Shaped, Bounded, answer, fitting}
use Rattle.cutset.proofs.Asked.{clear_rows, clear_bounded}
use Rattle.cutset.proofs.Commute.{bounded}
use Rattle.cutset.proofs.Outcomes.{outcome_nodes}
use Rattle.finalize.specs.declared.Given.{Given}
use Rattle.finalize.specs.Standing.{path_before, wanted, drain_best, Cuttable, CutsetDone, Standing, Standable, RowsOf, RowsFinished}
use Rattle.finalize.proofs.Cut.{none_answered, none_fits}
use Rattle.finalize.proofs.Outcomes.{best_drained, exactly_drains, restricted_drains, exactly_rows, restricted_rows}

-- a mode that is relaxed or not
abbrev pub mode_for : Bool → Mode
mode_for true = relaxing
mode_for false = exactly

pub mode_for_lem : (b : Bool) → b ≡ is_relaxing (mode_for b)
mode_for_lem true = refl
mode_for_lem false = refl

ranged_from : (ls : List Range) (n : ℕ) → Ends ls n → Ranged n ls
ranged_from [] n e = tt
ranged_from (l ∷ ls) n e = (e.0, ranged_from ls n e.1)

module _ (d : Diagram) (old_n old_e : List ℕ) (count : ℕ) (given : Given) (layers : Layers) (last : Option Layer) (ns es rs : List ℕ) (st : Standing d old_n old_e count given layers last ns es rs) where
  -- what the steps after the last layer ask of the tables
  abbrev pub sits_of : Sits (counts_of d) ns es
  sits_of =
      record {
        diagram = d;
        old_n = old_n;
        old_e = old_e;
        held = st.held;
        counts = refl;
        wired = st.wired;
        start_in = st.usable.start_in;
        nodes_in = nodes_within d.nodes old_n ns st.held.nodes_are;
        edges_in = edges_within d.edges old_e es st.held.edges_are;
        bytes = λ e l. st.usable.bytes e;
      }

  ranged : Steps.Ranged layers (length d.nodes)
  ranged = ranged_of layers d st.usable st.layers_are

  bounds_asked : Layered ns es layers
  bounds_asked = record { counts = counts_of d; sits = sits_of; ranged = ranged }

  module _ (m : Mode) (us : List ℕ) (w : Rewritten sits_of (local_bounds m d d.nodes) us) where
    shaped : Shaped layers last (bounded m d) (no_cutset (bounded m d))
    unfolding with_nodes no_cutset
    shaped =
        record {
          layers_are = sym st.layers_are;
          last_is = sym st.last_is;
          ranged = subst (λ (n : ℕ). Ranged n (stored layers)) (sym w.long) (subst (λ (ls : List Range). Ranged (length d.nodes) ls) (sym st.layers_are) (ranged_from d.layers (length d.nodes) st.usable.ends));
          last_in = subst (λ (n : ℕ). LastIn n last) (sym w.long) st.last_in;
          few = omega arith;
        }

    -- what the cutset asks of the tables
    bounded_stands : Bounded (wanted given 0) layers last (bounded m d) old_n old_e count us es rs
    unfolding with_nodes
    bounded_stands =
        let rows = local_bounds m d d.nodes in
        let deep = deep_dressed given.depth 64 d.nodes rows (bounds_dressed m d d.nodes) st.deep in
        let start : d.start ≤ length rows = omega (arith, w.long, st.usable.start_in) in
        record {
          nodes_are = w.nodes_are;
          edges_are = st.held.edges_are;
          count_is = st.count_is ∙ sym w.long;
          clear = clear_rows rows (λ r h. clear_bounded m d d.nodes r (st.clear r (omega (arith, w.long))));
          settled = record {
            wired = w.wired;
            start_in = start;
            bytes = λ e l. st.usable.bytes e;
            paths = λ r h. path_room given.depth 64 (bounded m d) w.wired deep start (path_before given) r st.path_long h;
            depth_in = st.depth_in;
            record_room = st.room_in;
          };
          shaped = shaped;
        }

  -- local bounds, in a mode of the run
  module _ (squashed relaxed : Bool) (us : List ℕ) (s : squashed ≡ was_squashed (last_of last)) (b : BoundsComputed layers squashed relaxed ns es us) where
    bounds_done : (m : Mode) → relaxed ≡ is_relaxing m → Rewritten sits_of (local_bounds m d d.nodes) us
    bounds_done m q = b.does (counts_of d) sits_of m ranged st.layers_are (s ∙ ap was_squashed st.last_is) q

    after_bounds : (m : Mode) → relaxed ≡ is_relaxing m → Bounded (wanted given 0) layers last (bounded m d) old_n old_e count us es rs
    after_bounds m q = bounded_stands m us (bounds_done m q)

    cut_asked : (best : Option NodeId) → Within 0 count best → Cuttable count best given layers last us es rs
    cut_asked best i =
        record {
          drainable = record { diagram = bounded (mode_for relaxed) d; old_n = old_n; old_e = old_e; bounded = after_bounds (mode_for relaxed) (mode_for_lem relaxed) };
          inside = i;
        }

    -- ---- the rows of a finished run

    module _ (best : Option NodeId) (kind : Kind) (r : Result ℕ ℕ) (ns' rs' : List ℕ) (c : CutsetDone count best given layers kind last relaxed us es rs r ns' rs') where
      idle_rows : (m : Mode) → relaxed ≡ is_relaxing m → relaxed ≡ false → local_bounds m d d.nodes ≡ (outcome m (kind_of kind) d).diagram.nodes → drained (path_before given) (outcome m (kind_of kind) d) ≡ [] → RowsOf (outcome m (kind_of kind) d) (path_before given) given.room old_n rs r ns' rs'
      idle_rows m q z e x =
          let i = c.idle z in
          let y : fitting given.room (drained (path_before given) (outcome m (kind_of kind) d)) ≡ [] = ap (fitting given.room) x ∙ none_fits given.room in
          record {
            answer_is = i.0 ∙ sym (ap (answer given.room) x ∙ none_answered given.room);
            nodes_are = i.1.0 ∙ (bounds_done m q).nodes_are ∙ ap (λ (k : List Node). over (node_table k) old_n) e;
            records_are = i.1.1 ∙ sym (ap (λ (k : List Record). over (record_table k) rs) y ∙ over_none rs);
          }

      relaxed_rows : relaxed ≡ true → row_of best ≡ best_node d → RowsOf (outcome relaxing (kind_of kind) d) (path_before given) given.room old_n rs r ns' rs'
      relaxed_rows q e =
          let k = kind_of kind in
          let o = outcome relaxing k d in
          let D = bounded relaxing d in
          let g = c.does q D old_n old_e (after_bounds relaxing q) in
          let x : drain_best (row_of best) (path_before given) D (cutset_of k D).listed ≡ drained (path_before given) o = best_drained (path_before given) k d (row_of best) (sym e) in
          record {
            answer_is = g.answer_is ∙ ap (answer given.room) x;
            nodes_are = g.nodes_are ∙ ap (λ (l : List Node). over (node_table l) old_n) (sym (outcome_nodes k d));
            records_are = g.records_are ∙ ap (λ (l : List Record). over (record_table (fitting given.room l)) rs) x;
          }

      rows_done : (m : Mode) → relaxed ≡ is_relaxing m → row_of best ≡ best_node d → RowsOf (outcome m (kind_of kind) d) (path_before given) given.room old_n rs r ns' rs'
      rows_done exactly q e = idle_rows exactly q q (exactly_rows (kind_of kind) d) (exactly_drains (path_before given) (kind_of kind) d)
      rows_done restricted q e = idle_rows restricted q q (restricted_rows (kind_of kind) d) (restricted_drains (path_before given) (kind_of kind) d)
      rows_done relaxing q e = relaxed_rows q e

-- ---- of some diagram

pub some_bounds_asked : (count : ℕ) (best : Option NodeId) (given : Given) (layers : Layers) (last : Option Layer) (ns es rs : List ℕ) → Standable count best given layers last ns es rs → Layered ns es layers
some_bounds_asked count best given layers last ns es rs x = bounds_asked x.diagram x.old_n x.old_e count given layers last ns es rs x.standing

pub some_cut_asked : (count : ℕ) (best : Option NodeId) (given : Given) (layers : Layers) (last : Option Layer) (ns es rs : List ℕ) (squashed relaxed : Bool) (us : List ℕ) → Standable count best given layers last ns es rs → squashed ≡ was_squashed (last_of last) → BoundsComputed layers squashed relaxed ns es us → Cuttable count best given layers last us es rs
some_cut_asked count best given layers last ns es rs squashed relaxed us x s b =
    cut_asked x.diagram x.old_n x.old_e count given layers last ns es rs x.standing squashed relaxed us s b best x.inside

pub rows_finished : (count : ℕ) (best : Option NodeId) (given : Given) (layers : Layers) (kind : Kind) (last : Option Layer) (ns es rs : List ℕ) (squashed relaxed : Bool) (us : List ℕ) (r : Result ℕ ℕ) (ns' rs' : List ℕ) → squashed ≡ was_squashed (last_of last) → BoundsComputed layers squashed relaxed ns es us → CutsetDone count best given layers kind last relaxed us es rs r ns' rs' → RowsFinished count best given layers kind last relaxed ns es rs r ns' rs'
rows_finished count best given layers kind last ns es rs squashed relaxed us r ns' rs' s b c =
    record { does = λ d old_n old_e m st q e. rows_done d old_n old_e count given layers last ns es rs st squashed relaxed us s b best kind r ns' rs' c m q e }
