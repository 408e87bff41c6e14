-- The whole of finalisation: verdict, rows and answer are those of the finished run.
use mathlib.Core.Path.{◌≡◌, refl, sym, ap, subst, ◌∙◌}
use mathlib.Core.Bool.{Bool}
use mathlib.Core.List.{List}
use Prim.Native.Nat.{ℕ, ◌<◌, ◌≤◌}
use native.Mathlib.Omega.{arith}
use lib.ListN.{length}
use Rattle.std.specs.Prelude.{Option, Result}
use Rattle.knapsack.specs.Items.{Item}
use Rattle.diagram.specs.Record.{Record}
use Rattle.diagram.specs.Node.{Edge, edge_at}
use Rattle.diagram.specs.Run.{Mode, Settings, is_relaxing}
use Rattle.diagram.specs.Tables.{Diagram, Found, with_nodes}
use Rattle.diagram.specs.After1.{best_node, best_exact_node}
use Rattle.diagram.specs.After2.{is_exact}
use Rattle.diagram.specs.After4.{CutsetKind}
use Rattle.diagram.specs.After6.{outcome}
use Rattle.layout.specs.Table.{over}
use Rattle.layout.specs.Rows.{node_table, edge_table}
use Rattle.calls.specs.Compile.{value_of, path_of}
use Rattle.branch.specs.declared.Counts.{Counts}
use Rattle.branch.specs.State.{counts_of}
use Rattle.layers.specs.declared.Layers.{Layers}
use Rattle.layers.specs.declared.Layer.{Layer}
use Rattle.rows.specs.declared.NodeId.{NodeId}
use Rattle.finish.specs.Terminals.{row_of, Within}
use Rattle.finish.specs.Sits.{Sits}
use Rattle.finish.proofs.Depths.{deep_dressed, path_room}
use Rattle.finish.proofs.Rewriting.{nodes_within, edges_within}
use Rattle.cutset.specs.declared.Kind.{Kind}
use Rattle.cutset.specs.Whole.{kind_of}
use Rattle.finish.proofs.Terminals.{within_wider}
use Rattle.finalize.specs.declared.Given.{Given}
use Rattle.finalize.specs.declared.Judged.{Judged}
use Rattle.finalize.specs.declared.Finished.{Finished}
use Rattle.finalize.specs.Given.{Grown, Finalizable}
use Rattle.finalize.specs.Judged.{Judgeable, Judgement, Judges}
use Rattle.finalize.specs.Standing.{path_before, Standing, Standable, RowsOf, RowsFinished}
use Rattle.finalize.specs.Answers.{Roomy, Walkable, Answerable, AnswerOf, Answered}
use Rattle.finalize.specs.Ended.{value_from, Tells, Ends, Finalized}
use Rattle.finalize.proofs.Outcomes.{outcome_dressed, outcome_wired}
use Rattle.finalize.proofs.Standing.{mode_for, mode_for_lem, sits_of}
use Rattle.finalize.proofs.Grown.{stands}

-- what an outcome is made of
outcome_is : (m : Mode) (k : CutsetKind) (d : Diagram) → ((outcome m k d).exact ≡ is_exact m d) × (((outcome m k d).best ≡ best_node d) × (((outcome m k d).best_exact ≡ best_exact_node m d) × (((outcome m k d).diagram.edges ≡ d.edges) × ((outcome m k d).diagram.start ≡ d.start))))
unfolding outcome with_nodes
outcome_is m k d = (refl, (refl, (refl, (refl, refl))))

-- ---- the finished tables

module _ (d : Diagram) (old_n old_e : List ℕ) (count : ℕ) (given : Given) (layers : Layers) (last : Option Layer) (ns es rs : List ℕ) (st : Standing d old_n old_e count given layers last ns es rs) (m : Mode) (kind : Kind) (ns' : List ℕ) (x : ns' ≡ over (node_table (outcome m (kind_of kind) d).diagram.nodes) old_n) where
  abbrev o : Diagram
  o = (outcome m (kind_of kind) d).diagram

  rows_long : length o.nodes ≡ length d.nodes
  rows_long = (outcome_dressed m (kind_of kind) d).long

  edges_are : o.edges ≡ d.edges
  edges_are = (outcome_is m (kind_of kind) d).1.1.1.0

  start_in : o.start ≤ length o.nodes
  start_in = omega (arith, (outcome_is m (kind_of kind) d).1.1.1.1, rows_long, st.usable.start_in)

  table_edges : es ≡ over (edge_table o.edges) old_e
  table_edges = st.held.edges_are ∙ ap (λ (l : List Edge). over (edge_table l) old_e) (sym edges_are)

  -- they hold a wired diagram
  abbrev finished_sits : Sits (counts_of o) ns' es
  finished_sits =
      record {
        diagram = o;
        old_n = old_n;
        old_e = old_e;
        held = record { nodes_are = x; edges_are = table_edges };
        counts = refl;
        wired = outcome_wired m (kind_of kind) d st.usable.start_in st.wired;
        start_in = start_in;
        nodes_in = nodes_within o.nodes old_n ns' x;
        edges_in = edges_within o.edges old_e es table_edges;
        bytes = subst (λ (l : List Edge). (e : ℕ) → e < length l → (edge_at l e).decision < 256) (sym edges_are) (λ e l. st.usable.bytes e);
      }

  -- whose paths have room
  finished_roomy : Roomy given o
  finished_roomy y h =
      path_room given.depth 64 o (outcome_wired m (kind_of kind) d st.usable.start_in st.wired) (deep_dressed given.depth 64 d.nodes o.nodes (outcome_dressed m (kind_of kind) d) st.deep) start_in (path_before given) y st.path_long h

  -- a row that was found before is one of its rows
  still_in : (start : ℕ) (b : Option NodeId) → Within start count b → Within 0 (length o.nodes) b
  still_in start b w = within_wider start count 0 (length o.nodes) b (omega arith) (omega (arith, rows_long, st.count_is)) w

  walkable : (start : ℕ) (b : Option NodeId) → Within start count b → Walkable b given ns' es
  walkable start b w =
      record { counts = counts_of o; sits = finished_sits; inside = still_in start b w; roomy = finished_roomy; depth_in = st.depth_in }

-- ---- the calls

module _ (k : Counts) (start : ℕ) (layers : Layers) (last : Option Layer) (given : Given) (ns es rs : List ℕ) where
  pub judge_asked : Finalizable k start layers last given ns es rs → Judgeable start k.nodes ns es
  judge_asked x =
      let st = stands x.settings x.items x.compiled x.diagram x.old_n x.old_e k start layers last given ns es rs x.grown in
      record {
        counts = counts_of x.diagram;
        sits = sits_of x.diagram x.old_n x.old_e k.nodes given layers last ns es rs st;
        start_is = x.grown.start_is;
        count_is = st.count_is;
      }

  pub rows_asked : (relaxed : Bool) (j : Judged) → Finalizable k start layers last given ns es rs → Judges start k.nodes last relaxed ns es j → Standable k.nodes j.best given layers last ns es rs
  rows_asked relaxed j x h =
      record {
        diagram = x.diagram;
        old_n = x.old_n;
        old_e = x.old_e;
        standing = stands x.settings x.items x.compiled x.diagram x.old_n x.old_e k start layers last given ns es rs x.grown;
        inside = within_wider start k.nodes 0 k.nodes j.best (omega arith) (omega arith) h.best_in;
      }

  module _ (relaxed : Bool) (kind : Kind) (j : Judged) (r : Result ℕ ℕ) (ns' rs' : List ℕ) (h : Judges start k.nodes last relaxed ns es j) (f : RowsFinished k.nodes j.best given layers kind last relaxed ns es rs r ns' rs') where
    -- in a mode of the run, and over the diagram that the tables hold
    module _ (s : Settings) (items : List Item) (c : Record) (d : Diagram) (old_n old_e : List ℕ) (g : Grown s items c d old_n old_e k start layers last given ns es rs) (m : Mode) (q : relaxed ≡ is_relaxing m) where
      standing : Standing d old_n old_e k.nodes given layers last ns es rs
      standing = stands s items c d old_n old_e k start layers last given ns es rs g

      verdict : Judgement m d j
      verdict = h.does (counts_of d) (sits_of d old_n old_e k.nodes given layers last ns es rs standing) m g.start_is standing.count_is g.last_is q

      rows_of : RowsOf (outcome m (kind_of kind) d) (path_before given) given.room old_n rs r ns' rs'
      rows_of = f.does d old_n old_e m standing q verdict.best_is

      both_walkable : Answerable j given ns' es
      both_walkable =
          record {
            best = walkable d old_n old_e k.nodes given layers last ns es rs standing m kind ns' rows_of.nodes_are start j.best h.best_in;
            best_exact_lem = walkable d old_n old_e k.nodes given layers last ns es rs standing m kind ns' rows_of.nodes_are start j.best_exact h.best_exact_in;
          }

      module _ (a : Finished) (t : Answered j given r ns' es a) where
        read_off : AnswerOf (outcome m (kind_of kind) d).diagram j given r a
        read_off =
            t.does (counts_of (outcome m (kind_of kind) d).diagram) (finished_sits d old_n old_e k.nodes given layers last ns es rs standing m kind ns' rows_of.nodes_are)
            (still_in d old_n old_e k.nodes given layers last ns es rs standing m kind ns' rows_of.nodes_are start j.best h.best_in)
            (still_in d old_n old_e k.nodes given layers last ns es rs standing m kind ns' rows_of.nodes_are start j.best_exact h.best_exact_in)

        tells : Tells (outcome m (kind_of kind) d) (path_before given) a
        tells =
            let i = outcome_is m (kind_of kind) d in
            let b : row_of j.best ≡ (outcome m (kind_of kind) d).best = verdict.best_is ∙ sym i.1.0 in
            let e : row_of j.best_exact ≡ (outcome m (kind_of kind) d).best_exact = verdict.best_exact_is ∙ sym i.1.1.0 in
            let o = (outcome m (kind_of kind) d).diagram in
            record {
              exact_is = read_off.exact_is ∙ verdict.exact_is ∙ sym i.0;
              best_is = read_off.best_is ∙ ap (λ (p : Found). value_from (value_of o p)) b;
              path_is = read_off.path_is ∙ ap (path_of (path_before given) o) b;
              best_exact_is = read_off.best_exact_is ∙ ap (λ (p : Found). value_from (value_of o p)) e;
              exact_path_is = read_off.exact_path_is ∙ ap (path_of (path_before given) o) e;
            }

        ended : Ends (outcome m (kind_of kind) d) (path_before given) given.room old_n rs a ns' rs'
        ended = record { told = tells; drained_is = read_off.drained_is ∙ rows_of.answer_is; nodes_are = rows_of.nodes_are; records_are = rows_of.records_are }

    pub answers_asked : Finalizable k start layers last given ns es rs → Answerable j given ns' es
    answers_asked x =
        both_walkable x.settings x.items x.compiled x.diagram x.old_n x.old_e x.grown (mode_for relaxed) (mode_for_lem relaxed)

    pub finalized : (a : Finished) → Answered j given r ns' es a → Finalized k start layers last relaxed kind given ns es rs a ns' rs'
    finalized a t =
        record {
          does = λ s items c d old_n old_e g q.
              subst (λ (p : List ℕ). Ends (outcome s.mode (kind_of kind) d) p given.room old_n rs a ns' rs') g.path_is
              (ended s items c d old_n old_e g s.mode q a t);
        }
