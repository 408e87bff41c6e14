-- The merge into a new row: its refusals, the row itself, and the tables after the merge.
use mathlib.Core.Path.{◌≡◌, refl, sym, ap, subst, ◌∙◌}
use mathlib.Core.Bool.{true, false}
use mathlib.Core.List.{List, [], ◌∷◌, ◌++◌, Memᴰ}
use Prim.Native.Nat.{ℕ, suc, ◌+◌, ◌-◌, ◌*◌, ◌<◌, ◌≤◌}
use native.Mathlib.Nat.{suc-mul}
use native.Mathlib.Omega.{arith}
use lib.Dec.{ltb}
use lib.ListN.{length, get_or, set, take, drop, length-append}
use borrow.Author.Tests.{lt-ltb, le-ltb}
use Rattle.diagram.specs.Node.{Node, node_at, fresh, as_relaxed}
use Rattle.diagram.specs.Tables.{Diagram, nowhere, with_nodes}
use Rattle.diagram.specs.Run.{Settings, Run, going, stopped}
use Rattle.diagram.specs.Rule4.{push_node}
use Rattle.diagram.specs.Rule6.{merged_row, merge_all, merge_into, squashed, squash_need}
use Rattle.layout.specs.Table.{over}
use Rattle.layout.specs.Rows.{node_words, node_table}
use Rattle.theorems.proofs.Links.{WiredMerge, node_wired, node_is, node_was}
use Rattle.rows.specs.Access.{NodeRead, NodeWritten}
use Rattle.branch.specs.declared.Counts.{Counts}
use Rattle.branch.specs.declared.Rooms.{Rooms}
use Rattle.branch.specs.State.{Said, Going, Stopped, counts_of, Held, Stepped}
use Rattle.branch.proofs.Children.{counted_nodes}
use Rattle.squash.specs.Merging.{Merges, Sits, AllMerged}
use Rattle.squash.specs.Squashing.{Done, Squashes, Squashable, RowMade, NewMerged}
use Rattle.squash.proofs.Changing.{place_mem}
use Rattle.squash.proofs.Tables.{nodes_in}
use Rattle.squash.proofs.Layer.{drop_mem, first_rest, rows_set, beyond_set, squash_stops}

-- the merged row as it is written
pub row_made : (capacity depth : ℕ) (t : List ℕ) (r : ℕ) (n x : Node) (u : List ℕ) → n ≡ fresh capacity depth 0 false → x ≡ as_relaxed n → NodeWritten t r x u → RowMade capacity depth t r u
unfolding merged_row
row_made capacity depth t r n x u e q w =
    record {
      does = λ ns old h l room.
          w.appended ns old h l room ∙ ap (λ (m : Node). over (node_table (ns ++ (m ∷ []))) old) (q ∙ ap as_relaxed e);
    }

merged_links : (c dp : ℕ) → ((merged_row c dp).newest ≡ 0) × ((merged_row c dp).best ≡ 0) × ((merged_row c dp).depth ≡ dp)
unfolding merged_row as_relaxed fresh
merged_links c dp = (refl, refl, refl)

pushed_held : (n : Node) (d : Diagram) (old_n old_e ns es ns₁ : List ℕ) → ns₁ ≡ over (node_table (d.nodes ++ (n ∷ []))) old_n → Held d old_n old_e ns es → Held (push_node n d) old_n old_e ns₁ es
unfolding push_node with_nodes
pushed_held n d old_n old_e ns es ns₁ e held = record { nodes_are = e; edges_are = held.edges_are }

pushed_counts : (n : Node) (d : Diagram) (k : Counts) → k ≡ counts_of d → record { nodes = k.nodes + 1; edges = k.edges } ≡ counts_of (push_node n d)
unfolding push_node with_nodes
pushed_counts n d k e = rw (e, length-append)

module _ (start : ℕ) (k : Counts) (rooms : Rooms) (capacity keep : ℕ) (rows ns es : List ℕ) where
  pub new_10 : 1024 ≤ k.nodes - start → NewMerged start k rooms capacity keep rows ns es (Stopped 10 k) rows ns es
  unfolding merge_into squash_need
  new_10 h =
      record {
        does = λ s d old_n old_e g.
            let n = counted_nodes d k g.stands.counts_are in
            let f : ltb (length d.nodes - d.start) 1024 ≡ false = le-ltb (length d.nodes - d.start) 1024 (omega (arith, g.stands.first_is)) in
            rw f (record { step_is = ap (Stopped 10) g.stands.counts_are; held = g.held; rows_are = tt });
        beyond = refl;
      }

  pub new_11 : k.nodes - start < 1024 → rooms.nodes ≤ k.nodes → NewMerged start k rooms capacity keep rows ns es (Stopped 11 k) rows ns es
  unfolding merge_into squash_need
  new_11 h i =
      record {
        does = λ s d old_n old_e g.
            let n = counted_nodes d k g.stands.counts_are in
            let f : ltb (length d.nodes - d.start) 1024 ≡ true = lt-ltb (length d.nodes - d.start) 1024 (omega (arith, g.stands.first_is)) in
            let b : ltb (length d.nodes) s.node_room ≡ false = le-ltb (length d.nodes) s.node_room (omega (arith, g.stands.node_room)) in
            rw (f, b) (record { step_is = ap (Stopped 11) g.stands.counts_are; held = g.held; rows_are = tt });
        beyond = refl;
      }

  module _ (sit : Squashable start k rooms keep rows ns es) where
    pub new_reads : (r : ℕ) → r ≡ get_or rows keep 0 → r * node_words + node_words ≤ length ns
    new_reads r q =
        let g = sit.squashes in
        let i : Memᴰ r rows = rw q (place_mem rows keep sit.wide) in
        omega (arith, g.rows_in r i, nodes_in sit.diagram sit.old_n sit.old_e ns es g.held)

  module _ (h : keep < length rows) (r : ℕ) (rq : r ≡ get_or rows keep 0) (first : Node) (read : NodeRead ns r first) (room : k.nodes < rooms.nodes) (ns₁ : List ℕ) (made : RowMade capacity first.depth ns k.nodes ns₁) where
    -- the depth that the new row gets
    module _ (s : Settings) (d : Diagram) (old_n old_e : List ℕ) (g : Squashes s d old_n old_e start k rooms rows ns es) where
      first_mem : Memᴰ r rows
      first_mem = rw rq (place_mem rows keep h)

      first_is : first ≡ node_at d.nodes r
      first_is = read.is_row d.nodes old_n g.held.nodes_are (g.rows_in r first_mem)

      first_deep : first.depth ≡ g.depth
      first_deep = ap (λ (n : Node). n.depth) first_is ∙ g.rows_deep r first_mem

      first_depth : first.depth ≡ (node_at d.nodes (get_or (drop keep rows) 0 0)).depth
      first_depth = ap (λ (n : Node). n.depth) first_is ∙ ap (λ (i : ℕ). (node_at d.nodes i).depth) (rq ∙ sym (first_rest rows keep h))

      new_wired : WiredMerge g.depth (length d.nodes) (drop keep rows) (push_node (merged_row capacity first.depth) d)
      new_wired =
          let n = merged_row capacity first.depth in
          let z = merged_links capacity first.depth in
          let i = node_is n d in
          record {
            wired = node_wired n d z.0 z.1 g.stands.start_in g.wired;
            depth = ap (λ (m : Node). m.depth) i.0 ∙ z.2 ∙ first_deep;
            rest_deps = λ q j.
                let u = drop_mem keep rows q j in
                let b = g.rows_in q u in
                (omega (arith, i.1), ap (λ (m : Node). m.depth) (node_was n d q b) ∙ g.rows_deep q u);
          }

      new_merges : Merges s (push_node (merged_row capacity first.depth) d) old_n old_e start (record { nodes = k.nodes + 1; edges = k.edges }) rooms k.nodes (drop keep rows) ns₁ es
      new_merges =
          let n = merged_row capacity first.depth in
          let i = node_is n d in
          let c = counted_nodes d k g.stands.counts_are in
          let st = g.stands in
          record {
            stands = record {
              first_is = st.first_is ∙ sym i.2;
              start_in = omega (arith, st.start_in, i.1, i.2);
              counts_are = pushed_counts n d k st.counts_are;
              node_room = st.node_room;
              edge_room = st.edge_room;
              old_nodes = st.old_nodes;
              old_edges = st.old_edges;
            };
            held = pushed_held n d old_n old_e ns es ns₁ (made.does d.nodes old_n g.held.nodes_are c (omega (arith, suc-mul k.nodes 8, st.old_nodes))) g.held;
            mergeable = record {
              merged_above = omega (arith, st.start_in, i.2);
              merged_in = omega (arith, i.1);
              rest_above = λ q j. omega (arith, g.rows_above q (drop_mem keep rows q j), i.2);
              depth = g.depth;
              wired = subst (λ (m : ℕ). WiredMerge g.depth m (drop keep rows) (push_node n d)) (sym c) new_wired;
            };
          }

    pub new_sits : Squashable start k rooms keep rows ns es → Sits start (record { nodes = k.nodes + 1; edges = k.edges }) rooms k.nodes (drop keep rows) ns₁ es
    new_sits sit =
        record {
          settings = sit.settings;
          diagram = push_node (merged_row capacity first.depth) sit.diagram;
          old_n = sit.old_n;
          old_e = sit.old_e;
          merges = new_merges sit.settings sit.diagram sit.old_n sit.old_e sit.squashes;
        }

    module _ (low : k.nodes - start < 1024) (step : Said) (ns₂ es₂ : List ℕ) (did : AllMerged start (record { nodes = k.nodes + 1; edges = k.edges }) rooms k.nodes (drop keep rows) ns₁ es step ns₂ es₂) where
      -- both needs are met: what is left is the merge
      into_new : (s : Settings) (d : Diagram) (old_n old_e : List ℕ) (g : Squashes s d old_n old_e start k rooms rows ns es) → merge_into nowhere s capacity (take keep rows) (drop keep rows) d ≡ squashed (merge_all s (length d.nodes) (drop keep rows) (push_node (merged_row capacity (node_at d.nodes (get_or (drop keep rows) 0 0)).depth) d)) (λ e. e) (take keep rows ++ (length d.nodes ∷ []))
      unfolding merge_into squash_need
      into_new s d old_n old_e g =
          let n = counted_nodes d k g.stands.counts_are in
          let f : ltb (length d.nodes - d.start) 1024 ≡ true = lt-ltb (length d.nodes - d.start) 1024 (omega (arith, g.stands.first_is)) in
          let b : ltb (length d.nodes) s.node_room ≡ true = lt-ltb (length d.nodes) s.node_room (omega (arith, g.stands.node_room)) in
          rw (f, b)

      new_stepped : (s : Settings) (d : Diagram) (old_n old_e : List ℕ) (g : Squashes s d old_n old_e start k rooms rows ns es) → Stepped (merge_all s (length d.nodes) (drop keep rows) (push_node (merged_row capacity (node_at d.nodes (get_or (drop keep rows) 0 0)).depth) d)) old_n old_e step ns₂ es₂
      new_stepped s d old_n old_e g =
          subst (λ (dp : ℕ). Stepped (merge_all s (length d.nodes) (drop keep rows) (push_node (merged_row capacity dp) d)) old_n old_e step ns₂ es₂) (first_depth s d old_n old_e g)
          (subst (λ (m : ℕ). Stepped (merge_all s m (drop keep rows) (push_node (merged_row capacity first.depth) d)) old_n old_e step ns₂ es₂) (counted_nodes d k g.stands.counts_are)
          (did.does s (push_node (merged_row capacity first.depth) d) old_n old_e (new_merges s d old_n old_e g)))

      pub new_stopped : (n : ℕ) (k' : Counts) → step ≡ Stopped n k' → NewMerged start k rooms capacity keep rows ns es step rows ns₂ es₂
      new_stopped n k' q =
          record {
            does = λ s d old_n old_e g. rw (into_new s d old_n old_e g) (squash_stops _ (λ e. e) _ old_n old_e (suc keep) step rows ns₂ es₂ n k' (new_stepped s d old_n old_e g) q);
            beyond = refl;
          }

      listed_new : (k' : Counts) → step ≡ Going k' → (n : ℕ) → k.nodes ≡ n → (run : Run) (old_n old_e : List ℕ) → Stepped run old_n old_e step ns₂ es₂ → Done (squashed run (λ e. e) (take keep rows ++ (n ∷ []))) old_n old_e (suc keep) (Going k') (set rows keep k.nodes) ns₂ es₂
      unfolding squashed
      listed_new k' q n e (stopped i x) old_n old_e st =
          let p = st.step_is in
          let y : ◌≡◌ {A = ℕ} 0 1 = cc in
          absurd (omega arith)
      listed_new k' q n e (going x) old_n old_e st =
          let p = st.step_is in
          let kq : k' ≡ counts_of x = cc in
          record {
            step_is = ap Going kq;
            held = st.held;
            rows_are = ap (λ (i : ℕ). take keep rows ++ (i ∷ [])) (sym e) ∙ rows_set rows keep h k.nodes;
          }

      pub new_going : (k' : Counts) → step ≡ Going k' → NewMerged start k rooms capacity keep rows ns es (Going k') (set rows keep k.nodes) ns₂ es₂
      new_going k' q =
          record {
            does = λ s d old_n old_e g. rw (into_new s d old_n old_e g) (listed_new k' q (length d.nodes) (counted_nodes d k g.stands.counts_are) _ old_n old_e (new_stepped s d old_n old_e g));
            beyond = beyond_set rows keep h k.nodes;
          }
