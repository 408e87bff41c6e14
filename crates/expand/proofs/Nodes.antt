-- A node's expansion: its fast bound noted, then both decisions or none.
use mathlib.Core.Path.{◌≡◌, sym, ap, subst, ◌∙◌}
use mathlib.Core.Bool.{true, false}
use mathlib.Core.List.{List, ◌∷◌}
use Prim.Native.Nat.{ℕ, ◌+◌, ◌<◌, ◌≤◌}
use native.Mathlib.Omega.{arith}
use lib.Dec.{ltb}
use lib.ListN.{length, get_or, drop, length-set}
use lib.Seq.{get_or-set_same}
use borrow.Author.Tests.{lt-ltb, le-ltb}
use Rattle.words.specs.I64.{mid, sat_add}
use Rattle.knapsack.specs.Items as Blocks
use Rattle.knapsack.specs.Items.{items_of, counted}
use Rattle.knapsack.specs.FastBound.{fast_bound}
use Rattle.knapsack.proofs.Limits.{items_from}
use Rattle.diagram.specs.Node.{Node, no_node, node_at, with_fast}
use Rattle.diagram.specs.Tables.{Diagram, with_nodes}
use Rattle.diagram.specs.Run.{Settings, only_if}
use Rattle.diagram.specs.Rule3.{note_fast, reach, expand}
use Rattle.rows.specs.Access.{NodeRead, NodeWritten}
use Rattle.branch.specs.declared.Counts.{Counts}
use Rattle.branch.specs.declared.Rooms.{Rooms}
use Rattle.branch.specs.State.{Said, Going, Fit, counts_of, Stands, Held}
use Rattle.expand.specs.declared.Item.{Item}
use Rattle.expand.specs.State.{Decides, Both, Expanded}

-- noting a bound moves nothing: the same counts, the same start
noted_counts : (left : List Blocks.Item) (n : ℕ) (d : Diagram) → counts_of (note_fast left n d) ≡ counts_of d
unfolding note_fast with_nodes
noted_counts left n d = rw (length-set d.nodes n (with_fast (mid + fast_bound left (node_at d.nodes n).capacity) (node_at d.nodes n)))

noted_stands : (left : List Blocks.Item) (n : ℕ) (s : Settings) (d : Diagram) (old_n old_e : List ℕ) (start : ℕ) (k : Counts) (rooms : Rooms) → Stands s d old_n old_e start k rooms → Stands s (note_fast left n d) old_n old_e start k rooms
unfolding note_fast with_nodes
noted_stands left n s d old_n old_e start k rooms st =
    record {
      first_is = st.first_is;
      start_in = omega (arith, st.start_in, length-set d.nodes n (with_fast (mid + fast_bound left (node_at d.nodes n).capacity) (node_at d.nodes n)));
      counts_are = st.counts_are ∙ sym (noted_counts left n d);
      node_room = st.node_room;
      edge_room = st.edge_room;
      old_nodes = st.old_nodes;
      old_edges = st.old_edges;
    }

noted_depth : (left : List Blocks.Item) (n : ℕ) (d : Diagram) → n < length d.nodes → (node_at (note_fast left n d).nodes n).depth ≡ (node_at d.nodes n).depth
unfolding note_fast with_nodes with_fast
noted_depth left n d h = ap (λ (x : Node). x.depth) (get_or-set_same d.nodes n (with_fast (mid + fast_bound left (node_at d.nodes n).capacity) (node_at d.nodes n)) no_node h)

noted_held : (left : List Blocks.Item) (n : ℕ) (d : Diagram) (old_n old_e ns es : List ℕ) (node : Node) (fast : ℕ) (ns₁ : List ℕ) → n < length d.nodes → Held d old_n old_e ns es → NodeRead ns n node → fast ≡ fast_bound left node.capacity → NodeWritten ns n (with_fast (mid + fast) node) ns₁ → Held (note_fast left n d) old_n old_e ns₁ es
unfolding note_fast with_nodes
noted_held left n d old_n old_e ns es node fast ns₁ h held read e written =
    let q : node ≡ node_at d.nodes n = read.is_row d.nodes old_n held.nodes_are h in
    record {
      nodes_are = written.replaced d.nodes old_n held.nodes_are h ∙ rw (e, q);
      edges_are = held.edges_are;
    }

-- what the expansion is told, in the code's words
pub record Noted (weights profits : List ℕ) (depth n : ℕ) (ns : List ℕ) (node : Node) (fast : ℕ) (ns₁ : List ℕ) : Type 0 where
  pub read : NodeRead ns n node
  pub bound : fast ≡ fast_bound (drop depth (items_of weights profits)) node.capacity
  pub written : NodeWritten ns n (with_fast (mid + fast) node) ns₁

pub noted_of : (weights profits : List ℕ) (depth n : ℕ) (ns : List ℕ) (node x : Node) (fast : ℕ) (ns₁ : List ℕ) → NodeRead ns n node → fast ≡ fast_bound (drop depth (items_of weights profits)) node.capacity → x ≡ with_fast (mid + fast) node → NodeWritten ns n x ns₁ → Noted weights profits depth n ns node fast ns₁
noted_of weights profits depth n ns node x fast ns₁ read bound e written = record { read = read; bound = bound; written = subst (λ (y : Node). NodeWritten ns n y ns₁) e written }

-- the test, of the sum that was worked out
pub at_most : (v sum lower : ℕ) → v ≡ sum → v ≤ lower → sum ≤ lower
at_most v sum lower e h = omega arith

pub above : (v sum lower : ℕ) → v ≡ sum → lower < v → lower < sum
above v sum lower e h = omega arith

pub not_branched : (weights profits : List ℕ) (start : ℕ) (k : Counts) (rooms : Rooms) (depth lower n : ℕ) (ns es : List ℕ) (node : Node) (fast : ℕ) (ns₁ : List ℕ) → Fit start k rooms → Noted weights profits depth n ns node fast ns₁ → sat_add node.value (mid + fast) ≤ lower → Expanded weights profits start k rooms depth lower n ns es (Going k) ns₁ es
unfolding expand only_if reach
not_branched weights profits start k rooms depth lower n ns es node fast ns₁ fit note h =
    record {
      fits = fit;
      does = λ s d old_n old_e item rest st held low left in_start deep.
          let inn : n < length d.nodes = omega (arith, st.first_is, st.start_in) in
          let q : node ≡ node_at d.nodes n = note.read.is_row d.nodes old_n held.nodes_are inn in
          let e : fast ≡ fast_bound (item ∷ rest) node.capacity = note.bound ∙ ap (λ (l : List Blocks.Item). fast_bound l node.capacity) left in
          let v : sat_add (node_at d.nodes n).value (mid + fast_bound (item ∷ rest) (node_at d.nodes n).capacity) ≡ sat_add node.value (mid + fast) = rw (e, q) in
          let f : ltb s.lower (sat_add (node_at d.nodes n).value (mid + fast_bound (item ∷ rest) (node_at d.nodes n).capacity)) ≡ false = le-ltb s.lower _ (omega (arith, v, low)) in
          rw f (record {
            step_is = ap Going (st.counts_are ∙ sym (noted_counts (item ∷ rest) n d));
            held = noted_held (item ∷ rest) n d old_n old_e ns es node fast ns₁ inn held note.read e note.written;
          });
    }

pub branched_both : (weights profits : List ℕ) (start : ℕ) (k : Counts) (rooms : Rooms) (depth lower n : ℕ) (i : Item) (ns es : List ℕ) (node : Node) (fast : ℕ) (ns₁ : List ℕ) (r : Said) (ns₂ es₂ : List ℕ) → length weights ≡ length profits → depth < length weights → Noted weights profits depth n ns node fast ns₁ → lower < sat_add node.value (mid + fast) → i.depth ≡ depth → i.weight ≡ counted (get_or weights depth 0) → i.profit ≡ get_or profits depth 0 → Both start k rooms n node.capacity i ns₁ es r ns₂ es₂ → Expanded weights profits start k rooms depth lower n ns es r ns₂ es₂
unfolding expand only_if reach
branched_both weights profits start k rooms depth lower n i ns es node fast ns₁ r ns₂ es₂ pair inw note h di wi pi both =
    record {
      fits = both.fits;
      does = λ s d old_n old_e item rest st held low left in_start deep.
          let inn : n < length d.nodes = omega (arith, st.first_is, st.start_in) in
          let q : node ≡ node_at d.nodes n = note.read.is_row d.nodes old_n held.nodes_are inn in
          let e : fast ≡ fast_bound (item ∷ rest) node.capacity = note.bound ∙ ap (λ (l : List Blocks.Item). fast_bound l node.capacity) left in
          let v : sat_add (node_at d.nodes n).value (mid + fast_bound (item ∷ rest) (node_at d.nodes n).capacity) ≡ sat_add node.value (mid + fast) = rw (e, q) in
          let f : ltb s.lower (sat_add (node_at d.nodes n).value (mid + fast_bound (item ∷ rest) (node_at d.nodes n).capacity)) ≡ true = lt-ltb s.lower _ (omega (arith, v, low)) in
          let x : item ≡ record { weight = get_or weights depth 0; profit = get_or profits depth 0 } = let a = sym left ∙ items_from weights profits depth pair inw in cc in
          let is : Decides i item depth = record { depth_is = di; weight_is = wi ∙ ap (λ (y : Blocks.Item). counted y.weight) (sym x); profit_is = pi ∙ ap (λ (y : Blocks.Item). y.profit) (sym x) } in
          rw f (rw q at (both.does s (note_fast (item ∷ rest) n d) old_n old_e item depth (noted_stands (item ∷ rest) n s d old_n old_e start k rooms st) (noted_held (item ∷ rest) n d old_n old_e ns es node fast ns₁ inn held note.read e note.written) is in_start (noted_depth (item ∷ rest) n d inn ∙ deep)));
    }
