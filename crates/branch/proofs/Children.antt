-- A new child: what the code's writes mean for the diagram.
use mathlib.Core.Path.{◌≡◌, refl, sym, ap, ◌∙◌}
use mathlib.Core.Bool.{true, false}
use mathlib.Core.List.{List, [], ◌∷◌, ◌++◌}
use Prim.Native.Nat.{ℕ, suc, ◌+◌, ◌-◌, ◌*◌, ◌<◌, ◌≤◌}
use native.Mathlib.Omega.{arith}
use lib.Dec.{ltb}
use lib.ListN.{length, drop, length-drop, length-append, get_or-append}
use lib.Seq.{get_or-append_seam, set-append_seam, drop-append-le}
use borrow.Author.Tests.{lt-ltb, le-ltb}
use Rattle.diagram.specs.Node.{Node, no_node, fresh}
use Rattle.diagram.specs.Tables.{Diagram, with_nodes}
use Rattle.diagram.specs.Run.{need}
use Rattle.diagram.specs.Rule4.{handed, receive, landed, push_edge, push_node, child_of, new_child}
use Rattle.layout.specs.Rows.{node_words, edge_words}
use Rattle.rows.specs.Access.{EdgeWritten, NodeWritten}
use Rattle.branch.specs.declared.Counts.{Counts}
use Rattle.branch.specs.declared.Rooms.{Rooms}
use Rattle.branch.specs.declared.Parent.{Parent}
use Rattle.branch.specs.declared.Branch.{Branch}
use Rattle.branch.specs.State.{Going, Stopped, counts_of, ComingHeld, ChildMade}

pub counted_nodes : (d : Diagram) (k : Counts) → k ≡ counts_of d → k.nodes ≡ length d.nodes
counted_nodes d k e = ap (λ (c : Counts). c.nodes) e

counted_edges : (d : Diagram) (k : Counts) → k ≡ counts_of d → k.edges ≡ length d.edges
counted_edges d k e = ap (λ (c : Counts). c.edges) e

-- the three refusals, in their order
pub refused_10 : (first : ℕ) (k : Counts) (rooms : Rooms) (p : Parent) (b : Branch) (cs es : List ℕ) → 1024 ≤ k.nodes - first → ChildMade first k rooms p b cs es (Stopped 10 k) cs es
unfolding new_child need
refused_10 first k rooms p b cs es h =
    record {
      fits = λ fit. fit;
      does = λ s d old_n old_e st held told deep.
          let n = counted_nodes d k st.counts_are in
          let f : ltb (length d.nodes - d.start) 1024 ≡ false = le-ltb (length d.nodes - d.start) 1024 (omega (arith, st.first_is)) in
          rw f (record { step_is = ap (Stopped 10) st.counts_are; held = held });
    }

pub refused_11 : (first : ℕ) (k : Counts) (rooms : Rooms) (p : Parent) (b : Branch) (cs es : List ℕ) → k.nodes - first < 1024 → rooms.nodes ≤ k.nodes → ChildMade first k rooms p b cs es (Stopped 11 k) cs es
unfolding new_child need
refused_11 first k rooms p b cs es h i =
    record {
      fits = λ fit. fit;
      does = λ s d old_n old_e st held told deep.
          let n = counted_nodes d k st.counts_are in
          let f : ltb (length d.nodes - d.start) 1024 ≡ true = lt-ltb (length d.nodes - d.start) 1024 (omega (arith, st.first_is)) in
          let g : ltb (length d.nodes) s.node_room ≡ false = le-ltb (length d.nodes) s.node_room (omega (arith, st.node_room)) in
          rw (f, g) (record { step_is = ap (Stopped 11) st.counts_are; held = held });
    }

pub refused_12 : (first : ℕ) (k : Counts) (rooms : Rooms) (p : Parent) (b : Branch) (cs es : List ℕ) → k.nodes - first < 1024 → k.nodes < rooms.nodes → rooms.edges ≤ k.edges → ChildMade first k rooms p b cs es (Stopped 12 k) cs es
unfolding new_child need
refused_12 first k rooms p b cs es h i j =
    record {
      fits = λ fit. fit;
      does = λ s d old_n old_e st held told deep.
          let n = counted_nodes d k st.counts_are in
          let m = counted_edges d k st.counts_are in
          let f : ltb (length d.nodes - d.start) 1024 ≡ true = lt-ltb (length d.nodes - d.start) 1024 (omega (arith, st.first_is)) in
          let g : ltb (length d.nodes) s.node_room ≡ true = lt-ltb (length d.nodes) s.node_room (omega (arith, st.node_room)) in
          let a : ltb (length d.edges) s.edge_room ≡ false = le-ltb (length d.edges) s.edge_room (omega (arith, st.edge_room)) in
          rw (f, g, a) (record { step_is = ap (Stopped 12) st.counts_are; held = held });
    }

-- a row appended and an edge into it, as one row
made_nodes : (p decision cost : ℕ) (ch : Node) (d : Diagram) → p < length d.nodes → (push_edge p (length d.nodes) decision cost (push_node ch d)).nodes ≡ d.nodes ++ (landed d.nodes d.edges p cost ch ∷ [])
unfolding push_edge push_node with_nodes landed handed
made_nodes p decision cost ch d h =
    rw (get_or-append_seam d.nodes ch [] no_node, get_or-append d.nodes (ch ∷ []) no_node p h) (set-append_seam d.nodes ch [] _)

made_edges : (p decision cost : ℕ) (ch : Node) (d : Diagram) → (push_edge p (length d.nodes) decision cost (push_node ch d)).edges ≡ d.edges ++ (record { from = p; to = length d.nodes; decision = decision; cost = cost; next = ch.newest } ∷ [])
unfolding push_edge push_node with_nodes
made_edges p decision cost ch d = rw (get_or-append_seam d.nodes ch [] no_node)

made_start : (p decision cost : ℕ) (ch : Node) (d : Diagram) → (push_edge p (length d.nodes) decision cost (push_node ch d)).start ≡ d.start
unfolding push_edge push_node with_nodes
made_start p decision cost ch d = refl

-- the tables after it
made_held : (d : Diagram) (old_n old_e cs es : List ℕ) (p decision cost : ℕ) (ch x : Node) (cs' es' : List ℕ) → ComingHeld d old_n old_e cs es → d.start ≤ length d.nodes → p < length d.nodes → ch.newest ≡ 0 → suc (length d.nodes) * node_words ≤ length old_n → suc (length d.edges) * edge_words ≤ length old_e
    → x ≡ landed d.nodes d.edges p cost ch
    → NodeWritten cs (length d.nodes - d.start) x cs'
    → EdgeWritten es (length d.edges) (record { from = p; to = length d.nodes; decision = decision; cost = cost; next = 0 }) es'
    → ComingHeld (push_edge p (length d.nodes) decision cost (push_node ch d)) old_n old_e cs' es'
made_held d old_n old_e cs es p decision cost ch x cs' es' held h inp z room_n room_e e wn we =
    let l : length (drop d.start d.nodes) ≡ length d.nodes - d.start = length-drop d.start d.nodes in
    let r : suc (length d.nodes - d.start) * node_words ≤ length (drop (d.start * node_words) old_n) = simp length-drop (omega arith) in
    record {
      coming_are = wn.appended (drop d.start d.nodes) (drop (d.start * node_words) old_n) held.coming_are (sym l) r ∙ rw (made_start p decision cost ch d, made_nodes p decision cost ch d inp, drop-append-le d.start d.nodes (landed d.nodes d.edges p cost ch ∷ []) h, e);
      edges_are = we.appended d.edges old_e held.edges_are refl room_e ∙ rw (made_edges p decision cost ch d, z);
    }

made_counts : (p decision cost : ℕ) (ch : Node) (d : Diagram) (k : Counts) → p < length d.nodes → k ≡ counts_of d → record { nodes = k.nodes + 1; edges = k.edges + 1 } ≡ counts_of (push_edge p (length d.nodes) decision cost (push_node ch d))
made_counts p decision cost ch d k h e = rw (e, made_nodes p decision cost ch d h, made_edges p decision cost ch d, length-append, length-append)

child_newest : (p cost capacity : ℕ) (ns : List Node) → (child_of p cost capacity ns).newest ≡ 0
unfolding child_of fresh
child_newest p cost capacity ns = refl

pub child_made : (first : ℕ) (k : Counts) (rooms : Rooms) (p : Parent) (b : Branch) (cs es : List ℕ) (x : Node) (cs' es' : List ℕ) → k.nodes - first < 1024 → k.nodes < rooms.nodes → k.edges < rooms.edges
    → x ≡ receive k.edges p.exact p.value (fresh b.capacity b.depth p.value p.exact)
    → EdgeWritten es k.edges (record { from = p.id.0; to = k.nodes; decision = b.decision; cost = b.cost; next = 0 }) es'
    → NodeWritten cs (k.nodes - first) x cs'
    → ChildMade first k rooms p b cs es (Going (record { nodes = k.nodes + 1; edges = k.edges + 1 })) cs' es'
unfolding new_child need landed child_of
child_made first k rooms p b cs es x cs' es' h i j e we wn =
    record {
      fits = λ fit. record { low = omega (arith, fit.low); nodes = omega arith; edges = omega arith };
      does = λ s d old_n old_e st held told deep.
          let n = counted_nodes d k st.counts_are in
          let m = counted_edges d k st.counts_are in
          let f : ltb (length d.nodes - d.start) 1024 ≡ true = lt-ltb (length d.nodes - d.start) 1024 (omega (arith, st.first_is)) in
          let g : ltb (length d.nodes) s.node_room ≡ true = lt-ltb (length d.nodes) s.node_room (omega (arith, st.node_room)) in
          let a : ltb (length d.edges) s.edge_room ≡ true = lt-ltb (length d.edges) s.edge_room (omega (arith, st.edge_room)) in
          let inp : p.id.0 < length d.nodes = omega (arith, told.row_in, st.start_in) in
          let ch = child_of p.id.0 b.cost b.capacity d.nodes in
          let l : x ≡ landed d.nodes d.edges p.id.0 b.cost ch = e ∙ rw (m, told.exact_is, told.value_is, deep) in
          let v : NodeWritten cs (length d.nodes - d.start) x cs' = rw (n, st.first_is) at wn in
          let w : EdgeWritten es (length d.edges) (record { from = p.id.0; to = length d.nodes; decision = b.decision; cost = b.cost; next = 0 }) es' = rw (n, m) at we in
          rw (f, g, a) (record {
            step_is = ap Going (made_counts p.id.0 b.decision b.cost ch d k inp st.counts_are);
            held = made_held d old_n old_e cs es p.id.0 b.decision b.cost ch x cs' es' held st.start_in inp (child_newest p.id.0 b.cost b.capacity d.nodes) (omega (arith, st.old_nodes)) (omega (arith, st.old_edges)) l v w;
          });
    }

-- what `new_child` stands on
pub ruleset children = (refused_10, refused_11, refused_12, child_made)
