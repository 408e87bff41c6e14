-- One more edge: what the code's reads and writes mean for the diagram.
use mathlib.Core.Path.{◌≡◌, refl, sym, ap, subst, ◌∙◌}
use mathlib.Core.Bool.{true, false}
use mathlib.Core.List.{List}
use Prim.Native.Nat.{ℕ, suc, ◌+◌, ◌*◌, ◌<◌, ◌≤◌}
use native.Mathlib.Nat.{suc-mul}
use native.Mathlib.Omega.{arith}
use lib.Dec.{ltb}
use lib.ListN.{length, drop, length-set, length-drop, length-append}
use lib.Seq.{get_or-drop, drop-set-add}
use borrow.Author.Tests.{lt-ltb, le-ltb}
use Rattle.diagram.specs.Node.{Node, no_node, node_at}
use Rattle.diagram.specs.Tables.{Diagram}
use Rattle.diagram.specs.Run.{Settings, need}
use Rattle.diagram.specs.Rule4.{receive, landed, push_edge, add_edge}
use Rattle.layout.specs.Rows.{node_words, edge_words}
use Rattle.rows.specs.Access.{NodeRead, EdgeWritten, NodeWritten}
use Rattle.branch.specs.declared.Counts.{Counts}
use Rattle.branch.specs.declared.Rooms.{Rooms}
use Rattle.branch.specs.declared.Parent.{Parent}
use Rattle.branch.specs.declared.Branch.{Branch}
use Rattle.branch.specs.State.{Going, Stopped, counts_of, ComingHeld, Told, ComingStepped, EdgeAdded}

-- no room
pub edge_refused : (first : ℕ) (k : Counts) (rooms : Rooms) (p : Parent) (row : ℕ) (b : Branch) (cs es : List ℕ) → rooms.edges ≤ k.edges → EdgeAdded first k rooms p row b cs es (Stopped 12 k) cs es
unfolding add_edge need
edge_refused first k rooms p row b cs es h =
    record {
      fits = λ fit. fit;
      does = λ s d old_n old_e st held told in_row.
          let e : length d.edges ≡ k.edges = ap (λ (c : Counts). c.edges) (sym st.counts_are) in
          let f : ltb (length d.edges) s.edge_room ≡ false = le-ltb (length d.edges) s.edge_room (omega (arith, st.edge_room)) in
          rw f (record { step_is = ap (Stopped 12) st.counts_are; held = held });
    }

-- the tables after one more edge into row c, where the coming layer's part was written at that row and the edge table at its next row
edge_held : (d : Diagram) (old_n old_e cs es : List ℕ) (p row decision cost : ℕ) (x : Node) (cs' es' : List ℕ) → ComingHeld d old_n old_e cs es → d.start + row < length d.nodes → suc (length d.edges) * edge_words ≤ length old_e
    → x ≡ landed d.nodes d.edges p cost (node_at d.nodes (d.start + row))
    → NodeWritten cs row x cs'
    → EdgeWritten es (length d.edges) (record { from = p; to = d.start + row; decision = decision; cost = cost; next = (node_at d.nodes (d.start + row)).newest }) es'
    → ComingHeld (push_edge p (d.start + row) decision cost d) old_n old_e cs' es'
unfolding push_edge
edge_held d old_n old_e cs es p row decision cost x cs' es' held h room e wn we =
    let k : row < length (drop d.start d.nodes) = simp length-drop (omega arith) in
    record {
      coming_are = wn.replaced (drop d.start d.nodes) (drop (d.start * node_words) old_n) held.coming_are k ∙ rw (e, drop-set-add d.start d.nodes row (landed d.nodes d.edges p cost (node_at d.nodes (d.start + row))));
      edges_are = we.appended d.edges old_e held.edges_are refl room;
    }

push_counts : (p c decision cost : ℕ) (d : Diagram) (k : Counts) → k ≡ counts_of d → record { nodes = k.nodes; edges = k.edges + 1 } ≡ counts_of (push_edge p c decision cost d)
unfolding push_edge
push_counts p c decision cost d k e =
    rw (e, length-set d.nodes c (landed d.nodes d.edges p cost (node_at d.nodes c)), length-append)

-- the same where the coming layer starts at the diagram's own row
added_at : (k : Counts) (p : Parent) (row : ℕ) (b : Branch) (cs es : List ℕ) (child x : Node) (cs' es' : List ℕ) (s : Settings) (d : Diagram) (old_n old_e : List ℕ) → k ≡ counts_of d → k.edges < s.edge_room → s.edge_room * edge_words ≤ length old_e → ComingHeld d old_n old_e cs es → Told d b.cost p → d.start + row < length d.nodes
    → NodeRead cs row child
    → x ≡ receive k.edges p.exact p.value child
    → EdgeWritten es k.edges (record { from = p.id.0; to = d.start + row; decision = b.decision; cost = b.cost; next = child.newest }) es'
    → NodeWritten cs row x cs'
    → ComingStepped (add_edge s p.id.0 (d.start + row) b.decision b.cost d) old_n old_e (Going (record { nodes = k.nodes; edges = k.edges + 1 })) cs' es'
unfolding add_edge need landed
added_at k p row b cs es child x cs' es' s d old_n old_e counts h room held told in-d read e we wn =
    let n : k.edges ≡ length d.edges = ap (λ (c : Counts). c.edges) counts in
    let f : ltb (length d.edges) s.edge_room ≡ true = lt-ltb (length d.edges) s.edge_room (omega arith) in
    let j : row < length (drop d.start d.nodes) = simp length-drop (omega arith) in
    let q : child ≡ node_at d.nodes (d.start + row) = read.is_row (drop d.start d.nodes) (drop (d.start * node_words) old_n) held.coming_are j ∙ get_or-drop d.start d.nodes row no_node in
    let l : x ≡ landed d.nodes d.edges p.id.0 b.cost (node_at d.nodes (d.start + row)) = e ∙ rw (n, told.exact_is, told.value_is, q) in
    rw f (record {
      step_is = ap Going (push_counts p.id.0 (d.start + row) b.decision b.cost d k counts);
      held = edge_held d old_n old_e cs es p.id.0 row b.decision b.cost x cs' es' held in-d (omega (arith, suc-mul (length d.edges) edge_words)) l wn (rw (n, q) at we);
    })

pub edge_added : (first : ℕ) (k : Counts) (rooms : Rooms) (p : Parent) (row : ℕ) (b : Branch) (cs es : List ℕ) (child x : Node) (cs' es' : List ℕ) → k.edges < rooms.edges
    → NodeRead cs row child
    → x ≡ receive k.edges p.exact p.value child
    → EdgeWritten es k.edges (record { from = p.id.0; to = first + row; decision = b.decision; cost = b.cost; next = child.newest }) es'
    → NodeWritten cs row x cs'
    → EdgeAdded first k rooms p row b cs es (Going (record { nodes = k.nodes; edges = k.edges + 1 })) cs' es'
edge_added first k rooms p row b cs es child x cs' es' h read e we wn =
    record {
      fits = λ fit. record { low = fit.low; nodes = fit.nodes; edges = omega arith };
      does = λ s d old_n old_e st held told in_row.
          subst (λ (f : ℕ). ComingStepped (add_edge s p.id.0 (f + row) b.decision b.cost d) old_n old_e (Going (record { nodes = k.nodes; edges = k.edges + 1 })) cs' es') (sym st.first_is)
          (added_at k p row b cs es child x cs' es' s d old_n old_e st.counts_are (omega (arith, st.edge_room)) (rw st.edge_room st.old_edges) held told (omega (arith, st.first_is)) read e
          (subst (λ (f : ℕ). EdgeWritten es k.edges (record { from = p.id.0; to = f + row; decision = b.decision; cost = b.cost; next = child.newest }) es') st.first_is we) wn);
    }

-- what `add_edge` stands on
pub ruleset edges = (edge_refused, edge_added)
