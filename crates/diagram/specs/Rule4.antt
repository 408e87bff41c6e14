-- Rule 4: one more edge, to a child that is in the coming layer already or to a new one.
use Rattle.std.specs.Prelude.{Bool, true, false, cond, ◌&&◌, List, [], ◌∷◌, ◌++◌, ℕ, suc, ◌+◌, ◌-◌, leb, ltb, eqb, length, drop}
use Rattle.words.specs.I64.{mid, sat_add}
use Rattle.diagram.specs.Node.{Node, Edge, node_at, update, fresh, entered}
use Rattle.diagram.specs.Tables.{Diagram, Found, at, nowhere, with_nodes}
use Rattle.diagram.specs.Run.{Settings, Run, going, need, layer_room}

-- the value that row p hands over an edge of that cost
unfoldable pub handed : List Node → ℕ → ℕ → ℕ
handed ns p cost = sat_add (node_at ns p).value (mid + cost)

-- 'An edge clears the child's exact flag if its parent isn't exact; it becomes the best edge if its value is at least the child's,
-- so a later equal edge wins.' Edge row e, its parent exact or not, its value v; n is the child.
unfoldable pub receive : ℕ → Bool → ℕ → Node → Node
receive e parent_exact v n =
    entered (cond (leb n.value v) v n.value) (cond (leb n.value v) (suc e) n.best) (suc e) (parent_exact && n.exact) n

-- what row n becomes when the next edge, of that cost, comes from row p
unfoldable pub landed : List Node → List Edge → ℕ → ℕ → Node → Node
landed ns es p cost n = receive (length es) (node_at ns p).exact (handed ns p cost) n

-- one more edge, from row p to row c
unfoldable pub push_edge : ℕ → ℕ → ℕ → ℕ → Diagram → Diagram
push_edge p c decision cost d =
    record {
      nodes = update (landed d.nodes d.edges p cost) d.nodes c;
      edges = d.edges ++ (record { from = p; to = c; decision = decision; cost = cost; next = (node_at d.nodes c).newest } ∷ []);
      layers = d.layers;
      last = d.last;
      start = d.start;
    }

-- 'the run needs a node row (11) or edge row (12) more than lent': an edge row
unfoldable pub add_edge : Settings → ℕ → ℕ → ℕ → ℕ → Diagram → Run
add_edge s p c decision cost d = need (ltb (length d.edges) s.edge_room) 12 d (going (push_edge p c decision cost d))

-- 'a scan of the coming layer's rows that leaves at the first equal capacity': the rows ns, the first of them numbered r
unfoldable pub lookup : ℕ → List Node → ℕ → Found
lookup capacity [] r = nowhere
lookup capacity (n ∷ ns) r = elim (eqb n.capacity capacity) [ true ↦ at r | false ↦ lookup capacity ns (suc r) ]

unfoldable pub push_node : Node → Diagram → Diagram
push_node n d = with_nodes d (d.nodes ++ (n ∷ []))

-- 'children of exact nodes start exact'
unfoldable pub child_of : ℕ → ℕ → ℕ → List Node → Node
child_of p cost capacity ns = fresh capacity (suc (node_at ns p).depth) (handed ns p cost) (node_at ns p).exact

-- A new child is a row and its edge, or nothing: 'for one child in that order', 10, 11, 12.
unfoldable pub new_child : Settings → ℕ → ℕ → ℕ → ℕ → Diagram → Run
new_child s p decision cost capacity d =
    need (ltb (length d.nodes - d.start) layer_room) 10 d
    (need (ltb (length d.nodes) s.node_room) 11 d
    (need (ltb (length d.edges) s.edge_room) 12 d
    (going (push_edge p (length d.nodes) decision cost (push_node (child_of p cost capacity d.nodes) d)))))

-- 'A child state already in the coming layer gets one more edge.'
unfoldable pub branch_to : Found → Settings → ℕ → ℕ → ℕ → ℕ → Diagram → Run
branch_to (at c) s p decision cost capacity d = add_edge s p c decision cost d
branch_to nowhere s p decision cost capacity d = new_child s p decision cost capacity d

-- the child of row p by that decision, of that cost, with that capacity left
unfoldable pub branch_on : Settings → ℕ → ℕ → ℕ → ℕ → Diagram → Run
branch_on s p decision cost capacity d =
    branch_to (lookup capacity (drop d.start d.nodes) d.start) s p decision cost capacity d
