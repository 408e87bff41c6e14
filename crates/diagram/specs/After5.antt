-- 'After the last layer', 'Local bounds, if relaxed and squashed'.
use Rattle.std.specs.Prelude.{cond, List, [], ◌∷◌, ℕ, ◌+◌, max}
use Rattle.words.specs.I64.{mid, sat_add}
use Rattle.diagram.specs.Node.{Node, Edge, node_at, edge_at, update, marked_with}
use Rattle.diagram.specs.Tables.{Range, LastExact, unsquashed, squashed_after, Diagram, rows_of, inbound}
use Rattle.diagram.specs.Run.{Mode, exactly, restricted, relaxing}

-- 'rows of the last stored layer get 0 and a mark'
unfoldable pub ground_rows : List ℕ → List Node → List Node
ground_rows [] ns = ns
ground_rows (r ∷ rs) ns = ground_rows rs (update (marked_with mid) ns r)

unfoldable pub ground_layer : List Range → List Node → List Node
ground_layer [] ns = ns
ground_layer (l ∷ ls) ns = ground_rows (rows_of l) ns

-- a parent is marked and its bottom value raised to b
unfoldable pub raise : ℕ → Node → Node
raise b n = marked_with (max n.bottom b) n

-- 'marks its parents and raises their bottom value to its own plus the edge's cost': own is the node's, then its inbound edges
unfoldable pub raise_parents : List Edge → ℕ → List ℕ → List Node → List Node
raise_parents es own [] ns = ns
raise_parents es own (e ∷ rest) ns =
    raise_parents es own rest (update (raise (sat_add own (mid + (edge_at es e).cost))) ns (edge_at es e).from)

-- 'each marked node'
unfoldable pub raise_rows : List Edge → List ℕ → List Node → List Node
raise_rows es [] ns = ns
raise_rows es (r ∷ rs) ns =
    raise_rows es rs (cond (node_at ns r).marked (raise_parents es (node_at ns r).bottom (inbound es r) ns) ns)

-- 'going up'
unfoldable pub raise_layers : List Edge → List Range → List Node → List Node
raise_layers es [] ns = ns
raise_layers es (l ∷ ls) ns = raise_layers es ls (raise_rows es (rows_of l) ns)

unfoldable pub bounds_if : LastExact → Diagram → List Node → List Node
bounds_if unsquashed d ns = ns
bounds_if (squashed_after l) d ns = raise_layers d.edges d.layers (ground_layer d.layers ns)

unfoldable pub local_bounds : Mode → Diagram → List Node → List Node
local_bounds exactly d ns = ns
local_bounds restricted d ns = ns
local_bounds relaxing d ns = bounds_if d.last d ns
