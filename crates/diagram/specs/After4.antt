-- 'After the last layer', the cutset: 'A cutset exists only for relaxed diagrams.'
use Rattle.std.specs.Prelude.{not, cond, ◌&&◌, List, [], ◌∷◌, ◌++◌, ℕ}
use Rattle.diagram.specs.Node.{Node, Edge, node_at, edge_at, update, in_cutset}
use Rattle.diagram.specs.Tables.{Range, LastExact, unsquashed, squashed_after, Diagram, rows_of, inbound}
use Rattle.diagram.specs.Run.{Mode, exactly, restricted, relaxing}

-- 'both cutset kinds'
pub data CutsetKind : Type 0 where
  last_exact_layer frontier : CutsetKind

-- The rows listed so far, in order, and the node rows with the cutset flag on each of them.
pub record Cutset : Type 0 where
  pub nodes : List Node
  pub listed : List ℕ

unfoldable pub list_row : ℕ → Cutset → Cutset
list_row r c = record { nodes = update in_cutset c.nodes r; listed = c.listed ++ (r ∷ []) }

-- 'Last exact layer: its rows in order.'
unfoldable pub list_rows : List ℕ → Cutset → Cutset
list_rows [] c = c
list_rows (r ∷ rs) c = list_rows rs (list_row r c)

unfoldable pub layer_cutset : LastExact → Cutset → Cutset
layer_cutset unsquashed c = c
layer_cutset (squashed_after l) c = list_rows (rows_of l) c

-- 'inbound edges newest first; a parent that is exact and not yet listed … is appended'
unfoldable pub frontier_edges : List Edge → List ℕ → Cutset → Cutset
frontier_edges es [] c = c
frontier_edges es (e ∷ rest) c =
    frontier_edges es rest
    (cond ((node_at c.nodes (edge_at es e).from).exact && not (node_at c.nodes (edge_at es e).from).cutset) (list_row (edge_at es e).from c) c)

-- 'rows in order', 'of a node that isn't exact'. 'Deleted nodes count here.'
unfoldable pub frontier_rows : List Edge → List ℕ → Cutset → Cutset
frontier_rows es [] c = c
frontier_rows es (r ∷ rs) c = frontier_rows es rs (cond (node_at c.nodes r).exact c (frontier_edges es (inbound es r) c))

-- 'Frontier: layers from last to first'
unfoldable pub frontier_layers : List Edge → List Range → Cutset → Cutset
frontier_layers es [] c = c
frontier_layers es (l ∷ ls) c = frontier_layers es ls (frontier_rows es (rows_of l) c)

unfoldable pub no_cutset : Diagram → Cutset
no_cutset d = record { nodes = d.nodes; listed = [] }

unfoldable pub cutset_of : CutsetKind → Diagram → Cutset
cutset_of last_exact_layer d = layer_cutset d.last (no_cutset d)
cutset_of frontier d = frontier_layers d.edges d.layers (no_cutset d)

unfoldable pub cutset_for : Mode → CutsetKind → Diagram → Cutset
cutset_for exactly k d = no_cutset d
cutset_for restricted k d = no_cutset d
cutset_for relaxing k d = cutset_of k d
