-- 'After the last layer', paths: 'A path lists the record's path, then new decisions from bottom to top.'
use Rattle.std.specs.Prelude.{List, [], ◌∷◌, ◌++◌, ℕ, zero, suc, length}
use Rattle.diagram.specs.Node.{Node, Edge, node_at, edge_at}
use Rattle.diagram.specs.Tables.{Diagram}

-- the decisions from a best edge (0 for none) upwards, in at most that many steps
unfoldable pub decisions_up : ℕ → List Node → List Edge → ℕ → List ℕ
decisions_up zero ns es e = []
decisions_up (suc f) ns es zero = []
decisions_up (suc f) ns es (suc e) = (edge_at es e).decision ∷ decisions_up f ns es (node_at ns (edge_at es e).from).best

-- The best path to row r, behind the record's path. A parent's row is the smaller one, so as many steps as there are rows are enough.
unfoldable pub path_to : List ℕ → Diagram → ℕ → List ℕ
path_to record_path d r = record_path ++ decisions_up (length d.nodes) d.nodes d.edges (node_at d.nodes r).best
