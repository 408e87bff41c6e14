-- 'After the last layer', best node and best exact node, with the walk up the best path.
use Rattle.std.specs.Prelude.{Bool, true, false, not, cond, ◌&&◌, ◌||◌, List, [], ◌∷◌, ℕ, zero, suc, length}
use Rattle.diagram.specs.Node.{Node, Edge, node_at, edge_at}
use Rattle.diagram.specs.Tables.{Diagram, Found, at, nowhere, rows_of, coming}
use Rattle.diagram.specs.Run.{Mode, exactly, restricted, relaxing}
use Rattle.diagram.specs.Rule6.{by_squash}

-- The terminals: the rows of the coming layer once no items remain. A run that died out has none.
unfoldable pub terminals : Diagram → List ℕ
terminals d = rows_of (coming d)

-- 'the terminal of largest value; of equal ones, the largest capacity': of two, the one that is first in that order
unfoldable pub better : List Node → ℕ → Found → Found
better ns r nowhere = at r
better ns r (at q) = cond (by_squash ns r q) (at r) (at q)

unfoldable pub best_of : (Node → Bool) → List Node → List ℕ → Found
best_of among ns [] = nowhere
best_of among ns (r ∷ rs) = cond (among (node_at ns r)) (better ns r (best_of among ns rs)) (best_of among ns rs)

unfoldable pub best_node : Diagram → Found
best_node d = best_of (λ n. true) d.nodes (terminals d)

-- the row above: the parent over the best edge, if there is one
unfoldable pub parent_by : List Edge → ℕ → Found
parent_by es zero = nowhere
parent_by es (suc e) = at (edge_at es e).from

-- 'the best path, walked upwards, meets an exact node before any relaxed one (or there is no terminal)'. A parent's row is the
-- smaller one, so as many steps as there are rows, and one more, are enough.
unfoldable pub walk_up : ℕ → List Node → List Edge → Found → Bool
walk_up zero ns es r = false
walk_up (suc f) ns es nowhere = true
walk_up (suc f) ns es (at r) = (node_at ns r).exact || (not (node_at ns r).relaxed && walk_up f ns es (parent_by es (node_at ns r).best))

-- 'If the mode is relaxed and …'
unfoldable pub exact_path : Mode → Diagram → Bool
exact_path exactly d = false
exact_path restricted d = false
exact_path relaxing d = walk_up (suc (length d.nodes)) d.nodes d.edges (best_node d)

-- 'Best exact node: the same among exact terminals'; where that walk succeeds, 'the best exact node is the best node'
unfoldable pub best_exact_node : Mode → Diagram → Found
best_exact_node m d = cond (exact_path m d) (best_node d) (best_of (λ n. n.exact) d.nodes (terminals d))
