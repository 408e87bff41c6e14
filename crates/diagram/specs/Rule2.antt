-- Rule 2: layer after layer, item after item, until none remain or a layer is empty.
use Rattle.std.specs.Prelude.{Bool, true, false, List, [], ◌∷◌, ℕ, suc, leb, ltb, length, drop}
use Rattle.knapsack.specs.Items.{Item}
use Rattle.diagram.specs.Record.{Record}
use Rattle.diagram.specs.Node.{Node, node_at}
use Rattle.diagram.specs.Tables.{Diagram, rows_of, coming}
use Rattle.diagram.specs.Run.{Settings, Run, going, stopped, and_then, only_if}
use Rattle.diagram.specs.Rule1.{rooted}
use Rattle.diagram.specs.Rule3.{expand_all}
use Rattle.diagram.specs.Rule5.{squash}
use Rattle.diagram.specs.Rule6.{sort_by, Squashed, layer, halted}

-- 'order it by larger capacity first'
unfoldable pub by_capacity : List Node → ℕ → ℕ → Bool
by_capacity ns a b = leb (node_at ns b).capacity (node_at ns a).capacity

unfoldable pub ordered : Diagram → List ℕ
ordered d = sort_by (by_capacity d.nodes) (rows_of (coming d))

-- 'store its row range': the coming layer is now the newest stored one, and the next rows are the coming layer's
unfoldable pub store : Diagram → Diagram
store d = record { nodes = d.nodes; edges = d.edges; layers = coming d ∷ d.layers; last = d.last; start = length d.nodes }

-- 'stop if the coming layer is empty (the Rust then stores the layer 0..0)'
unfoldable pub store_empty : Diagram → Diagram
store_empty d = record { nodes = d.nodes; edges = d.edges; layers = record { lo = 0; hi = 0 } ∷ d.layers; last = d.last; start = d.start }

-- 'When none remain, a coming layer with nodes is stored as it stands.' Its rows are the terminals: they stay the coming layer.
unfoldable pub store_last : Bool → Diagram → Diagram
store_last true d = record { nodes = d.nodes; edges = d.edges; layers = coming d ∷ d.layers; last = d.last; start = d.start }
store_last false d = d

unfoldable pub has_rows : Diagram → Bool
has_rows d = ltb d.start (length d.nodes)

-- a squashed layer is stored, then expanded in its order
unfoldable pub expand_squashed : Squashed → Settings → List Item → Item → ℕ → Run
expand_squashed (layer d rows) s left i k = expand_all s left i k rows (store d)
expand_squashed (halted n d) s left i k = stopped n d

unfoldable pub layer_step : Settings → List Item → Item → ℕ → Diagram → Run
layer_step s left i k d = expand_squashed (squash s.mode s (ordered d) d) s left i k

-- 'While items remain: stop if the coming layer is empty … Else order it …, squash it, store its row range', and expand it (rule 3).
unfoldable pub grow : Settings → List Item → ℕ → Diagram → Run
grow s [] k d = going (store_last (has_rows d) d)
grow s (i ∷ is) k d =
    only_if (has_rows d) (and_then (layer_step s (i ∷ is) i k d) (λ e. grow s is (suc k) e)) (store_empty d)

-- The whole growth of a record's diagram: 'Item d, in given order, is decided at depth d.'
unfoldable pub grown : Settings → List Item → Record → Run
grown s items r = and_then (rooted s r) (λ d. grow s (drop r.depth items) r.depth d)
