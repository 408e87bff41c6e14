-- Rule 3: 'set the fast bound; branch only if value plus bound is strictly above the lower bound'.
use Rattle.std.specs.Prelude.{List, [], ◌∷◌, ℕ, ◌+◌, ◌-◌, leb, ltb}
use Rattle.words.specs.I64.{mid, sat_add}
use Rattle.knapsack.specs.Items.{Item, counted, takes, skips}
use Rattle.knapsack.specs.FastBound.{fast_bound}
use Rattle.diagram.specs.Node.{Node, node_at, update, with_fast}
use Rattle.diagram.specs.Tables.{Diagram, with_nodes}
use Rattle.diagram.specs.Run.{Settings, Run, going, and_then, only_if}
use Rattle.diagram.specs.Rule4.{branch_on}

-- 'Decisions are tried take first (only if the weight fits), then skip. Take costs the profit, skip costs 0.' Item i stands at
-- depth k; row p has that capacity left.
unfoldable pub branch_take : Settings → Item → ℕ → ℕ → ℕ → Diagram → Run
branch_take s i k p capacity d =
    only_if (leb (counted i.weight) capacity) (branch_on s p (takes k) i.profit (capacity - counted i.weight) d) d

unfoldable pub branch_both : Settings → Item → ℕ → ℕ → ℕ → Diagram → Run
branch_both s i k p capacity d = and_then (branch_take s i k p capacity d) (λ e. branch_on s p (skips k) 0 capacity e)

-- 'set the fast bound': of row p, with the items left
unfoldable pub note_fast : List Item → ℕ → Diagram → Diagram
note_fast left p d = with_nodes d (update (with_fast (mid + fast_bound left (node_at d.nodes p).capacity)) d.nodes p)

-- 'value plus bound'
unfoldable pub reach : List Item → ℕ → List Node → ℕ
reach left p ns = sat_add (node_at ns p).value (mid + fast_bound left (node_at ns p).capacity)

-- row p is expanded: item i is the first of the items left
unfoldable pub expand : Settings → List Item → Item → ℕ → Diagram → ℕ → Run
expand s left i k d p =
    only_if (ltb s.lower (reach left p d.nodes)) (branch_both s i k p (node_at d.nodes p).capacity (note_fast left p d)) (note_fast left p d)

-- the rows in the order given
unfoldable pub expand_all : Settings → List Item → Item → ℕ → List ℕ → Diagram → Run
expand_all s left i k [] d = going d
expand_all s left i k (p ∷ ps) d = and_then (expand s left i k d p) (λ e. expand_all s left i k ps e)
