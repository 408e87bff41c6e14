-- The best completion: the most profit that the items left earn within the capacity left, by recursion on the items.
use Rattle.std.specs.Prelude.{ℕ, ◌+◌, ◌-◌, max, cond, List, [], ◌∷◌, leb}
use Rattle.knapsack.specs.Items.{Item, counted}

-- the better of the two decisions: 'take … (only if the weight fits), then skip. Take costs the profit, skip costs 0.'
unfoldable pub best : List Item → ℕ → ℕ
best [] capacity = 0
best (i ∷ is) capacity =
    cond (leb (counted i.weight) capacity)
    (max (i.profit + best is (capacity - counted i.weight)) (best is capacity))
    (best is capacity)
