-- The fast bound of a state, of the items left and the capacity left, and the sum of all profits, which it never passes.
use Rattle.std.specs.Prelude.{ℕ, ◌+◌, cond, List, [], ◌∷◌, leb}
use Rattle.knapsack.specs.Items.{Item, counted}

-- 'the sum of profits of items d and later whose own weight is at most the capacity left'
unfoldable pub fast_bound : List Item → ℕ → ℕ
fast_bound [] capacity = 0
fast_bound (i ∷ is) capacity = cond (leb (counted i.weight) capacity) i.profit 0 + fast_bound is capacity

-- the sum of all profits, whatever the weights
unfoldable pub total_profit : List Item → ℕ
total_profit [] = 0
total_profit (i ∷ is) = i.profit + total_profit is
