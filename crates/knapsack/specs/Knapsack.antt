-- The 0/1 knapsack, for which 'the public definition decides': selections, which of them fit a capacity, and the optimum over those.
use Rattle.std.specs.Prelude.{ℕ, ◌+◌, ◌≤◌, ◌≡◌, Bool, true, false, List, [], ◌∷◌, length}
use Rattle.knapsack.specs.Items.{Item, counted}

-- the counted weights of the items that a selection, a Bool for each item, takes
unfoldable pub weight_of : List Item → List Bool → ℕ
weight_of [] sel = 0
weight_of (i ∷ is) [] = 0
weight_of (i ∷ is) (true ∷ sel) = counted i.weight + weight_of is sel
weight_of (i ∷ is) (false ∷ sel) = weight_of is sel

-- the profits of the items that a selection takes
unfoldable pub profit_of : List Item → List Bool → ℕ
profit_of [] sel = 0
profit_of (i ∷ is) [] = 0
profit_of (i ∷ is) (true ∷ sel) = i.profit + profit_of is sel
profit_of (i ∷ is) (false ∷ sel) = profit_of is sel

-- 'weights sum to at most the capacity': a selection that has as many entries as there are items, and fits
pub record SelectionFits (items : List Item) (capacity : ℕ) (sel : List Bool) : Type 0 where
  pub each_item : length sel ≡ length items
  pub in_capacity : weight_of items sel ≤ capacity

-- some selection that fits earns x
pub record Earned (items : List Item) (capacity x : ℕ) : Type 0 where
  pub selection : List Bool
  pub fits : SelectionFits items capacity selection
  pub earns : profit_of items selection ≡ x

-- 'profits to the most': some selection that fits earns x, and no selection that fits earns more
pub record Optimum (items : List Item) (capacity x : ℕ) : Type 0 where
  pub earned : Earned items capacity x
  pub most : (sel : List Bool) → SelectionFits items capacity sel → profit_of items sel ≤ x
