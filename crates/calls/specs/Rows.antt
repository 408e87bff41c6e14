-- 'Refusal numbers', 1 to 9: what each row of document 01's table says, in the document's words and order.
use Rattle.std.specs.Prelude.{◌≡◌, ◌⊎◌, ◌≢◌, cond, ℕ, ◌+◌, ◌<◌, eqb, pos, length, get_or}
use mathlib.Core.List.{List, [], ◌∷◌, Memᴰ}
use Rattle.knapsack.specs.Items.{Item, no_item, counted, item_of, is_take}
use Rattle.calls.specs.Asked.{Problem, Given, items_of}

-- 1 'weights and profits differ in number'
abbrev pub Row1 : Problem → Type 0
Row1 p = length p.weights ≢ length p.profits

-- 2 'more than 64 items'
abbrev pub Row2 : Problem → Type 0
Row2 p = 64 < length p.weights

-- 3 'capacity above 65,535'
abbrev pub Row3 : Problem → Type 0
Row3 p = 65535 < p.page

-- 4 'a weight above 65,535'
abbrev pub Row4 : Problem → Type 0
Row4 p = (w : ℕ) × Memᴰ w p.weights × (65535 < w)

-- 5 'a profit above 1,000,000'
abbrev pub Row5 : Problem → Type 0
Row5 p = (q : ℕ) × Memᴰ q p.profits × (1000000 < q)

-- 6 'width 0 or above 256, in any mode'
abbrev pub Row6 : Problem → Type 0
Row6 p = (p.width ≡ 0) ⊎ (256 < p.width)

-- 7 'depth above the item count, or path length other than depth'
abbrev pub Row7 : Problem → Given → Type 0
Row7 p r = (length p.weights < r.depth) ⊎ (length r.path ≢ r.depth)

-- how often the path names item d
unfoldable pub namings : ℕ → List ℕ → ℕ
namings d [] = 0
namings d (b ∷ bs) = cond (eqb (item_of b) d) 1 0 + namings d bs

-- 8 'the path doesn't name each item below depth exactly once'
abbrev pub Row8 : Problem → Given → Type 0
Row8 p r = (d : ℕ) × (d < r.depth) × (namings d r.path ≢ 1)

-- 'taken weights' and 'taken profits' of a path's bytes: sums without a limit
unfoldable pub taken_weight : List Item → List ℕ → ℕ
taken_weight items [] = 0
taken_weight items (b ∷ bs) = cond (is_take b) (counted (get_or items (item_of b) no_item).weight) 0 + taken_weight items bs

unfoldable pub taken_profit : List Item → List ℕ → ℕ
taken_profit items [] = 0
taken_profit items (b ∷ bs) = cond (is_take b) (get_or items (item_of b) no_item).profit 0 + taken_profit items bs

-- 9 'taken weights plus capacity left differ from the page capacity, or taken profits from the value'
abbrev pub Row9 : Problem → Given → Type 0
Row9 p r =
    (taken_weight (items_of p.weights p.profits) r.path + r.capacity ≢ p.page)
    ⊎ (pos (taken_profit (items_of p.weights p.profits) r.path) ≢ r.value)
