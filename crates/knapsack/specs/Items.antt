-- The blocks to choose from, as items with a weight and a profit, and the bytes that decisions on them are written as.
use Rattle.std.specs.Prelude.{ℕ, ◌+◌, ◌*◌, ◌/◌, ◌%◌, Bool, List, [], ◌∷◌, eqb}

-- 'Weights, profits and every capacity start at 0.' An item is item d by its place d in a list.
pub record Item : Type 0 where
  pub weight : ℕ
  pub profit : ℕ

-- past the last item
abbrev pub no_item : Item
no_item = record { weight = 0; profit = 0 }

-- 'Item d, in given order': weights and profits side by side, as far as both go
unfoldable pub items_of : List ℕ → List ℕ → List Item
items_of [] ps = []
items_of (w ∷ ws) [] = []
items_of (w ∷ ws) (p ∷ ps) = record { weight = w; profit = p } ∷ items_of ws ps

-- 'A weight is the block's own byte length.' What a weight counts as: every sum and every test of what fits goes through this one name, while the limits of refusal 4 read the weight itself.
unfoldable pub counted : ℕ → ℕ
counted w = w

-- 'A decision is one byte: 2 × item + 1 for take': the byte that takes item d
unfoldable pub takes : ℕ → ℕ
takes d = 2 * d + 1

-- '2 × item for skip': the byte that skips item d
unfoldable pub skips : ℕ → ℕ
skips d = 2 * d

-- the item that byte b decides
unfoldable pub item_of : ℕ → ℕ
item_of b = b / 2

-- 'Its value in the Rust is 1 for take, 0 for skip': whether byte b takes its item
unfoldable pub is_take : ℕ → Bool
is_take b = eqb (b % 2) 1
