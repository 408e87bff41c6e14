-- What a call is given: a block problem, how to compile it, and a record, each number in a type that can exceed its limit.
use Rattle.std.specs.Prelude.{List, ℕ, ℤ}
use Rattle.words.specs.I64.{word}
use Rattle.knapsack.specs.Items.{Item}
unfoldable pub use Rattle.knapsack.specs.Items.{items_of}
use Rattle.diagram.specs.Record.{Record}

-- Weights and profits as two lists, the page capacity and the width.
pub record Problem : Type 0 where
  pub weights : List ℕ
  pub profits : List ℕ
  pub page : ℕ
  pub width : ℕ

-- 'Item d, in given order'
abbrev pub items_in : Problem → List Item
items_in p = items_of p.weights p.profits

-- A record as it is handed in: value and bound are i64, the path is bytes of any number.
pub record Given : Type 0 where
  pub capacity : ℕ
  pub value : ℤ
  pub bound : ℤ
  pub depth : ℕ
  pub path : List ℕ

-- the record that the diagram starts from: its i64 numbers as words
unfoldable pub record_of : Given → Record
record_of g = record { capacity = g.capacity; value = word g.value; bound = word g.bound; depth = g.depth; path = g.path }
