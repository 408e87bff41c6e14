-- The best node as the code answers it, and what finding it promises.
use Rattle.std.specs.Prelude.{◌≡◌, Bool, true, false, cond, List, ℕ, ◌+◌, ◌-◌, ◌*◌, ◌<◌, ◌≤◌, length, Option, Some, None}
use Rattle.diagram.specs.Node as Def
use Rattle.diagram.specs.Node.{node_at}
use Rattle.diagram.specs.Tables.{Found, at, nowhere, rows_from}
use Rattle.diagram.specs.After1.{better, best_of}
use Rattle.layout.specs.Table.{over}
use Rattle.layout.specs.Rows.{node_words, node_table}
use Rattle.rows.specs.declared.NodeId.{NodeId}

-- the row that an answer names
abbrev pub row_of : Option NodeId → Found
row_of (Some n) = at n.0
row_of None = nowhere

-- an answer's row is one of lo .. hi
abbrev pub Within : ℕ → ℕ → Option NodeId → Type 0
Within lo hi (Some n) = (lo ≤ n.0) × (n.0 < hi)
Within lo hi None = Unit {0}

-- a table of so many words has an answer's row
abbrev pub Readable : ℕ → Option NodeId → Type 0
Readable words (Some n) = n.0 * node_words + node_words ≤ words
Readable words None = Unit {0}

-- all rows, or the exact ones
abbrev pub among : Bool → Def.Node → Bool
among true = λ n. n.exact
among false = λ n. true

-- one row's turn in `best_of`
abbrev pub with_row : (Def.Node → Bool) → List Def.Node → ℕ → Found → Found
with_row kind ns r behind = cond (kind (node_at ns r)) (better ns r behind) behind

-- row r beside the best of the rows behind it gives b
pub record Bettered (t : List ℕ) (r : ℕ) (behind : Option NodeId) (exact_only : Bool) (b : Option NodeId) : Type 0 where
  pub does : (ns : List Def.Node) (old : List ℕ) → t ≡ over (node_table ns) old → r < length ns → Within 0 (length ns) behind → row_of b ≡ with_row (among exact_only) ns r (row_of behind)
  pub inside : (lo hi : ℕ) → lo ≤ r → r < hi → Within lo hi behind → Within lo hi b

-- b is the best of the rows from start to count
pub record BestFound (t : List ℕ) (start count : ℕ) (exact_only : Bool) (b : Option NodeId) : Type 0 where
  pub does : (ns : List Def.Node) (old : List ℕ) → t ≡ over (node_table ns) old → count ≤ length ns → row_of b ≡ best_of (among exact_only) ns (rows_from start (count - start))
  pub inside : Within start count b
