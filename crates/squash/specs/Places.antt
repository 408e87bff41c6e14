-- The layer's rows in the lent list, and what changing one row, restricting and the two scans promise, of any rows that the node table holds.
use Rattle.std.specs.Prelude.{◌≡◌, ℕ, ◌+◌, ◌*◌, ◌<◌, ◌≤◌, length, drop, Option, Some, None}
use mathlib.Core.List.{List, Memᴰ}
use Rattle.diagram.specs.Node.{Node, update}
use Rattle.diagram.specs.Tables as Def
use Rattle.diagram.specs.Rule6.{delete_all, merged_capacity, twin_of}
use Rattle.layout.specs.Table.{over}
use Rattle.layout.specs.Rows.{node_words, node_table}
use Rattle.rows.specs.declared.NodeId.{NodeId}

-- every row of the list is one of the first n
abbrev pub Under : ℕ → List ℕ → Type 0
Under n rows = (r : ℕ) → Memᴰ r rows → r < n

-- the rows lie whole in the node table t
pub record Placed (rows t : List ℕ) : Type 0 where
  pub inside : (r : ℕ) → Memᴰ r rows → r * node_words + node_words ≤ length t

-- table t becomes u when row r is changed by f
pub record RowChanged (f : Node → Node) (t : List ℕ) (r : ℕ) (u : List ℕ) : Type 0 where
  pub does : (ns : List Node) (old : List ℕ) → t ≡ over (node_table ns) old → r < length ns → u ≡ over (node_table (update f ns r)) old

-- table t becomes u when the rows behind the first width ones are flagged deleted
pub record Restricted (width : ℕ) (rows t u : List ℕ) : Type 0 where
  pub does : (ns : List Node) (old : List ℕ) → t ≡ over (node_table ns) old → Under (length ns) rows → u ≡ over (node_table (delete_all ns (drop width rows))) old

-- c is the largest capacity of the rows
pub record CapacityMerged (rows t : List ℕ) (c : ℕ) : Type 0 where
  pub is_merged : (ns : List Node) (old : List ℕ) → t ≡ over (node_table ns) old → Under (length ns) rows → c ≡ merged_capacity ns rows

abbrev pub found_of : Option NodeId → Def.Found
found_of (Some r) = Def.at r.0
found_of None = Def.nowhere

-- f is the first of the rows with that capacity
pub record TwinFound (capacity : ℕ) (rows t : List ℕ) (f : Option NodeId) : Type 0 where
  pub is_twin : (ns : List Node) (old : List ℕ) → t ≡ over (node_table ns) old → Under (length ns) rows → found_of f ≡ twin_of ns capacity rows
