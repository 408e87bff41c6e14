-- What clearing the cutset flags promises.
use Rattle.std.specs.Prelude.{◌≡◌, List, ℕ, length}
use Rattle.diagram.specs.Node.{Node}
use Rattle.layout.specs.Table.{over}
use Rattle.layout.specs.Rows.{node_table}
use Rattle.cutset.specs.Views.{uncuts}

-- table t of count rows becomes u when the flags of all of them are cleared
pub record Cleared (t : List ℕ) (count : ℕ) (u : List ℕ) : Type 0 where
  pub does : (ns : List Node) (old : List ℕ) → t ≡ over (node_table ns) old → count ≡ length ns → u ≡ over (node_table (uncuts ns)) old
