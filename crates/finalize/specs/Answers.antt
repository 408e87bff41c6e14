-- What reading values and paths from the finished tables promises.
use Rattle.std.specs.Prelude.{◌≡◌, List, ℕ, ℤ, ◌<◌, ◌≤◌, length, Option, Result}
use Rattle.diagram.specs.Record.{path_room}
use Rattle.diagram.specs.Tables.{Diagram}
use Rattle.diagram.specs.After3.{path_to}
use Rattle.layout.specs.Table.{over}
use Rattle.layout.specs.Rows.{node_table}
use Rattle.calls.specs.Compile.{value_of, path_of}
use Rattle.reasons.specs.Numbers.{numbered}
use Rattle.branch.specs.declared.Counts.{Counts}
use Rattle.rows.specs.declared.NodeId.{NodeId}
use Rattle.finish.specs.Terminals.{row_of, Within}
use Rattle.finish.specs.Sits.{Sits}
use Rattle.finalize.specs.declared.Given.{Given}
use Rattle.finalize.specs.declared.Judged.{Judged}
use Rattle.finalize.specs.declared.Finished.{Finished}
use Rattle.finalize.specs.Standing.{path_before}
use Rattle.finalize.specs.Ended.{value_from}

-- v: the value of best's row, or none
pub record ValueTold (t : List ℕ) (best : Option NodeId) (v : Option ℤ) : Type 0 where
  pub does : (d : Diagram) (old : List ℕ) → t ≡ over (node_table d.nodes) old → Within 0 (length d.nodes) best → v ≡ value_from (value_of d (row_of best))

-- each row's best path, behind the record's path, has room
abbrev pub Roomy : Given → Diagram → Type 0
Roomy given d = (r : ℕ) → r < length d.nodes → length (path_to (path_before given) d r) ≤ path_room

-- The tables hold a diagram whose paths have room, and best names one of its rows, if any.
pub record Walkable (best : Option NodeId) (given : Given) (ns es : List ℕ) : Type 0 where
  pub counts : Counts
  pub sits : Sits counts ns es
  pub inside : Within 0 (length sits.diagram.nodes) best
  pub roomy : Roomy given sits.diagram
  pub depth_in : given.depth ≤ 64

-- p: the path to best's row in its 64 places, or all of them 0
pub record PathTold (best : Option NodeId) (given : Given) (ns es p : List ℕ) : Type 0 where
  pub does : (k : Counts) (h : Sits k ns es) → Within 0 (length h.diagram.nodes) best → p ≡ path_of (path_before given) h.diagram (row_of best)

-- both for the best node and for the best exact node
pub record Answerable (j : Judged) (given : Given) (ns es : List ℕ) : Type 0 where
  pub best : Walkable j.best given ns es
  pub best_exact_lem : Walkable j.best_exact given ns es

pub record AnswerOf (d : Diagram) (j : Judged) (given : Given) (r : Result ℕ ℕ) (f : Finished) : Type 0 where
  pub exact_is : f.exact ≡ j.exact
  pub best_is : f.best ≡ value_from (value_of d (row_of j.best))
  pub path_is : f.path ≡ path_of (path_before given) d (row_of j.best)
  pub best_exact_is : f.best_exact ≡ value_from (value_of d (row_of j.best_exact))
  pub exact_path_is : f.exact_path ≡ path_of (path_before given) d (row_of j.best_exact)
  pub drained_is : numbered f.drained ≡ r

pub record Answered (j : Judged) (given : Given) (r : Result ℕ ℕ) (ns es : List ℕ) (f : Finished) : Type 0 where
  pub does : (k : Counts) (h : Sits k ns es) → Within 0 (length h.diagram.nodes) j.best → Within 0 (length h.diagram.nodes) j.best_exact → AnswerOf h.diagram j given r f
