-- What finding the best node, the best exact node and exactness promises.
use Rattle.std.specs.Prelude.{◌≡◌, Bool, cond, List, ℕ, ◌-◌, ◌≤◌, length, Option}
use Rattle.diagram.specs.Node.{Node}
use Rattle.diagram.specs.Run.{Mode, is_relaxing}
use Rattle.diagram.specs.Tables.{Diagram, rows_from}
use Rattle.diagram.specs.After1.{best_of, best_node, best_exact_node}
use Rattle.diagram.specs.After2.{is_exact}
use Rattle.layout.specs.Table.{over}
use Rattle.layout.specs.Rows.{node_table}
use Rattle.branch.specs.declared.Counts.{Counts}
use Rattle.layers.specs.declared.Layer.{Layer}
use Rattle.layers.specs.Stored.{last_of}
use Rattle.rows.specs.declared.NodeId.{NodeId}
use Rattle.finish.specs.Terminals.{row_of, Within}
use Rattle.finish.specs.Sits.{Sits}
use Rattle.finalize.specs.declared.Judged.{Judged}

-- b: the best node where the walk succeeded, else the best of the exact rows from start to count
pub record BestExactFound (t : List ℕ) (start count : ℕ) (best : Option NodeId) (walked : Bool) (b : Option NodeId) : Type 0 where
  pub does : (ns : List Node) (old : List ℕ) → t ≡ over (node_table ns) old → count ≤ length ns → row_of b ≡ cond walked (row_of best) (best_of (λ n. n.exact) ns (rows_from start (count - start)))
  pub inside : Within start count best → Within start count b

-- The tables hold a diagram of so many rows, whose terminals begin at row start.
pub record Judgeable (start count : ℕ) (ns es : List ℕ) : Type 0 where
  pub counts : Counts
  pub sits : Sits counts ns es
  pub start_is : start ≡ sits.diagram.start
  pub count_is : count ≡ length sits.diagram.nodes

-- the definition's verdict on diagram d
pub record Judgement (m : Mode) (d : Diagram) (j : Judged) : Type 0 where
  pub exact_is : j.exact ≡ is_exact m d
  pub best_is : row_of j.best ≡ best_node d
  pub best_exact_is : row_of j.best_exact ≡ best_exact_node m d

pub record Judges (start count : ℕ) (last : Option Layer) (relaxed : Bool) (ns es : List ℕ) (j : Judged) : Type 0 where
  pub does : (k : Counts) (h : Sits k ns es) (m : Mode) → start ≡ h.diagram.start → count ≡ length h.diagram.nodes → last_of last ≡ h.diagram.last → relaxed ≡ is_relaxing m → Judgement m h.diagram j
  pub best_in : Within start count j.best
  pub best_exact_in : Within start count j.best_exact
