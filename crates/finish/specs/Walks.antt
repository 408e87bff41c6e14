-- What the walk up the best path promises.
use Rattle.std.specs.Prelude.{◌≡◌, Bool, List, ℕ, ◌+◌, ◌<◌, ◌≤◌, length, Option}
use Rattle.diagram.specs.Run.{Mode, is_relaxing}
use Rattle.diagram.specs.Tables.{at}
use Rattle.diagram.specs.After1.{best_node, walk_up, exact_path}
use Rattle.rows.specs.declared.NodeId.{NodeId}
use Rattle.branch.specs.declared.Counts.{Counts}
use Rattle.finish.specs.Terminals.{row_of, Within}
use Rattle.finish.specs.Sits.{Sits}

-- b: the walk up from row r, in as many steps as there are rows up to it and two more, or in any larger number
pub record WalkedUp (ns es : List ℕ) (r : ℕ) (b : Bool) : Type 0 where
  pub does : (k : Counts) (h : Sits k ns es) → r < length h.diagram.nodes → (f : ℕ) → r + 2 ≤ f → b ≡ walk_up f h.diagram.nodes h.diagram.edges (at r)

-- an answer names a row of the diagram, if any
pub record Ranked (ns es : List ℕ) (best : Option NodeId) : Type 0 where
  pub counts : Counts
  pub sits : Sits counts ns es
  pub inside : Within 0 (length sits.diagram.nodes) best

-- b: whether the best path is exact, in a mode that is relaxed or not
pub record PathJudged (ns es : List ℕ) (best : Option NodeId) (relaxed b : Bool) : Type 0 where
  pub does : (k : Counts) (h : Sits k ns es) (m : Mode) → relaxed ≡ is_relaxing m → row_of best ≡ best_node h.diagram → b ≡ exact_path m h.diagram
