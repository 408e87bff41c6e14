-- What writing a best path out promises.
use Rattle.std.specs.Prelude.{◌≡◌, List, ℕ, ◌<◌, ◌≤◌, length}
use Rattle.diagram.specs.Record.{path_room, padded}
use Rattle.diagram.specs.After3.{path_to}
use Rattle.branch.specs.declared.Counts.{Counts}
use Rattle.finish.specs.declared.Path.{Path}
use Rattle.finish.specs.Sits.{Sits, Row}

-- the best path to row r, behind a record's path, has room
pub record PathFits (ns es : List ℕ) (r : ℕ) (record_path : List ℕ) : Type 0 where
  pub row : Row ns es r
  pub room : length (path_to record_path row.sits.diagram r) ≤ path_room

-- p is that path: its bytes, 0 in the places past them, and how many they are
pub record PathWritten (ns es : List ℕ) (r : ℕ) (record_path : List ℕ) (p : Path) : Type 0 where
  pub does : (k : Counts) (h : Sits k ns es) → r < length h.diagram.nodes → (p.bytes ≡ padded (path_to record_path h.diagram r)) × (p.len ≡ length (path_to record_path h.diagram r))
