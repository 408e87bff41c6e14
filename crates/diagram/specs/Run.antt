-- How a run goes on or stops: 'For 10 to 12 the run's first unmet need decides, …; node and edge tables then hold what was written before'.
use Rattle.std.specs.Prelude.{Bool, true, false, ℕ}
use Rattle.diagram.specs.Tables.{Diagram}

-- 'compilation in three modes (exact, restricted, relaxed)'
pub data Mode : Type 0 where
  exactly restricted relaxing : Mode

abbrev pub is_relaxing : Mode → Bool
is_relaxing exactly = false
is_relaxing restricted = false
is_relaxing relaxing = true

-- What a run is told beside its items and its record: mode, width, lower bound (an i64, as a word), and the rows lent.
pub record Settings : Type 0 where
  pub mode : Mode
  pub width : ℕ
  pub lower : ℕ
  pub node_room : ℕ
  pub edge_room : ℕ

-- A run that goes on, or that stopped at a refusal's number with the tables as they were.
pub data Run : Type 0 where
  going : Diagram → Run
  stopped : ℕ → Diagram → Run

abbrev pub and_then : Run → (Diagram → Run) → Run
and_then (going d) f = f d
and_then (stopped n d) f = stopped n d

-- the run r where the need is met; else it stops with number n and the tables d
unfoldable pub need : Bool → ℕ → Diagram → Run → Run
need true n d r = r
need false n d r = stopped n d

-- the run r where the test holds; else d as it is
unfoldable pub only_if : Bool → Run → Diagram → Run
only_if true r d = r
only_if false r d = going d

-- 'the run makes a 1,025th node in one layer'
abbrev pub layer_room : ℕ
layer_room = 1024
