-- 'Refusal numbers', 10 to 13: what each row of document 01's table says of a request's run in the rooms that are lent.
use Rattle.std.specs.Prelude.{◌≡◌, ℕ, ◌<◌, length}
use Rattle.diagram.specs.Tables.{Diagram}
use Rattle.diagram.specs.After6.{Outcome, drained, refused as stopped_at, finished}
use Rattle.calls.specs.Compile.{Request, Rooms, run_of}

-- the run stops with number n
abbrev pub StopsWith : ℕ → Request → Rooms → Type 0
StopsWith n q m = (d : Diagram) × (run_of q m ≡ stopped_at n d)

-- 10 'the run makes a 1,025th node in one layer': before that node is written the run stops (rules 4 and 6)
abbrev pub Row10 : Request → Rooms → Type 0
Row10 q m = StopsWith 10 q m

-- 11 'the run needs a node row (11) … more than lent'
abbrev pub Row11 : Request → Rooms → Type 0
Row11 q m = StopsWith 11 q m

-- 12 'the run needs … edge row (12) more than lent'
abbrev pub Row12 : Request → Rooms → Type 0
Row12 q m = StopsWith 12 q m

-- 13 'more records are drained than the record list holds'
abbrev pub Row13 : Request → Rooms → Type 0
Row13 q m = (o : Outcome) × (run_of q m ≡ finished o) × (m.records < length (drained q.given.path o))
