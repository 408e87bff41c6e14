-- The call `compile`: its answer, and the node table, edge table and record list after it, for every input and every old content.
use Rattle.std.specs.Prelude.{Bool, true, false, List, [], reverse, ℕ, ◌/◌, leb, ℤ, length}
use Rattle.std.proofs.Math.Option.{Option, none, some}
use Rattle.words.specs.I64.{word, number}
use Rattle.diagram.specs.Record.{Record, padded}
use Rattle.diagram.specs.Node.{node_at}
use Rattle.diagram.specs.Tables.{Range, Diagram, Found, at, nowhere}
use Rattle.diagram.specs.Run.{Mode, Settings}
use Rattle.diagram.specs.After3.{path_to}
use Rattle.diagram.specs.After4.{CutsetKind}
use Rattle.diagram.specs.After6.{Outcome, drained, Answer as Ran, refused as stopped_at, finished, run}
use Rattle.layout.specs.Table.{over}
use Rattle.layout.specs.Rows.{node_words, edge_words, node_table, edge_table}
use Rattle.layout.specs.Records.{record_words, record_table}
use Rattle.calls.specs.Asked.{Problem, Given, items_of, record_of}
use Rattle.calls.specs.Refusals.{compile_refusal}

-- What a compile is asked.
pub record Request : Type 0 where
  pub problem : Problem
  pub mode : Mode
  pub kind : CutsetKind
  pub lower : ℤ
  pub given : Given

-- What is lent: node table, edge table and record list, as words.
pub record Lent : Type 0 where
  pub nodes : List ℕ
  pub edges : List ℕ
  pub records : List ℕ

-- How many whole rows and records that is: 'a fixed count to a row', so words behind the last whole row are no row.
pub record Rooms : Type 0 where
  pub nodes : ℕ
  pub edges : ℕ
  pub records : ℕ

unfoldable pub rooms_of : Lent → Rooms
rooms_of l =
    record { nodes = length l.nodes / node_words; edges = length l.edges / edge_words; records = length l.records / record_words }

-- What an accepted compile answers. A path has 64 places: without a value all are 0, and places past a path are 0.
pub record Compiled : Type 0 where
  pub exact : Bool
  pub best : Option ℤ
  pub path : List ℕ
  pub best_exact : Option ℤ
  pub exact_path : List ℕ
  pub node_count : ℕ
  pub edge_count : ℕ
  pub drained_count : ℕ
  pub layers : List Range

-- 'A refusing compile gives its number alone.'
pub data Answer : Type 0 where
  refused : ℕ → Answer
  compiled : Compiled → Answer

-- What a call does: its answer, the words that it writes from each table's start on, and the records that it drains from the list's start on.
pub record Effect : Type 0 where
  pub answer : Answer
  pub nodes : List ℕ
  pub edges : List ℕ
  pub drained : List Record

unfoldable pub settings_of : Request → Rooms → Settings
settings_of q m =
    record { mode = q.mode; width = q.problem.width; lower = word q.lower; node_room = m.nodes; edge_room = m.edges }

unfoldable pub run_of : Request → Rooms → Ran
run_of q m =
    run (settings_of q m) q.kind (items_of q.problem.weights q.problem.profits) (record_of q.given)

-- the value of a node, or none
unfoldable pub value_of : Diagram → Found → Option ℤ
value_of d nowhere = none
value_of d (at r) = some (number (node_at d.nodes r).value)

-- the path to a node in its 64 places, or all of them 0
unfoldable pub path_of : List ℕ → Diagram → Found → List ℕ
path_of record_path d nowhere = padded []
path_of record_path d (at r) = padded (path_to record_path d r)

unfoldable pub compiled_of : List ℕ → Outcome → Compiled
compiled_of record_path o =
    record {
      exact = o.exact;
      best = value_of o.diagram o.best;
      path = path_of record_path o.diagram o.best;
      best_exact = value_of o.diagram o.best_exact;
      exact_path = path_of record_path o.diagram o.best_exact;
      node_count = length o.diagram.nodes;
      edge_count = length o.diagram.edges;
      drained_count = length (drained record_path o);
      layers = reverse o.diagram.layers;
    }

-- an answer, a diagram's rows, and records
unfoldable pub effect : Answer → Diagram → List Record → Effect
effect a d rs = record { answer = a; nodes = node_table d.nodes; edges = edge_table d.edges; drained = rs }

-- 13 'more records are drained than the record list holds'; 'After 13 the tables hold the finished diagram', the list is unchanged.
unfoldable pub drain_into : Bool → List ℕ → Outcome → Effect
drain_into true record_path o = effect (compiled (compiled_of record_path o)) o.diagram (drained record_path o)
drain_into false record_path o = effect (refused 13) o.diagram []

-- For 10 to 12 'node and edge tables then hold what was written before'; the record list stays.
unfoldable pub effect_of : List ℕ → ℕ → Ran → Effect
effect_of record_path record_room (stopped_at n d) = effect (refused n) d []
effect_of record_path record_room (finished o) = drain_into (leb (length (drained record_path o)) record_room) record_path o

-- '1 to 9 … write nothing.'
unfoldable pub unless : Option ℕ → Effect → Effect
unless (some n) e = record { answer = refused n; nodes = []; edges = []; drained = [] }
unless none e = e

-- The effect of a compile comes from what it is asked and from how much is lent; what the tables held doesn't enter.
unfoldable pub compile_effect : Request → Rooms → Effect
compile_effect q m = unless (compile_refusal q.problem q.given) (effect_of q.given.path m.records (run_of q m))

-- The answer with what is then in the lent tables.
pub record After : Type 0 where
  pub answer : Answer
  pub lent : Lent

-- 'Rows and list places beyond a run's own stay unchanged'
unfoldable pub after : Effect → Lent → After
after e l =
    record {
      answer = e.answer;
      lent = record { nodes = over e.nodes l.nodes; edges = over e.edges l.edges; records = over (record_table e.drained) l.records };
    }

unfoldable pub compile : Request → Lent → After
compile q l = after (compile_effect q (rooms_of l)) l
