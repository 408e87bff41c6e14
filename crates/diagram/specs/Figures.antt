-- How a run's answer and tables are shown in the figures: i64 numbers as themselves, flags by their letters.
use Rattle.std.specs.Prelude.{Bool, cond, List, [], ◌∷◌, ◌++◌, map, ℕ, ℤ, length}
use Rattle.std.proofs.Math.Option.{Option, none, some}
use Rattle.words.specs.I64.{i64_min, i64_max, word, number}
use Rattle.knapsack.specs.Items.{Item}
use Rattle.diagram.specs.Record.{Record, root_record}
use Rattle.diagram.specs.Node.{Node, Edge, node_at}
use Rattle.diagram.specs.Tables.{Range, Diagram, Found, at, nowhere}
use Rattle.diagram.specs.Run.{Mode}
use Rattle.diagram.specs.After3.{path_to}
use Rattle.diagram.specs.After4.{CutsetKind}
use Rattle.diagram.specs.After6.{drained, Answer, refused, finished, run}

-- a record: capacity, value, bound, depth, path
pub data ShownRecord : Type 0 where
  shown : ℕ → ℤ → ℤ → ℕ → List ℕ → ShownRecord

-- an answer: a refusal with the counts of rows written before it; or exactness, best value and path, best exact value and path,
-- node count, edge count, drained records
pub data Shown : Type 0 where
  refusal : ℕ → ℕ → ℕ → Shown
  answer : Bool → Option ℤ → List ℕ → Option ℤ → List ℕ → ℕ → ℕ → List ShownRecord → Shown

unfoldable pub show_record : Record → ShownRecord
show_record r = shown r.capacity (number r.value) (number r.bound) r.depth r.path

-- the record that is shown so
unfoldable pub shown_record : ShownRecord → Record
shown_record (shown capacity value bound depth path) =
    record { capacity = capacity; value = word value; bound = word bound; depth = depth; path = path }

unfoldable pub show_value : Diagram → Found → Option ℤ
show_value d nowhere = none
show_value d (at r) = some (number (node_at d.nodes r).value)

unfoldable pub show_path : List ℕ → Diagram → Found → List ℕ
show_path record_path d nowhere = []
show_path record_path d (at r) = path_to record_path d r

unfoldable pub show : List ℕ → Answer → Shown
show record_path (refused n d) = refusal n (length d.nodes) (length d.edges)
show record_path (finished o) =
    answer o.exact
    (show_value o.diagram o.best)
    (show_path record_path o.diagram o.best)
    (show_value o.diagram o.best_exact)
    (show_path record_path o.diagram o.best_exact)
    (length o.diagram.nodes)
    (length o.diagram.edges)
    (map show_record (drained record_path o))

-- the flags exact, relaxed, marked, cutset, deleted
pub data Flag : Type 0 where
  E R M C D : Flag

-- a node row: capacity, depth, value, bottom, best edge, newest edge, fast bound, the flags that are set
pub data ShownNode : Type 0 where
  node : ℕ → ℕ → ℤ → ℤ → ℕ → ℕ → ℤ → List Flag → ShownNode

abbrev pub edge : ℕ → ℕ → ℕ → ℕ → ℕ → Edge
edge from to decision cost next = record { from = from; to = to; decision = decision; cost = cost; next = next }

abbrev pub range : ℕ → ℕ → Range
range lo hi = record { lo = lo; hi = hi }

unfoldable pub flag_if : Bool → Flag → List Flag
flag_if set flag = cond set (flag ∷ []) []

unfoldable pub show_node : Node → ShownNode
show_node n =
    node n.capacity n.depth (number n.value) (number n.bottom) n.best n.newest (number n.fast)
    (flag_if n.exact E ++ flag_if n.relaxed R ++ flag_if n.marked M ++ flag_if n.cutset C ++ flag_if n.deleted D)

-- both tables and the stored layers (newest first), with the refusal's number or 0
pub record ShownTables : Type 0 where
  pub number : ℕ
  pub nodes : List ShownNode
  pub edges : List Edge
  pub layers : List Range

unfoldable pub show_diagram : ℕ → Diagram → ShownTables
show_diagram n d = record { number = n; nodes = map show_node d.nodes; edges = d.edges; layers = d.layers }

unfoldable pub show_tables : Answer → ShownTables
show_tables (refused n d) = show_diagram n d
show_tables (finished o) = show_diagram 0 o.diagram

-- what a run is given: mode, width, cutset kind, lower bound, items, record
pub record Given : Type 0 where
  pub mode : Mode
  pub width : ℕ
  pub kind : CutsetKind
  pub lower : ℤ
  pub items : List Item
  pub start : Record

unfoldable pub answer_of : ℕ → ℕ → Given → Answer
answer_of node_room edge_room g =
    run (record { mode = g.mode; width = g.width; lower = word g.lower; node_room = node_room; edge_room = edge_room }) g.kind g.items g.start

unfoldable pub tables_of : ℕ → ℕ → Given → ShownTables
tables_of node_room edge_room g = show_tables (answer_of node_room edge_room g)

-- with the job program's rooms, in which every figure's run finishes
unfoldable pub shown_of : Given → Shown
shown_of g = show g.start.path (answer_of 1024 1792 g)

-- what is given, and the figures; 'root record, unless said'
pub record Case : Type 0 where
  pub given : Given
  pub figures : Shown

abbrev pub case : Mode → ℕ → CutsetKind → ℤ → List Item → ℕ → Shown → Case
case mode width kind lower items capacity figures =
    record {
      given = record { mode = mode; width = width; kind = kind; lower = lower; items = items; start = root_record capacity };
      figures = figures;
    }

-- the same from a record that is given
abbrev pub case_from : Mode → ℕ → CutsetKind → ℤ → List Item → ShownRecord → Shown → Case
case_from mode width kind lower items start figures =
    record {
      given = record { mode = mode; width = width; kind = kind; lower = lower; items = items; start = shown_record start };
      figures = figures;
    }

abbrev pub item : ℕ → ℕ → Item
item weight profit = record { weight = weight; profit = profit }

abbrev pub lowest : ℤ
lowest = i64_min

abbrev pub highest : ℤ
highest = i64_max
