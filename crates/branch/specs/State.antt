-- The state of a run as the code holds it, and what each function of `branch` promises of it.
use Rattle.std.specs.Prelude.{◌≡◌, List, ℕ, suc, ◌+◌, ◌*◌, ◌<◌, ◌≤◌, max, length, drop, Option, Some, None, Result, Ok, Err}
use Rattle.std.specs.Borrow.{MutBor}
use Rattle.reasons.specs.Numbers.{number}
use Rattle.diagram.specs.Node.{Node, node_at}
use Rattle.diagram.specs.Tables as Def
use Rattle.diagram.specs.Tables.{Diagram}
use Rattle.diagram.specs.Run.{Settings, Run, going, stopped}
use Rattle.diagram.specs.Rule4 as Rule4
use Rattle.diagram.specs.Rule4.{handed, add_edge, new_child, branch_on}
use Rattle.layout.specs.Table.{over}
use Rattle.layout.specs.Rows.{node_words, edge_words, node_table, edge_table}
use Rattle.branch.specs.declared.Counts.{Counts}
use Rattle.branch.specs.declared.Rooms.{Rooms}
use Rattle.branch.specs.declared.Extent.{Extent}
use Rattle.branch.specs.declared.Stop.{Stop}
use Rattle.reasons.specs.declared.Refusal.{Refusal}
use Rattle.branch.specs.declared.Parent.{Parent}
use Rattle.branch.specs.declared.Branch.{Branch}

-- what a step says: it goes on with the rows written so far, or it stops, with the number of the refusal
pub data Said : Type 0 where
  Going : Counts → Said
  Stopped : ℕ → Counts → Said

abbrev pub said : Result Counts Stop → Said
said (Ok k) = Going k
said (Err s) = Stopped (number s.refusal) s.counts

abbrev pub said_of : {A : Type 0} → Result A Refusal → Counts → Said
said_of (Ok a) k = Going k
said_of (Err r) k = Stopped (number r) k

-- what a step leaves of an extent: where the coming layer starts and the rooms, and no row is lost or written past the room
pub record Stays (at at' : Extent) : Type 0 where
  pub start_is : at'.start ≡ at.start
  pub rooms_are : at'.rooms ≡ at.rooms
  pub nodes_low : at.counts.nodes ≤ at'.counts.nodes
  pub nodes_in : at'.counts.nodes ≤ max at.counts.nodes at.rooms.nodes

-- a diagram of the code keeps its tables, where its coming layer starts, and its rooms
pub record Same (nodes nodes' edges edges' : MutBor (List ℕ)) (at at' : Extent) : Type 0 where
  pub nodes_stay : nodes'.ghost_name ≡ nodes.ghost_name
  pub edges_stay : edges'.ghost_name ≡ edges.ghost_name
  pub nodes_long : length nodes'.now ≡ length nodes.now
  pub edges_long : length edges'.now ≡ length edges.now
  pub stays : Stays at at'

-- the row that was found, counted from the table's start, where the coming layer's first row is `first`
abbrev pub found_of : ℕ → Option ℕ → Def.Found
found_of first (Some i) = Def.at (first + i)
found_of first None = Def.nowhere

-- a row that was found is one of the first `count`
abbrev pub Below : ℕ → Option ℕ → Type 0
Below count (Some i) = i < count
Below count None = Unit {0}

pub record LookedUp (t : List ℕ) (count capacity : ℕ) (r : Option ℕ) : Type 0 where
  pub is_first : (ns : List Node) (old : List ℕ) (first : ℕ) → t ≡ over (node_table ns) old → count ≡ length ns → found_of first r ≡ Rule4.lookup capacity ns first
  pub below : Below count r

-- p says what row `from` of table t tells a child over an edge of that cost
pub record ParentRead (t : List ℕ) (from cost : ℕ) (p : Parent) : Type 0 where
  pub id_is : p.id.0 ≡ from
  pub exact_is : (ns : List Node) (old : List ℕ) → t ≡ over (node_table ns) old → from < length ns → p.exact ≡ (node_at ns from).exact
  pub value_is : (ns : List Node) (old : List ℕ) → t ≡ over (node_table ns) old → from < length ns → p.value ≡ handed ns from cost

abbrev pub counts_of : Diagram → Counts
counts_of d = record { nodes = length d.nodes; edges = length d.edges }

-- what a run of the definition looks like to the code
abbrev pub step_of : Run → Said
step_of (going d) = Going (counts_of d)
step_of (stopped n d) = Stopped n (counts_of d)

abbrev pub diagram_of : Run → Diagram
diagram_of (going d) = d
diagram_of (stopped n d) = d

-- The coming layer's part of the node table, and the edge table, hold diagram d, over what was there.
pub record ComingHeld (d : Diagram) (old_n old_e cs es : List ℕ) : Type 0 where
  pub coming_are : cs ≡ over (node_table (drop d.start d.nodes)) (drop (d.start * node_words) old_n)
  pub edges_are : es ≡ over (edge_table d.edges) old_e

-- The parent's row is a finished one, and p says what its child is told over an edge of that cost.
pub record Told (d : Diagram) (cost : ℕ) (p : Parent) : Type 0 where
  pub row_in : p.id.0 < d.start
  pub exact_is : p.exact ≡ (node_at d.nodes p.id.0).exact
  pub value_is : p.value ≡ handed d.nodes p.id.0 cost

-- The counts are within the rooms, and the coming layer starts at or before the next row.
pub record Fit (first : ℕ) (k : Counts) (rooms : Rooms) : Type 0 where
  pub low : first ≤ k.nodes
  pub nodes : k.nodes ≤ rooms.nodes
  pub edges : k.edges ≤ rooms.edges

-- so are those of a step, gone on or stopped
abbrev pub StillFit : ℕ → Rooms → Said → Type 0
StillFit first rooms (Going k) = Fit first k rooms
StillFit first rooms (Stopped n k) = Fit first k rooms

-- What the tables' lengths must allow, before any row is touched.
pub record ComingReady (first : ℕ) (k : Counts) (rooms : Rooms) (cs es : List ℕ) : Type 0 where
  pub first_low : first ≤ k.nodes
  pub rows_in : k.nodes * node_words ≤ first * node_words + length cs
  pub rooms_in : rooms.nodes * node_words ≤ first * node_words + length cs
  pub edges_in : rooms.edges * edge_words ≤ length es
  pub words : first * node_words + length cs < 18446744073709551616

-- The situation that the code stands for: which diagram, under which settings, over which old contents.
pub record Stands (s : Settings) (d : Diagram) (old_n old_e : List ℕ) (first : ℕ) (k : Counts) (rooms : Rooms) : Type 0 where
  pub first_is : first ≡ d.start
  pub start_in : d.start ≤ length d.nodes
  pub counts_are : k ≡ counts_of d
  pub node_room : s.node_room ≡ rooms.nodes
  pub edge_room : s.edge_room ≡ rooms.edges
  pub old_nodes : rooms.nodes * node_words ≤ length old_n
  pub old_edges : rooms.edges * edge_words ≤ length old_e

-- The step equals the definition's run, in its answer and in the tables.
pub record ComingStepped (run : Run) (old_n old_e : List ℕ) (r : Said) (cs es : List ℕ) : Type 0 where
  pub step_is : r ≡ step_of run
  pub held : ComingHeld (diagram_of run) old_n old_e cs es

-- One more edge into row `first + row`.
pub record EdgeAdded (first : ℕ) (k : Counts) (rooms : Rooms) (p : Parent) (row : ℕ) (b : Branch) (cs es : List ℕ) (r : Said) (cs' es' : List ℕ) : Type 0 where
  pub fits : Fit first k rooms → StillFit first rooms r
  pub does : (s : Settings) (d : Diagram) (old_n old_e : List ℕ) → Stands s d old_n old_e first k rooms → ComingHeld d old_n old_e cs es → Told d b.cost p → first + row < length d.nodes → ComingStepped (add_edge s p.id.0 (first + row) b.decision b.cost d) old_n old_e r cs' es'

-- A new child.
pub record ChildMade (first : ℕ) (k : Counts) (rooms : Rooms) (p : Parent) (b : Branch) (cs es : List ℕ) (r : Said) (cs' es' : List ℕ) : Type 0 where
  pub fits : Fit first k rooms → StillFit first rooms r
  pub does : (s : Settings) (d : Diagram) (old_n old_e : List ℕ) → Stands s d old_n old_e first k rooms → ComingHeld d old_n old_e cs es → Told d b.cost p → b.depth ≡ suc (node_at d.nodes p.id.0).depth → ComingStepped (new_child s p.id.0 b.decision b.cost b.capacity d) old_n old_e r cs' es'

-- A child, new or there.
pub record ChildAdded (first : ℕ) (k : Counts) (rooms : Rooms) (p : Parent) (b : Branch) (cs es : List ℕ) (r : Said) (cs' es' : List ℕ) : Type 0 where
  pub fits : Fit first k rooms → StillFit first rooms r
  pub does : (s : Settings) (d : Diagram) (old_n old_e : List ℕ) → Stands s d old_n old_e first k rooms → ComingHeld d old_n old_e cs es → Told d b.cost p → b.depth ≡ suc (node_at d.nodes p.id.0).depth → ComingStepped (branch_on s p.id.0 b.decision b.cost b.capacity d) old_n old_e r cs' es'

-- Both whole tables hold diagram d, over what was there.
pub record Held (d : Diagram) (old_n old_e ns es : List ℕ) : Type 0 where
  pub nodes_are : ns ≡ over (node_table d.nodes) old_n
  pub edges_are : es ≡ over (edge_table d.edges) old_e

pub record Stepped (run : Run) (old_n old_e : List ℕ) (r : Said) (ns es : List ℕ) : Type 0 where
  pub step_is : r ≡ step_of run
  pub held : Held (diagram_of run) old_n old_e ns es

-- What the tables' lengths must allow.
pub record Ready (start : ℕ) (k : Counts) (rooms : Rooms) (ns es : List ℕ) : Type 0 where
  pub start_low : start ≤ k.nodes
  pub rows_in : k.nodes * node_words ≤ length ns
  pub rooms_in : rooms.nodes * node_words ≤ length ns
  pub edges_in : rooms.edges * edge_words ≤ length es

-- The child of node `from`.
pub record Branched (start : ℕ) (k : Counts) (rooms : Rooms) (from : ℕ) (b : Branch) (ns es : List ℕ) (r : Said) (ns' es' : List ℕ) : Type 0 where
  pub fits : Fit start k rooms → StillFit start rooms r
  pub does : (s : Settings) (d : Diagram) (old_n old_e : List ℕ) → Stands s d old_n old_e start k rooms → Held d old_n old_e ns es → b.depth ≡ suc (node_at d.nodes from).depth → Stepped (branch_on s from b.decision b.cost b.capacity d) old_n old_e r ns' es'

-- One more edge from node `from` into row `start + row`.
pub record Appended (start : ℕ) (k : Counts) (rooms : Rooms) (from row : ℕ) (b : Branch) (ns es : List ℕ) (r : Said) (ns' es' : List ℕ) : Type 0 where
  pub fits : Fit start k rooms → StillFit start rooms r
  pub does : (s : Settings) (d : Diagram) (old_n old_e : List ℕ) → Stands s d old_n old_e start k rooms → Held d old_n old_e ns es → Stepped (add_edge s from (start + row) b.decision b.cost d) old_n old_e r ns' es'
