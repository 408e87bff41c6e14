-- One layer's turn: what it must find, and what each function that has a part in it promises.
use Rattle.std.specs.Prelude.{◌≡◌, List, ◌∷◌, ℕ, ◌-◌, ◌*◌, ◌<◌, ◌≤◌, length, get_or, drop, Result, Ok, Err}
use Rattle.std.specs.Borrow.{MutBor}
use Rattle.knapsack.specs.Items.{Item, items_of}
use Rattle.diagram.specs.Node.{node_at}
use Rattle.diagram.specs.Record.{Record}
use Rattle.diagram.specs.Tables.{Diagram}
use Rattle.diagram.specs.Run.{Settings, going}
use Rattle.diagram.specs.Rule2.{grow, grown, ordered, store, store_empty, store_last, has_rows, layer_step}
use Rattle.diagram.specs.Rule3.{expand_all}
use Rattle.layout.specs.Table.{over}
use Rattle.layout.specs.Rows.{edge_words, node_words, node_table}
use Rattle.theorems.proofs.Layers.{Comes}
use Rattle.order.specs.Below.{Below}
use Rattle.branch.specs.declared.Counts.{Counts}
use Rattle.branch.specs.declared.Rooms.{Rooms}
use Rattle.branch.specs.declared.Extent.{Extent}
use Rattle.branch.specs.declared.Stop.{Stop}
use Rattle.reasons.specs.declared.Refusal.{Refusal}
use Rattle.branch.specs.State.{Said, Fit, counts_of, Stands, Held}
use Rattle.squash.specs.Squashing.{Done, Squashes}
use Rattle.grow.specs.declared.Mode.{Mode}
use Rattle.grow.specs.declared.Task.{Task}
use Rattle.grow.specs.declared.Root.{Root}
use Rattle.grow.specs.declared.Growth.{Growth}
use Rattle.grow.specs.declared.Store.{Store}
use Rattle.grow.specs.Told.{mode_of, settings_of, record_of}
use Rattle.grow.specs.Growing.{squash_wide, Shape, Reached, Grew, Growable}

-- the growth that the code's diagram and store stand for, where the run goes on, and where it may have stopped
abbrev pub growth_of : Extent → Store → Growth
growth_of at s = record { counts = at.counts; start = at.start; layers = s.layers; last = s.last }

abbrev pub grown_of : {A : Type 0} → Result A Refusal → Extent → Store → Result Growth Stop
grown_of (Ok a) at s = Ok (growth_of at s)
grown_of (Err r) at s = Err (record { refusal = r; counts = at.counts })

-- a diagram of the code keeps its tables and its rooms
pub record TablesStay (nodes nodes' edges edges' : MutBor (List ℕ)) (at at' : Extent) : Type 0 where
  pub nodes_stay : nodes'.ghost_name ≡ nodes.ghost_name
  pub edges_stay : edges'.ghost_name ≡ edges.ghost_name
  pub nodes_long : length nodes'.now ≡ length nodes.now
  pub edges_long : length edges'.now ≡ length edges.now
  pub rooms_are : at'.rooms ≡ at.rooms

-- the list is the coming layer's rows, larger capacity first
pub record LayerOrdered (start count : ℕ) (ns list : List ℕ) : Type 0 where
  pub rows_are : (d : Diagram) (old : List ℕ) → ns ≡ over (node_table d.nodes) old → start ≡ d.start → count ≡ length d.nodes - d.start → list ≡ ordered d

-- A layer that is too wide is squashed: where the run goes on, its first width rows are the layer.
pub record WideSquashed (m : Mode) (width start : ℕ) (k : Counts) (rooms : Rooms) (rows ns es : List ℕ) (step : Said) (rows' ns' es' : List ℕ) : Type 0 where
  pub does : (s : Settings) (d : Diagram) (old_n old_e : List ℕ) → s.width ≡ width → Squashes s d old_n old_e start k rooms rows ns es → Done (squash_wide (mode_of m) s rows d) old_n old_e width step rows' ns' es'

-- What the storing and the expansion of a squashed layer may count on: its rows are those of the list, and the next row is behind them all.
pub record Expandable (weights : List ℕ) (t : Task) (g : Growth) (depth : ℕ) (list ns es : List ℕ) : Type 0 where
  pub deep : depth < length weights
  pub fit : Fit g.counts.nodes g.counts t.rooms
  pub rooms_in : t.rooms.nodes * node_words ≤ length ns
  pub edges_in : t.rooms.edges * edge_words ≤ length es
  pub rows_below : Below g.counts.nodes list
  pub few : g.layers.count < 65

-- the squashed layer that is stored and expanded: the diagram it is in, and the depth of its rows
pub record SquashedLayer (weights profits : List ℕ) (t : Task) (g : Growth) (depth : ℕ) (list ns es : List ℕ) (s : Settings) (d : Diagram) (old_n old_e : List ℕ) (item : Item) (rest : List Item) : Type 0 where
  pub stands : Stands s d old_n old_e g.start g.counts t.rooms
  pub held : Held d old_n old_e ns es
  pub shape : Shape g.layers g.last d
  pub lower_is : s.lower ≡ t.lower
  pub left : drop depth (items_of weights profits) ≡ item ∷ rest
  pub rows_deep : (j : ℕ) → j < length list → (node_at d.nodes (get_or list j 0)).depth ≡ depth

-- The squashed layer is stored and expanded.
pub record LayerExpanded (weights profits : List ℕ) (t : Task) (g : Growth) (depth : ℕ) (list ns es : List ℕ) (g' : Result Growth Stop) (ns' es' : List ℕ) : Type 0 where
  pub does : (s : Settings) (d : Diagram) (old_n old_e : List ℕ) (item : Item) (rest : List Item) → SquashedLayer weights profits t g depth list ns es s d old_n old_e item rest → Grew (expand_all s (item ∷ rest) item depth list (store d)) old_n old_e g' ns' es'

-- The run whose layer of that depth comes: the tables hold its diagram, and the code's growth is its.
pub record Stage (weights profits : List ℕ) (t : Task) (r : Record) (old_n old_e : List ℕ) (d : Diagram) (depth : ℕ) (g : Growth) (ns es : List ℕ) : Type 0 where
  pub comes : Comes (settings_of t) (items_of weights profits) r depth d
  pub stands : Stands (settings_of t) d old_n old_e g.start g.counts t.rooms
  pub held : Held d old_n old_e ns es
  pub shape : Shape g.layers g.last d

-- There is such a run, an item is left, and the list has a place for each row that a layer may have.
pub record Turn (weights profits : List ℕ) (t : Task) (depth : ℕ) (g : Growth) (list ns es : List ℕ) : Type 0 where
  pub root : Record
  pub old_n : List ℕ
  pub old_e : List ℕ
  pub diagram : Diagram
  pub stage : Stage weights profits t root old_n old_e diagram depth g ns es
  pub deep : depth < length weights
  pub some_width : 0 < t.width
  pub some_room : 0 < t.rooms.nodes
  pub places : 1024 ≤ length list

-- A layer's turn.
pub record Turned (weights profits : List ℕ) (t : Task) (depth : ℕ) (g : Growth) (ns es : List ℕ) (g' : Result Growth Stop) (ns' es' : List ℕ) : Type 0 where
  pub does : (r : Record) (old_n old_e : List ℕ) (d : Diagram) (item : Item) (rest : List Item) → Stage weights profits t r old_n old_e d depth g ns es → drop depth (items_of weights profits) ≡ item ∷ rest → Grew (layer_step (settings_of t) (item ∷ rest) item depth d) old_n old_e g' ns' es'

-- The coming layer, which has no rows, is stored as 0..0.
pub record EmptyStored (g g' : Growth) : Type 0 where
  pub does : (d : Diagram) (old_n old_e ns es : List ℕ) → Reached (going d) (Ok g) → g.counts ≡ counts_of d → Held d old_n old_e ns es → Grew (going (store_empty d)) old_n old_e (Ok g') ns es

-- The coming layer is stored as it stands, if it has rows.
pub record LastStored (g g' : Growth) : Type 0 where
  pub does : (d : Diagram) (old_n old_e ns es : List ℕ) → Reached (going d) (Ok g) → g.counts ≡ counts_of d → Held d old_n old_e ns es → Grew (going (store_last (has_rows d) d)) old_n old_e (Ok g') ns es

-- ---- the run so far, which goes on: the layers left, grown from its diagram, give the whole growth

pub record Underway (weights profits : List ℕ) (t : Task) (r : Record) (old_n old_e : List ℕ) (depth : ℕ) (g : Growth) (ns es : List ℕ) : Type 0 where
  pub diagram : Diagram
  pub rest : grown (settings_of t) (items_of weights profits) r ≡ grow (settings_of t) (drop depth (items_of weights profits)) depth diagram
  pub some_room : 0 < t.rooms.nodes
  pub stage : Stage weights profits t r old_n old_e diagram depth g ns es

-- There is such a run.
pub record Begun (weights profits : List ℕ) (t : Task) (depth : ℕ) (g : Growth) (ns es : List ℕ) : Type 0 where
  pub root : Root
  pub old_n : List ℕ
  pub old_e : List ℕ
  pub allowed : Growable weights t root old_n old_e
  pub underway : Underway weights profits t (record_of root) old_n old_e depth g ns es
  pub depth_in : depth ≤ length weights

-- a growth, or the refusal with the rows written until then
abbrev pub stops_at : Result Growth Refusal → Counts → Result Growth Stop
stops_at (Ok g) k = Ok g
stops_at (Err r) k = Err (record { refusal = r; counts = k })

-- Its layers have grown.
pub record Completed (weights profits : List ℕ) (t : Task) (depth : ℕ) (g : Growth) (ns es : List ℕ) (g' : Result Growth Stop) (ns' es' : List ℕ) : Type 0 where
  pub does : (r : Root) (old_n old_e : List ℕ) → Growable weights t r old_n old_e → Underway weights profits t (record_of r) old_n old_e depth g ns es → Grew (grown (settings_of t) (items_of weights profits) (record_of r)) old_n old_e g' ns' es'
