-- A grown diagram as the tables hold it before its rows are finished, and what local bounds and cutset leave of it.
use Rattle.std.specs.Prelude.{◌≡◌, Bool, true, false, List, [], ℕ, ◌*◌, ◌<◌, ◌≤◌, length, take, Option, Result, Ok}
use Rattle.diagram.specs.Record.{Record}
use Rattle.diagram.specs.Node.{node_at}
use Rattle.diagram.specs.Run.{Mode, is_relaxing}
use Rattle.diagram.specs.Tables.{Diagram, Found, at, nowhere}
use Rattle.diagram.specs.After1.{best_node}
use Rattle.diagram.specs.After4.{cutset_of}
use Rattle.diagram.specs.After6.{Outcome, outcome, drained, drain_rows}
use Rattle.layout.specs.Table.{over}
use Rattle.layout.specs.Rows.{node_table}
use Rattle.layout.specs.Records.{record_words, record_table}
use Rattle.branch.specs.State.{Held}
use Rattle.layers.specs.declared.Layers.{Layers}
use Rattle.layers.specs.declared.Layer.{Layer}
use Rattle.layers.specs.Stored.{stored, last_of}
use Rattle.theorems.proofs.Links.{Wired}
use Rattle.rows.specs.declared.NodeId.{NodeId}
use Rattle.finish.specs.Terminals.{row_of, Within}
use Rattle.finish.proofs.Depths.{Deep}
use Rattle.finish.proofs.Grown.{Usable}
use Rattle.cutset.specs.declared.Wanted.{Wanted}
use Rattle.cutset.specs.declared.Kind.{Kind}
use Rattle.cutset.specs.Whole.{kind_of, LastIn, Bounded, Drainable, answer, fitting, Drains}
use Rattle.finalize.specs.declared.Given.{Given}

-- the path of the record that was compiled
abbrev pub path_before : Given → List ℕ
path_before given = take given.depth given.path

-- what a traversal of the cutset is asked, with that best value
abbrev pub wanted : Given → ℕ → Wanted
wanted given best = record { room = given.room; best = best; path = given.path; depth = given.depth }

-- ---- the cutset

-- The tables hold a diagram with its marks and bottom values, and best names one of its rows, if any.
pub record Cuttable (count : ℕ) (best : Option NodeId) (given : Given) (layers : Layers) (last : Option Layer) (ns es rs : List ℕ) : Type 0 where
  pub drainable : Drainable (wanted given 0) layers last count ns es rs
  pub inside : Within 0 count best

-- the records of the marked rows that are listed; none without a best value
abbrev pub drain_best : Found → List ℕ → Diagram → List ℕ → List Record
drain_best nowhere pre d listed = []
drain_best (at b) pre d listed = drain_rows pre d (node_at d.nodes b).value listed

pub record CutsetDone (count : ℕ) (best : Option NodeId) (given : Given) (layers : Layers) (kind : Kind) (last : Option Layer) (relaxed : Bool) (ns es rs : List ℕ) (r : Result ℕ ℕ) (ns' rs' : List ℕ) : Type 0 where
  pub does : relaxed ≡ true → (d : Diagram) (old_n old_e : List ℕ) → Bounded (wanted given 0) layers last d old_n old_e count ns es rs → Drains given.room (cutset_of (kind_of kind) d) (drain_best (row_of best) (path_before given) d (cutset_of (kind_of kind) d).listed) old_n rs r ns' rs'
  pub idle : relaxed ≡ false → (r ≡ Ok 0) × ((ns' ≡ ns) × (rs' ≡ rs))

-- ---- local bounds and cutset

-- The tables hold diagram d as its growth left it: its links, bytes and layers, no flag of a cutset, depths that leave room for
-- each path.
pub record Standing (d : Diagram) (old_n old_e : List ℕ) (count : ℕ) (given : Given) (layers : Layers) (last : Option Layer) (ns es rs : List ℕ) : Type 0 where
  pub held : Held d old_n old_e ns es
  pub count_is : count ≡ length d.nodes
  pub wired : Wired d
  pub usable : Usable d
  pub deep : Deep given.depth 64 d.nodes
  pub path_long : length (path_before given) ≡ given.depth
  pub depth_in : given.depth ≤ 64
  pub room_in : given.room * record_words ≤ length rs
  pub clear : (r : ℕ) → r < length d.nodes → (node_at d.nodes r).cutset ≡ false
  pub layers_are : stored layers ≡ d.layers
  pub last_is : last_of last ≡ d.last
  pub last_in : LastIn (length d.nodes) last

-- They hold some such diagram, and best names one of its rows, if any.
pub record Standable (count : ℕ) (best : Option NodeId) (given : Given) (layers : Layers) (last : Option Layer) (ns es rs : List ℕ) : Type 0 where
  pub diagram : Diagram
  pub old_n : List ℕ
  pub old_e : List ℕ
  pub standing : Standing diagram old_n old_e count given layers last ns es rs
  pub inside : Within 0 count best

-- the rows of outcome o are in the node table, and what it drains in the list, if that has places for all of it
pub record RowsOf (o : Outcome) (pre : List ℕ) (room : ℕ) (old_n rs : List ℕ) (r : Result ℕ ℕ) (ns' rs' : List ℕ) : Type 0 where
  pub answer_is : r ≡ answer room (drained pre o)
  pub nodes_are : ns' ≡ over (node_table o.diagram.nodes) old_n
  pub records_are : rs' ≡ over (record_table (fitting room (drained pre o))) rs

pub record RowsFinished (count : ℕ) (best : Option NodeId) (given : Given) (layers : Layers) (kind : Kind) (last : Option Layer) (relaxed : Bool) (ns es rs : List ℕ) (r : Result ℕ ℕ) (ns' rs' : List ℕ) : Type 0 where
  pub does : (d : Diagram) (old_n old_e : List ℕ) (m : Mode) → Standing d old_n old_e count given layers last ns es rs → relaxed ≡ is_relaxing m → row_of best ≡ best_node d → RowsOf (outcome m (kind_of kind) d) (path_before given) given.room old_n rs r ns' rs'
