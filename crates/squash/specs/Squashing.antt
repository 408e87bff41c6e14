-- What a relaxed squash must find, and what it leaves: the tables, and the rows to expand in the list's first places.
use Rattle.std.specs.Prelude.{◌≡◌, ℕ, suc, ◌*◌, ◌<◌, ◌≤◌, length, get_or, take, drop}
use mathlib.Core.List.{List, [], ◌∷◌, ◌++◌, Memᴰ}
use Rattle.diagram.specs.Node.{Node, node_at, update, as_relaxed}
use Rattle.diagram.specs.Tables.{Diagram, with_nodes, nowhere}
use Rattle.diagram.specs.Run.{Settings}
use Rattle.diagram.specs.Rule6.{Squashed, layer, halted, merge_all, merged_row, merge_into, squashed, keep_first, relax}
use Rattle.layout.specs.Table.{over}
use Rattle.layout.specs.Rows.{node_words, node_table}
use Rattle.theorems.proofs.Links.{Wired}
use Rattle.branch.specs.declared.Counts.{Counts}
use Rattle.branch.specs.declared.Rooms.{Rooms}
use Rattle.branch.specs.State.{Said, Going, Stopped, counts_of, Stands, Held}
use Rattle.squash.specs.Merging.{Merges}

-- what a squash of the definition looks like to the code
abbrev pub step_of : Squashed → Said
step_of (layer d rows) = Going (counts_of d)
step_of (halted n d) = Stopped n (counts_of d)

abbrev pub diagram_of : Squashed → Diagram
diagram_of (layer d rows) = d
diagram_of (halted n d) = d

-- the rows to expand are those of the list's first n places
abbrev pub Listed : ℕ → List ℕ → Squashed → Type 0
Listed n list (layer d rows) = rows ≡ take n list
Listed n list (halted i d) = Unit {0}

-- The step, the tables and the list's first n places equal the definition's squash.
pub record Done (result : Squashed) (old_n old_e : List ℕ) (n : ℕ) (step : Said) (list ns es : List ℕ) : Type 0 where
  pub step_is : step ≡ step_of result
  pub held : Held (diagram_of result) old_n old_e ns es
  pub rows_are : Listed n list result

-- The tables hold d, whose edges are wired, and the rows are rows of the coming layer, all of one depth.
pub record Squashes (s : Settings) (d : Diagram) (old_n old_e : List ℕ) (start : ℕ) (k : Counts) (rooms : Rooms) (rows ns es : List ℕ) : Type 0 where
  pub stands : Stands s d old_n old_e start k rooms
  pub held : Held d old_n old_e ns es
  pub wired : Wired d
  pub depth : ℕ
  pub rows_above : (r : ℕ) → Memᴰ r rows → d.start ≤ r
  pub rows_in : (r : ℕ) → Memᴰ r rows → r < length d.nodes
  pub rows_deep : (r : ℕ) → Memᴰ r rows → (node_at d.nodes r).depth ≡ depth

-- There is such a situation, and there are rows behind the first keep ones.
pub record Squashable (start : ℕ) (k : Counts) (rooms : Rooms) (keep : ℕ) (rows ns es : List ℕ) : Type 0 where
  pub settings : Settings
  pub diagram : Diagram
  pub old_n : List ℕ
  pub old_e : List ℕ
  pub squashes : Squashes settings diagram old_n old_e start k rooms rows ns es
  pub wide : keep < length rows

-- table t becomes u when the merged row is appended as row r
pub record RowMade (capacity depth : ℕ) (t : List ℕ) (r : ℕ) (u : List ℕ) : Type 0 where
  pub does : (ns : List Node) (old : List ℕ) → t ≡ over (node_table ns) old → r ≡ length ns → suc r * node_words ≤ length old → u ≡ over (node_table (ns ++ (merged_row capacity depth ∷ []))) old

-- The rows of rest are merged into the kept row m, and the first of them is kept too: whatever rows are to be expanded then.
pub record TwinMerged (start : ℕ) (k : Counts) (rooms : Rooms) (m : ℕ) (rest ns es : List ℕ) (step : Said) (ns' es' : List ℕ) : Type 0 where
  pub does : (s : Settings) (d : Diagram) (old_n old_e : List ℕ) → Merges s d old_n old_e start k rooms m rest ns es → (n : ℕ) (list : List ℕ)
      → Done (squashed (merge_all s m rest (with_nodes d (update as_relaxed d.nodes m))) (keep_first (get_or rest 0 0)) (take n list)) old_n old_e n step list ns' es'

-- The rows behind the first keep ones are merged into a new row of that capacity, whose number then stands behind those.
pub record NewMerged (start : ℕ) (k : Counts) (rooms : Rooms) (capacity keep : ℕ) (rows ns es : List ℕ) (step : Said) (rows' ns' es' : List ℕ) : Type 0 where
  pub does : (s : Settings) (d : Diagram) (old_n old_e : List ℕ) → Squashes s d old_n old_e start k rooms rows ns es → Done (merge_into nowhere s capacity (take keep rows) (drop keep rows) d) old_n old_e (suc keep) step rows' ns' es'
  pub beyond : drop (suc keep) rows' ≡ drop (suc keep) rows

-- The relaxed squash. Where it goes on, the first width rows are the layer.
pub record Relaxed (start : ℕ) (k : Counts) (rooms : Rooms) (width : ℕ) (rows ns es : List ℕ) (step : Said) (rows' ns' es' : List ℕ) : Type 0 where
  pub does : (s : Settings) (d : Diagram) (old_n old_e : List ℕ) → s.width ≡ width → Squashes s d old_n old_e start k rooms rows ns es → Done (relax s rows d) old_n old_e width step rows' ns' es'
  pub beyond : drop width rows' ≡ drop width rows
