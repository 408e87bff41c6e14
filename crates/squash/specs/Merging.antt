-- The tables while rows of the coming layer are merged into row m: what they must hold, and what copying edges and merging promise.
use mathlib.Core.List.{List, [], ◌∷◌, Memᴰ}
use Rattle.std.specs.Prelude.{ℕ, ◌<◌, ◌≤◌, length}
use Rattle.diagram.specs.Tables.{Diagram, inbound}
use Rattle.diagram.specs.Run.{Settings}
use Rattle.diagram.specs.Rule6.{copy_edges, merge_all}
use Rattle.theorems.proofs.Links.{WiredMerge}
use Rattle.branch.specs.declared.Counts.{Counts}
use Rattle.branch.specs.declared.Rooms.{Rooms}
use Rattle.branch.specs.State.{Said, Stands, Held, Stepped}

-- Row m and the rows of rest lie in the coming layer and have one depth, and the edges are wired.
pub record Mergeable (m : ℕ) (rest : List ℕ) (d : Diagram) : Type 0 where
  pub merged_above : d.start ≤ m
  pub merged_in : m < length d.nodes
  pub rest_above : (r : ℕ) → Memᴰ r rest → d.start ≤ r
  pub depth : ℕ
  pub wired : WiredMerge depth m rest d

-- The situation that a merge of rest into m stands in: which diagram, under which settings, over which old contents.
pub record Merges (s : Settings) (d : Diagram) (old_n old_e : List ℕ) (start : ℕ) (k : Counts) (rooms : Rooms) (m : ℕ) (rest ns es : List ℕ) : Type 0 where
  pub stands : Stands s d old_n old_e start k rooms
  pub held : Held d old_n old_e ns es
  pub mergeable : Mergeable m rest d

-- There is such a situation: the walk along the next numbers may then trust the words that it reads.
pub record Sits (start : ℕ) (k : Counts) (rooms : Rooms) (m : ℕ) (rest ns es : List ℕ) : Type 0 where
  pub settings : Settings
  pub diagram : Diagram
  pub old_n : List ℕ
  pub old_e : List ℕ
  pub merges : Merges settings diagram old_n old_e start k rooms m rest ns es

-- The inbound edges of row r are copied to row m.
pub record EdgesCopied (start : ℕ) (k : Counts) (rooms : Rooms) (m r : ℕ) (ns es : List ℕ) (step : Said) (ns' es' : List ℕ) : Type 0 where
  pub does : (s : Settings) (d : Diagram) (old_n old_e : List ℕ) → Merges s d old_n old_e start k rooms m (r ∷ []) ns es → Stepped (copy_edges s m (inbound d.edges r) d) old_n old_e step ns' es'

-- The rows of rest are merged into row m.
pub record AllMerged (start : ℕ) (k : Counts) (rooms : Rooms) (m : ℕ) (rest ns es : List ℕ) (step : Said) (ns' es' : List ℕ) : Type 0 where
  pub does : (s : Settings) (d : Diagram) (old_n old_e : List ℕ) → Merges s d old_n old_e start k rooms m rest ns es → Stepped (merge_all s m rest d) old_n old_e step ns' es'
