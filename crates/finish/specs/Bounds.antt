-- What the steps of the local bounds promise. They write marks and bottom values alone, so the diagram in the tables stays wired.
use Rattle.std.specs.Prelude.{◌≡◌, Bool, true, false, cond, List, ℕ, ◌<◌, ◌≤◌, length, get_or}
use Rattle.diagram.specs.Node.{Node, Edge, node_at, update}
use Rattle.diagram.specs.Run.{Mode, is_relaxing}
use Rattle.diagram.specs.Tables.{LastExact, unsquashed, squashed_after, with_nodes, rows_of, inbound}
use Rattle.diagram.specs.After5.{ground_rows, raise_parents, raise_rows, raise_layers, local_bounds}
use Rattle.layout.specs.Table.{over}
use Rattle.layout.specs.Rows.{node_table}
use Rattle.branch.specs.declared.Counts.{Counts}
use Rattle.layers.specs.declared.Layer.{Layer}
use Rattle.layers.specs.declared.Layers.{Layers}
use Rattle.layers.specs.Layer.{no_layer}
use Rattle.layers.specs.Stored.{range_of, stored}
use Rattle.theorems.proofs.Links.{Wired}
use Rattle.finish.specs.Sits.{Sits}

-- row r of table t is changed by f, which gives u
pub record RowChanged (f : Node → Node) (r : ℕ) (t u : List ℕ) : Type 0 where
  pub does : (ns : List Node) (old : List ℕ) → t ≡ over (node_table ns) old → r < length ns → u ≡ over (node_table (update f ns r)) old

-- the rows of layer l get 0 and a mark
pub record LayerGrounded (l : Layer) (t u : List ℕ) : Type 0 where
  pub does : (ns : List Node) (old : List ℕ) → t ≡ over (node_table ns) old → l.to ≤ length ns → u ≡ over (node_table (ground_rows (rows_of (range_of l)) ns)) old

-- The node table became us, and holds these rows in place of the diagram's, which stays wired.
pub record Rewritten {k : Counts} {ns es : List ℕ} (h : Sits k ns es) (rows : List Node) (us : List ℕ) : Type 0 where
  pub nodes_are : us ≡ over (node_table rows) h.old_n
  pub long : length rows ≡ length h.diagram.nodes
  pub wired : Wired (with_nodes h.diagram rows)

-- a link is the newest inbound edge of some row
pub record Newest (ns es : List ℕ) (link : ℕ) : Type 0 where
  pub counts : Counts
  pub sits : Sits counts ns es
  pub row : ℕ
  pub inside : row < length sits.diagram.nodes
  pub newest_is : link ≡ (node_at sits.diagram.nodes row).newest

-- the parents over the inbound edges of the row with that newest edge
pub record ParentsRaised (own link : ℕ) (ns es us : List ℕ) : Type 0 where
  pub does : (k : Counts) (h : Sits k ns es) (r : ℕ) → r < length h.diagram.nodes → link ≡ (node_at h.diagram.nodes r).newest → Rewritten h (raise_parents h.diagram.edges own (inbound h.diagram.edges r) h.diagram.nodes) us

-- one row's turn in `raise_rows`
abbrev pub raised_row : List Edge → ℕ → List Node → List Node
raised_row es r ns = cond (node_at ns r).marked (raise_parents es (node_at ns r).bottom (inbound es r) ns) ns

pub record RowRaised (r : ℕ) (ns es us : List ℕ) : Type 0 where
  pub does : (k : Counts) (h : Sits k ns es) → r < length h.diagram.nodes → Rewritten h (raised_row h.diagram.edges r h.diagram.nodes) us

-- the diagram's rows go to that row at least
pub record Upto (ns es : List ℕ) (to : ℕ) : Type 0 where
  pub counts : Counts
  pub sits : Sits counts ns es
  pub inside : to ≤ length sits.diagram.nodes

pub record LayerRaised (l : Layer) (ns es us : List ℕ) : Type 0 where
  pub does : (k : Counts) (h : Sits k ns es) → l.to ≤ length h.diagram.nodes → Rewritten h (raise_rows h.diagram.edges (rows_of (range_of l)) h.diagram.nodes) us

-- each stored layer ends at row n or before it
pub record Ranged (l : Layers) (n : ℕ) : Type 0 where
  pub ends : (i : ℕ) → i < l.count → (get_or l.rows i no_layer).to ≤ n

-- the diagram's rows hold each stored layer
pub record Layered (ns es : List ℕ) (l : Layers) : Type 0 where
  pub counts : Counts
  pub sits : Sits counts ns es
  pub ranged : Ranged l (length sits.diagram.nodes)

pub record LayersRaised (l : Layers) (ns es us : List ℕ) : Type 0 where
  pub does : (k : Counts) (h : Sits k ns es) → Ranged l (length h.diagram.nodes) → Rewritten h (raise_layers h.diagram.edges (stored l) h.diagram.nodes) us

abbrev pub was_squashed : LastExact → Bool
was_squashed unsquashed = false
was_squashed (squashed_after l) = true

-- the whole: of a run in some mode, whose stored layers these are
pub record BoundsComputed (l : Layers) (squashed relaxed : Bool) (ns es us : List ℕ) : Type 0 where
  pub does : (k : Counts) (h : Sits k ns es) (m : Mode) → Ranged l (length h.diagram.nodes) → stored l ≡ h.diagram.layers → squashed ≡ was_squashed h.diagram.last → relaxed ≡ is_relaxing m → Rewritten h (local_bounds m h.diagram h.diagram.nodes) us
