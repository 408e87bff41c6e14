-- A cutset in the making, as the tables and the record list hold it, and what each step of the traversal asks and promises.
use Rattle.std.specs.Prelude.{◌≡◌, cond, List, [], ◌∷◌, ◌++◌, ℕ, ◌+◌, ◌*◌, ◌<◌, ◌≤◌, length, take}
use Rattle.diagram.specs.Record.{Record, path_room}
use Rattle.diagram.specs.Node.{node_at, edge_at}
use Rattle.diagram.specs.Tables.{Range, Diagram, rows_from, inbound}
use Rattle.diagram.specs.After3.{path_to}
use Rattle.diagram.specs.After4.{Cutset, list_row, list_rows, frontier_edges, frontier_rows, frontier_layers}
use Rattle.diagram.specs.After6.{drain_rows}
use Rattle.layout.specs.Table.{over}
use Rattle.layout.specs.Rows.{node_table, edge_table}
use Rattle.layout.specs.Records.{record_words, record_table, Roomy}
use Rattle.theorems.proofs.Links.{Wired, along_next}
use Rattle.theorems.proofs.Cutset.{add}
use Rattle.theorems.proofs.Once.{Few}
use Rattle.cutset.specs.declared.Wanted.{Wanted}
use Rattle.cutset.specs.Views.{uncuts}

-- the path of the record that was compiled
abbrev pub record_path : Wanted → List ℕ
record_path w = take w.depth w.path

-- the records of the rows that are listed
abbrev pub drained_of : Wanted → Diagram → List ℕ → List Record
drained_of w d listed = drain_rows (record_path w) d w.best listed

-- What holds of a diagram all through a traversal: its links, one byte a decision, paths that have room; and the list has its places.
pub record Settled (w : Wanted) (d : Diagram) (old_r : List ℕ) : Type 0 where
  pub wired : Wired d
  pub start_in : d.start ≤ length d.nodes
  pub bytes : (e : ℕ) → e < length d.edges → (edge_at d.edges e).decision < 256
  pub paths : (r : ℕ) → r < length d.nodes → length (path_to (record_path w) d r) ≤ path_room
  pub depth_in : w.depth ≤ 64
  pub record_room : w.room * record_words ≤ length old_r

-- Of the rows listed so far the marked ones are counted, and those of their records that the list has room for are in it.
pub record Handed (w : Wanted) (d : Diagram) (old_r listed : List ℕ) (count : ℕ) (rs : List ℕ) : Type 0 where
  pub count_is : count ≡ length (drained_of w d listed)
  pub records_are : rs ≡ over (record_table (take w.room (drained_of w d listed))) old_r
  pub roomy : Roomy (drained_of w d listed)

-- The tables hold diagram d with the flags of cutset c, over what was there.
pub record Trace (w : Wanted) (d : Diagram) (old_n old_e old_r : List ℕ) (c : Cutset) (count : ℕ) (ns es rs : List ℕ) : Type 0 where
  pub nodes_are : ns ≡ over (node_table c.nodes) old_n
  pub edges_are : es ≡ over (edge_table d.edges) old_e
  pub same : uncuts c.nodes ≡ uncuts d.nodes
  pub handed : Handed w d old_r c.listed count rs

-- They hold some diagram and cutset of which P holds.
pub record Tracing (P : Diagram → Cutset → Type 0) (w : Wanted) (count : ℕ) (ns es rs : List ℕ) : Type 0 where
  pub diagram : Diagram
  pub old_n : List ℕ
  pub old_e : List ℕ
  pub old_r : List ℕ
  pub cut : Cutset
  pub settled : Settled w diagram old_r
  pub trace : Trace w diagram old_n old_e old_r cut count ns es rs
  pub asked : P diagram cut

-- The traversal goes on from each cutset of which P holds to the one that f gives.
pub record Traced (P : Diagram → Cutset → Type 0) (f : Diagram → Cutset → Cutset) (w : Wanted) (count : ℕ) (ns es rs : List ℕ) (count' : ℕ) (ns' rs' : List ℕ) : Type 0 where
  pub does : (d : Diagram) (old_n old_e old_r : List ℕ) (c : Cutset) → Settled w d old_r → Trace w d old_n old_e old_r c count ns es rs → P d c → Trace w d old_n old_e old_r (f d c) count' ns' es rs'

-- row r is one of the diagram's
abbrev pub Inside : ℕ → Diagram → Cutset → Type 0
Inside r d c = r < length d.nodes

-- row r is handed on, behind those that are listed
pub record HandedOn (w : Wanted) (r count : ℕ) (ns es rs : List ℕ) (count' : ℕ) (rs' : List ℕ) : Type 0 where
  pub does : (d : Diagram) (old_n old_e old_r : List ℕ) (c : Cutset) → Settled w d old_r → Trace w d old_n old_e old_r c count ns es rs → Inside r d c → Handed w d old_r (c.listed ++ (r ∷ [])) count' rs'
  pub grows : count' ≤ count + 1

-- ---- the steps of a traversal, as changes of the cutset

-- row r is there, and `Few`: no row is listed twice
abbrev pub FewInside : ℕ → Diagram → Cutset → Type 0
FewInside r d c = (r < length d.nodes) × Few c

-- an edge's number and one, or 0 for none
abbrev pub FewLink : ℕ → Diagram → Cutset → Type 0
FewLink e d c = (e ≤ length d.edges) × Few c

-- rows up to hi
abbrev pub Upto : ℕ → Diagram → Cutset → Type 0
Upto hi d c = hi ≤ length d.nodes

abbrev pub FewUpto : ℕ → Diagram → Cutset → Type 0
FewUpto hi d c = (hi ≤ length d.nodes) × Few c

-- each range ends within so many rows
abbrev pub Ranged : ℕ → List Range → Type 0
Ranged n [] = Unit {0}
Ranged n (l ∷ ls) = (l.hi ≤ n) × Ranged n ls

abbrev pub FewRanges : List Range → Diagram → Cutset → Type 0
FewRanges ls d c = Ranged (length d.nodes) ls × Few c

-- row r is listed
abbrev pub listing : ℕ → Diagram → Cutset → Cutset
listing r d c = list_row r c

-- the n rows from lo on are listed
abbrev pub listings : ℕ → ℕ → Diagram → Cutset → Cutset
listings lo n d c = list_rows (rows_from lo n) c

-- row r is listed if it is exact and not yet listed
abbrev pub adding : ℕ → Diagram → Cutset → Cutset
adding r d c = add c r

-- the parents over the edges from e on, by their next numbers
abbrev pub along_edges : ℕ → Diagram → Cutset → Cutset
along_edges e d c = frontier_edges d.edges (along_next (length d.edges) d.edges e) c

-- the parents of row r, if it isn't exact
abbrev pub of_row : ℕ → Diagram → Cutset → Cutset
of_row r d c = cond (node_at c.nodes r).exact c (frontier_edges d.edges (inbound d.edges r) c)

-- those of the n rows from lo on
abbrev pub of_rows : ℕ → ℕ → Diagram → Cutset → Cutset
of_rows lo n d c = frontier_rows d.edges (rows_from lo n) c

-- those of the layers
abbrev pub of_layers : List Range → Diagram → Cutset → Cutset
of_layers ls d c = frontier_layers d.edges ls c
