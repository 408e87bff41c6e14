-- A grown diagram in the tables: what the steps after the last layer ask of them.
use Rattle.std.specs.Prelude.{◌≡◌, List, ℕ, ◌*◌, ◌<◌, ◌≤◌, length}
use Rattle.diagram.specs.Node.{edge_at}
use Rattle.diagram.specs.Tables.{Diagram}
use Rattle.layout.specs.Rows.{edge_words, node_words}
use Rattle.branch.specs.declared.Counts.{Counts}
use Rattle.branch.specs.State.{counts_of, Held}
use Rattle.theorems.proofs.Links.{Wired}

-- The tables hold a wired diagram, over what was there: which one, its counts, that its words lie within the tables, and that each
-- decision is one byte.
pub record Sits (k : Counts) (ns es : List ℕ) : Type 0 where
  pub diagram : Diagram
  pub old_n : List ℕ
  pub old_e : List ℕ
  pub held : Held diagram old_n old_e ns es
  pub counts : k ≡ counts_of diagram
  pub wired : Wired diagram
  pub start_in : diagram.start ≤ length diagram.nodes
  pub nodes_in : length diagram.nodes * node_words ≤ length ns
  pub edges_in : length diagram.edges * edge_words ≤ length es
  pub bytes : (e : ℕ) → e < length diagram.edges → (edge_at diagram.edges e).decision < 256

-- and row r is one of its rows
pub record Row (ns es : List ℕ) (r : ℕ) : Type 0 where
  pub counts : Counts
  pub sits : Sits counts ns es
  pub inside : r < length sits.diagram.nodes
