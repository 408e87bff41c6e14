-- What reading and writing a row promise, of any rows that the table holds and of whatever lies behind them.
use Rattle.std.specs.Prelude.{◌≡◌, List, [], ◌∷◌, ◌++◌, ℕ, suc, ◌*◌, ◌<◌, ◌≤◌, length, set}
use Rattle.diagram.specs.Node.{Node, Edge, node_at, edge_at}
use Rattle.diagram.specs.Record.{Record, path_room, padded}
use Rattle.layout.specs.Table.{over}
use Rattle.layout.specs.Rows.{node_words, edge_words, node_table, edge_table}
use Rattle.layout.specs.Records.{record_words, record_table, Roomy}

-- table t read at row r gives n
pub record NodeRead (t : List ℕ) (r : ℕ) (n : Node) : Type 0 where
  pub is_row : (ns : List Node) (old : List ℕ) → t ≡ over (node_table ns) old → r < length ns → n ≡ node_at ns r

-- table t read at row r for one field of its node gives x
pub record FieldRead (t : List ℕ) (r : ℕ) (field : Node → ℕ) (x : ℕ) : Type 0 where
  pub is_field : (ns : List Node) (old : List ℕ) → t ≡ over (node_table ns) old → r < length ns → x ≡ field (node_at ns r)

pub record EdgeRead (t : List ℕ) (r : ℕ) (e : Edge) : Type 0 where
  pub is_row : (es : List Edge) (old : List ℕ) → t ≡ over (edge_table es) old → r < length es → e ≡ edge_at es r

-- table t becomes u when row r is written: a row that is there is replaced, the next one is appended
pub record NodeWritten (t : List ℕ) (r : ℕ) (n : Node) (u : List ℕ) : Type 0 where
  pub replaced : (ns : List Node) (old : List ℕ) → t ≡ over (node_table ns) old → r < length ns → u ≡ over (node_table (set ns r n)) old
  pub appended : (ns : List Node) (old : List ℕ) → t ≡ over (node_table ns) old → r ≡ length ns → suc r * node_words ≤ length old → u ≡ over (node_table (ns ++ (n ∷ []))) old

pub record EdgeWritten (t : List ℕ) (r : ℕ) (e : Edge) (u : List ℕ) : Type 0 where
  pub replaced : (es : List Edge) (old : List ℕ) → t ≡ over (edge_table es) old → r < length es → u ≡ over (edge_table (set es r e)) old
  pub appended : (es : List Edge) (old : List ℕ) → t ≡ over (edge_table es) old → r ≡ length es → suc r * edge_words ≤ length old → u ≡ over (edge_table (es ++ (e ∷ []))) old

-- record list t becomes u when record number r is written behind those that are there; bytes are its path's 64 places
pub record RecordWritten (t : List ℕ) (r capacity value bound depth : ℕ) (bytes u : List ℕ) : Type 0 where
  pub appended : (rs : List Record) (old path : List ℕ) → t ≡ over (record_table rs) old → Roomy rs → r ≡ length rs → suc r * record_words ≤ length old → length path ≤ path_room → bytes ≡ padded path → u ≡ over (record_table (rs ++ (record { capacity = capacity; value = value; bound = bound; depth = depth; path = path } ∷ []))) old
