-- The laws of the whole call `compile` as statements, for every request and all that is lent: one answer, refusals by the table, what is left in the tables.
use Rattle.std.specs.Prelude.{◌≡◌, List, ◌⊎◌, ◌≢◌, ℕ, ◌≤◌, ◌<◌, length, take, drop}
use Rattle.diagram.specs.Node.{edge_at}
use Rattle.diagram.specs.Tables.{Diagram}
use Rattle.diagram.specs.Run.{exactly}
use Rattle.diagram.specs.After6.{Outcome, drained, refused as stopped_at, finished}
use Rattle.layout.specs.Table.{over}
use Rattle.layout.specs.Rows.{node_table, edge_table}
use Rattle.layout.specs.Records.{record_table}
use Rattle.calls.specs.Compile.{Request, Lent, rooms_of, run_of, Compiled, compiled_of, refused, compiled, After, compile}
use Rattle.calls.specs.Table.{compile_rows, First, Clear}

-- ---- one answer

-- For every request and all that is lent there is an answer with tables, and only one.
abbrev pub OneAnswer : Type 0
OneAnswer = (q : Request) (l : Lent) → (a : After) × (compile q l ≡ a) × ((b : After) → compile q l ≡ b → b ≡ a)

-- ---- refusals: 'Checked in this order; the first that applies is given, never otherwise'

-- Compile answers with number n exactly if that is the number of the first row, of 1 to 13, that applies.
abbrev pub RefusedExactly : Type 1
RefusedExactly =
    (q : Request) (l : Lent) (n : ℕ) → ((compile q l).answer ≡ refused n → First (compile_rows q (rooms_of l)) n) × (First (compile_rows q (rooms_of l)) n → (compile q l).answer ≡ refused n)

-- Compile is accepted exactly if no row applies.
abbrev pub CompiledExactly : Type 1
CompiledExactly =
    (q : Request) (l : Lent) → ((c : Compiled) → (compile q l).answer ≡ compiled c → Clear (compile_rows q (rooms_of l))) × (Clear (compile_rows q (rooms_of l)) → (c : Compiled) × ((compile q l).answer ≡ compiled c))

-- A run stops with 10, 11 or 12 alone.
abbrev pub RunStops : Type 0
RunStops =
    (q : Request) (l : Lent) (n : ℕ) (d : Diagram) → run_of q (rooms_of l) ≡ stopped_at n d → (n ≡ 10) ⊎ ((n ≡ 11) ⊎ (n ≡ 12))

-- So compile refuses with 1 to 13 alone.
abbrev pub CompileNumbers : Type 0
CompileNumbers = (q : Request) (l : Lent) (n : ℕ) → (compile q l).answer ≡ refused n → (1 ≤ n) × (n ≤ 13)

-- '14 is only for picks; 15 only for job text'
abbrev pub Never14Or15 : Type 0
Never14Or15 = (q : Request) (l : Lent) → ((compile q l).answer ≢ refused 14) × ((compile q l).answer ≢ refused 15)

-- 10 comes in exact mode alone.
abbrev pub TenIsExact : Type 0
TenIsExact = (q : Request) (l : Lent) → (compile q l).answer ≡ refused 10 → q.mode ≡ exactly

-- ---- what is left in the tables

-- The words `written` stand from a table's start on, all within it; the rest is the old table's rest, and the length is unchanged.
pub record Leaves (old new written : List ℕ) : Type 0 where
  pub laid : new ≡ over written old
  pub within : length written ≤ length old
  pub first : take (length written) new ≡ written
  pub rest : drop (length written) new ≡ drop (length written) old
  pub long : length new ≡ length old

-- what a call writes into the three tables
pub record Words : Type 0 where
  pub nodes : List ℕ
  pub edges : List ℕ
  pub records : List ℕ

pub record Writes (q : Request) (l : Lent) (w : Words) : Type 0 where
  pub nodes : Leaves l.nodes (compile q l).lent.nodes w.nodes
  pub edges : Leaves l.edges (compile q l).lent.edges w.edges
  pub records : Leaves l.records (compile q l).lent.records w.records

-- Whatever is answered, the tables are words over the old ones, within them.
abbrev pub WritesWithin : Type 0
WritesWithin = (q : Request) (l : Lent) → (w : Words) × Writes q l w

-- two calls of one request that answer alike and write the same words
pub record Alike (q : Request) (l l' : Lent) : Type 0 where
  pub answers : (compile q l).answer ≡ (compile q l').answer
  pub words : Words
  pub here : Writes q l words
  pub there : Writes q l' words

-- tables of the same lengths, whatever they hold
pub record SameLengths (l l' : Lent) : Type 0 where
  pub nodes : length l.nodes ≡ length l'.nodes
  pub edges : length l.edges ≡ length l'.edges
  pub records : length l.records ≡ length l'.records

-- A table is as long after the call as before.
abbrev pub LengthsStay : Type 0
LengthsStay = (q : Request) (l : Lent) → SameLengths (compile q l).lent l

-- 'Old table contents change no answer', nor what is written; beyond that, 'Rows and list places beyond a run's own stay unchanged'.
abbrev pub OldContentsNeverEnter : Type 0
OldContentsNeverEnter = (q : Request) (l l' : Lent) → SameLengths l l' → Alike q l l'

-- no fewer whole rows and records
pub record Roomier (l l' : Lent) : Type 0 where
  pub nodes : (rooms_of l).nodes ≤ (rooms_of l').nodes
  pub edges : (rooms_of l).edges ≤ (rooms_of l').edges
  pub records : (rooms_of l).records ≤ (rooms_of l').records

-- More room never changes a compile that was accepted.
abbrev pub MoreRoom : Type 0
MoreRoom = (q : Request) (l l' : Lent) (c : Compiled) → (compile q l).answer ≡ compiled c → Roomier l l' → Alike q l l'

-- '1 to 9 … write nothing.'
abbrev pub EarlyWritesNothing : Type 0
EarlyWritesNothing = (q : Request) (l : Lent) (n : ℕ) → (compile q l).answer ≡ refused n → n ≤ 9 → (compile q l).lent ≡ l

-- 'so does the record list at 10 to 13', and at 1 to 9: a refusal leaves it.
abbrev pub RefusedKeepsList : Type 0
RefusedKeepsList = (q : Request) (l : Lent) (n : ℕ) → (compile q l).answer ≡ refused n → (compile q l).lent.records ≡ l.records

-- node and edge table hold the rows of a diagram, over what was there
pub record HoldsRows (q : Request) (l : Lent) (d : Diagram) : Type 0 where
  pub nodes : (compile q l).lent.nodes ≡ over (node_table d.nodes) l.nodes
  pub edges : (compile q l).lent.edges ≡ over (edge_table d.edges) l.edges

-- At 10 to 12 'node and edge tables then hold what was written before'.
abbrev pub StoppedHolds : Type 0
StoppedHolds =
    (q : Request) (l : Lent) (n : ℕ) → (compile q l).answer ≡ refused n → 10 ≤ n → n ≤ 12 → (d : Diagram) × (run_of q (rooms_of l) ≡ stopped_at n d) × HoldsRows q l d

-- 'After 13 the tables hold the finished diagram.'
abbrev pub ThirteenHolds : Type 0
ThirteenHolds =
    (q : Request) (l : Lent) → (compile q l).answer ≡ refused 13 → (o : Outcome) × (run_of q (rooms_of l) ≡ finished o) × HoldsRows q l o.diagram

-- An accepted compile answers its outcome, and leaves the finished diagram and its drained records.
abbrev pub CompiledHolds : Type 0
CompiledHolds =
    (q : Request) (l : Lent) (c : Compiled) → (compile q l).answer ≡ compiled c → (o : Outcome) × (run_of q (rooms_of l) ≡ finished o) × (c ≡ compiled_of q.given.path o) × HoldsRows q l o.diagram × ((compile q l).lent.records ≡ over (record_table (drained q.given.path o)) l.records)

-- An accepted compile, of at most 64 items, answers at most 65 layers: as many as a host's array holds.
abbrev pub LayersFit : Type 0
LayersFit = (q : Request) (l : Lent) (c : Compiled) → (compile q l).answer ≡ compiled c → length c.layers ≤ 65

-- ---- rows: 'each parent has a smaller row'. That before its squash a layer never has two rows of one capacity is `capacities_differ` of
-- theorems/proofs/Layers.antt; that following next numbers gives the inbound edges is `next_walk` of theorems/proofs/Links.antt.

abbrev pub ParentsSmaller : Type 0
ParentsSmaller =
    (q : Request) (l : Lent) (o : Outcome) (e : ℕ) → run_of q (rooms_of l) ≡ finished o → e < length o.diagram.edges → (edge_at o.diagram.edges e).from < (edge_at o.diagram.edges e).to
