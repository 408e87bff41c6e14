-- What listing a whole cutset and draining it promise.
use Rattle.std.specs.Prelude.{◌≡◌, cond, List, [], ℕ, ◌≤◌, leb, length, Option, Some, None, Result, Ok, Err}
use Rattle.diagram.specs.Record.{Record}
use Rattle.diagram.specs.Tables.{Diagram}
use Rattle.diagram.specs.After4.{CutsetKind, last_exact_layer, frontier, Cutset, layer_cutset, frontier_layers, no_cutset, cutset_of}
use Rattle.layout.specs.Table.{over}
use Rattle.layout.specs.Rows.{node_table, edge_table}
use Rattle.layout.specs.Records.{record_table}
use Rattle.layers.specs.declared.Layers.{Layers}
use Rattle.layers.specs.declared.Layer.{Layer}
use Rattle.layers.specs.Stored.{stored, last_of}
use Rattle.theorems.proofs.Once.{Few}
use Rattle.cutset.specs.declared.Wanted.{Wanted}
use Rattle.cutset.specs.declared.Kind.{Kind}
use Rattle.cutset.specs.declared.Kind.TheVariants.{LastExactLayer, Frontier}
use Rattle.cutset.specs.Views.{uncuts}
use Rattle.cutset.specs.Trace.{drained_of, Settled, Ranged}

-- the same question without room: rows are flagged and counted, and no record is written
abbrev pub counting : Wanted → Wanted
counting w = record { room = 0; best = w.best; path = w.path; depth = w.depth }

abbrev pub kind_of : Kind → CutsetKind
kind_of LastExactLayer = last_exact_layer
kind_of Frontier = frontier

-- the last exact layer ends within so many rows
abbrev pub LastIn : ℕ → Option Layer → Type 0
LastIn n None = Unit {0}
LastIn n (Some l) = l.to ≤ n

-- the stored layers and the last exact layer as the code holds them are the diagram's, and lie within its rows
pub record Shaped (l : Layers) (s : Option Layer) (d : Diagram) (c : Cutset) : Type 0 where
  pub layers_are : d.layers ≡ stored l
  pub last_is : d.last ≡ last_of s
  pub ranged : Ranged (length d.nodes) (stored l)
  pub last_in : LastIn (length d.nodes) s
  pub few : Few c

-- a cutset of that kind, listed behind the rows that c lists
unfoldable pub cutset_from : CutsetKind → Diagram → Cutset → Cutset
cutset_from last_exact_layer d c = layer_cutset d.last c
cutset_from frontier d c = frontier_layers d.edges d.layers c

-- The tables hold diagram d, which has its marks and bottom values and no cutset flag yet.
pub record Bounded (w : Wanted) (l : Layers) (s : Option Layer) (d : Diagram) (old_n old_e : List ℕ) (count : ℕ) (ns es rs : List ℕ) : Type 0 where
  pub nodes_are : ns ≡ over (node_table d.nodes) old_n
  pub edges_are : es ≡ over (edge_table d.edges) old_e
  pub count_is : count ≡ length d.nodes
  pub clear : uncuts d.nodes ≡ d.nodes
  pub settled : Settled w d rs
  pub shaped : Shaped l s d (no_cutset d)

-- They hold some such diagram.
pub record Drainable (w : Wanted) (l : Layers) (s : Option Layer) (count : ℕ) (ns es rs : List ℕ) : Type 0 where
  pub diagram : Diagram
  pub old_n : List ℕ
  pub old_e : List ℕ
  pub bounded : Bounded w l s diagram old_n old_e count ns es rs

-- what is answered, a refusal by its number, and what is written into the list: all, or, where that is more than it has places for, nothing
abbrev pub answer : ℕ → List Record → Result ℕ ℕ
answer room xs = cond (leb (length xs) room) (Ok (length xs)) (Err 13)

abbrev pub fitting : ℕ → List Record → List Record
fitting room xs = cond (leb (length xs) room) xs []

-- the flags are set, and the records xs of the marked rows are in the list, if it has places for all of them
pub record Drains (room : ℕ) (c : Cutset) (xs : List Record) (old_n rs : List ℕ) (r : Result ℕ ℕ) (ns' rs' : List ℕ) : Type 0 where
  pub answer_is : r ≡ answer room xs
  pub nodes_are : ns' ≡ over (node_table c.nodes) old_n
  pub records_are : rs' ≡ over (record_table (fitting room xs)) rs

pub record DrainedOff (w : Wanted) (l : Layers) (s : Option Layer) (k : Kind) (count : ℕ) (ns es rs : List ℕ) (r : Result ℕ ℕ) (ns' rs' : List ℕ) : Type 0 where
  pub does : (d : Diagram) (old_n old_e : List ℕ) → Bounded w l s d old_n old_e count ns es rs → Drains w.room (cutset_of (kind_of k) d) (drained_of w d (cutset_of (kind_of k) d).listed) old_n rs r ns' rs'
