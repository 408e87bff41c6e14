-- What each step of a traversal asks and promises, of the traversal as the code holds it.
use Rattle.std.specs.Prelude.{◌≡◌, List, ℕ}
use Rattle.diagram.specs.Tables.{Diagram}
use Rattle.diagram.specs.After4.{Cutset}
use Rattle.cutset.specs.declared.Traversal.{Traversal}
use Rattle.cutset.specs.Trace.{Tracing, Traced, HandedOn}

-- The tables and the list hold some diagram and cutset of which P holds.
pub record Going (P : Diagram → Cutset → Type 0) (t : Traversal) (ns : List ℕ) : Type 0 where
  pub tracing : Tracing P t.wanted t.count ns t.edges.now t.records.now

-- what a step leaves: what is asked, the edges, and where the list is
pub record Stays (t u : Traversal) : Type 0 where
  pub wanted : u.wanted ≡ t.wanted
  pub edges : u.edges.now ≡ t.edges.now
  pub records : u.records.ghost_name ≡ t.records.ghost_name

-- The traversal goes on from each cutset of which P holds to the one that f gives.
pub record Listed (P : Diagram → Cutset → Type 0) (f : Diagram → Cutset → Cutset) (t : Traversal) (ns : List ℕ) (u : Traversal) (us : List ℕ) : Type 0 where
  pub traced : Traced P f t.wanted t.count ns t.edges.now t.records.now u.count us u.records.now
  pub stays : Stays t u

-- Row r is handed on, behind those that are listed.
pub record RowHanded (r : ℕ) (t : Traversal) (ns : List ℕ) (u : Traversal) : Type 0 where
  pub handed : HandedOn t.wanted r t.count ns t.edges.now t.records.now u.count u.records.now
  pub stays : Stays t u
