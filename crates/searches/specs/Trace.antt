-- The trace of a search: a start, then any picks, refused ones included, each with its own width, cutset kind, place and lent lists and tables.
use Rattle.std.specs.Prelude.{◌≡◌, List, ℕ, ◌≤◌, ℤ}
use Rattle.diagram.specs.After4.{CutsetKind}
use Rattle.calls.specs.Asked.{Problem}
use Rattle.calls.specs.Compile.{rooms_of}
use Rattle.searches.specs.Places.{Place}
use Rattle.searches.specs.Search.{Search, open_in}
use Rattle.searches.specs.Start.{start, started}
use Rattle.searches.specs.Pick as Pick
use Rattle.searches.specs.Pick.{Asked, Held, pick}

-- The blocks and the page stay; the width is each call's own.
pub record Blocks : Type 0 where
  pub weights : List ℕ
  pub profits : List ℕ
  pub page : ℕ

abbrev pub problem_at : Blocks → ℕ → Problem
problem_at b width = record { weights = b.weights; profits = b.profits; page = b.page; width = width }

-- what a pick is given beside the search
pub record Attempt : Type 0 where
  pub width : ℕ
  pub kind : CutsetKind
  pub place : ℕ
  pub held : Held

abbrev pub asked_by : Blocks → Attempt → Asked
asked_by b a = record { problem = problem_at b a.width; kind = a.kind; place = a.place }

abbrev pub picked_by : Blocks → Search → Attempt → Pick.After
picked_by b s a = pick (asked_by b a) s a.held

-- Trace b bound most s list: from a start with that bound a host comes to search s, its open records in the first places of list; no scratch list had room for more than `most` records.
-- At each pick the list's first open-count places are as the last call left them; its length and its later places may differ.
pub data Trace (b : Blocks) (bound : ℤ) (most : ℕ) : Search → List Place → Type 0 where
  begins : (width : ℕ) (list : List Place) (s : Search) → (start (problem_at b width) bound list).answer ≡ started s → Trace b bound most s (start (problem_at b width) bound list).list
  goes_on : {s : Search} {list : List Place} → Trace b bound most s list → (a : Attempt) → open_in s a.held.list ≡ open_in s list → (rooms_of a.held.lent).records ≤ most → Trace b bound most (picked_by b s a).search (picked_by b s a).held.list
