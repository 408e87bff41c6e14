-- What the call pick promises, by value and over a lent search: the answer, the search, both lists and both tables after it are the definition's.
use Rattle.std.specs.Prelude.{◌≡◌, List, ℕ, Result, Ok, Err}
use Rattle.searches.specs.Places.{Place}
use Rattle.searches.specs.Pick.{After}
use Rattle.search.specs.declared.Search.{Search}
use Rattle.search.specs.Held.{search_of}
use Rattle.search.specs.Answered.{picked_from}

pub record Picks (d : After) (p : Result Search ℕ) (ns es : List ℕ) (list : List Place) (scratch : List ℕ) : Type 0 where
  pub answered : p ≡ picked_from d.answer d.search
  pub nodes_are : ns ≡ d.held.lent.nodes
  pub edges_are : es ≡ d.held.lent.edges
  pub list_is : list ≡ d.held.list
  pub scratch_is : scratch ≡ d.held.lent.records

-- an answer without its search
abbrev pub verdict_of : Result Search ℕ → Result (Unit {0}) ℕ
verdict_of (Ok s) = Ok tt
verdict_of (Err n) = Err n

-- the same where the search is lent: it is changed in place, and the answer is whether it was
pub record PicksIn (d : After) (v : Result (Unit {0}) ℕ) (s : Search) (ns es : List ℕ) (list : List Place) (scratch : List ℕ) : Type 0 where
  pub answered : v ≡ verdict_of (picked_from d.answer d.search)
  pub search_is : search_of s ≡ d.search
  pub nodes_are : ns ≡ d.held.lent.nodes
  pub edges_are : es ≡ d.held.lent.edges
  pub list_is : list ≡ d.held.list
  pub scratch_is : scratch ≡ d.held.lent.records
