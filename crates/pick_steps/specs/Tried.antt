-- What a pick promises but for its open list: for every list with that record in that place, its answer, tables and scratch list are the definition's, and so is the list once it is changed.
use Rattle.std.specs.Prelude.{◌≡◌, List, ℕ, length, get_or, Result, Ok, Err}
use Rattle.compile.specs.Asked.{lent_of}
use Rattle.records.specs.declared.Record.{Record}
use Rattle.records.specs.Structs.{places, no_record}
use Rattle.searches.specs.Places.{Place}
use Rattle.searches.specs.Pick as Def
use Rattle.searches.specs.Pick.{Asked, Held, pick}
use Rattle.search.specs.declared.Ask.{Ask}
use Rattle.search.specs.declared.Search.{Search}
use Rattle.search.specs.Asked.{problem_of, asked_of}
use Rattle.search.specs.Held.{search_of}
use Rattle.search.specs.Answered.{picked_from}
use Rattle.pick_steps.specs.declared.Change.{Change}
use Rattle.pick_steps.specs.Changed.{Replaceable, list_after}

abbrev pub asked_in : List ℕ → List ℕ → Ask → ℕ → Asked
asked_in weights profits ask place = asked_of (problem_of weights profits ask.page ask.width) ask.kind place

abbrev pub held_in : List Place → List ℕ → List ℕ → List ℕ → Held
held_in list ns es scratch = record { list = list; lent = lent_of ns es scratch }

-- a change's search, or the refusal
abbrev pub searched : Result Change ℕ → Result Search ℕ
searched (Ok c) = Ok c.search
searched (Err n) = Err n

-- a change that makes of the list what the definition's pick makes of it
pub record Changes (d : Def.After) (place : ℕ) (list : List Place) (c : Result Change ℕ) (ns es scratch : List ℕ) : Type 0 where
  pub answered : searched c ≡ picked_from d.answer d.search
  pub nodes_are : ns ≡ d.held.lent.nodes
  pub edges_are : es ≡ d.held.lent.edges
  pub scratch_is : scratch ≡ d.held.lent.records
  pub replaceable : (x : Change) → c ≡ Ok x → Replaceable place x scratch list
  pub list_after_lem : list_after place c scratch list ≡ d.held.list

pub record Tries (ws ps : List ℕ) (ask : Ask) (place : ℕ) (s : Search) (r : Record) (room : ℕ) (ns es scratch : List ℕ) (c : Result Change ℕ) (ns' es' scratch' : List ℕ) : Type 0 where
  pub does : (rs : List Record) → r ≡ get_or rs place no_record → room ≡ length rs → Changes (pick (asked_in ws ps ask place) (search_of s) (held_in (places rs) ns es scratch)) place (places rs) c ns' es' scratch'
