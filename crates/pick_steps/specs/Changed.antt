-- How the open list changes: one record is taken from its place, and some of the scratch list's are appended.
use Rattle.std.specs.Prelude.{List, ◌++◌, ℕ, ◌+◌, ◌-◌, ◌*◌, ◌<◌, ◌≤◌, ℤ, length, take, Result, Ok, Err}
use Rattle.layout.specs.Records.{record_words}
use Rattle.searches.specs.Places.{Place, over_places}
use Rattle.searches.specs.Search.{without, above_best}
use Rattle.records.specs.Structs.{places_in}
use Rattle.pick_steps.specs.declared.Change.{Change}

-- those of the scratch list's first records that are above the best value
abbrev pub added_from : ℤ → ℕ → List ℕ → List Place
added_from best drained scratch = above_best best (places_in drained scratch)

-- there is an open record in the place, and there are places for those that are appended
pub record Replaceable (place : ℕ) (c : Change) (scratch : List ℕ) (list : List Place) : Type 0 where
  pub is_open : place < c.opened
  pub listed : c.opened ≤ length list
  pub there : c.drained * record_words ≤ length scratch
  pub room : c.opened - 1 + length (added_from c.search.best c.drained scratch) ≤ length list

-- the open list after a change
abbrev pub replaced : ℕ → Change → List ℕ → List Place → List Place
replaced place c scratch list = over_places (without place (take c.opened list) ++ added_from c.search.best c.drained scratch) list

-- the open list after a pick that comes to this: a refused one leaves it
abbrev pub list_after : ℕ → Result Change ℕ → List ℕ → List Place → List Place
list_after place (Ok c) scratch list = replaced place c scratch list
list_after place (Err n) scratch list = list
