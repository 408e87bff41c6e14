-- The call `start`: its answer, and the list after it, for every input and every old content.
use Rattle.std.specs.Prelude.{false, List, [], ◌∷◌, ◌++◌, ℕ, eqb, ℤ, length}
use Rattle.std.proofs.Math.Option.{Option, none, some}
use Rattle.diagram.specs.Record.{padded}
use Rattle.calls.specs.Asked.{Problem}
use Rattle.calls.specs.Refusals.{first_of, problem_checks}
use Rattle.searches.specs.Places.{Place, root_place, over_places}
use Rattle.searches.specs.Search.{Search}

-- 'A start checks 1 to 6, then 13': 'a start finds no place for the root'
unfoldable pub start_refusal : Problem → ℕ → Option ℕ
start_refusal p places = first_of (problem_checks p ++ (record { number = 13; applies = eqb places 0 } ∷ []))

-- the search before its first pick: its best value is the starting bound, no path is held, the root record is open
unfoldable pub begun : ℤ → Search
begun bound = record { best = bound; held = false; path = padded []; opened = 1; picks = 0 }

-- 'refused, it gives no search'
pub data Started : Type 0 where
  refused : ℕ → Started
  started : Search → Started

pub record After : Type 0 where
  pub answer : Started
  pub list : List Place

unfoldable pub unless : Option ℕ → Problem → ℤ → List Place → After
unless (some n) p bound list = record { answer = refused n; list = list }
unless none p bound list = record { answer = started (begun bound); list = over_places (root_place p.page ∷ []) list }

-- 'and writes the root record in the list's first place; refused, it … leaves the list unchanged.'
unfoldable pub start : Problem → ℤ → List Place → After
start p bound list = unless (start_refusal p (length list)) p bound list
