-- The calls of one search: an accepted start, then any picks, each answered as the call promises, with the values that the code holds; and demand 3 for them.
use Rattle.std.specs.Prelude.{◌≡◌, List, ℕ, ◌≤◌, ℤ, take, Result, Ok, Err}
use Rattle.words.specs.I64.{InI64}
use Rattle.knapsack.specs.Knapsack.{Optimum}
use Rattle.calls.specs.Compile.{rooms_of}
use Rattle.demand2.specs.Records.{items_in}
use Rattle.demand3.specs.Searches.{problem_of, item_count, geometric}
use Rattle.demand3.specs.Statements.{Ended, Stands}
use Rattle.compile.specs.Asked.{lent_of}
use Rattle.records.specs.declared.Record.{Record}
use Rattle.records.specs.Structs.{places}
use Rattle.searches.specs.Start.{start}
use Rattle.searches.specs.Places.{Place}
use Rattle.searches.specs.Pick.{Asked, Held, After, pick}
use Rattle.searches.specs.Trace.{Blocks, problem_at}
use Rattle.search.specs.declared.Search.{Search}
use Rattle.search.specs.Held.{search_of, search_from}
use Rattle.search.specs.Answered.{search_after}
use Rattle.search.specs.Begins.{Begins}
use Rattle.search.specs.declared.Ask.{Ask}
use Rattle.pick_steps.specs.Tried.{asked_in, held_in}
use Rattle.pick.specs.Picks.{Picks, PicksIn}

-- Calls b bound most s list: after those calls the host has the search s, its open records in the first places of list; no scratch list had room for more than `most` records.
-- Between two calls the list's first open-count places stay; its length, its later places, tables and scratch list may be others.
pub data Calls (b : Blocks) (bound : ℤ) (most : ℕ) : Search → List Record → Type 0 where
  begins : (width : ℕ) (list list' : List Record) (s : Search) → Begins (start (problem_at b width) bound (places list)) (Ok s) (places list') → Calls b bound most s list'
  goes_on : {s : Search} {list : List Record} → Calls b bound most s list →
      (ask : Ask) (place : ℕ) (lent lent' : List Record) (scratch scratch' ns es ns' es' : List ℕ) (p : Result Search ℕ) → ask.page ≡ b.page → take s.opened lent ≡ take s.opened list → (rooms_of (lent_of ns es scratch)).records ≤ most →
      Picks (pick (asked_in b.weights b.profits ask place) (search_of s) (held_in (places lent) ns es scratch)) p ns' es' (places lent') scratch' →
      Calls b bound most (search_after p s) lent'

-- demand 3 for calls
abbrev pub CallsAreFew : Type 0
CallsAreFew = (b : Blocks) (bound : ℤ) (most : ℕ) (s : Search) (list : List Record) → InI64 bound → Calls b bound most s list → s.picks ≤ geometric most (item_count b)

abbrev pub CallsEndOptimal : Type 0
CallsEndOptimal =
    (b : Blocks) (bound : ℤ) (most : ℕ) (s : Search) (list : List Record) → InI64 bound → Calls b bound most s list → s.opened ≡ 0 →
    (x : ℕ) → Optimum (items_in (problem_of b)) b.page x → Ended b bound (search_of s) x

abbrev pub CallsStand : Type 0
CallsStand = (b : Blocks) (bound : ℤ) (most : ℕ) (s : Search) (list : List Record) → InI64 bound → Calls b bound most s list → Stands b bound (search_of s) (places list)

-- ---- a pick over a lent search

-- what it answers, with the search that it leaves
abbrev pub given : Result (Unit {0}) ℕ → Search → Result Search ℕ
given (Ok x) t = Ok t
given (Err n) t = Err n

-- What a pick over a lent search leaves is what a pick answers, so it goes on as one; refused or not, the lent search is then the definition's.
abbrev pub PickInPlace : Type 0
PickInPlace = (d : After) (v : Result (Unit {0}) ℕ) (t : Search) (ns es : List ℕ) (list : List Place) (scratch : List ℕ) → PicksIn d v t ns es list scratch → Picks d (given v t) ns es list scratch × (t ≡ search_from d.search)

-- and the lent search is then the one that the calls have come to
abbrev pub LentSearchGoesOn : Type 0
LentSearchGoesOn =
    (q : Asked) (h : Held) (v : Result (Unit {0}) ℕ) (s t : Search) (ns es : List ℕ) (list : List Place) (scratch : List ℕ) →
    PicksIn (pick q (search_of s) h) v t ns es list scratch → search_after (given v t) s ≡ t
