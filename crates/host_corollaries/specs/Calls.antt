-- A host's calls of one search, with the structs that it lends: a start that returned 0, then any picks; and demand 3 for them.
use Rattle.std.specs.Prelude.{◌≡◌, List, ℕ, ◌≤◌, ℤ, take}
use Rattle.words.specs.I64.{InI64}
use Rattle.knapsack.specs.Knapsack.{Optimum}
use Rattle.calls.specs.Compile.{rooms_of}
use Rattle.compile.specs.Asked.{lent_of}
use Rattle.demand2.specs.Records.{items_in}
use Rattle.demand3.specs.Searches.{problem_of, item_count, geometric}
use Rattle.demand3.specs.Statements.{Ended, Stands}
use Rattle.records.specs.declared.Record.{Record}
use Rattle.records.specs.Structs.{places}
use Rattle.searches.specs.Start.{start}
use Rattle.searches.specs.Pick.{pick}
use Rattle.searches.specs.Trace.{Blocks, problem_at}
use Rattle.search.specs.Held.{search_of}
use Rattle.pick_steps.specs.Tried.{asked_in, held_in}
use Rattle.border.specs.declared.Terms.{Terms}
use Rattle.border.specs.declared.HostSearch.{HostSearch}
use Rattle.border.specs.Border.{ask_in, search_in}
use Rattle.host.specs.Promises.{StartsFor, PicksFor}

-- HostCalls b bound most s list: after those calls the host has the struct s, the open records in the first places of list; no scratch list had room for more than `most` records.
-- Between two calls the struct and the list's first open-count places stay; the list's length, its later places, tables and scratch list may be others.
pub data HostCalls (b : Blocks) (bound : ℤ) (most : ℕ) : HostSearch → List Record → Type 0 where
  begins : (width : ℕ) (list list' : List Record) (old s : HostSearch) → StartsFor (start (problem_at b width) bound (places list)) 0 old s (places list') → HostCalls b bound most s list'
  goes_on : {old : HostSearch} {list : List Record} → HostCalls b bound most old list →
      (terms : Terms) (place : ℕ) (lent lent' : List Record) (scratch scratch' ns es ns' es' : List ℕ) (n : ℕ) (s : HostSearch) → terms.page ≡ b.page → take old.opened lent ≡ take old.opened list → (rooms_of (lent_of ns es scratch)).records ≤ most →
      PicksFor (pick (asked_in b.weights b.profits (ask_in terms) place) (search_of (search_in old)) (held_in (places lent) ns es scratch)) n old s ns' es' (places lent') scratch' →
      HostCalls b bound most s lent'

-- demand 3 for a host's calls
abbrev pub HostCallsAreFew : Type 0
HostCallsAreFew = (b : Blocks) (bound : ℤ) (most : ℕ) (s : HostSearch) (list : List Record) → InI64 bound → HostCalls b bound most s list → s.picks ≤ geometric most (item_count b)

abbrev pub HostCallsEndOptimal : Type 0
HostCallsEndOptimal =
    (b : Blocks) (bound : ℤ) (most : ℕ) (s : HostSearch) (list : List Record) → InI64 bound → HostCalls b bound most s list → s.opened ≡ 0 →
    (x : ℕ) → Optimum (items_in (problem_of b)) b.page x → Ended b bound (search_of (search_in s)) x

abbrev pub HostCallsStand : Type 0
HostCallsStand = (b : Blocks) (bound : ℤ) (most : ℕ) (s : HostSearch) (list : List Record) → InI64 bound → HostCalls b bound most s list → Stands b bound (search_of (search_in s)) (places list)
