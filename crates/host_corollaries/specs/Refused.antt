-- What a call that didn't return 0 leaves: a compile an answer all 0, a start or a pick the search and the list as they were.
use Rattle.std.specs.Prelude.{◌≡◌, List, ◌≢◌, ℕ, ℤ}
use Rattle.calls.specs.Asked.{Problem}
use Rattle.calls.specs.Compile.{Request, Lent, compile}
use Rattle.searches.specs.Places.{Place}
use Rattle.searches.specs.Search.{Search}
use Rattle.searches.specs.Start.{start}
use Rattle.searches.specs.Pick as Pick
use Rattle.searches.specs.Pick.{pick}
use Rattle.border.specs.declared.Found.{Found}
use Rattle.border.specs.declared.HostSearch.{HostSearch}
use Rattle.border.specs.Border.{nothing_found}
use Rattle.host.specs.Promises.{CompilesFor, StartsFor, PicksFor}

-- 'A refusing compile gives its number alone.'
abbrev pub RefusedCompileFindsNothing : Type 0
RefusedCompileFindsNothing = (q : Request) (l : Lent) (n : ℕ) (found : Found) (ns es rs : List ℕ) → CompilesFor (compile q l) n found ns es rs → n ≢ 0 → found ≡ nothing_found

-- 'refused, it gives no search and leaves the list unchanged'
abbrev pub RefusedStartKeeps : Type 0
RefusedStartKeeps = (p : Problem) (bound : ℤ) (l : List Place) (n : ℕ) (old s : HostSearch) (list : List Place) → StartsFor (start p bound l) n old s list → n ≢ 0 → (s ≡ old) × (list ≡ l)

-- 'A refused pick changes neither search nor open list'
abbrev pub RefusedPickKeeps : Type 0
RefusedPickKeeps =
    (q : Pick.Asked) (t : Search) (h : Pick.Held) (n : ℕ) (old s : HostSearch) (ns es : List ℕ) (list : List Place) (scratch : List ℕ) → PicksFor (pick q t h) n old s ns es list scratch → n ≢ 0 → (s ≡ old) × (list ≡ h.list)
