-- A host's call returns 0 exactly if it is accepted: no refusal has the number 0.
use Rattle.std.specs.Prelude.{◌≡◌, List, ℕ, ℤ}
use Rattle.calls.specs.Asked.{Problem}
use Rattle.calls.specs.Compile.{Request, Lent, Compiled, compiled, compile}
use Rattle.searches.specs.Places.{Place}
use Rattle.searches.specs.Search.{Search}
use Rattle.searches.specs.Start.{start, started}
use Rattle.searches.specs.Pick as Pick
use Rattle.searches.specs.Pick.{pick, accepted}
use Rattle.jobs.specs.Text.{Job, IsText}
use Rattle.jobs.specs.Run.{run, ended}
use Rattle.border.specs.declared.Found.{Found}
use Rattle.border.specs.declared.HostSearch.{HostSearch}
use Rattle.border.specs.declared.Page.{Page}
use Rattle.host.specs.Promises.{CompilesFor, StartsFor, PicksFor, RunsFor}

abbrev pub ZeroIsCompiled : Type 0
ZeroIsCompiled =
    (q : Request) (l : Lent) (n : ℕ) (found : Found) (ns es rs : List ℕ) → CompilesFor (compile q l) n found ns es rs →
    (n ≡ 0 → (c : Compiled) × ((compile q l).answer ≡ compiled c)) × ((c : Compiled) → (compile q l).answer ≡ compiled c → n ≡ 0)

abbrev pub ZeroIsStarted : Type 0
ZeroIsStarted =
    (p : Problem) (bound : ℤ) (l : List Place) (n : ℕ) (old s : HostSearch) (list : List Place) → StartsFor (start p bound l) n old s list →
    (n ≡ 0 → (t : Search) × ((start p bound l).answer ≡ started t)) × ((t : Search) → (start p bound l).answer ≡ started t → n ≡ 0)

abbrev pub ZeroIsPicked : Type 0
ZeroIsPicked =
    (q : Pick.Asked) (t : Search) (h : Pick.Held) (n : ℕ) (old s : HostSearch) (ns es : List ℕ) (list : List Place) (scratch : List ℕ) → PicksFor (pick q t h) n old s ns es list scratch →
    (n ≡ 0 → (pick q t h).answer ≡ accepted) × ((pick q t h).answer ≡ accepted → n ≡ 0)

-- a job's run is accepted if it came to its end, with an empty list
abbrev pub ZeroIsAnswered : Type 0
ZeroIsAnswered =
    (text : List ℕ) (h after : Pick.Held) (n : ℕ) (page : Page) → RunsFor text h n page after → (j : Job) → IsText text j →
    (n ≡ 0 → (s : Search) × (run j h.lent h.list ≡ ended s)) × ((s : Search) → run j h.lent h.list ≡ ended s → n ≡ 0)
