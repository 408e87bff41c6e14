-- The run of a job: a start at i64 minimum, then picks of the largest bound, until the list is empty or a call is refused.
use Rattle.std.specs.Prelude.{true, false, List, [], ◌∷◌, map, ℕ, zero, suc, eqb, ℤ}
use Rattle.std.specs.Int.Signed.{lt_z}
use Rattle.words.specs.I64.{i64_min}
use Rattle.knapsack.specs.Items.{Item}
use Rattle.diagram.specs.After4.{CutsetKind}
use Rattle.calls.specs.Asked.{Problem}
use Rattle.calls.specs.Compile.{Lent}
use Rattle.searches.specs.Places.{Place}
use Rattle.searches.specs.Search.{Search, open_in}
use Rattle.searches.specs.Start as Start
use Rattle.searches.specs.Start.{start}
use Rattle.searches.specs.Pick as Pick
use Rattle.searches.specs.Pick.{Asked, pick}
use Rattle.jobs.specs.Text.{Job}

unfoldable pub problem_of : Job → Problem
problem_of j = record { weights = map (λ (i : Item). i.weight) j.items; profits = map (λ (i : Item). i.profit) j.items; page = j.page; width = j.width }

-- the place of the largest bound: at is the place of the first of the list, best that of the largest before it, with that bound; the lowest on a tie
unfoldable pub largest_from : ℕ → ℕ → ℤ → List Place → ℕ
largest_from at best bound [] = best
largest_from at best bound (p ∷ ps) = elim (lt_z bound p.bound) [ true ↦ largest_from (suc at) at p.bound ps | false ↦ largest_from (suc at) best bound ps ]

-- 'picks the largest bound, lowest place on a tie'
unfoldable pub largest : List Place → ℕ
largest [] = 0
largest (p ∷ ps) = largest_from 1 0 p.bound ps

-- how a run ends: by a refusal, or with an empty list
pub data Ending : Type 0 where
  refused : ℕ → Ending
  ended : Search → Ending

-- the pick of the largest bound
unfoldable pub asked_for : Problem → CutsetKind → Search → List Place → Asked
asked_for p kind s list = record { problem = p; kind = kind; place = largest (open_in s list) }

-- a pick that is refused ends the run
unfoldable pub unless_refused : Pick.Picked → Ending → Ending
unless_refused (Pick.refused_by n) e = refused n
unless_refused Pick.accepted e = e

-- The picks from a search on, `turns` of them at most. Tables and scratch list are lent anew for each; what they hold never enters an answer. (What they hold after a run: Left.)
unfoldable pub picking : ℕ → Problem → CutsetKind → Lent → Search → List Place → Ending
picking zero p kind l s list = ended s
picking (suc turns) p kind l s list =
    let d = pick (asked_for p kind s list) s (record { list = list; lent = l }) in
    elim (eqb s.opened 0) [ true ↦ ended s | false ↦ unless_refused d.answer (picking turns p kind l d.search d.held.list) ]

-- more turns than picks can be accepted: 14 comes before
abbrev pub all_turns : ℕ
all_turns = 18446744073709551616

unfoldable pub started_on : Problem → CutsetKind → Lent → List Place → Start.Started → Ending
started_on p kind l list (Start.refused n) = refused n
started_on p kind l list (Start.started s) = picking all_turns p kind l s list

-- 'It starts at i64 minimum'
unfoldable pub run_of : Problem → CutsetKind → Lent → List Place → Ending
run_of p kind l list = let d = start p i64_min list in started_on p kind l d.list d.answer

-- a job's run is that of its items' problem
unfoldable pub run : Job → Lent → List Place → Ending
run j l list = run_of (problem_of j) j.kind l list
