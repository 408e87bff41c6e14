-- A host's calls of one search are calls of that search, which its struct stands for, so demand 3 holds of them.
use mathlib.Core.Path.{◌≡◌, refl, sym, ap, subst, ◌∙◌}
use mathlib.Core.Bool.{Bool, true, false}
use mathlib.Core.List.{List}
use Prim.Native.Nat.{ℕ}
use Rattle.std.specs.Prelude.{Ok}
use native.Mathlib.Omega.{arith}
use lib.IntN.{ℤ}
use Rattle.records.specs.declared.Record.{Record}
use Rattle.records.specs.Structs.{places}
use Rattle.searches.specs.Search as Def
use Rattle.searches.specs.Start as Start
use Rattle.searches.specs.Start.{start, started}
use Rattle.searches.specs.Pick as Pick
use Rattle.searches.specs.Pick.{refused_by, accepted, pick}
use Rattle.searches.specs.Trace.{Blocks, problem_at}
use Rattle.search.specs.declared.Search.{Search}
use Rattle.search.specs.Held.{search_of, search_from}
use Rattle.search.specs.Answered.{started_from, picked_from, search_after}
use Rattle.pick_steps.specs.Tried.{asked_in, held_in}
use Rattle.search_corollaries.specs.Calls as Calling
use Rattle.search_corollaries.specs.Calls.{Calls}
use Rattle.search_corollaries.proofs.Calls.{calls_are_few, calls_end_optimal, calls_stand}
use Rattle.border.specs.declared.HostSearch.{HostSearch}
use Rattle.border.specs.Border.{flag_in, flag_of, ask_in, search_in, host_search_of, host_search_after}
use Rattle.host_corollaries.specs.Calls as Hosting
use Rattle.host_corollaries.specs.Calls.{HostCalls, HostCallsAreFew, HostCallsEndOptimal, HostCallsStand}
use Rattle.host_corollaries.proofs.Numbers.{zero_is_started}
use Rattle.host_corollaries.proofs.Twice.{picks_below}

-- a search that a host was given is the one that it lends

flag_back : (b : Bool) → flag_in (flag_of b) ≡ b
flag_back true = refl
flag_back false = refl

search_back : (s : Search) → search_in (host_search_of s) ≡ s
search_back s = ap (λ (b : Bool). record { best = s.best; held = b; path = s.path; opened = s.opened; picks = s.picks }) (flag_back s.held)

-- an accepted start's struct stands for its search
started_search : (x : Start.Started) (t : Def.Search) (old s : HostSearch) → x ≡ started t → s ≡ host_search_after (started_from x) old → Ok (search_in s) ≡ started_from x
started_search (Start.refused n) t old s e h = let z : ◌≡◌ {A = ℕ} 0 1 = cc in absurd (omega arith)
started_search (started u) t old s e h = ap Ok (ap search_in h ∙ search_back (search_from u))

-- a pick's struct stands for the search after it, accepted or refused
picked_search : (x : Pick.Picked) (t : Def.Search) (old s : HostSearch) → s ≡ host_search_after (picked_from x t) old → search_after (picked_from x t) (search_in old) ≡ search_in s
picked_search (refused_by n) t old s h = ap search_in (sym h)
picked_search accepted t old s h = sym (ap search_in h ∙ search_back (search_from t))

pub calls_of : {b : Blocks} {bound : ℤ} {most : ℕ} {s : HostSearch} {list : List Record} → HostCalls b bound most s list → Calls b bound most (search_in s) list
calls_of {b} {bound} {most} (Hosting.begins width list list' old s h) =
    let d = start (problem_at b width) bound (places list) in
    let t = (zero_is_started (problem_at b width) bound (places list) 0 old s (places list') h).0 refl in
    Calling.begins width list list' (search_in s) (record { answered = started_search d.answer t.0 old s t.1 h.search_is; written = h.list_is })
calls_of {b} {bound} {most} (Hosting.goes_on {old} {list} c terms place lent lent' scratch scratch' ns es ns' es' n s page same few h) =
    let q = asked_in b.weights b.profits (ask_in terms) place in
    let k = held_in (places lent) ns es scratch in
    let d = pick q (search_of (search_in old)) k in
    subst (λ (x : Search). Calls b bound most x lent') (picked_search d.answer d.search old s h.search_is)
    (Calling.goes_on (calls_of c) (ask_in terms) place lent lent' scratch scratch' ns es ns' es' (picked_from d.answer d.search) page same few (picks_below d n old s ns' es' (places lent') scratch' h))

-- ---- demand 3 for a host's calls

pub host_calls_are_few : HostCallsAreFew
host_calls_are_few b bound most s list i c = calls_are_few b bound most (search_in s) list i (calls_of c)

pub host_calls_end_optimal : HostCallsEndOptimal
host_calls_end_optimal b bound most s list i c e = calls_end_optimal b bound most (search_in s) list i (calls_of c) e

pub host_calls_stand : HostCallsStand
host_calls_stand b bound most s list i c = calls_stand b bound most (search_in s) list i (calls_of c)
