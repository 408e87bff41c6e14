-- The calls of one search are a trace of the definition, so demand 3 holds of them.
use mathlib.Core.Path.{◌≡◌, refl, sym, ap, subst, ◌∙◌}
use mathlib.Core.List.{List}
use Prim.Native.Nat.{ℕ}
use native.Mathlib.Omega.{arith}
use lib.IntN.{ℤ}
use lib.ListN.{take}
use Rattle.cutset.specs.Whole.{kind_of}
use Rattle.std.specs.Prelude.{Result, Ok}
use Rattle.records.specs.declared.Record.{Record}
use Rattle.records.specs.Structs.{places}
use Rattle.records.proofs.Places.{places_take}
use Rattle.searches.specs.Places.{Place}
use Rattle.searches.specs.Search as Def
use Rattle.searches.specs.Search.{open_in}
use Rattle.searches.specs.Start as Start
use Rattle.searches.specs.Start.{start, refused, started}
use Rattle.searches.specs.Pick as Pick
use Rattle.searches.specs.Pick.{pick, refused_by, accepted}
use Rattle.searches.specs.Trace.{Blocks, problem_at, Attempt, Trace, begins, goes_on}
use Rattle.search.specs.declared.Search.{Search}
use Rattle.search.specs.Held.{search_of, search_from}
use Rattle.search.specs.Answered.{started_from, picked_from}
use Rattle.demand3.proofs.Few.{picks_are_few}
use Rattle.demand3.proofs.Ended.{empty_means_optimal}
use Rattle.demand3.proofs.Always.{always_stands}
use Rattle.pick_steps.specs.Tried.{asked_in, held_in}
use Rattle.pick.specs.Picks.{verdict_of}
use Rattle.pick.proofs.Kept.{search_after_is}
use Rattle.search_corollaries.specs.Calls as Calling
use Rattle.search_corollaries.specs.Calls.{Calls, CallsAreFew, CallsEndOptimal, CallsStand, given, PickInPlace, LentSearchGoesOn}

-- an accepted start's answer holds the definition's search
started_is : (x : Start.Started) (s : Search) → Ok s ≡ started_from x → x ≡ started (search_of s)
started_is (refused n) s e = let z : ◌≡◌ {A = ℕ} 0 1 = cc in absurd (omega arith)
started_is (started d) s e = let same : s ≡ search_from d = cc in ap (λ (t : Search). started (search_of t)) (sym same)

-- equal first records are equal first places
opened_same : (n : ℕ) (xs ys : List Record) → take n xs ≡ take n ys → take n (places xs) ≡ take n (places ys)
opened_same n xs ys e = sym (places_take n xs) ∙ ap places e ∙ places_take n ys

pub trace_of : {b : Blocks} {bound : ℤ} {most : ℕ} {s : Search} {list : List Record} → Calls b bound most s list → Trace b bound most (search_of s) (places list)
unfolding open_in
trace_of {b} {bound} {most} (Calling.begins width list list' s h) =
    let e = started_is (start (problem_at b width) bound (places list)).answer s h.answered in
    subst (λ (l : List Place). Trace b bound most (search_of s) l) (sym h.written) (begins width (places list) (search_of s) e)
trace_of {b} {bound} {most} (Calling.goes_on {s} {list} c ask place lent lent' scratch scratch' ns es ns' es' p page same few h) =
    let at : Attempt = record { width = ask.width; kind = kind_of ask.kind; place = place; held = held_in (places lent) ns es scratch } in
    let d = pick (asked_in b.weights b.profits ask place) (search_of s) (held_in (places lent) ns es scratch) in
    let opened : open_in (search_of s) (places lent) ≡ open_in (search_of s) (places list) = opened_same s.opened lent list same in
    subst (λ (x : Def.Search). Trace b bound most x (places lent')) (sym (search_after_is (asked_in b.weights b.profits ask place) (search_of s) (held_in (places lent) ns es scratch) p h.answered))
    (subst (λ (l : List Place). Trace b bound most d.search l) (sym h.list_is)
    (subst (λ (n : ℕ). let e = pick (record { problem = record { weights = b.weights; profits = b.profits; page = n; width = ask.width }; kind = kind_of ask.kind; place = place }) (search_of s) (held_in (places lent) ns es scratch) in Trace b bound most e.search e.held.list) (sym page)
    (goes_on (trace_of c) at opened few)))

-- ---- demand 3 for calls

pub calls_are_few : CallsAreFew
calls_are_few b bound most s list i c = picks_are_few b bound most (search_of s) (places list) i (trace_of c)

pub calls_end_optimal : CallsEndOptimal
calls_end_optimal b bound most s list i c e = empty_means_optimal b bound most (search_of s) (places list) i (trace_of c) e

pub calls_stand : CallsStand
calls_stand b bound most s list i c = always_stands b bound most (search_of s) (places list) i (trace_of c)

-- ---- a pick over a lent search is a pick: its answer, with the search where it was lent, is what `pick` answers

given_by : (x : Pick.Picked) (s : Def.Search) (t : Search) → search_of t ≡ s → given (verdict_of (picked_from x s)) t ≡ picked_from x s
given_by (refused_by n) s t e = refl
given_by accepted s t e = ap (λ (u : Def.Search). Ok (search_from u)) e

pub in_place : PickInPlace
in_place d v t ns es list scratch h = (
  record {
    answered = ap (λ (u : Result (Unit {0}) ℕ). given u t) h.answered ∙ given_by d.answer d.search t h.search_is;
    nodes_are = h.nodes_are;
    edges_are = h.edges_are;
    list_is = h.list_is;
    scratch_is = h.scratch_is;
  },
  ap search_from h.search_is,
)

pub lent_search_goes_on : LentSearchGoesOn
lent_search_goes_on q h v s t ns es list scratch k =
    let d = pick q (search_of s) h in
    let p = given v t in
    ap search_from (search_after_is q (search_of s) h p (in_place d v t ns es list scratch k).0.answered ∙ sym k.search_is)
