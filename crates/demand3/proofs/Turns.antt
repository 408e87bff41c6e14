-- OneSearch: the turns of a search with one width, one cutset kind and one list are a trace, so what holds of every trace holds of them.
use mathlib.Core.Path.{◌≡◌, refl, ap}
use mathlib.Core.List.{List, [], ◌∷◌, Memᴰ}
use Prim.Native.Nat.{ℕ, ◌+◌, ◌≤◌}
use native.Mathlib.Omega.{arith}
use lib.IntN.{ℤ}
use Rattle.diagram.specs.After4.{CutsetKind}
use Rattle.calls.specs.Compile.{rooms_of}
use Rattle.searches.specs.Search.{Search}
use Rattle.searches.specs.Start.{start}
use Rattle.searches.specs.Trace.{Blocks, problem_at, Attempt, Trace, begins, goes_on}
use Rattle.demand3.specs.Statements.{Moment, Turn, turned, after_turns, accepted_in, OneSearch}
use Rattle.demand3.proofs.Always.{start_accepted}
use Rattle.demand3.proofs.Ended.{empty_means_optimal}
use Rattle.demand3.proofs.Few.{picks_are_few}
use Rattle.demand3.proofs.Empties.{begun_picks, pick_counted}

-- a turn as a pick of a trace
abbrev attempt_of : ℕ → CutsetKind → Turn → Moment → Attempt
attempt_of width kind t m = record { width = width; kind = kind; place = t.place; held = record { list = m.list; lent = t.lent } }

turns_trace : (b : Blocks) (bound : ℤ) (most width : ℕ) (kind : CutsetKind) (turns : List Turn) (m : Moment) → ((t : Turn) → Memᴰ t turns → (rooms_of t.lent).records ≤ most) → Trace b bound most m.search m.list → let e = after_turns b width kind turns m in Trace b bound most e.search e.list
unfolding after_turns turned
turns_trace b bound most width kind [] m few t = t
turns_trace b bound most width kind (u ∷ turns) m few t =
    turns_trace b bound most width kind turns _ (λ v i. few v (Memᴰ.tail i)) (goes_on t (attempt_of width kind u m) refl (few u (Memᴰ.head refl)))

-- the search's count grows by the accepted turns
turns_counted : (b : Blocks) (width : ℕ) (kind : CutsetKind) (turns : List Turn) (m : Moment) → (after_turns b width kind turns m).search.picks ≡ accepted_in b width kind turns m + m.search.picks
unfolding after_turns accepted_in turned
turns_counted b width kind [] m = omega arith
turns_counted b width kind (u ∷ turns) m =
    let p = turned b width kind u m in
    omega (arith, turns_counted b width kind turns (record { search = p.search; list = p.held.list }), pick_counted (record { problem = problem_at b width; kind = kind; place = u.place }) m.search (record { list = m.list; lent = u.lent }))

-- Statement 5.
pub one_search : OneSearch
one_search b width kind bound list s i e turns most few =
    let m : Moment = record { search = s; list = (start (problem_at b width) bound list).list } in
    let t = turns_trace b bound most width kind turns m few (begins width list s e) in
    let y = start_accepted (problem_at b width) bound list s e in
    let count : (after_turns b width kind turns m).search.picks ≡ accepted_in b width kind turns m = omega (arith, turns_counted b width kind turns m, ap (λ (u : Search). u.picks) y.search, begun_picks bound) in
    record { counted = count; bounded = omega (arith, picks_are_few b bound most _ _ i t); empty = empty_means_optimal b bound most _ _ i t }
