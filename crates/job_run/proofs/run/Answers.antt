-- `run` meets its contract: a start, then turn after turn, each with fewer turns left, until no record is open or a call is refused.
use Rattle.std.proofs.Common.{arith, sym}
use Rattle.std.proofs.lemmas.Result.{err_from_is_err_and}
use Rattle.std.proofs.lemmas.List.{length-take-le}
use Rattle.cutset.specs.Whole.{kind_of}
use Rattle.records.specs.Structs.{places}
use Rattle.records.proofs.Places.{places_length}
use Rattle.search.specs.Asked.{problem_of}
use Rattle.pick_steps.specs.Tried.{held_in}
use Rattle.job_run.proofs.Turning.{first_left, first_refused, picks_largest, turned_left, turned_refused, is_over, same_rooms}
use Rattle.job_run.proofs.run.Goals as goal

pub returns-in_err-s : goal.returns-in_err-s
returns-in_err-s c =
    let q = problem_of c.args.weights.now c.args.profits.now c.args.ask.page c.args.ask.width in
    let h₀ = held_in (places c.args.list.now) c.args.nodes.now c.args.edges.now c.args.scratch.now in
    let p = err_from_is_err_and c.from_residual.result c.from_residual.ensures.1 in
    rw (p.1, p.2) (first_refused q (kind_of c.args.ask.kind) h₀ _ (places c.start.new.list) c.in_err-s.ensures)

pub loop-s-init : goal.loop-s-init
loop-s-init c =
    let q = problem_of c.args.weights.now c.args.profits.now c.args.ask.page c.args.ask.width in
    let h₀ = held_in (places c.args.list.now) c.args.nodes.now c.args.edges.now c.args.scratch.now in
    first_left q (kind_of c.args.ask.kind) h₀ c.in_ok-s.s (places c.start.new.list) c.in_ok-s.ensures

pub slice_bounds-largest-end : goal.slice_bounds-largest-end
slice_bounds-largest-end c = omega (arith, places_length c.loop-s.list, c.loop-s.invariant.room)

pub slice_bounds-largest-end-in-loop-s : goal.slice_bounds-largest-end-in-loop-s
slice_bounds-largest-end-in-loop-s c =
    sym (length-take-le c.loop-s.s.opened c.loop-s.list (omega (arith, places_length c.loop-s.list, c.loop-s.invariant.room)))

pub returns-in_err-s-2 : goal.returns-in_err-s-2
returns-in_err-s-2 c =
    let q = problem_of c.args.weights.now c.args.profits.now c.args.ask.page c.args.ask.width in
    let h₀ = held_in (places c.args.list.now) c.args.nodes.now c.args.edges.now c.args.scratch.now in
    let h = held_in (places c.loop-s.list) c.loop-s.nodes c.loop-s.edges c.loop-s.scratch in
    let rooms = same_rooms _ _ _ _ _ _ c.loop-s.auto.nodes c.loop-s.auto.edges c.loop-s.auto.scratch in
    let picks = picks_largest _ _ _ c.loop-s.s _ c.loop-s.list _ _ _ c.largest-place.ensures _ _ _ _ _ c.in_err-s-2.ensures in
    let p = err_from_is_err_and c.from_residual-in_err-s-2.result c.from_residual-in_err-s-2.ensures.1 in
    rw (p.1, p.2) (turned_refused q (kind_of c.args.ask.kind) h₀ h rooms c.loop-s.s c.loop-s.invariant c.loop-s-test.true _ _ _ _ _ picks)

pub loop-s-smaller : goal.loop-s-smaller
loop-s-smaller c =
    let q = problem_of c.args.weights.now c.args.profits.now c.args.ask.page c.args.ask.width in
    let h₀ = held_in (places c.args.list.now) c.args.nodes.now c.args.edges.now c.args.scratch.now in
    let h = held_in (places c.loop-s.list) c.loop-s.nodes c.loop-s.edges c.loop-s.scratch in
    let rooms = same_rooms _ _ _ _ _ _ c.loop-s.auto.nodes c.loop-s.auto.edges c.loop-s.auto.scratch in
    let picks = picks_largest _ _ _ c.loop-s.s _ c.loop-s.list _ _ _ c.largest-place.ensures _ _ _ _ _ c.in_ok-s-2.ensures in
    (turned_left q (kind_of c.args.ask.kind) h₀ h rooms c.loop-s.s c.loop-s.invariant c.loop-s-test.true _ _ _ _ c.in_ok-s-2.s picks).0

pub loop-s-preserved : goal.loop-s-preserved
loop-s-preserved c =
    let q = problem_of c.args.weights.now c.args.profits.now c.args.ask.page c.args.ask.width in
    let h₀ = held_in (places c.args.list.now) c.args.nodes.now c.args.edges.now c.args.scratch.now in
    let h = held_in (places c.loop-s.list) c.loop-s.nodes c.loop-s.edges c.loop-s.scratch in
    let rooms = same_rooms _ _ _ _ _ _ c.loop-s.auto.nodes c.loop-s.auto.edges c.loop-s.auto.scratch in
    let picks = picks_largest _ _ _ c.loop-s.s _ c.loop-s.list _ _ _ c.largest-place.ensures _ _ _ _ _ c.in_ok-s-2.ensures in
    (turned_left q (kind_of c.args.ask.kind) h₀ h rooms c.loop-s.s c.loop-s.invariant c.loop-s-test.true _ _ _ _ c.in_ok-s-2.s picks).1

pub returns : goal.returns
returns c =
    let q = problem_of c.args.weights.now c.args.profits.now c.args.ask.page c.args.ask.width in
    let h₀ = held_in (places c.args.list.now) c.args.nodes.now c.args.edges.now c.args.scratch.now in
    let h = held_in (places c.loop-s.list) c.loop-s.nodes c.loop-s.edges c.loop-s.scratch in
    is_over q (kind_of c.args.ask.kind) h₀ c.loop-s.s h c.loop-s.invariant (omega (arith, c.loop-s-test.false))
