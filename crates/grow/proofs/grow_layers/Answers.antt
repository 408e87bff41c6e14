-- `grow_layers` meets its contract: the run goes on layer by layer, until one is refused, none comes or no item is left.
use native.Mathlib.Omega.{arith}
use Rattle.std.proofs.Common.{rules}
use Rattle.std.proofs.lemmas.Result.{err_from_is_err_and}
use Rattle.grow.proofs.Rounds.{can_turn, can_store, completed_empty, completed_last, completed_refused, progress_on}
use Rattle.grow.proofs.grow_layers.Goals as goal

pub store_empty-requires : goal.store_empty-requires
store_empty-requires c =
    rw c.growth_at.ensures (can_store _ _ _ _ _ _ _ c.requires.begun _ _ _ _ c.loop-depth.invariant.progress c.args.items.limits (omega (arith, c.loop-depth-test.true, c.len-depth-end.ensures)))

pub returns-then-d-clause-does : goal.returns-then-d-clause-does
returns-then-d-clause-does c =
    completed_empty _ _ _ _ _ _ _ c.requires.begun _ _ _ _ c.loop-depth.invariant.progress c.args.items.limits (omega (arith, c.loop-depth-test.true, c.len-depth-end.ensures)) c.if-d.true _ (rw c.growth_at.ensures at c.store_empty.ensures)

pub grow_layer-requires-clause-turn : goal.grow_layer-requires-clause-turn
grow_layer-requires-clause-turn c =
    can_turn _ _ _ _ _ _ _ c.requires.begun _ _ _ _ c.loop-depth.invariant.progress c.args.items.limits (omega (arith, c.loop-depth-test.true, c.len-depth-end.ensures)) _ (omega arith)

pub returns-in_err-grow_layer-clause-does : goal.returns-in_err-grow_layer-clause-does
returns-in_err-grow_layer-clause-does c =
    let p = err_from_is_err_and c.from_residual.result c.from_residual.ensures.1 in
    rw (p.1, p.2) (completed_refused _ _ _ _ _ _ _ c.requires.begun _ _ _ _ c.loop-depth.invariant.progress c.args.items.limits (omega (arith, c.loop-depth-test.true, c.len-depth-end.ensures)) c.if-d.false _ _ _ c.in_err-grow_layer.ensures.does)

pub loop-depth-preserved : goal.loop-depth-preserved
loop-depth-preserved c =
    record {
      stay = search rules;
      progress = progress_on _ _ _ _ _ _ _ c.requires.begun _ _ _ _ c.loop-depth.invariant.progress c.args.items.limits (omega (arith, c.loop-depth-test.true, c.len-depth-end.ensures)) c.if-d.false _ _ _ c.in_ok-grow_layer.ensures.does;
    }

pub store_last-requires : goal.store_last-requires
store_last-requires c =
    rw c.growth_at-2.ensures (can_store _ _ _ _ _ _ _ c.requires.begun _ _ _ _ c.loop-depth.invariant.progress c.args.items.limits (omega (arith, c.loop-depth.auto.depth-end (omega (arith, c.requires.begun.depth_in, c.len-depth-end.ensures)), c.len-depth-end.ensures)))

pub returns-clause-does : goal.returns-clause-does
returns-clause-does c =
    completed_last _ _ _ _ _ _ _ c.requires.begun _ _ _ _ c.loop-depth.invariant.progress c.args.items.limits (omega (arith, c.loop-depth.auto.depth-end (omega (arith, c.requires.begun.depth_in, c.len-depth-end.ensures)), c.len-depth-end.ensures)) (omega (arith, c.loop-depth-test.false, c.len-depth-end.ensures)) _ (rw c.growth_at-2.ensures at c.store_last.ensures)
