-- `grow` meets its contract: the run that was rooted is grown layer by layer.
use Rattle.std.proofs.Common.{rules}
use Rattle.std.proofs.lemmas.Result.{err_from_is_err_and}
use Rattle.grow.proofs.Rounds.{root_stopped, root_ready, begun_of, whole_grown}
use Rattle.grow.proofs.grow.Goals as goal

pub returns-in_err-counts : goal.returns-in_err-counts
returns-in_err-counts c =
    let p = err_from_is_err_and c.from_residual.result c.from_residual.ensures.1 in
    rw (p.1, p.2) (root_stopped _ _ _ _ _ _ c.requires _ _ c.in_err-counts.ensures)

pub invariant_of-d : goal.invariant_of-d
invariant_of-d c = record { ready = root_ready _ c.args.items.profits.now _ _ _ _ c.requires _ _ c.in_ok-counts.ensures }

pub grow_layers-requires-clause-begun : goal.grow_layers-requires-clause-begun
grow_layers-requires-clause-begun c = begun_of _ _ _ _ _ _ c.requires _ _ _ c.in_ok-counts.ensures c.new.ensures.layers

pub returns-in-Ok : goal.returns-in-Ok
returns-in-Ok c =
    whole_grown _ _ _ _ _ _ c.requires _ _ _ c.in_ok-counts.ensures c.new.ensures.layers _ _ _ _ _ c.in-Ok.ensures.does (search rules) (search rules)

pub returns-in-Err : goal.returns-in-Err
returns-in-Err c =
    whole_grown _ _ _ _ _ _ c.requires _ _ _ c.in_ok-counts.ensures c.new.ensures.layers _ _ _ _ _ c.in-Err.ensures.does (search rules) (search rules)
