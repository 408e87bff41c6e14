-- `expand::branch_both` meets its contract: a take that is refused stands, else skip is tried on what it left.
use Rattle.std.proofs.lemmas.Result.{err_from_is_err_and}
use Rattle.expand.proofs.Decisions.{both_stopped, both_going}
use Rattle.expand.proofs.branch_both.Goals as goal

pub returns-in_err-branch_take-clause-does : goal.returns-in_err-branch_take-clause-does
returns-in_err-branch_take-clause-does c =
    let p = err_from_is_err_and c.from_residual.result c.from_residual.ensures.1 in
    rw (p.1, p.2) (both_stopped _ _ _ _ _ _ _ _ _ _ _ _ c.in_err-branch_take.ensures.does)

pub returns-clause-does : goal.returns-clause-does
returns-clause-does c =
    let stays = c.in_ok-branch_take.ensures.same.stays in
    both_going _ _ _ _ _ _ _ _ _ _ _ _ _ _ _ _ stays.start_is stays.rooms_are c.in_ok-branch_take.ensures.does c.branch_on.ensures.does
