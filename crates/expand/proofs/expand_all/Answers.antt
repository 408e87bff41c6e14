-- `expand::expand_all` meets its contract: the rows of the list are expanded, or one of them was refused.
use Rattle.std.proofs.lemmas.Result.{err_from_is_err_and}
use Rattle.branch.proofs.Same.{same_self, same_then}
use Rattle.expand.proofs.Rounds.{passed_none, passed_one, passed_stopped, passed_all}
use Rattle.expand.proofs.expand_all.Goals as goal

pub loop-row-init : goal.loop-row-init
loop-row-init c = record { same = same_self _ _ _; passed = passed_none _ _ _ _ _ _ _ _ _ _ c.requires.fit }

pub returns-in_err-expand_node-clause-does : goal.returns-in_err-expand_node-clause-does
returns-in_err-expand_node-clause-does c =
    let p = err_from_is_err_and c.from_residual.result c.from_residual.ensures.1 in
    let v = c.loop-row.invariant in
    let q = passed_one _ _ _ _ _ _ _ _ _ _ _ _ _ _ _ _ _ _ _ c.loop-row-test.true c.requires.rows_in_front v.same.stays.start_is v.same.stays.rooms_are v.passed c.in_err-expand_node.ensures.does in
    rw (p.1, p.2) (passed_stopped _ _ _ _ _ _ _ _ _ _ _ _ _ _ _ q)

pub loop-row-preserved : goal.loop-row-preserved
loop-row-preserved c =
    let v = c.loop-row.invariant in
    record {
      same = same_then v.same c.in_ok-expand_node.ensures.same;
      passed = passed_one _ _ _ _ _ _ _ _ _ _ _ _ _ _ _ _ _ _ _ c.loop-row-test.true c.requires.rows_in_front v.same.stays.start_is v.same.stays.rooms_are v.passed c.in_ok-expand_node.ensures.does;
    }

pub returns-clause-does : goal.returns-clause-does
returns-clause-does c = passed_all _ _ _ _ _ _ _ _ _ _ _ _ _ _ c.loop-row.invariant.passed c.loop-row-test.false
