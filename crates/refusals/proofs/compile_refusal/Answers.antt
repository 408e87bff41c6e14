-- `refusals::compile_refusal` meets its contract: a number of 1 to 6 stands, and where none applies 7 to 9 of the same items decide.
use Rattle.std.proofs.Common.{sym}
use Rattle.std.proofs.lemmas.Result.{err_from_is_err_and}
use mir.Syntax.{w64}
use mir.ValLaws.{to_z-of_z}
use Rattle.refusals.proofs.Accepted.{compile_before, compile_behind}
use Rattle.refusals.proofs.compile_refusal.Goals as goal

pub returns-in_err-items-clause-refused : goal.returns-in_err-items-clause-refused
returns-in_err-items-clause-refused c bound =
    let p = err_from_is_err_and c.from_residual.result c.from_residual.ensures.1 in
    rw (p.1, p.2) (compile_before _ _ _ (sym c.in_err-items.ensures.refused))

pub returns-in_err-record_refusal-clause-refused : goal.returns-in_err-record_refusal-clause-refused
returns-in_err-record_refusal-clause-refused c bound =
    let p = err_from_is_err_and c.from_residual-in_err-record_refusal.result c.from_residual-in_err-record_refusal.ensures.1 in
    let same = c.in_ok-items.ensures.checked in
    let h = c.in_err-record_refusal.ensures c.args.width bound in
    rw (p.1, p.2) (compile_behind _ _ _ (sym c.in_ok-items.ensures.refused) (rw (same.0, same.1, to_z-of_z w64 c.args.value c.ranges.value) at h))

pub returns-clause-refused : goal.returns-clause-refused
returns-clause-refused c bound =
    let same = c.in_ok-items.ensures.checked in
    let h = c.in_ok-record_refusal.ensures c.args.width bound in
    compile_behind _ _ _ (sym c.in_ok-items.ensures.refused) (rw (same.0, same.1, to_z-of_z w64 c.args.value c.ranges.value) at h)
