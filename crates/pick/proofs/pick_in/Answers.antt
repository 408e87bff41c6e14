-- `pick::pick_in` meets its contract: where the pick is refused the lent search stays, and so does the definition's.
use mathlib.Core.Path.{ap}
use Rattle.std.proofs.lemmas.Result.{err_from_is_err_and}
use Rattle.reasons.specs.Numbers.{numbered}
use Rattle.pick.proofs.Kept.{refused_in}
use Rattle.pick.proofs.pick_in.Goals as goal

pub returns-in_err-s : goal.returns-in_err-s
returns-in_err-s c =
    let p = err_from_is_err_and c.from_residual.result c.from_residual.ensures.1 in
    rw (p.1, p.2) (refused_in _ c.args.s.now _ _ _ _ _ _ _ (ap numbered c.in_err-s.was) c.pick.ensures)
