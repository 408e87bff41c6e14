-- `checked` meets its contract: 1 to 6 and 14 stand, and where none applies the record decides.
use mathlib.Core.Path.{sym, ◌∙◌}
use Rattle.std.proofs.lemmas.Result.{err_from_is_err_and}
use Rattle.pick_steps.proofs.Numbers.{numbers_first, numbers_then}
use Rattle.pick_steps.proofs.checked.Goals as goal

pub returns-in_err-items : goal.returns-in_err-items
returns-in_err-items c =
    let p = err_from_is_err_and c.from_residual.result c.from_residual.ensures.1 in
    rw (p.1, p.2) (sym (numbers_first _ _ _ _ _ _ (sym c.in_err-items.ensures.refused)))

pub returns : goal.returns
returns c =
    let same = c.in_ok-items.ensures.checked in
    (rw (same.0, same.1) at (c.record_verdict.ensures c.args.ask.width)) ∙ sym (numbers_then _ _ _ _ _ (sym c.in_ok-items.ensures.refused))
