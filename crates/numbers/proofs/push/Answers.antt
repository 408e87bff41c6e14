-- `numbers::push` meets its contract: each of its tests is one of the definition's.
use Rattle.std.proofs.Common.{◌≤◌, sym, arith}
use Rattle.numbers.proofs.Pushing.{push_below, push_above, push_large, push_more}
use Rattle.numbers.proofs.push.Goals as goal

pub returns-then-not-matches : goal.returns-then-not-matches
returns-then-not-matches c = grind (arith, push_below, push_above)

pub returns-in_err-checked_mul : goal.returns-in_err-checked_mul
returns-in_err-checked_mul c =
    rw c.from_residual.ensures (sym (push_large c.args.value c.args.byte (omega (arith, c.in_err-checked_mul.ensures))))

pub returns : goal.returns
returns c =
    let low : 48 ≤ c.args.byte = grind arith in
    let high : c.args.byte ≤ 57 = grind arith in
    push_more _ _ _ _ _ low high c.from-digit.ensures c.in_ok-checked_mul.ensures.1 c.checked_add.ensures
