-- `numbers::read` meets its contract. The invariant: the bytes that are left, behind the number that was read, make the number of the whole.
use Rattle.std.proofs.Common.{sym, ◌∙◌, arith}
use Rattle.numbers.proofs.Pushing.{number_empty, number_whole, read_on, read_no, push_done}
use Rattle.numbers.proofs.read.Goals as goal

pub returns-then-is_empty : goal.returns-then-is_empty
returns-then-is_empty c = grind (arith, number_empty)

pub loop-byte-init : goal.loop-byte-init
loop-byte-init c = grind (arith, number_whole)

pub returns-in_err-value : goal.returns-in_err-value
returns-in_err-value c = rw c.from_residual.ensures (read_no _ _ _ c.loop-byte-test.true (sym c.in_err-value.ensures) c.loop-byte.invariant)

pub loop-byte-preserved : goal.loop-byte-preserved
loop-byte-preserved c = read_on _ _ _ _ c.loop-byte-test.true (sym c.in_ok-value.ensures) c.loop-byte.invariant

pub returns : goal.returns
returns c = sym (push_done _ _ _ c.loop-byte-test.false) ∙ c.loop-byte.invariant
