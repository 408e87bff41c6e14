-- `border::columns` meets its contract: one layer more has its numbers in both arrays.
use native.Mathlib.Omega.{arith}
use Rattle.border.proofs.Arrays.{column_turn}
use Rattle.border.proofs.columns.Goals as goal

pub loop-i-preserved : goal.loop-i-preserved
loop-i-preserved c =
    (column_turn _ _ _ _ _ (omega arith) (omega arith) c.loop-i.invariant.0, column_turn _ _ _ _ _ (omega arith) (omega arith) c.loop-i.invariant.1)
