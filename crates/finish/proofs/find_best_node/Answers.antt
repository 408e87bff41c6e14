-- `finish::find_best_node` meets its contract: a row more at each turn.
use native.Mathlib.Omega.{arith}
use Rattle.finish.proofs.Terminals.{none_yet, one_row_more}
use Rattle.finish.proofs.find_best_node.Goals as goal

pub loop-i-init : goal.loop-i-init
loop-i-init c = record { low = c.requires.0; found = none_yet _ _ _ }

pub loop-i-preserved : goal.loop-i-preserved
loop-i-preserved c =
    record { low = omega arith; found = one_row_more _ _ _ _ _ _ _ (omega arith) (omega arith) c.loop-i.invariant.found c.better_of-best.ensures }
