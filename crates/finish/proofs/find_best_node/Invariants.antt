-- `finish::find_best_node` goes from the last row to the first: best is the best of the rows from i on.
use Prim.Native.Nat.{◌≤◌}
use Rattle.finish.specs.Terminals.{BestFound}
use Rattle.finish.proofs.find_best_node.Given as goal

abbrev pub invariant-loop-i : goal.invariant-loop-i
invariant-loop-i l = record { low : l.start ≤ l.i; found : BestFound l.nodes l.i l.count l.exact_only l.best }
