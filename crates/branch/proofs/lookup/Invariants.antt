-- `branch::lookup` meets its contract. The invariant: none of the rows before i has that capacity. The measure is what is left of the rows.
use Prim.Native.Nat.{◌≤◌, ◌-◌}
use Rattle.branch.proofs.Scan.{Passed}
use Rattle.branch.proofs.lookup.Given as goal

abbrev pub invariant-loop-i : goal.invariant-loop-i
invariant-loop-i l = (l.i ≤ l.count) × Passed l.coming l.count l.capacity l.i

abbrev pub decreases-loop-i : goal.decreases-loop-i
decreases-loop-i l = l.count - l.i
