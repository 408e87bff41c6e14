-- `twin_of` meets its contract. The invariant: no row passed has the capacity, so those left decide.
use Rattle.squash.proofs.Scanning.{Passed}
use Rattle.squash.proofs.twin_of.Given as goal

abbrev pub invariant-loop-r : goal.invariant-loop-r
invariant-loop-r l = Passed l.kept l.d.nodes.now l.capacity l.r-index
