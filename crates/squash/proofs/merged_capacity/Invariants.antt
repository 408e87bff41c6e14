-- `merged_capacity` meets its contract. The invariant: the larger of the largest capacity so far and the rest's is that of all rows.
use Rattle.squash.proofs.Scanning.{Most}
use Rattle.squash.proofs.merged_capacity.Given as goal

abbrev pub invariant-loop-r : goal.invariant-loop-r
invariant-loop-r l = Most l.rest l.d.nodes.now l.r-index l.most
