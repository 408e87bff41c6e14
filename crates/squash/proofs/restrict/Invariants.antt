-- `restrict` meets its contract. The invariant: the rows that were passed are flagged, and flagging those left gives the rest.
use Rattle.squash.proofs.Deleting.{Deleting}
use Rattle.squash.proofs.restrict.Given as goal

abbrev pub invariant-loop-i : goal.invariant-loop-i
invariant-loop-i l = Deleting l.width l.layer l.initial.nodes l.i l.nodes
