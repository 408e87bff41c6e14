-- `finish::raise_parents` goes from a row's newest inbound edge to older ones: those from the link on are left. A next number is the smaller one.
use Rattle.finish.proofs.Raising.{Raising}
use Rattle.finish.proofs.raise_parents.Given as goal

abbrev pub invariant-loop-e : goal.invariant-loop-e
invariant-loop-e l = Raising l.own l.initial.link.0 l.initial.nodes l.edges l.link.0 l.nodes

abbrev pub decreases-loop-e : goal.decreases-loop-e
decreases-loop-e l = l.link.0
