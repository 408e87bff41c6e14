-- `list_parents` goes from a row's newest inbound edge to older ones: the parents over the edges from the link on are left.
use Rattle.cutset.proofs.Steps.{AtLink}
use Rattle.cutset.proofs.Traversal.list_parents.Given as goal

abbrev pub invariant-loop-e : goal.invariant-loop-e
invariant-loop-e l = AtLink l.initial.link.0 l.initial.self l.initial.nodes l.link.0 l.self l.nodes

abbrev pub decreases-loop-e : goal.decreases-loop-e
decreases-loop-e l = l.link.0
