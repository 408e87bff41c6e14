-- `copy_edges` meets its contract. The invariant: the edges left are those of the row below the link; the measure is the link, as next numbers fall.
use Rattle.branch.specs.State.{Same}
use Rattle.squash.proofs.Copying.{CopyTurn}
use Rattle.squash.proofs.copy_edges.Given as goal

abbrev pub invariant-loop-e : goal.invariant-loop-e
invariant-loop-e l =
    Same l.fn.d.nodes l.d.nodes l.fn.d.edges l.d.edges l.fn.d.at l.d.at
    × CopyTurn l.fn.d.at.start l.fn.d.at.counts l.fn.d.at.rooms l.fn.merged.0 l.fn.of.0 l.fn.d.nodes.now l.fn.d.edges.now l.d.at.counts l.link.0 l.d.nodes.now l.d.edges.now

abbrev pub decreases-loop-e : goal.decreases-loop-e
decreases-loop-e l = l.link.0
