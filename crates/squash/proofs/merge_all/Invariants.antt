-- `merge_all` meets its contract. The invariant: merging the rows left into the tables as they are gives the whole merge.
use Rattle.branch.specs.State.{Same}
use Rattle.squash.proofs.Absorbing.{MergeTurn}
use Rattle.squash.proofs.merge_all.Given as goal

abbrev pub invariant-loop-r : goal.invariant-loop-r
invariant-loop-r l =
    Same l.fn.d.nodes l.d.nodes l.fn.d.edges l.d.edges l.fn.d.at l.d.at
    × MergeTurn l.fn.d.at.start l.fn.d.at.counts l.fn.d.at.rooms l.fn.merged.0 l.fn.rest l.fn.d.nodes.now l.fn.d.edges.now l.d.at.counts l.r-index l.d.nodes.now l.d.edges.now
