-- `expand::expand_all` meets its contract. The invariant: the rows before this one are expanded.
use Rattle.branch.specs.State.{Going, Same}
use Rattle.expand.proofs.Rounds.{Passed}
use Rattle.expand.proofs.expand_all.Given as goal

abbrev pub invariant-loop-row : goal.invariant-loop-row
invariant-loop-row l =
    record {
      same : Same l.initial.d.nodes l.d.nodes l.initial.d.edges l.d.edges l.initial.d.at l.d.at;
      passed : Passed l.items.weights.now l.items.profits.now l.list l.initial.d.at.start l.initial.d.at.counts l.initial.d.at.rooms l.depth l.lower l.initial.d.nodes.now l.initial.d.edges.now l.row-index (Going l.d.at.counts) l.d.nodes.now l.d.edges.now;
    }
