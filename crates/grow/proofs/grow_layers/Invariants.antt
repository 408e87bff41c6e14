-- `grow_layers` meets its contract. The invariant: the tables are those that were lent, and the run that was underway still is.
use Rattle.grow.specs.Turns.{growth_of, TablesStay}
use Rattle.grow.proofs.Rounds.{Progress}
use Rattle.grow.proofs.grow_layers.Given as goal

abbrev pub invariant-loop-depth : goal.invariant-loop-depth
invariant-loop-depth l =
    record {
      stay : TablesStay l.initial.d.nodes l.d.nodes l.initial.d.edges l.d.edges l.initial.d.at l.d.at;
      progress : Progress l.items.weights.now l.items.profits.now l.t l.fn.from (growth_of l.initial.d.at l.initial.s) l.initial.d.nodes.now l.initial.d.edges.now l.depth (growth_of l.d.at l.s) l.d.nodes.now l.d.edges.now;
    }
