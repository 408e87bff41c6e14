-- `frontier_layer` goes up a layer: the rows before r had their turn.
use Prim.Native.Nat.{◌-◌, ◌≤◌}
use Rattle.cutset.specs.Trace.{FewUpto, of_rows}
use Rattle.cutset.specs.Steps.{Listed}
use Rattle.cutset.proofs.Traversal.frontier_layer.Given as goal

abbrev pub invariant-loop-r : goal.invariant-loop-r
invariant-loop-r l =
    let x = l.fn.layer in
    record {
      within : l.r - x.from ≤ x.to - x.from;
      listed : Listed (FewUpto x.to) (of_rows x.from (l.r - x.from)) l.initial.self l.initial.nodes l.self l.nodes;
    }
