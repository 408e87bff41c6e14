-- `list_rows` goes up a layer: the rows before r are listed, and no more rows are counted than were passed.
use Prim.Native.Nat.{◌-◌, ◌≤◌}
use Rattle.cutset.specs.Trace.{Upto, listings}
use Rattle.cutset.specs.Steps.{Listed}
use Rattle.cutset.proofs.Traversal.list_rows.Given as goal

abbrev pub invariant-loop-r : goal.invariant-loop-r
invariant-loop-r l =
    let x = l.fn.layer in
    record {
      within : l.r - x.from ≤ x.to - x.from;
      counted : l.self.count ≤ l.r - x.from;
      listed : Listed (Upto x.to) (listings x.from (l.r - x.from)) l.initial.self l.initial.nodes l.self l.nodes;
    }
