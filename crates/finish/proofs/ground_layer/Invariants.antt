-- `finish::ground_layer` goes up a layer's rows: those before r have their 0 and their mark.
use Prim.Native.Nat.{◌≤◌, ◌-◌}
use Rattle.finish.proofs.Rewriting.{GroundedUpto}
use Rattle.finish.proofs.ground_layer.Given as goal

abbrev pub invariant-loop-r : goal.invariant-loop-r
invariant-loop-r l =
    let x = l.fn.layer in
    record { within : l.r - x.from ≤ x.to - x.from; grounded : GroundedUpto x.from x.to l.r l.initial.nodes l.nodes }
