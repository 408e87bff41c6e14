-- `finish::raise_layer` goes up a layer's rows: those before r had their turn.
use Prim.Native.Nat.{◌≤◌, ◌-◌}
use Rattle.finish.proofs.Upwards.{RaisedUpto}
use Rattle.finish.proofs.raise_layer.Given as goal

abbrev pub invariant-loop-r : goal.invariant-loop-r
invariant-loop-r l =
    let x = l.fn.layer in
    record { within : l.r - x.from ≤ x.to - x.from; raised : RaisedUpto x.from x.to l.r l.initial.nodes l.edges l.nodes }
