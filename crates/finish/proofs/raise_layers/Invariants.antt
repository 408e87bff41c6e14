-- `finish::raise_layers` goes from the newest layer to the oldest: the first i layers are left.
use Rattle.finish.proofs.Upwards.{LayersUpto}
use Rattle.finish.proofs.raise_layers.Given as goal

abbrev pub invariant-loop-i : goal.invariant-loop-i
invariant-loop-i l = LayersUpto l.layers l.i l.initial.nodes l.edges l.nodes
