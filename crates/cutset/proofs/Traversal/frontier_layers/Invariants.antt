-- `frontier_layers` goes from the newest layer to the oldest: the first i layers are left.
use Rattle.cutset.proofs.Steps.{AtLayer}
use Rattle.cutset.proofs.Traversal.frontier_layers.Given as goal

abbrev pub invariant-loop-i : goal.invariant-loop-i
invariant-loop-i l = AtLayer l.layers l.initial.self l.initial.nodes l.i l.self l.nodes
