-- `frontier_layers` meets its contract: a layer more at each turn.
use Rattle.cutset.proofs.Steps.{layers_on}
use Rattle.cutset.proofs.Traversal.frontier_layers.Goals as goal

pub loop-i-preserved : goal.loop-i-preserved
loop-i-preserved c = layers_on _ _ _ _ _ _ _ _ _ c.loop-i-test.true c.get.ensures c.loop-i.invariant c.frontier_layer.ensures
