-- `finish::raise_layers` meets its contract: a layer more at each turn.
use native.Mathlib.Omega.{arith}
use Rattle.finish.proofs.Upwards.{layer_upto}
use Rattle.finish.proofs.raise_layers.Goals as goal

pub raise_layer-requires : goal.raise_layer-requires
raise_layer-requires c = layer_upto _ _ _ _ _ _ _ c.requires (omega arith) c.get.ensures c.loop-i.invariant
