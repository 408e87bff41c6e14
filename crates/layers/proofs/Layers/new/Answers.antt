-- `Layers::new` meets its contract: 65 places without a layer, none of them stored.
use Rattle.std.proofs.Common.{refl, lit≤}
use Rattle.layers.specs.Stored.{stored, first_ones}
use Rattle.layers.specs.Places.{no_layers}
use Rattle.layers.proofs.Layers.new.Goals as goal

pub invariant_of-result : goal.invariant_of-result
invariant_of-result c = record { sized = refl; few = lit≤ tt; clear = λ i h. no_layers 65 i }

pub returns-clause-layers : goal.returns-clause-layers
unfolding stored first_ones
returns-clause-layers c = refl
