-- `Layers::push` meets its contract: the new layer is written behind those that are stored, which stay.
use Rattle.std.proofs.Common.{arith}
use Rattle.layers.specs.Stored.{stored}
use Rattle.layers.proofs.Stored.{one_more}
use Rattle.layers.proofs.Layers.push.Goals as goal

pub returns-clause-layers : goal.returns-clause-layers
unfolding stored
returns-clause-layers c = one_more _ _ _ (omega (arith, c.args.self.sized))
