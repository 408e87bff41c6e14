-- `finish::raise_layer` meets its contract: a row more at each turn.
use Rattle.finish.proofs.Upwards.{upto_all}
use Rattle.finish.proofs.raise_layer.Goals as goal

pub returns : goal.returns
returns c = upto_all _ _ _ _ _ c.loop-r.invariant.within c.loop-r-test.false c.loop-r.invariant.raised
