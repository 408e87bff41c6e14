-- `Layers::name_last` meets its contract: named once, by the first squash, and then the newest stored layer.
use Rattle.std.proofs.Common.{arith}
use Rattle.layers.proofs.Stored.{named_once, named_none, named_newest}
use Rattle.layers.proofs.Layers.name_last.Goals as goal

pub returns-in-Some : goal.returns-in-Some
returns-in-Some c = named_once _ _ _ c.in-Some.is

pub returns-in-None : goal.returns-in-None
returns-in-None c = named_none _ _ c.in-None.is c.if-self-eq0.true

pub returns-in-None-2 : goal.returns-in-None-2
returns-in-None-2 c = named_newest _ _ _ c.in-None.is c.get.ensures (omega (arith, c.if-self-eq0.false))
