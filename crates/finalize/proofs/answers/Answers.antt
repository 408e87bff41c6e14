-- `finalize::answers` meets its contract: what its calls read.
use Rattle.finalize.proofs.Told.{answered}
use Rattle.finalize.proofs.answers.Goals as goal

pub returns : goal.returns
returns c = answered _ _ _ _ _ _ _ _ _ _ _ c.path_of.ensures c.path_of-2.ensures c.value_of.ensures c.value_of-2.ensures
