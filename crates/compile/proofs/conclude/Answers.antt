-- `conclude` meets its contract.
use Rattle.compile.proofs.Ending.{concluded}
use Rattle.compile.proofs.conclude.Goals as goal

pub returns : goal.returns
returns c = concluded _ _ _ _ _ _ _ _ _ _ _ c.finalize-f.ensures c.answer_of.ensures
