-- `natural` meets its contract: the larger of the i64 and 0 is it.
use Rattle.page_text.proofs.Sign.{natural_is}
use Rattle.page_text.proofs.natural.Goals as goal

pub returns : goal.returns
returns c = natural_is _ _ c.ranges.best (record { sfits = c.max.type_inv }) c.max.ensures.value
