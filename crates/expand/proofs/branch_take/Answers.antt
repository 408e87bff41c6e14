-- `expand::branch_take` meets its contract: an item that doesn't fit leaves all as it is.
use Rattle.expand.proofs.Decisions.{not_taken}
use Rattle.expand.proofs.branch_take.Goals as goal

pub returns-then-capacity-i-clause-does : goal.returns-then-capacity-i-clause-does
returns-then-capacity-i-clause-does c = not_taken _ _ _ _ _ _ _ _ c.requires.fit c.if-capacity-i.true
