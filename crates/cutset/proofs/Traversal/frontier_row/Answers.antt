-- `frontier_row` meets its contract: the walk along the next numbers gives the row's inbound edges.
use borrow.Author.Tests.{not-true, not-false}
use Rattle.cutset.proofs.Listing.{row_asked}
use Rattle.cutset.proofs.Inbound.{exact_passed, link_asked, row_walked}
use Rattle.cutset.proofs.Steps.{stays_none}
use Rattle.cutset.proofs.Traversal.frontier_row.Goals as goal

pub read_node-n-requires : goal.read_node-n-requires
read_node-n-requires c = row_asked _ _ _ _ _ _ _ (λ d x p. p.0) c.requires.tracing

pub list_parents-requires : goal.list_parents-requires
list_parents-requires c = record { tracing = link_asked _ _ _ _ _ _ _ c.read_node-n.ensures c.requires.tracing }

pub returns-then-not-n : goal.returns-then-not-n
returns-then-not-n c =
    let l = c.list_parents.ensures in
    record { traced = row_walked _ _ _ _ _ _ _ _ _ _ c.read_node-n.ensures (not-true _ c.if-not-n.true) l.traced; stays = l.stays }

pub returns-else-not-n : goal.returns-else-not-n
returns-else-not-n c =
    record { traced = exact_passed _ _ _ _ _ _ _ c.read_node-n.ensures (not-false _ c.if-not-n.false); stays = stays_none _ }
