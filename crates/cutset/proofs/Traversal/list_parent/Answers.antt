-- `list_parent` meets its contract: passed over unless it is exact and not yet listed.
use native.Mathlib.Omega.{arith}
use borrow.Author.Tests.{not-true}
use Rattle.cutset.proofs.Listing.{tracing_as, row_asked, count_asked, parent_listed}
use Rattle.cutset.proofs.Traversal.list_parent.Goals as goal

pub read_node-n-requires : goal.read_node-n-requires
read_node-n-requires c = row_asked _ _ _ _ _ _ _ (λ d x p. p.0) c.requires.tracing

pub list_row-requires-clause-going : goal.list_row-requires-clause-going
list_row-requires-clause-going c = record { tracing = tracing_as _ _ _ _ _ _ _ (λ d x p. p.0) c.requires.tracing }

pub list_row-requires-clause-few : goal.list_row-requires-clause-few
list_row-requires-clause-few c =
    let k = count_asked _ _ _ _ _ _ (λ d x p. p.1) c.requires.tracing in
    omega (arith, c.well_formed.1.0)

pub returns-then-not-n : goal.returns-then-not-n
returns-then-not-n c =
    let l = c.list_row.ensures.listed in
    record { traced = parent_listed _ _ _ _ _ _ _ _ _ _ c.read_node-n.ensures c.if-n.true (not-true _ c.if-not-n.true) l.traced; stays = l.stays }
