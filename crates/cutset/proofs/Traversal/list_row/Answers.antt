-- `list_row` meets its contract: the row is handed on before its flag is set, so the tables still hold the cutset without it.
use Rattle.cutset.proofs.Listing.{row_asked, row_listed}
use Rattle.cutset.proofs.Traversal.list_row.Goals as goal

pub write_node-requires : goal.write_node-requires
write_node-requires c = row_asked _ _ _ _ _ _ _ (λ d x p. p) c.requires.going.tracing

pub returns-clause-listed : goal.returns-clause-listed
returns-clause-listed c =
    let h = c.hand_on.ensures in
    record { traced = row_listed _ _ _ _ _ _ _ _ _ _ _ c.requires.read c.with_cutset.ensures h.handed c.write_node.ensures; stays = h.stays }
