-- `finalize::finish_rows` meets its contract: local bounds, then the cutset.
use Rattle.finalize.proofs.Verdict.{squashed_is}
use Rattle.finalize.proofs.Standing.{some_bounds_asked, some_cut_asked}
use Rattle.finalize.proofs.finish_rows.Goals as goal

pub compute_local_bounds-requires : goal.compute_local_bounds-requires
compute_local_bounds-requires c = some_bounds_asked _ _ _ _ _ _ _ _ c.requires

pub finalize_cutset-requires : goal.finalize_cutset-requires
finalize_cutset-requires c = some_cut_asked _ _ _ _ _ _ _ _ _ _ _ c.requires (squashed_is _ _ c.is_some.ensures) c.compute_local_bounds.ensures
