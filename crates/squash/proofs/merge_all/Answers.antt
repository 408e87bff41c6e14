-- `merge_all` meets its contract. The loop: one row more is flagged and its edges copied, or a copy stops.
use mathlib.Core.Path.{refl}
use Rattle.std.proofs.lemmas.Result.{err_from_is_err_and}
use Rattle.branch.proofs.Same.{same_then, same_written}
use Rattle.squash.proofs.Absorbing.{merge_done, merge_reads, merge_copies, merge_turn, merge_stop}
use Rattle.squash.proofs.merge_all.Goals as goal

pub set_deleted-requires : goal.set_deleted-requires
set_deleted-requires c = merge_reads _ _ _ _ _ _ _ _ _ _ _ c.loop-r.invariant.1 _ c.loop-r-test.true refl c.requires

pub copy_edges-requires : goal.copy_edges-requires
copy_edges-requires c =
    let s = c.loop-r.invariant.0.stays in
    rw (s.start_is, s.rooms_are) (merge_copies _ _ _ _ _ _ _ _ _ _ _ c.loop-r.invariant.1 _ c.loop-r-test.true refl _ c.set_deleted.ensures c.requires)

pub returns-in_err-copy_edges-clause-does : goal.returns-in_err-copy_edges-clause-does
returns-in_err-copy_edges-clause-does c =
    let p = err_from_is_err_and c.from_residual.result c.from_residual.ensures.1 in
    let s = c.loop-r.invariant.0.stays in
    rw (p.1, p.2) (merge_stop _ _ _ _ _ _ _ _ _ _ _ c.loop-r.invariant.1 _ c.loop-r-test.true refl _ c.set_deleted.ensures _ _ _ (rw (s.start_is, s.rooms_are) at c.in_err-copy_edges.ensures.does) _ _ refl)

pub loop-r-preserved : goal.loop-r-preserved
loop-r-preserved c =
    let s = c.loop-r.invariant.0.stays in (
      same_then (same_written c.loop-r.invariant.0 refl c.set_deleted.auto.nodes) c.in_ok-copy_edges.ensures.same,
      merge_turn _ _ _ _ _ _ _ _ _ _ _ c.loop-r.invariant.1 _ c.loop-r-test.true refl _ c.set_deleted.ensures _ _ _ (rw (s.start_is, s.rooms_are) at c.in_ok-copy_edges.ensures.does) _ refl,
    )

pub returns-clause-does : goal.returns-clause-does
returns-clause-does c = merge_done _ _ _ _ _ _ _ _ _ _ _ c.loop-r.invariant.1 c.loop-r-test.false
