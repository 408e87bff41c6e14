-- `copy_edges` meets its contract. The loop: one edge more is copied, or the edge table has no room for it.
use mathlib.Core.Path.{refl}
use Rattle.std.proofs.lemmas.Result.{err_from_is_err_and}
use Rattle.branch.proofs.Same.{same_self, same_then}
use Rattle.squash.proofs.Copying.{copy_reads_row, copy_start, copy_done, copy_reads_edge, copy_appends, copy_less, copy_turn, copy_stop}
use Rattle.squash.proofs.copy_edges.Goals as goal

pub node-requires : goal.node-requires
node-requires c = copy_reads_row _ _ _ _ _ _ _ c.requires

pub loop-e-init : goal.loop-e-init
loop-e-init c = (same_self _ _ _, copy_start _ _ _ _ _ _ _ _ c.node.ensures)

pub edge-edge-requires : goal.edge-edge-requires
edge-edge-requires c = copy_reads_edge _ _ _ _ _ _ _ _ _ _ _ c.loop-e.invariant.1 c.requires _ c.in-Some.ensures

pub append_edge-requires : goal.append_edge-requires
append_edge-requires c =
    rw c.loop-e.invariant.0.stays.start_is (copy_appends _ _ _ _ _ _ _ _ _ _ _ c.loop-e.invariant.1 c.requires _ c.in-Some.ensures _ c.edge-edge.ensures)

pub returns-in_err-append_edge-clause-does : goal.returns-in_err-append_edge-clause-does
returns-in_err-append_edge-clause-does c =
    let p = err_from_is_err_and c.from_residual.result c.from_residual.ensures.1 in
    let s = c.loop-e.invariant.0.stays in
    rw (p.1, p.2) (copy_stop _ _ _ _ _ _ _ _ _ _ _ c.loop-e.invariant.1 _ c.in-Some.ensures _ c.edge-edge.ensures _ refl refl _ _ _ (rw (s.start_is, s.rooms_are) at c.in_err-append_edge.ensures.does) _ _ refl)

pub loop-e-smaller : goal.loop-e-smaller
loop-e-smaller c = copy_less _ _ _ _ _ _ _ _ _ _ _ c.loop-e.invariant.1 c.requires _ c.in-Some.ensures _ c.edge-edge.ensures

pub loop-e-preserved : goal.loop-e-preserved
loop-e-preserved c =
    let s = c.loop-e.invariant.0.stays in (
      same_then c.loop-e.invariant.0 c.in_ok-append_edge.ensures.same,
      copy_turn _ _ _ _ _ _ _ _ _ _ _ c.loop-e.invariant.1 _ c.in-Some.ensures _ c.edge-edge.ensures _ refl refl _ _ _ (rw (s.start_is, s.rooms_are) at c.in_ok-append_edge.ensures.does) _ refl,
    )

pub returns-clause-does : goal.returns-clause-does
returns-clause-does c = copy_done _ _ _ _ _ _ _ _ _ _ _ c.loop-e.invariant.1 c.in_default.ensures
