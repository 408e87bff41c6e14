-- `merge_into_twin` meets its contract: the twin is flagged relaxed, the rows are merged, the first of them is kept.
use mathlib.Core.Path.{refl}
use native.Mathlib.Omega.{arith}
use Rattle.std.proofs.lemmas.Result.{err_from_is_err_and}
use Rattle.squash.proofs.Twins.{twin_reads, first_reads, twin_sits, twin_stopped, twin_going}
use Rattle.squash.proofs.merge_into_twin.Goals as goal

pub set_relaxed-requires : goal.set_relaxed-requires
set_relaxed-requires c = twin_reads _ _ _ _ _ _ _ c.requires.0

pub merge_all-requires : goal.merge_all-requires
merge_all-requires c = twin_sits _ _ _ _ _ _ _ _ c.set_relaxed.ensures c.requires.0

pub returns-in_err-merge_all-clause-does : goal.returns-in_err-merge_all-clause-does
returns-in_err-merge_all-clause-does c =
    let p = err_from_is_err_and c.from_residual.result c.from_residual.ensures.1 in
    rw (p.1, p.2) (twin_stopped _ _ _ _ _ _ _ _ c.set_relaxed.ensures _ _ _ c.in_err-merge_all.ensures.does _ _ refl)

pub set_deleted-requires : goal.set_deleted-requires
set_deleted-requires c =
    omega (arith, first_reads _ _ _ _ _ _ _ c.requires.0 c.requires.1 _ refl, c.merge_all.ensures.same.nodes_long, c.set_relaxed.auto.nodes)

pub returns-clause-does : goal.returns-clause-does
returns-clause-does c =
    twin_going _ _ _ _ _ _ _ _ c.set_relaxed.ensures _ _ _ c.in_ok-merge_all.ensures.does c.requires.1 _ refl _ c.set_deleted.ensures _ refl
