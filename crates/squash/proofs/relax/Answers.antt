-- `relax` meets its contract: the two scans decide between the twin and the new row.
use Rattle.squash.proofs.Layer.{front_mem, drop_mem, placed_of}
use Rattle.squash.proofs.Relaxing.{relaxed_new, relax_sits, relaxed_twin}
use Rattle.squash.proofs.relax.Goals as goal

pub merged_capacity-capacity-requires : goal.merged_capacity-capacity-requires
merged_capacity-capacity-requires c = rw c.split_at.ensures.back (placed_of _ _ _ _ _ _ _ c.requires.0 _ (drop_mem _ _))

pub twin_of-requires : goal.twin_of-requires
twin_of-requires c = rw c.split_at.ensures.front (placed_of _ _ _ _ _ _ _ c.requires.0 _ (front_mem _ _))

pub merge_into_twin-requires : goal.merge_into_twin-requires
merge_into_twin-requires c =
    let most = rw c.split_at.ensures.back at c.merged_capacity-capacity.ensures in
    let found = rw c.split_at.ensures.front at c.in-Some.ensures in
    rw c.split_at.ensures.back (relax_sits _ _ _ _ _ _ _ _ c.requires.1 c.requires.0.wide most _ found c.requires.0)

pub returns-in-Some-clause-does : goal.returns-in-Some-clause-does
returns-in-Some-clause-does c =
    let most = rw c.split_at.ensures.back at c.merged_capacity-capacity.ensures in
    let found = rw c.split_at.ensures.front at c.in-Some.ensures in
    relaxed_twin _ _ _ _ _ _ _ _ c.requires.1 c.requires.0.wide most _ found _ _ _ (rw c.split_at.ensures.back at c.merge_into_twin.ensures.does)

pub returns-in-None-clause-does : goal.returns-in-None-clause-does
returns-in-None-clause-does c =
    let most = rw c.split_at.ensures.back at c.merged_capacity-capacity.ensures in
    let found = rw c.split_at.ensures.front at c.in-None.ensures in
    relaxed_new _ _ _ _ _ _ _ _ c.requires.1 c.requires.0.wide most found _ _ _ _ c.merge_into_new.ensures.does
