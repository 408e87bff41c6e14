-- `merge_into_new` meets its contract: two refusals, the new row, the merge, its place in the list.
use mathlib.Core.Path.{refl}
use Rattle.std.proofs.lemmas.List.{take_rest}
use Rattle.std.proofs.lemmas.Result.{err_from_is_err_and}
use Rattle.squash.proofs.News.{new_10, new_11, new_reads, new_sits, new_stopped, new_going}
use Rattle.squash.proofs.merge_into_new.Goals as goal

pub returns-then-row-d-ge-LAYER_ROOM-clause-does : goal.returns-then-row-d-ge-LAYER_ROOM-clause-does
returns-then-row-d-ge-LAYER_ROOM-clause-does c = new_10 _ _ _ _ _ _ _ _ c.if-row-d-ge-LAYER_ROOM.true

pub returns-then-row-d-clause-does : goal.returns-then-row-d-clause-does
returns-then-row-d-clause-does c = new_11 _ _ _ _ _ _ _ _ c.if-row-d-ge-LAYER_ROOM.false c.if-row-d.true

pub node-depth-requires : goal.node-depth-requires
node-depth-requires c = new_reads _ _ _ c.args.capacity _ _ _ _ c.requires _ refl

pub merge_all-requires : goal.merge_all-requires
merge_all-requires c =
    rw take_rest (new_sits _ _ _ _ _ _ _ _ c.requires.wide _ refl _ c.node-depth.ensures c.if-row-d.false _ c.push_merged.ensures c.requires)

pub returns-in_err-merge_all-clause-does : goal.returns-in_err-merge_all-clause-does
returns-in_err-merge_all-clause-does c =
    let p = err_from_is_err_and c.from_residual.result c.from_residual.ensures.1 in
    rw (p.1, p.2) (new_stopped _ _ _ _ _ _ _ _ c.requires.wide _ refl _ c.node-depth.ensures c.if-row-d.false _ c.push_merged.ensures c.if-row-d-ge-LAYER_ROOM.false _ _ _ (rw take_rest at c.in_err-merge_all.ensures.does) _ _ refl)

pub returns-clause-does : goal.returns-clause-does
returns-clause-does c =
    new_going _ _ _ _ _ _ _ _ c.requires.wide _ refl _ c.node-depth.ensures c.if-row-d.false _ c.push_merged.ensures c.if-row-d-ge-LAYER_ROOM.false _ _ _ (rw take_rest at c.in_ok-merge_all.ensures.does) _ refl
