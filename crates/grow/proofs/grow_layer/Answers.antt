-- `grow_layer` meets its contract: order, squash, store and expansion are the definition's step.
use mathlib.Core.Path.{sym}
use Rattle.std.proofs.lemmas.Result.{err_from_is_err_and}
use Rattle.grow.proofs.Turning.{count_in, lent, rows_fit, spared_expandable, turned_spared}
use Rattle.grow.proofs.Turning.{to_squash, turned_stopped, lent_width, wide_expandable, turned_on}
use Rattle.grow.proofs.grow_layer.Goals as goal

pub slice_bounds-layer-end : goal.slice_bounds-layer-end
slice_bounds-layer-end c = count_in _ _ _ _ _ _ _ _ c.requires.turn

pub slice_bounds-layer-length : goal.slice_bounds-layer-length
slice_bounds-layer-length c = sym (lent _ _ _ _ _ _ _ _ c.requires.turn)

pub order_layer-requires : goal.order_layer-requires
order_layer-requires c = rows_fit _ _ _ _ _ _ _ _ c.requires.turn

pub expand_layer-requires-clause-expandable : goal.expand_layer-requires-clause-expandable
expand_layer-requires-clause-expandable c =
    spared_expandable _ _ _ _ _ _ _ _ c.requires.turn _ c.order_layer.ensures _ c.too_wide.ensures c.if-not-too_wide.true c.args.items.limits

pub returns-then-not-too_wide-clause-does : goal.returns-then-not-too_wide-clause-does
returns-then-not-too_wide-clause-does c =
    turned_spared _ _ _ _ _ _ _ _ c.requires.turn _ c.order_layer.ensures _ c.too_wide.ensures c.if-not-too_wide.true _ _ _ c.expand_layer.ensures.does

pub squash-requires : goal.squash-requires
squash-requires c =
    to_squash _ _ _ _ _ _ _ _ c.requires.turn _ c.order_layer.ensures _ c.too_wide.ensures c.if-not-too_wide.false _ c.requires.rooms

pub returns-in_err-squash-clause-does : goal.returns-in_err-squash-clause-does
returns-in_err-squash-clause-does c =
    let p = err_from_is_err_and c.from_residual.result c.from_residual.ensures.1 in
    rw (p.1, p.2) (turned_stopped _ _ _ _ _ _ _ _ c.requires.turn _ c.order_layer.ensures _ c.too_wide.ensures c.if-not-too_wide.false _ c.requires.rooms _ _ _ _ _ c.in_err-squash.ensures.does)

pub slice_bounds-expand_layer-end : goal.slice_bounds-expand_layer-end
slice_bounds-expand_layer-end c =
    lent_width _ _ _ _ _ _ _ _ c.requires.turn _ c.order_layer.ensures _ c.too_wide.ensures c.if-not-too_wide.false _ c.requires.rooms _ _ _ _ c.in_ok-squash.ensures.does c.squash.auto.layer

pub expand_layer-requires-2-clause-expandable : goal.expand_layer-requires-2-clause-expandable
expand_layer-requires-2-clause-expandable c =
    wide_expandable _ _ _ _ _ _ _ _ c.requires.turn _ c.order_layer.ensures _ c.too_wide.ensures c.if-not-too_wide.false _ c.requires.rooms _ _ _ _ c.in_ok-squash.ensures.does c.squash.auto.layer _ c.in_ok-squash.ensures.same.stays.start_is _ c.args.items.limits

pub returns-clause-does : goal.returns-clause-does
returns-clause-does c =
    turned_on _ _ _ _ _ _ _ _ c.requires.turn _ c.order_layer.ensures _ c.too_wide.ensures c.if-not-too_wide.false _ c.requires.rooms _ _ _ _ c.in_ok-squash.ensures.does c.squash.auto.layer _ c.in_ok-squash.ensures.same.stays.start_is _ c.name_last-s.ensures _ _ _ c.expand_layer-2.ensures.does
