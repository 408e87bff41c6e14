-- `refusals::taken_by` meets its contract. The invariant: each sum and that of the rest are the whole path's; the limits keep both in u64.
use Rattle.std.proofs.Common.{sym, ◌∙◌, arith}
use Rattle.knapsack.specs.Items.{items_of}
use Rattle.refusals.proofs.Sums.{weight_limit, profit_limit, weight_taken, weight_skipped, profit_taken, profit_skipped, weight_done, profit_done}
use Rattle.refusals.proofs.taken_by.Goals as goal
use Rattle.refusals.proofs.taken_by.Goals.{then-is_take, else-is_take}

pub overflow_add-weight : goal.overflow_add-weight
overflow_add-weight c = let t = sym c.is_take.ensures ∙ c.if-is_take.true in
    omega (
      arith,
      weight_taken _ _ c.args.items.limits _ _ c.loop-byte-test.true t _ _ _ c.item_of.ensures c.at_or_zero.ensures c.counted-weight.ensures,
      weight_limit _ _ c.args.items.limits c.args.path.now,
    )

pub overflow_add-profit : goal.overflow_add-profit
overflow_add-profit c = let t = sym c.is_take.ensures ∙ c.if-is_take.true in
    omega (
      arith,
      profit_taken _ _ c.args.items.limits _ _ c.loop-byte-test.true t _ _ c.item_of-then-is_take.ensures c.at_or_zero-profit.ensures,
      profit_limit _ _ c.args.items.limits c.args.path.now,
    )

pub loop-byte-preserved : goal.loop-byte-preserved
loop-byte-preserved c = let h = c.loop-byte-test.true in
    elim c.if-is_take.branch [
      | then-is_take w ↦ let t = sym c.is_take.ensures ∙ w.if-is_take.true in
          record {
            weights = omega (arith, weight_taken _ _ c.args.items.limits _ _ h t _ _ _ w.item_of.ensures w.at_or_zero.ensures w.counted-weight.ensures);
            profits = omega (arith, profit_taken _ _ c.args.items.limits _ _ h t _ _ w.item_of-then-is_take.ensures w.at_or_zero-profit.ensures);
          }
      | else-is_take w ↦ let t = sym c.is_take.ensures ∙ w.if-is_take.false in
          record {
            weights = omega (arith, weight_skipped _ _ c.args.items.limits _ _ h t);
            profits = omega (arith, profit_skipped _ _ c.args.items.limits _ _ h t);
          }
    ]

pub returns : goal.returns
returns c = let items = items_of c.args.items.weights.now c.args.items.profits.now in
    omega (
      arith,
      weight_done items c.args.path.now c.loop-byte.byte-index c.loop-byte-test.false,
      profit_done items c.args.path.now c.loop-byte.byte-index c.loop-byte-test.false,
    )
