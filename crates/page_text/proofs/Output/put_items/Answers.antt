-- `put_items` meets its contract: each item's line is put behind those before it.
use native.Mathlib.Omega.{arith}
use Rattle.page_text.proofs.Lines.{no_items, item_fits, item_put}
use Rattle.page_text.proofs.Output.put_items.Goals as goal

pub put_item-requires : goal.put_item-requires
put_item-requires c =
    let o = c.args.self.now in
    rw c.mark_of.ensures (item_fits c.args.path.now o.bytes o.count c.loop-d.d c.loop-d.invariant c.loop-d-test.true c.requires.1)

pub loop-d-init : goal.loop-d-init
loop-d-init c = no_items c.args.path.now c.args.self.now.bytes c.args.self.now.count (omega arith)

pub loop-d-preserved : goal.loop-d-preserved
loop-d-preserved c =
    let o = c.args.self.now in
    let line-there = rw c.mark_of.ensures at c.put_item.ensures in
    item_put c.args.path.now o.bytes o.count c.loop-d.d c.loop-d.invariant c.loop-d-test.true line-there
