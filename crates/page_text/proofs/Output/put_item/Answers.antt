-- `put_item` meets its contract: the word, the item's number and the mark, each with the byte behind it.
use Rattle.page_text.proofs.Lines.{put_as_line3}
use Rattle.numbers.specs.Decimal.{decimal}
use Rattle.jobs.specs.Text.{item}
use native.Mathlib.Omega.{arith}
use lib.ListN.{length-append}
use Rattle.page_text.proofs.Putting.{length_put}
use Rattle.page_text.proofs.Counts.{length_line3}
use Rattle.page_text.proofs.Output.put_item.Goals as goal

pub put_field-requires : goal.put_field-requires
put_field-requires c = omega (arith, c.requires, length_line3 item (decimal c.args.d) (decimal c.args.mark))

pub put_number-requires : goal.put_number-requires
put_number-requires c =
    let p = c.put_field.ensures in
    omega (arith, c.requires, length_line3 item (decimal c.args.d) (decimal c.args.mark), p.behind, length_put p)

pub put_number-requires-2 : goal.put_number-requires-2
put_number-requires-2 c =
    let p = c.put_field.ensures in
    let q = c.put_number.ensures in
    omega (arith, c.requires, length_line3 item (decimal c.args.d) (decimal c.args.mark), p.behind, simp length-append at q.behind, length_put p, length_put q)

pub returns : goal.returns
returns c =
    let s = c.args in
    put_as_line3 item (decimal s.d) (decimal s.mark) c.put_field.ensures c.put_number.ensures c.put_number-2.ensures
