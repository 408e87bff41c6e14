-- `put_line` meets its contract: the name with a tab, and behind it the number with the line's end.
use Rattle.page_text.proofs.Lines.{put_as_line}
use Rattle.numbers.specs.Decimal.{decimal}
use native.Mathlib.Omega.{arith}
use lib.ListN.{length-append}
use Rattle.page_text.proofs.Putting.{length_put}
use Rattle.page_text.proofs.Counts.{length_line}
use Rattle.page_text.proofs.Output.put_line.Goals as goal

pub put_field-requires : goal.put_field-requires
put_field-requires c = omega (arith, c.requires, length_line c.args.name.now (decimal c.args.n))

pub put_number-requires : goal.put_number-requires
put_number-requires c =
    let p = c.put_field.ensures in
    omega (arith, c.requires, length_line c.args.name.now (decimal c.args.n), simp length-append at p.behind, length_put p)

pub returns : goal.returns
returns c =
    let s = c.args in
    put_as_line s.name.now (decimal s.n) c.put_field.ensures c.put_number.ensures
