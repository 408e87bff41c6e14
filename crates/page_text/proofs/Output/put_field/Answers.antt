-- `put_field` meets its contract: the text is put, and then the byte behind it.
use Rattle.page_text.proofs.Putting.{put_ended}
use borrow.Author.Rules.{rules}
use Rattle.page_text.proofs.Output.put_field.Goals as goal

pub returns : goal.returns
returns c =
    let a = c.args in
    let p = c.put.ensures in
    put_ended a.end p (search rules)
