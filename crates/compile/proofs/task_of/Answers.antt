-- `task_of` meets its contract. The bound goes to `word` as bits, whose number it is again, since it is an i64.
use borrow.Author.Rules.{rules}
use mathlib.Core.Path.{ap, ◌∙◌}
use mir.Syntax.{w64}
use mir.Facts.{to_z-of_z}
use Rattle.words.specs.I64.{word}
use Rattle.compile.proofs.Values.{task_made}
use Rattle.compile.proofs.task_of.Goals as goal

pub returns : goal.returns
returns c =
    let a = c.args in
    let back = to_z-of_z {w = w64} {z = a.q.lower} (search rules) in
    task_made a.q _ a.node_words a.edge_words (c.word.ensures ∙ ap word back)
