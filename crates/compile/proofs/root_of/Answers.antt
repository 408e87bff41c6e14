-- `root_of` meets its contract. The value goes to `word` as bits, whose number it is again, since it is an i64.
use borrow.Author.Rules.{rules}
use mathlib.Core.Path.{ap, ◌∙◌}
use mir.Syntax.{w64}
use mir.Facts.{to_z-of_z}
use Rattle.words.specs.I64.{word}
use Rattle.compile.proofs.Values.{root_made}
use Rattle.compile.proofs.root_of.Goals as goal

pub returns : goal.returns
returns c =
    let q = c.args.q in
    let back = to_z-of_z {w = w64} {z = q.value} (search rules) in
    root_made q _ (c.word.ensures ∙ ap word back)
