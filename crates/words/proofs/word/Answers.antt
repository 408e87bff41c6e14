-- `words::word` meets its contract: what is left of the sum in 64 bits is the sum, by the two signs.
use mathlib.Core.Path.{◌∙◌}
use mir.Syntax.{w64}
use mir.ValLaws.{to_z-of_z}
use Rattle.words.proofs.Border.{word_wraps}
use Rattle.words.proofs.word.Goals as goal

pub returns : goal.returns
returns c = rw (to_z-of_z w64 c.args.x c.ranges.x) at c.wrapping_add_signed.ensures ∙ word_wraps c.args.x c.ranges.x
