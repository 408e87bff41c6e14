-- `words::number` meets its contract: what is left of the sum in 64 bits is the sum, on either side of 2^63.
use mathlib.Core.Path.{◌∙◌}
use native.Mathlib.Omega.{arith}
use mir.Syntax.{w64}
use mir.ValLaws.{to_z-of_z}
use Rattle.words.proofs.Border.{number_wraps}
use Rattle.words.proofs.number.Goals as goal

pub returns : goal.returns
returns c = let r = c.wrapping_add_unsigned in
    to_z-of_z w64 r.result (record { sfits = r.type_inv }) ∙ r.ensures ∙ number_wraps c.args.w (omega arith)
