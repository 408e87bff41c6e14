-- What an accepted compile found meets its contract: each array of numbers has a number of each stored layer, in order.
use Rattle.std.proofs.Common.{refl, rules, is_some, w64, FitsSigned}
use Rattle.std.proofs.Math.Facts.{to_z-of_z}
use Rattle.border.proofs.Arrays.{flag_byte}
use Rattle.border.proofs.FoundFromCompiled.from.Goals as goal

pub returns : goal.returns
returns c =
    let fits : FitsSigned w64 c.unwrap_or.result = search rules in
    let fits-2 : FitsSigned w64 c.unwrap_or-2.result = search rules in
    rw (c.columns.ensures.from, c.columns.ensures.to, to_z-of_z fits, to_z-of_z fits-2, c.from.ensures, c.from-2.ensures, c.from-3.ensures, c.is_some.ensures, c.is_some-2.ensures, c.unwrap_or.ensures, c.unwrap_or-2.ensures, flag_byte c.args.c.exact, flag_byte (is_some c.args.c.best), flag_byte (is_some c.args.c.best_exact)) refl
