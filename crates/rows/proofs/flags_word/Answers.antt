-- `rows::flags_word` meets its contract: five digits, each below 2, so that the sum stays in u64.
use Rattle.std.proofs.Common.{◌≡◌, Bool, true, false, refl, arith}
use mir.Val.{bool_byte}
use Rattle.layout.specs.Rows.{digit, flags_word}
use Rattle.rows.proofs.flags_word.Goals as goal

-- what a flag is as a number
digit_is : (b : Bool) → bool_byte b ≡ digit b
unfolding digit
digit_is true = refl
digit_is false = refl

pub returns : goal.returns
unfolding flags_word
returns c = omega (arith, digit_is c.args.n.exact, digit_is c.args.n.relaxed, digit_is c.args.n.marked, digit_is c.args.n.cutset, digit_is c.args.n.deleted)
