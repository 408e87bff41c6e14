-- `numbers::write` meets its contract: what `io` puts into its own array are the digits, and they are copied.
use Rattle.std.proofs.Common.{◌≡◌, ◌<◌, ◌≤◌, length, sym, ap, ◌∙◌, arith}
use Rattle.std.proofs.lemmas.List.{length-take-le}
use Rattle.numbers.specs.Decimal.{decimal}
use Rattle.numbers.proofs.Digits.{at_most_twenty, decimal_is}
use Rattle.numbers.proofs.Copying.{written}
use Rattle.numbers.proofs.write.Goals as goal

pub returns : goal.returns
returns c = let d = c.decimal-k in
    let n-fits : c.args.n < 18446744073709551616 = omega arith in
    let short : d.result ≤ 20 = at_most_twenty _ _ d.ensures.len n-fits in
    let text : c.copy_from_slice.new.self ≡ decimal c.args.n = c.copy_from_slice.ensures.after ∙ d.ensures.digits ∙ decimal_is _ _ d.ensures.len n-fits in
    let count : d.result ≡ length c.copy_from_slice.new.self = sym (ap length c.copy_from_slice.ensures.after ∙ length-take-le _ _ (omega arith)) in
    written _ _ _ _ _ text count short
