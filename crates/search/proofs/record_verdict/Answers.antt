-- `search::record_verdict` meets its contract: a depth above the path's room is refused, and else the path's first bytes are the record's path.
use Rattle.std.proofs.Common.{arith, rules, w64, FitsSigned}
use Rattle.std.proofs.Math.Facts.{to_z-of_z}
use Rattle.refusals.proofs.Checks.{too_deep}
use Rattle.records.specs.Structs.{place_from}
use Rattle.searches.specs.Places.{given_at}
use Rattle.search.specs.Asked.{problem_of}
use Rattle.search.proofs.Asking.{record_told}
use Rattle.search.proofs.record_verdict.Goals as goal

pub returns-then-r-gt64 : goal.returns-then-r-gt64
unfolding place_from given_at
returns-then-r-gt64 c width = too_deep _ _ (omega (arith, c.if-r-gt64.true, c.args.items.limits.few))

pub returns : goal.returns
returns c width =
    let value_fits : FitsSigned w64 c.args.r.value = search rules in
    record_told (problem_of c.args.items.weights.now c.args.items.profits.now c.args.page width) c.args.r _ _ (to_z-of_z value_fits) (c.record_refusal.ensures width c.args.r.bound)
