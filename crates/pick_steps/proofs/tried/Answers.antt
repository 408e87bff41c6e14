-- `tried` meets its contract: its steps, whatever list the record stands in, are the definition's pick.
use mathlib.Core.Path.{ap, ◌∙◌}
use native.Mathlib.Omega.{arith}
use Rattle.std.proofs.Common.{ℤ, length, w64, rules, FitsSigned}
use Rattle.std.proofs.Math.Facts.{to_z-of_z}
use Rattle.reasons.specs.Numbers.{numbered}
use Rattle.pick_steps.specs.Changed.{added_from}
use Rattle.pick_steps.proofs.Whole.{may_pick, present, countable, full_tries, accepted_tries}
use Rattle.pick_steps.proofs.tried.Goals as goal

pub count_above-more-requires : goal.count_above-more-requires
count_above-more-requires c = present _ _ _ _ _ _ _ _ _ _ c.in_ok-checked.ensures _ _ _ _ c.explored.ensures _ (ap numbered c.in_ok-found.was)

pub returns-then-more-places : goal.returns-then-more-places
returns-then-more-places c =
    let best_fits : FitsSigned w64 c.in_ok-found.found.search.best = search rules in
    let count = c.count_above-more.ensures ∙ ap (λ (z : ℤ). length (added_from z c.in_ok-found.found.drained c.explored.new.scratch)) (to_z-of_z best_fits) in
    full_tries _ _ _ _ _ _ _ _ _ _ c.in_ok-checked.ensures _ _ _ _ c.explored.ensures _ (ap numbered c.in_ok-found.was) _ count (omega (arith, c.if-more-places.true, (may_pick c.args.weights.now c.args.profits.now c.args.ask _ _ _ _ c.in_ok-checked.ensures).room))

pub one_pick_more-requires : goal.one_pick_more-requires
one_pick_more-requires c = countable _ _ _ _ _ _ _ _ _ _ c.in_ok-checked.ensures _ _ _ _ c.explored.ensures _ (ap numbered c.in_ok-found.was) (search rules)

pub returns : goal.returns
returns c =
    let best_fits : FitsSigned w64 c.in_ok-found.found.search.best = search rules in
    let count = c.count_above-more.ensures ∙ ap (λ (z : ℤ). length (added_from z c.in_ok-found.found.drained c.explored.new.scratch)) (to_z-of_z best_fits) in
    accepted_tries _ _ _ _ _ _ _ _ _ _ c.in_ok-checked.ensures _ _ _ _ c.explored.ensures _ (ap numbered c.in_ok-found.was) _ count _ (omega (arith, c.if-more-places.false, (may_pick c.args.weights.now c.args.profits.now c.args.ask _ _ _ _ c.in_ok-checked.ensures).room)) c.one_pick_more.ensures
