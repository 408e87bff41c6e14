-- `blocks::fast_upper_bound` meets its contract. The invariant: the sum and the bound of the items left are the whole bound.
use Rattle.std.proofs.Common.{◌≡◌, ◌≤◌, ◌<◌, ◌-◌, ◌∙◌, ap, min, drop, length, length-drop, arith}
use Rattle.std.proofs.lemmas.Iterator.{YieldsList-from_slice, YieldsList-from_zip}
use Rattle.std.proofs.lemmas.Iterator.Consumers.{YieldsList-turn, YieldsList-end, YieldsList-at}
use Rattle.std.proofs.lemmas.List.{length_push, take_all}
use Rattle.knapsack.specs.Items.{counted}
use Rattle.blocks.proofs.Laws.{fits_more, fits_not, bound_begun, bound_done, bound_limit}
use Rattle.blocks.proofs.Items.fast_upper_bound.Goals as goal

pub loop-weight-init : goal.loop-weight-init
loop-weight-init c =
    let begins : c.min-from.result ≡ min c.args.depth (length c.args.self.weights.now) = omega arith in
    omega (arith, bound_begun _ _ c.args.self.limits c.args.capacity c.args.depth c.min-from.result begins)

pub overflow_add-sum : goal.overflow_add-sum
overflow_add-sum c =
    let ws = drop c.min-from.result c.args.self.weights.now in
    let ps = drop c.min-from.result c.args.self.profits.now in
    let first = ap (λ i. i.rest.now) c.zip-weight-items.ensures.first ∙ c.iter.ensures.rest ∙ take_all (length c.args.self.weights.now - c.min-from.result) ws (omega (arith, length-drop c.min-from.result c.args.self.weights.now)) in
    let second = c.zip-weight-items.ensures.second.0 ∙ take_all (length c.args.self.profits.now - c.min-from.result) ps (omega (arith, length-drop c.min-from.result c.args.self.profits.now)) in
    let pairs = YieldsList-from_zip {s = c.zip-weight-items.result} (YieldsList-from_slice ws first) (YieldsList-from_slice ps second) in
    let t = YieldsList-turn (YieldsList-at {s = c.into_iter-weight-iterator.result} c.into_iter-weight-iterator.ensures.into_iter_gives pairs) c.loop-weight.yielded c.loop-weight.weight-iterator c.loop-weight.yielded_by c.next.result c.next.new.self _ c.in-Some.is c.next.ensures.steps in
    let fits : counted c.in-Some.weight.now ≤ c.args.capacity = omega arith in
    omega (arith, fits_more _ _ c.args.self.limits c.args.capacity _ _ _ _ t fits, bound_limit _ _ c.args.self.limits c.args.capacity c.args.depth)

pub loop-weight-preserved-then-counted-capacity : goal.loop-weight-preserved-then-counted-capacity
loop-weight-preserved-then-counted-capacity c =
    let ws = drop c.min-from.result c.args.self.weights.now in
    let ps = drop c.min-from.result c.args.self.profits.now in
    let first = ap (λ i. i.rest.now) c.zip-weight-items.ensures.first ∙ c.iter.ensures.rest ∙ take_all (length c.args.self.weights.now - c.min-from.result) ws (omega (arith, length-drop c.min-from.result c.args.self.weights.now)) in
    let second = c.zip-weight-items.ensures.second.0 ∙ take_all (length c.args.self.profits.now - c.min-from.result) ps (omega (arith, length-drop c.min-from.result c.args.self.profits.now)) in
    let pairs = YieldsList-from_zip {s = c.zip-weight-items.result} (YieldsList-from_slice ws first) (YieldsList-from_slice ps second) in
    let t = YieldsList-turn (YieldsList-at {s = c.into_iter-weight-iterator.result} c.into_iter-weight-iterator.ensures.into_iter_gives pairs) c.loop-weight.yielded c.loop-weight.weight-iterator c.loop-weight.yielded_by c.next.result c.next.new.self _ c.in-Some.is c.next.ensures.steps in
    let fits : counted c.in-Some.weight.now ≤ c.args.capacity = omega arith in
    rw (length_push c.loop-weight.yielded (c.in-Some.weight, c.in-Some.profit)) (omega (arith, fits_more _ _ c.args.self.limits c.args.capacity _ _ _ _ t fits))

pub loop-weight-preserved : goal.loop-weight-preserved
loop-weight-preserved c =
    let ws = drop c.min-from.result c.args.self.weights.now in
    let ps = drop c.min-from.result c.args.self.profits.now in
    let first = ap (λ i. i.rest.now) c.zip-weight-items.ensures.first ∙ c.iter.ensures.rest ∙ take_all (length c.args.self.weights.now - c.min-from.result) ws (omega (arith, length-drop c.min-from.result c.args.self.weights.now)) in
    let second = c.zip-weight-items.ensures.second.0 ∙ take_all (length c.args.self.profits.now - c.min-from.result) ps (omega (arith, length-drop c.min-from.result c.args.self.profits.now)) in
    let pairs = YieldsList-from_zip {s = c.zip-weight-items.result} (YieldsList-from_slice ws first) (YieldsList-from_slice ps second) in
    let t = YieldsList-turn (YieldsList-at {s = c.into_iter-weight-iterator.result} c.into_iter-weight-iterator.ensures.into_iter_gives pairs) c.loop-weight.yielded c.loop-weight.weight-iterator c.loop-weight.yielded_by c.next.result c.next.new.self _ c.in-Some.is c.next.ensures.steps in
    let too-heavy : c.args.capacity < counted c.in-Some.weight.now = omega arith in
    rw (length_push c.loop-weight.yielded (c.in-Some.weight, c.in-Some.profit)) (omega (arith, fits_not _ _ c.args.self.limits c.args.capacity _ _ _ _ t too-heavy))

pub returns-clause-value : goal.returns-clause-value
returns-clause-value c =
    let ws = drop c.min-from.result c.args.self.weights.now in
    let ps = drop c.min-from.result c.args.self.profits.now in
    let first = ap (λ i. i.rest.now) c.zip-weight-items.ensures.first ∙ c.iter.ensures.rest ∙ take_all (length c.args.self.weights.now - c.min-from.result) ws (omega (arith, length-drop c.min-from.result c.args.self.weights.now)) in
    let second = c.zip-weight-items.ensures.second.0 ∙ take_all (length c.args.self.profits.now - c.min-from.result) ps (omega (arith, length-drop c.min-from.result c.args.self.profits.now)) in
    let pairs = YieldsList-from_zip {s = c.zip-weight-items.result} (YieldsList-from_slice ws first) (YieldsList-from_slice ps second) in
    let t = YieldsList-end (YieldsList-at {s = c.into_iter-weight-iterator.result} c.into_iter-weight-iterator.ensures.into_iter_gives pairs) c.loop-weight.yielded c.loop-weight.weight-iterator c.loop-weight.yielded_by c.next.result c.next.new.self c.in-None.is c.next.ensures.steps in
    omega (arith, bound_done _ _ c.args.self.limits c.args.capacity c.min-from.result _ t.1)

pub returns-clause-within : goal.returns-clause-within
returns-clause-within c = omega (arith, returns-clause-value c, bound_limit _ _ c.args.self.limits c.args.capacity c.args.depth)
