-- `blocks::fast_upper_bound` meets its contract. The invariant: the sum and the bound of the items left are the whole bound.
use Rattle.std.proofs.Common.{◌≡◌, ◌+◌, length, drop}
use Rattle.knapsack.specs.Items.{items_of}
use Rattle.knapsack.specs.FastBound.{fast_bound}
use Rattle.blocks.proofs.Items.fast_upper_bound.Given as goal

abbrev pub invariant-loop-weight : goal.invariant-loop-weight
invariant-loop-weight l =
    let items = items_of l.self.weights.now l.self.profits.now in
    l.sum + fast_bound (drop (l.from + length l.yielded) items) l.capacity ≡ fast_bound (drop l.depth items) l.capacity
