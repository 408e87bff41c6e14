-- `refusals::taken_by` meets its contract. The invariant: each sum and that of the rest are the whole path's; the limits keep both in u64.
use Rattle.std.proofs.Common.{◌≡◌, ◌+◌, drop}
use Rattle.knapsack.specs.Items.{items_of}
use Rattle.calls.specs.Rows.{taken_weight, taken_profit}
use Rattle.refusals.proofs.taken_by.Given as goal

abbrev pub invariant-loop-byte : goal.invariant-loop-byte
invariant-loop-byte l =
    let items = items_of l.items.weights.now l.items.profits.now in
    record {
      weights : l.weight + taken_weight items (drop l.byte-index l.path) ≡ taken_weight items l.path;
      profits : l.profit + taken_profit items (drop l.byte-index l.path) ≡ taken_profit items l.path;
    }
