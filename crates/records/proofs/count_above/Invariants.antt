-- `records::count_above`: k is how many of the first j are above.
use Rattle.std.proofs.Common.{◌≡◌, length}
use Rattle.records.proofs.Chosen.{above_of}
use Rattle.records.proofs.count_above.Given as goal

abbrev pub invariant-loop-j : goal.invariant-loop-j
invariant-loop-j l = l.k ≡ length (above_of l.best l.words l.j)
