-- `records::append_above`: those above of the first j are stored.
use Rattle.records.proofs.Chosen.{After}
use Rattle.records.proofs.append_above.Given as goal

abbrev pub invariant-loop-j : goal.invariant-loop-j
invariant-loop-j l = After l.best l.at l.words l.fn.rs l.j l.k l.rs
