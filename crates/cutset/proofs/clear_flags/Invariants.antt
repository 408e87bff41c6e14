-- `cutset::clear_flags` meets its contract: at each turn the first i rows are cleared.
use Rattle.cutset.proofs.Clearing.{Clearing}
use Rattle.cutset.proofs.clear_flags.Given as goal

abbrev pub invariant-loop-i : goal.invariant-loop-i
invariant-loop-i l = Clearing l.initial.nodes l.count l.i l.nodes
