-- `lines::tables::changed` meets its contract: the last place that was found stands before the next word.
use Rattle.std.proofs.Common.{◌≤◌}
use Rattle.lines.proofs.tables.changed.Given as goal

abbrev pub invariant-loop-i : goal.invariant-loop-i
invariant-loop-i l = l.last ≤ l.i
