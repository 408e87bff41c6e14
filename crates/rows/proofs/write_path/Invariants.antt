-- `rows::write_path` meets its contract: after i turns the list holds the path's first i bytes from the place on.
use Rattle.std.proofs.Common.{◌≡◌, length}
use Rattle.std.proofs.Math.Seq.{paste}
use Rattle.rows.proofs.write_path.Given as goal

abbrev pub invariant-loop-i : goal.invariant-loop-i
invariant-loop-i l =
    record { sized : length l.list ≡ length l.initial.list; pasted : l.list ≡ paste l.initial.list l.from l.fn.bytes l.i }
