-- `largest`: before record j the place is that of the largest of the records before it.
use Rattle.std.proofs.Common.{◌≡◌, take}
use Rattle.records.specs.Structs.{places}
use Rattle.jobs.specs.Run.{largest}
use Rattle.job_run.proofs.largest.Given as goal

abbrev pub invariant-loop-j : goal.invariant-loop-j
invariant-loop-j l = l.best ≡ largest (take l.j (places l.list))
