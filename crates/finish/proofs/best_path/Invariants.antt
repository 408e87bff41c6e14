-- `finish::best_path` climbs from row to smaller row: what is written, with what is left above the row, is the path.
use lib.ListN.{take}
use Rattle.finish.specs.Paths.{PathFits}
use Rattle.finish.proofs.Paths.{Climbed}
use Rattle.finish.proofs.best_path.Given as goal

abbrev pub invariant-loop-e : goal.invariant-loop-e
invariant-loop-e l =
    record {
      fits : PathFits l.nodes l.edges l.fn.n.0 (take l.fn.depth l.fn.path);
      climbed : Climbed l.nodes l.edges l.fn.n.0 (take l.fn.depth l.fn.path) l.bytes l.len l.row.0;
    }

abbrev pub decreases-loop-e : goal.decreases-loop-e
decreases-loop-e l = l.row.0
