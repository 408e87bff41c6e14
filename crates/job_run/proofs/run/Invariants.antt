-- `run`: before each turn the picks that are left come to what the whole run comes to, and leave what it leaves.
use Rattle.cutset.specs.Whole.{kind_of}
use Rattle.records.specs.Structs.{places}
use Rattle.search.specs.Asked.{problem_of}
use Rattle.pick_steps.specs.Tried.{held_in}
use Rattle.job_run.proofs.Turning.{Goes, turns_left}
use Rattle.job_run.proofs.run.Given as goal

abbrev pub invariant-loop-s : goal.invariant-loop-s
invariant-loop-s l =
    Goes (problem_of l.weights l.profits l.ask.page l.ask.width) (kind_of l.ask.kind) (held_in (places l.fn.list) l.fn.nodes l.fn.edges l.fn.scratch)
    l.s (held_in (places l.list) l.nodes l.edges l.scratch)

abbrev pub decreases-loop-s : goal.decreases-loop-s
decreases-loop-s l = turns_left l.s
