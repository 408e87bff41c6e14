-- `answer` meets its contract: the list that is lent is the first places of an empty one.
use Rattle.std.proofs.Common.{ap, arith, min}
use Rattle.std.proofs.Math.ListN.{replicate}
use Rattle.compile.specs.Asked.{lent_of}
use Rattle.records.specs.Structs.{places}
use Rattle.pick_steps.specs.Tried.{held_in}
use Rattle.job.proofs.Answering.{first_there, empty_list}
use Rattle.job.proofs.answer.Goals as goal

pub slice_bounds-run_job-end : goal.slice_bounds-run_job-end
slice_bounds-run_job-end c = first_there c.min-n.result 16384 c.args.open_places c.empty-none.result c.min-n.ensures

pub returns : goal.returns
returns c =
    empty_list c.args.text.now (lent_of c.args.nodes.now c.args.edges.now c.args.scratch.now) c.run_job.result
    (held_in (places c.run_job.new.list) c.run_job.new.nodes c.run_job.new.edges c.run_job.new.scratch)
    16384 c.min-n.result (min c.args.open_places 16384) (replicate 16384 c.empty-none.result)
    (omega (arith, c.min-n.ensures)) (ap (replicate 16384) c.empty-none.ensures) c.min-n.ensures c.run_job.ensures
