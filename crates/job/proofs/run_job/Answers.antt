-- `run_job` meets its contract: the text is run, and the answer written of how the run ends.
use Rattle.reasons.specs.Numbers.{numbered}
use Rattle.records.specs.Structs.{places}
use Rattle.pick_steps.specs.Tried.{held_in}
use Rattle.job.proofs.Answering.{answers, leaves}
use Rattle.job.proofs.run_job.Goals as goal

pub returns : goal.returns
returns c =
    let h = held_in (places c.args.list.now) c.args.nodes.now c.args.edges.now c.args.scratch.now in
    let after = held_in (places c.run_text-ran.new.list) c.run_text-ran.new.nodes c.run_text-ran.new.edges c.run_text-ran.new.scratch in (
      answers c.args.text.now h (numbered c.run_text-ran.result) after c.run_text-ran.ensures.runs c.written.result c.written.ensures,
      leaves c.args.text.now h (numbered c.run_text-ran.result) after c.run_text-ran.ensures.runs,
    )
