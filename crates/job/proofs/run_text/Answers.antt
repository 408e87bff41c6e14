-- `run_text` meets its contract: what is read of the text is run as its job is, and a refusal on the way is the answer.
use Rattle.std.proofs.Common.{Ok, Err}
use Rattle.std.proofs.lemmas.Result.{err_from_is_err_and}
use Rattle.records.specs.Structs.{places}
use Rattle.pick_steps.specs.Tried.{held_in}
use Rattle.job.proofs.Answering.{ran}
use Rattle.job.proofs.Steps.{writable}
use Rattle.job.proofs.run_text.Goals as goal

pub returns-in_err-search-clause-runs : goal.returns-in_err-search-clause-runs
returns-in_err-search-clause-runs c =
    let h = held_in (places c.args.list.now) c.args.nodes.now c.args.edges.now c.args.scratch.now in
    let p = err_from_is_err_and c.from_residual-in_err-search.result c.from_residual-in_err-search.ensures.1 in
    rw (p.1, p.2) (ran c.args.text.now h c.in_ok-job.job c.in_ok-job.ensures (Err _) _ c.in_err-search.ensures)

pub returns-clause-runs : goal.returns-clause-runs
returns-clause-runs c =
    let h = held_in (places c.args.list.now) c.args.nodes.now c.args.edges.now c.args.scratch.now in
    ran c.args.text.now h c.in_ok-job.job c.in_ok-job.ensures (Ok c.in_ok-search.search) _ c.in_ok-search.ensures

pub returns-clause-writable : goal.returns-clause-writable
returns-clause-writable c =
    let h = held_in (places c.args.list.now) c.args.nodes.now c.args.edges.now c.args.scratch.now in
    writable c.in_ok-job.job h (Ok c.in_ok-search.search) _ c.in_ok-search.ensures
