-- `jambtulip_run_job` meets its contract: the run's answer is shown, and the number returned is of how the run ends.
use Rattle.std.proofs.Common.{sym, ap, ◌∙◌}
use Rattle.reasons.specs.Numbers.{numbered}
use Rattle.border.specs.Border.{number_of}
use Rattle.host.proofs.Kept.{runs_for}
use Rattle.host.proofs.jambtulip_run_job.Goals as goal

pub returns-in-Ok : goal.returns-in-Ok
returns-in-Ok c =
    runs_for _ _ _ _ c.run_text-ran.ensures.runs _ c.written.ensures _ c.from.ensures _ (sym (ap (λ r. number_of (numbered r)) c.in-Ok.is))

pub returns-in-Err : goal.returns-in-Err
returns-in-Err c =
    runs_for _ _ _ _ c.run_text-ran.ensures.runs _ c.written.ensures _ c.from.ensures _ (c.number.ensures ∙ sym (ap (λ r. number_of (numbered r)) c.in-Err.is))
