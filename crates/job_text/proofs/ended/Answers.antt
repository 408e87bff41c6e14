-- `job_text::ended` meets its contract: a text is a job's where the machine stands behind a whole one.
use mathlib.Core.Path.{sym, ◌∙◌}
use Rattle.job_text.proofs.Accepted.{ended_whole, ended_part_way, reads_whole, reads_nothing}
use Rattle.job_text.proofs.ended.Goals as goal

pub returns-then-not-whole_at : goal.returns-then-not-whole_at
returns-then-not-whole_at c =
    let part-way = sym c.whole_at.ensures ∙ c.if-not-whole_at.true in
    (ended_part_way _ part-way, λ t has. reads_nothing t _ has part-way)

pub returns : goal.returns
returns c =
    let whole = sym c.whole_at.ensures ∙ c.if-not-whole_at.false in
    (ended_whole _ whole, λ t has. reads_whole t _ has whole)
