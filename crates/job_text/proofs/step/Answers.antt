-- `job_text::step` meets its contract. A reader of a text has no more items than bytes, so where its items are at their end its bytes are too.
use mathlib.Core.Path.{sym, subst}
use Prim.Native.Nat.{◌≤◌}
use borrow.Author.Rules.{rules}
use Rattle.jobs.specs.Text.{most_bytes}
use Rattle.job_text.specs.Kept.{HasRead, stepped_of}
use Rattle.job_text.proofs.Keeping.{reads_on, reads_over}
use Rattle.job_text.proofs.step.Goals as goal

pub returns-then-r-ge-MOST_BYTES-2 : goal.returns-then-r-ge-MOST_BYTES-2
unfolding stepped_of
returns-then-r-ge-MOST_BYTES-2 c = (
  search rules,
  λ t has.
      let few = has.few in
      let full : most_bytes ≤ c.args.r.bytes = search rules in
      subst (HasRead _) (sym c.overrun.ensures) (reads_over t _ _ full has),
)

pub returns-else-r-ge-MOST_BYTES-2 : goal.returns-else-r-ge-MOST_BYTES-2
unfolding stepped_of
returns-else-r-ge-MOST_BYTES-2 c = (
  search rules,
  λ t has. subst (HasRead _) (sym c.taken.ensures) (reads_on t _ _ (search rules) has),
)
