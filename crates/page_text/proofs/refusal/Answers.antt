-- `refusal` meets its contract: the one line stands at the front of an array of zeros.
use native.Mathlib.Omega.{arith}
use Rattle.jobs.specs.Page.{refusal_of}
use Rattle.page_text.proofs.Putting.{put_says}
use Rattle.page_text.proofs.Counts.{refusal_short}
use Rattle.page_text.proofs.refusal.Goals as goal

pub put_line-requires : goal.put_line-requires
put_line-requires c = rw c.empty-page.ensures (omega (arith, refusal_short c.args.number))

pub returns : goal.returns
unfolding refusal_of
returns c =
    let p = rw c.empty-page.ensures at c.put_line.ensures in
    put_says 29 p (omega (arith, p.behind, refusal_short c.args.number))
