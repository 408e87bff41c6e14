-- `written` meets its contract: a run that came to its end is written as its search's page.
use Rattle.std.proofs.Common.{w64, rules, FitsSigned}
use Rattle.std.proofs.Math.Facts.{to_z-of_z}
use Rattle.job.proofs.Steps.{says_page}
use Rattle.job.proofs.written.Goals as goal

pub returns-in-Ok : goal.returns-in-Ok
returns-in-Ok c =
    let best_fits : FitsSigned w64 c.in-Ok.field-0.search.best = search rules in
    rw c.in-Ok.is (says_page c.in-Ok.field-0.items c.in-Ok.field-0.search _ _ (to_z-of_z best_fits) c.page.ensures)
