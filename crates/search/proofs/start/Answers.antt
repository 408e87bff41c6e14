-- `search::start` meets its contract: refused by 1 to 6 or for want of a place, or the root is written.
use mathlib.Core.Path.{sym}
use Rattle.std.proofs.Common.{rules}
use Rattle.std.proofs.Math.Facts.{to_z-of_z}
use Rattle.std.proofs.lemmas.Result.{err_from_is_err_and}
use Rattle.search.specs.Asked.{problem_of}
use Rattle.search.proofs.Firsts.{start_before, start_no_place, start_accepted}
use Rattle.search.proofs.Starting.{refused_begins, started_begins}
use Rattle.search.proofs.start.Goals as goal

pub returns-in_err-problem_refusal : goal.returns-in_err-problem_refusal
returns-in_err-problem_refusal c =
    let p = err_from_is_err_and c.from_residual.result c.from_residual.ensures.1 in
    rw (p.1, p.2) (refused_begins _ _ _ _ (start_before _ _ _ (sym c.in_err-problem_refusal.ensures.refused)))

pub returns-then-is_empty : goal.returns-then-is_empty
returns-then-is_empty c = refused_begins _ _ _ _ (start_no_place _ _ (sym c.in_ok-problem_refusal.ensures.refused) (search rules))

pub returns : goal.returns
returns c = started_begins (problem_of c.args.weights.now c.args.profits.now c.args.ask.page c.args.ask.width) c.args.bound c.args.list.now c.begun.result c.root_record.result _ (start_accepted _ _ (sym c.in_ok-problem_refusal.ensures.refused) (search rules)) c.begun.ensures (to_z-of_z c.ranges.bound) c.root_record.ensures (search rules)
