-- `finalize::judge` meets its contract: the verdict from what its calls found.
use mathlib.Core.Path.{refl}
use Rattle.finalize.proofs.Verdict.{walk_asked, judged}
use Rattle.finalize.proofs.judge.Goals as goal

pub exact_path-walked-requires : goal.exact_path-walked-requires
exact_path-walked-requires c = walk_asked _ _ _ _ _ c.requires c.find_best_node-best.ensures

pub returns-then-is_none : goal.returns-then-is_none
returns-then-is_none c =
    judged _ _ _ _ _ _ _ _ _ _ c.find_best_node-best.ensures c.exact_path-walked.ensures c.best_exact_node-best_exact.ensures (rw (c.is_none.ensures, c.if-is_none.true) refl)

pub returns-else-is_none : goal.returns-else-is_none
returns-else-is_none c =
    judged _ _ _ _ _ _ _ _ _ _ c.find_best_node-best.ensures c.exact_path-walked.ensures c.best_exact_node-best_exact.ensures (rw (c.is_none.ensures, c.if-is_none.false) refl)
