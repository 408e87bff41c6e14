-- `finish::has_exact_best_path` goes up from a row to a smaller one: the measure is the row.
use Rattle.finish.proofs.+has_exact_best_path.Given as goal

abbrev pub decreases-has_exact_best_path : goal.decreases-has_exact_best_path
decreases-has_exact_best_path l = l.n.0
