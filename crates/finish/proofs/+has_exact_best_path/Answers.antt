-- `finish::has_exact_best_path` meets its contract: a law of proofs/Walks for each of its four ways out.
use native.Mathlib.Omega.{arith}
use Rattle.finish.proofs.Walks.{parent_row}
use Rattle.finish.proofs.+has_exact_best_path.Goals as goal

pub has_exact_best_path-requires : goal.has_exact_best_path-requires
has_exact_best_path-requires t c =
    let p = parent_row _ _ _ _ _ _ c.requires c.read_node-node.ensures c.in-Some.ensures c.read_edge.ensures in
    (omega (arith, p.0, c.decreases), p.1)
