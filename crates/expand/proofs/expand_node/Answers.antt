-- `expand::expand_node` meets its contract: the fast bound is noted on both ways, and only above the lower bound both decisions are tried.
use mathlib.Core.Path.{refl}
use Rattle.diagram.specs.Node.{with_fast}
use Rattle.expand.proofs.Nodes.{noted_of, at_most, above, not_branched, branched_both}
use Rattle.expand.proofs.expand_node.Goals as goal

pub returns-then-handed-lower-clause-does : goal.returns-then-handed-lower-clause-does
unfolding with_fast
returns-then-handed-lower-clause-does c =
    let note = noted_of _ _ _ _ _ _ _ _ _ c.node-node.ensures c.fast_upper_bound-fast.ensures.value refl c.write_node.ensures in
    not_branched _ _ _ _ _ _ _ _ _ _ _ _ _ c.requires.fit note (at_most _ _ _ c.handed.ensures c.if-handed-lower.true)

pub returns-clause-does : goal.returns-clause-does
unfolding with_fast
returns-clause-does c =
    let note = noted_of _ _ _ _ _ _ _ _ _ c.node-node.ensures c.fast_upper_bound-fast.ensures.value refl c.write_node.ensures in
    branched_both _ _ _ _ _ _ _ _ _ _ _ _ _ _ _ _ _ c.args.items.limits.paired c.requires.deep note (above _ _ _ c.handed.ensures c.if-handed-lower.false) refl c.counted.ensures refl c.branch_both.ensures.does
