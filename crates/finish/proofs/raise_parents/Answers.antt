-- `finish::raise_parents` meets its contract: a parent more at each turn.
use Rattle.finish.proofs.Raising.{raise_one, link_readable, turn_at}
use Rattle.finish.proofs.raise_parents.Goals as goal

pub read_edge-edge-requires : goal.read_edge-edge-requires
read_edge-edge-requires c = link_readable _ _ _ _ _ _ _ c.requires c.loop-e.invariant c.in-Some.ensures

pub raise_parent-requires : goal.raise_parent-requires
raise_parent-requires c = (turn_at _ _ _ _ _ _ _ _ c.requires c.loop-e.invariant c.in-Some.ensures c.read_edge-edge.ensures).parent_in

pub loop-e-smaller : goal.loop-e-smaller
loop-e-smaller c = (turn_at _ _ _ _ _ _ _ _ c.requires c.loop-e.invariant c.in-Some.ensures c.read_edge-edge.ensures).falls

pub loop-e-preserved : goal.loop-e-preserved
loop-e-preserved c =
    raise_one _ _ _ _ _ _ _ _ _ _ c.in-Some.ensures c.read_edge-edge.ensures c.handed.ensures c.raise_parent.ensures c.loop-e.invariant
