-- `list_parents` meets its contract: an edge more at each turn.
use Rattle.cutset.proofs.Inbound.{edge_asked, next_falls, parent_asked}
use Rattle.cutset.proofs.Steps.{at_edge, links_on}
use Rattle.cutset.proofs.Traversal.list_parents.Goals as goal

pub read_edge-edge-requires : goal.read_edge-edge-requires
read_edge-edge-requires c = edge_asked _ _ _ _ _ _ (at_edge _ _ _ _ _ _ c.requires c.loop-e.invariant) _ c.in-Some.ensures

pub list_parent-requires : goal.list_parent-requires
list_parent-requires c =
    record { tracing = parent_asked _ _ _ _ _ _ (at_edge _ _ _ _ _ _ c.requires c.loop-e.invariant) _ c.in-Some.ensures _ c.read_edge-edge.ensures }

pub loop-e-smaller : goal.loop-e-smaller
loop-e-smaller c = next_falls _ _ _ _ _ _ (at_edge _ _ _ _ _ _ c.requires c.loop-e.invariant) _ c.in-Some.ensures _ c.read_edge-edge.ensures

pub loop-e-preserved : goal.loop-e-preserved
loop-e-preserved c = links_on _ _ _ _ _ _ _ _ _ _ c.in-Some.ensures c.read_edge-edge.ensures c.loop-e.invariant c.list_parent.ensures
