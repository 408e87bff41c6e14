-- What a node and an edge of the code stand for in the definitions.
use Rattle.diagram.specs.Node as Def
use Rattle.rows.specs.declared.Node.{Node}
use Rattle.rows.specs.declared.Edge.{Edge}

abbrev pub node_of : Node → Def.Node
node_of n =
    record {
      capacity = n.capacity;
      depth = n.depth;
      value = n.value;
      bottom = n.bottom;
      best = n.best.0;
      newest = n.newest.0;
      fast = n.fast;
      exact = n.exact;
      relaxed = n.relaxed;
      marked = n.marked;
      cutset = n.cutset;
      deleted = n.deleted;
    }

abbrev pub edge_of : Edge → Def.Edge
edge_of e = record { from = e.from.0; to = e.to.0; decision = e.decision; cost = e.cost; next = e.next.0 }
