-- Two views of a row: without its cutset flag, which is all that the cutset changes, and without mark and bottom value, which is all that local bounds change.
use Rattle.std.specs.Prelude.{Bool, false, List, map}
use Rattle.diagram.specs.Node.{Node}

unfoldable pub with_cutset : Bool → Node → Node
with_cutset cutset n =
    record {
      capacity = n.capacity;
      depth = n.depth;
      value = n.value;
      bottom = n.bottom;
      best = n.best;
      newest = n.newest;
      fast = n.fast;
      exact = n.exact;
      relaxed = n.relaxed;
      marked = n.marked;
      cutset = cutset;
      deleted = n.deleted;
    }

abbrev pub uncut : Node → Node
uncut n = with_cutset false n

abbrev pub uncuts : List Node → List Node
uncuts ns = map uncut ns

unfoldable pub unmarked : Node → Node
unmarked n =
    record {
      capacity = n.capacity;
      depth = n.depth;
      value = n.value;
      bottom = 0;
      best = n.best;
      newest = n.newest;
      fast = n.fast;
      exact = n.exact;
      relaxed = n.relaxed;
      marked = false;
      cutset = n.cutset;
      deleted = n.deleted;
    }

abbrev pub unmarkeds : List Node → List Node
unmarkeds ns = map unmarked ns
