-- A row of nodes and a row of edges, and each way in which a node's row is changed: one definition a change, all here.
use Rattle.std.specs.Prelude.{Bool, true, false, List, ℕ, get_or, set}
use Rattle.words.specs.I64.{top}

-- Rule 1: 'A node has capacity, depth, value from top …, value from bottom …, best edge, newest inbound edge, fast bound … and flags
-- exact, relaxed, marked, cutset, deleted.' Value, bottom and fast are i64, as words. An edge is 0 for none, e + 1 for edge row e.
pub record Node : Type 0 where
  pub capacity : ℕ
  pub depth : ℕ
  pub value : ℕ
  pub bottom : ℕ
  pub best : ℕ
  pub newest : ℕ
  pub fast : ℕ
  pub exact : Bool
  pub relaxed : Bool
  pub marked : Bool
  pub cutset : Bool
  pub deleted : Bool

-- 'Port order': an edge goes from a parent's row to a child's, with its decision byte, its cost and 'a next-edge number': the edge
-- that was the child's newest before it.
pub record Edge : Type 0 where
  pub from : ℕ
  pub to : ℕ
  pub decision : ℕ
  pub cost : ℕ
  pub next : ℕ

-- what a row past the end reads as
abbrev pub no_node : Node
no_node =
    record {
      capacity = 0;
      depth = 0;
      value = 0;
      bottom = 0;
      best = 0;
      newest = 0;
      fast = 0;
      exact = false;
      relaxed = false;
      marked = false;
      cutset = false;
      deleted = false;
    }

abbrev pub no_edge : Edge
no_edge = record { from = 0; to = 0; decision = 0; cost = 0; next = 0 }

abbrev pub node_at : List Node → ℕ → Node
node_at ns r = get_or ns r no_node

abbrev pub edge_at : List Edge → ℕ → Edge
edge_at es e = get_or es e no_edge

-- row r changed by f
abbrev pub update : (Node → Node) → List Node → ℕ → List Node
update f ns r = set ns r (f (get_or ns r no_node))

-- A new row: 'value from bottom (i64 minimum at first)', 'fast bound (i64 maximum until expanded)', no edge, no flag but perhaps exact.
unfoldable pub fresh : ℕ → ℕ → ℕ → Bool → Node
fresh capacity depth value exact =
    record {
      capacity = capacity;
      depth = depth;
      value = value;
      bottom = 0;
      best = 0;
      newest = 0;
      fast = top;
      exact = exact;
      relaxed = false;
      marked = false;
      cutset = false;
      deleted = false;
    }

-- an edge came in: its value and number where it is the best, its number as the newest, and the exact flag
unfoldable pub entered : ℕ → ℕ → ℕ → Bool → Node → Node
entered value best newest exact n =
    record {
      capacity = n.capacity;
      depth = n.depth;
      value = value;
      bottom = n.bottom;
      best = best;
      newest = newest;
      fast = n.fast;
      exact = exact;
      relaxed = n.relaxed;
      marked = n.marked;
      cutset = n.cutset;
      deleted = n.deleted;
    }

-- the fast bound is set
unfoldable pub with_fast : ℕ → Node → Node
with_fast fast n =
    record {
      capacity = n.capacity;
      depth = n.depth;
      value = n.value;
      bottom = n.bottom;
      best = n.best;
      newest = n.newest;
      fast = fast;
      exact = n.exact;
      relaxed = n.relaxed;
      marked = n.marked;
      cutset = n.cutset;
      deleted = n.deleted;
    }

-- the deleted flag is set or cleared
unfoldable pub with_deleted : Bool → Node → Node
with_deleted deleted n =
    record {
      capacity = n.capacity;
      depth = n.depth;
      value = n.value;
      bottom = n.bottom;
      best = n.best;
      newest = n.newest;
      fast = n.fast;
      exact = n.exact;
      relaxed = n.relaxed;
      marked = n.marked;
      cutset = n.cutset;
      deleted = deleted;
    }

-- relaxed, and so not exact
unfoldable pub as_relaxed : Node → Node
as_relaxed n =
    record {
      capacity = n.capacity;
      depth = n.depth;
      value = n.value;
      bottom = n.bottom;
      best = n.best;
      newest = n.newest;
      fast = n.fast;
      exact = false;
      relaxed = true;
      marked = n.marked;
      cutset = n.cutset;
      deleted = n.deleted;
    }

-- the cutset flag is set
unfoldable pub in_cutset : Node → Node
in_cutset n =
    record {
      capacity = n.capacity;
      depth = n.depth;
      value = n.value;
      bottom = n.bottom;
      best = n.best;
      newest = n.newest;
      fast = n.fast;
      exact = n.exact;
      relaxed = n.relaxed;
      marked = n.marked;
      cutset = true;
      deleted = n.deleted;
    }

-- a mark, with that bottom value
unfoldable pub marked_with : ℕ → Node → Node
marked_with bottom n =
    record {
      capacity = n.capacity;
      depth = n.depth;
      value = n.value;
      bottom = bottom;
      best = n.best;
      newest = n.newest;
      fast = n.fast;
      exact = n.exact;
      relaxed = n.relaxed;
      marked = true;
      cutset = n.cutset;
      deleted = n.deleted;
    }
