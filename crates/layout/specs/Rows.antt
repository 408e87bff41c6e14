-- 'lent tables of plain 64-bit numbers, a fixed count to a row': which word of a node row and of an edge row holds what.
use Rattle.std.specs.Prelude.{Bool, true, false, List, [], ◌∷◌, ℕ, ◌+◌, ◌*◌, ◌/◌, ◌%◌, eqb, get_or}
use Rattle.diagram.specs.Node.{Node, Edge}
use Rattle.layout.specs.Table.{words_of}

-- A node row has eight words. Capacity and depth stand as they are; value, bottom and fast are i64 and stand as number + 2 ^ 63
-- (words/specs/I64); best and newest edge are 0 for none and e + 1 for edge row e; the flags share one word.
abbrev pub node_words : ℕ
node_words = 8

abbrev pub capacity_place : ℕ
capacity_place = 0

abbrev pub depth_place : ℕ
depth_place = 1

abbrev pub value_place : ℕ
value_place = 2

abbrev pub bottom_place : ℕ
bottom_place = 3

abbrev pub best_place : ℕ
best_place = 4

abbrev pub newest_place : ℕ
newest_place = 5

abbrev pub fast_place : ℕ
fast_place = 6

abbrev pub flags_place : ℕ
flags_place = 7

-- The flags' numbers are those of ddo's NodeFlags; a flags word is the sum of those that are set.
abbrev pub exact_flag : ℕ
exact_flag = 1

abbrev pub relaxed_flag : ℕ
relaxed_flag = 2

abbrev pub marked_flag : ℕ
marked_flag = 4

abbrev pub cutset_flag : ℕ
cutset_flag = 8

abbrev pub deleted_flag : ℕ
deleted_flag = 16

unfoldable pub digit : Bool → ℕ
digit true = 1
digit false = 0

unfoldable pub flags_word : Bool → Bool → Bool → Bool → Bool → ℕ
flags_word exact relaxed marked cutset deleted =
    exact_flag * digit exact + relaxed_flag * digit relaxed + marked_flag * digit marked + cutset_flag * digit cutset + deleted_flag * digit deleted

-- whether flag f is set in word w
unfoldable pub has_flag : ℕ → ℕ → Bool
has_flag f w = eqb (w / f % 2) 1

unfoldable pub encode_node : Node → List ℕ
encode_node n =
    n.capacity
    ∷ n.depth
    ∷ n.value
    ∷ n.bottom
    ∷ n.best
    ∷ n.newest
    ∷ n.fast
    ∷ flags_word n.exact n.relaxed n.marked n.cutset n.deleted
    ∷ []

unfoldable pub decode_node : List ℕ → Node
decode_node ws =
    record {
      capacity = get_or ws capacity_place 0;
      depth = get_or ws depth_place 0;
      value = get_or ws value_place 0;
      bottom = get_or ws bottom_place 0;
      best = get_or ws best_place 0;
      newest = get_or ws newest_place 0;
      fast = get_or ws fast_place 0;
      exact = has_flag exact_flag (get_or ws flags_place 0);
      relaxed = has_flag relaxed_flag (get_or ws flags_place 0);
      marked = has_flag marked_flag (get_or ws flags_place 0);
      cutset = has_flag cutset_flag (get_or ws flags_place 0);
      deleted = has_flag deleted_flag (get_or ws flags_place 0);
    }

-- An edge row has five words, all of them numbers that stand as they are; next is 0 for none and e + 1 for edge row e.
abbrev pub edge_words : ℕ
edge_words = 5

abbrev pub from_place : ℕ
from_place = 0

abbrev pub to_place : ℕ
to_place = 1

abbrev pub decision_place : ℕ
decision_place = 2

abbrev pub cost_place : ℕ
cost_place = 3

abbrev pub next_place : ℕ
next_place = 4

unfoldable pub encode_edge : Edge → List ℕ
encode_edge e = e.from ∷ e.to ∷ e.decision ∷ e.cost ∷ e.next ∷ []

unfoldable pub decode_edge : List ℕ → Edge
decode_edge ws =
    record {
      from = get_or ws from_place 0;
      to = get_or ws to_place 0;
      decision = get_or ws decision_place 0;
      cost = get_or ws cost_place 0;
      next = get_or ws next_place 0;
    }

-- the words of a table's rows, one row behind the other
unfoldable pub node_table : List Node → List ℕ
node_table ns = words_of encode_node ns

unfoldable pub edge_table : List Edge → List ℕ
edge_table es = words_of encode_edge es
