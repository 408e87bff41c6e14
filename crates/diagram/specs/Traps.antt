-- The traps that the starred cases don't show: the smallest input found for each place where a reading could go wrong, with what is right.
use Rattle.std.specs.Prelude.{◌≡◌, true, false, List, [], ◌∷◌, map, ℕ, ℤ, pos, replicate}
use Rattle.std.proofs.Math.Option.{none, some}
use Rattle.knapsack.specs.Items.{Item}
use Rattle.diagram.specs.Record.{padded, root_record}
use Rattle.diagram.specs.Node.{no_node}
use Rattle.diagram.specs.Tables.{Diagram, unsquashed, nowhere}
use Rattle.diagram.specs.Run.{Mode, exactly, restricted, relaxing, Settings, Run, going, stopped}
use Rattle.diagram.specs.Rule4.{new_child}
use Rattle.diagram.specs.Rule6.{Squashed, layer, halted, merge_into}
use Rattle.diagram.specs.After4.{CutsetKind, last_exact_layer, frontier}
use Rattle.diagram.specs.Figures.{shown, ShownRecord, show_record, shown_record, answer, E, R, M, C, D, node, edge, range, ShownTables, Given, shown_of, tables_of, lowest, highest, item, case, case_from, Case}

-- Answers. Each case stands under the rule or paragraph that it pins.
unfoldable pub answers : List Case
answers =
    -- Rule 3, take is tried first and rule 4, a later equal edge wins: take and skip end in one row, by equal edges.
    case relaxing 1 last_exact_layer lowest (item 0 0 ∷ []) 0 (answer true (some (pos 0)) (0 ∷ []) (some (pos 0)) (0 ∷ []) 2 2 [])
    -- Rule 3, strictly above: value plus bound equal to the lower bound is not branched.
    ∷ case relaxing 1 last_exact_layer (pos 0) (item 0 0 ∷ []) 0 (answer true none [] none [] 1 0 [])
    -- A path's new decisions go from bottom to top.
    ∷ case relaxing 1 last_exact_layer lowest (item 0 0 ∷ item 0 0 ∷ []) 0 (answer true (some (pos 0)) (2 ∷ 0 ∷ []) (some (pos 0)) (2 ∷ 0 ∷ []) 3 4 [])
    -- Best node: of two terminals of equal value the larger capacity, not the smaller, nor the first row.
    ∷ case relaxing 1 last_exact_layer lowest (item 1 0 ∷ []) 1 (answer true (some (pos 0)) (0 ∷ []) (some (pos 0)) (0 ∷ []) 3 2 [])
    -- Best node: nor the last row. And rule 5: the layer of the root's children is not squashed.
    ∷ case relaxing 1 last_exact_layer lowest (item 1 0 ∷ item 0 0 ∷ []) 1 (answer true (some (pos 0)) (2 ∷ 0 ∷ []) (some (pos 0)) (2 ∷ 0 ∷ []) 5 6 [])
    -- Rule 5: the last layer is not squashed, relaxed and restricted.
    ∷ case relaxing 1 last_exact_layer lowest (item 0 0 ∷ item 1 0 ∷ []) 1 (answer true (some (pos 0)) (2 ∷ 0 ∷ []) (some (pos 0)) (2 ∷ 0 ∷ []) 4 4 [])
    ∷ case restricted 1 last_exact_layer lowest (item 1 0 ∷ []) 1 (answer true (some (pos 0)) (0 ∷ []) (some (pos 0)) (0 ∷ []) 3 2 [])
    -- Restricted: `width` nodes are kept; on equal values the larger capacity stands first; the walk is made in relaxed mode alone.
    ∷ case restricted 1 last_exact_layer lowest (item 1 0 ∷ item 0 0 ∷ []) 1 (answer false (some (pos 0)) (2 ∷ 0 ∷ []) (some (pos 0)) (2 ∷ 0 ∷ []) 4 4 [])
    -- Squash order: value goes before capacity (restricted, relaxed).
    ∷ case restricted 1 last_exact_layer lowest (item 1 1 ∷ item 0 0 ∷ []) 1 (answer false (some (pos 1)) (2 ∷ 1 ∷ []) (some (pos 1)) (2 ∷ 1 ∷ []) 4 4 [])
    ∷ case relaxing 2 last_exact_layer lowest (item 1 0 ∷ item 1 1 ∷ item 0 0 ∷ []) 2 (answer false (some (pos 1)) (4 ∷ 3 ∷ 1 ∷ []) (some (pos 1)) (4 ∷ 3 ∷ 0 ∷ []) 9 12 (shown 1 (pos 0) (pos 1) 1 (1 ∷ []) ∷ shown 2 (pos 0) (pos 1) 1 (0 ∷ []) ∷ []))
    -- Squash order on equal values, merged nodes' edges copied in that order; `width` − 1 are kept; the last exact layer is the one before the squash; a merged node stops the walk; local bounds go up copied edges.
    ∷ case relaxing 1 last_exact_layer lowest (item 0 0 ∷ item 1 0 ∷ item 0 0 ∷ []) 1 (answer false (some (pos 0)) (4 ∷ 3 ∷ 0 ∷ []) none [] 6 8 (shown 1 (pos 0) (pos 0) 1 (0 ∷ []) ∷ []))
    -- Frontier: a parent is listed once, and only for a node that isn't exact.
    ∷ case relaxing 1 frontier lowest (item 0 0 ∷ item 1 0 ∷ item 0 0 ∷ []) 1 (answer false (some (pos 0)) (4 ∷ 3 ∷ 0 ∷ []) none [] 6 8 (shown 1 (pos 0) (pos 0) 1 (0 ∷ []) ∷ []))
    -- Copied edges: all inbound ones, newest first; local bounds go up each inbound edge.
    ∷ case relaxing 1 last_exact_layer lowest (item 1 0 ∷ item 0 0 ∷ item 0 0 ∷ []) 1 (answer false (some (pos 0)) (4 ∷ 3 ∷ 1 ∷ []) none [] 7 12 (shown 0 (pos 0) (pos 0) 1 (1 ∷ []) ∷ shown 1 (pos 0) (pos 0) 1 (0 ∷ []) ∷ []))
    -- Frontier: inbound edges newest first.
    ∷ case relaxing 1 frontier lowest (item 1 0 ∷ item 0 0 ∷ item 0 0 ∷ []) 1 (answer false (some (pos 0)) (4 ∷ 3 ∷ 1 ∷ []) none [] 7 12 (shown 0 (pos 0) (pos 0) 1 (1 ∷ []) ∷ shown 1 (pos 0) (pos 0) 1 (0 ∷ []) ∷ []))
    -- Children of nodes that aren't exact aren't exact; merging gives the largest capacity.
    ∷ case relaxing 1 last_exact_layer lowest (item 0 0 ∷ item 1 0 ∷ item 1 0 ∷ []) 1 (answer false (some (pos 0)) (4 ∷ 3 ∷ 0 ∷ []) none [] 7 8 (shown 1 (pos 0) (pos 0) 1 (0 ∷ []) ∷ []))
    -- An edge from a parent that isn't exact clears the flag of a child that is there. Frontier: layers from last to first, parents of every node that isn't exact.
    ∷ case relaxing 2 frontier lowest (item 1 0 ∷ item 1 0 ∷ item 1 0 ∷ []) 2 (answer true (some (pos 0)) (4 ∷ 2 ∷ 0 ∷ []) (some (pos 0)) (4 ∷ 2 ∷ 0 ∷ []) 10 13 (shown 2 (pos 0) (pos 0) 2 (2 ∷ 0 ∷ []) ∷ shown 1 (pos 0) (pos 0) 1 (1 ∷ []) ∷ shown 2 (pos 0) (pos 0) 1 (0 ∷ []) ∷ []))
    -- The walk goes on above the terminal, past nodes that are neither exact nor relaxed. With another choice among the equal terminals the exact flag and the best exact value move.
    ∷ case relaxing 2 last_exact_layer lowest (item 1 0 ∷ item 1 0 ∷ item 1 1 ∷ []) 2 (answer true (some (pos 1)) (5 ∷ 2 ∷ 0 ∷ []) (some (pos 1)) (5 ∷ 2 ∷ 0 ∷ []) 10 13 (shown 1 (pos 0) (pos 1) 1 (1 ∷ []) ∷ shown 2 (pos 0) (pos 1) 1 (0 ∷ []) ∷ []))
    -- Exact diagrams drain theirs.
    ∷ case relaxing 2 last_exact_layer lowest (item 1 0 ∷ item 1 0 ∷ item 0 0 ∷ []) 2 (answer true (some (pos 0)) (4 ∷ 2 ∷ 0 ∷ []) (some (pos 0)) (4 ∷ 2 ∷ 0 ∷ []) 9 13 (shown 1 (pos 0) (pos 0) 1 (1 ∷ []) ∷ shown 2 (pos 0) (pos 0) 1 (0 ∷ []) ∷ []))
    -- A drained bound: value plus fast bound decides.
    ∷ case relaxing 1 last_exact_layer lowest (item 1 0 ∷ item 0 0 ∷ item 1 1 ∷ []) 1 (answer false (some (pos 1)) (5 ∷ 3 ∷ 1 ∷ []) none [] 8 12 (shown 0 (pos 0) (pos 0) 1 (1 ∷ []) ∷ shown 1 (pos 0) (pos 1) 1 (0 ∷ []) ∷ []))
    -- A drained bound: value plus bottom value decides.
    ∷ case relaxing 2 last_exact_layer lowest (item 1 0 ∷ item 1 1 ∷ item 2 1 ∷ []) 2 (answer false (some (pos 2)) (5 ∷ 3 ∷ 1 ∷ []) (some (pos 1)) (4 ∷ 3 ∷ 0 ∷ []) 10 11 (shown 1 (pos 0) (pos 1) 1 (1 ∷ []) ∷ shown 2 (pos 0) (pos 1) 1 (0 ∷ []) ∷ []))
    -- Only marked cutset nodes are drained.
    ∷ case relaxing 1 last_exact_layer (pos 0) (item 1 0 ∷ item 1 1 ∷ item 0 0 ∷ []) 1 (answer false (some (pos 1)) (4 ∷ 3 ∷ 0 ∷ []) none [] 7 8 (shown 1 (pos 0) (pos 1) 1 (0 ∷ []) ∷ []))
    -- After a squash, expansion in squash order: restricted; relaxed; the merged node last.
    ∷ case restricted 2 last_exact_layer lowest (item 1 1 ∷ item 1 1 ∷ item 1 1 ∷ []) 2 (answer false (some (pos 2)) (5 ∷ 2 ∷ 1 ∷ []) (some (pos 2)) (5 ∷ 2 ∷ 1 ∷ []) 8 9 [])
    ∷ case relaxing 3 last_exact_layer lowest (item 1 1 ∷ item 2 1 ∷ item 2 1 ∷ []) 3 (answer false (some (pos 2)) (5 ∷ 3 ∷ 0 ∷ []) (some (pos 2)) (5 ∷ 2 ∷ 1 ∷ []) 12 13 (shown 2 (pos 1) (pos 2) 1 (1 ∷ []) ∷ shown 3 (pos 0) (pos 2) 1 (0 ∷ []) ∷ []))
    ∷ case relaxing 2 last_exact_layer lowest (item 1 0 ∷ item 2 1 ∷ item 2 1 ∷ []) 2 (answer false (some (pos 1)) (5 ∷ 2 ∷ 1 ∷ []) none [] 9 10 (shown 1 (pos 0) (pos 0) 1 (1 ∷ []) ∷ shown 2 (pos 0) (pos 1) 1 (0 ∷ []) ∷ []))
    -- Squashed and without a terminal: exact, without a value.
    ∷ case relaxing 3 last_exact_layer (pos 1) (item 1 0 ∷ item 2 1 ∷ item 2 1 ∷ []) 3 (answer true none [] none [] 8 8 [])
    -- The last exact layer is named once, by the first squash.
    ∷ case relaxing 1 last_exact_layer lowest (item 0 0 ∷ item 1 0 ∷ item 1 0 ∷ item 0 0 ∷ []) 1 (answer false (some (pos 0)) (6 ∷ 5 ∷ 3 ∷ 0 ∷ []) none [] 9 12 (shown 1 (pos 0) (pos 0) 1 (0 ∷ []) ∷ []))
    -- Frontier: rows in order; deleted rows are looked at too.
    ∷ case relaxing 3 frontier lowest (item 1 0 ∷ item 2 0 ∷ item 1 1 ∷ item 0 0 ∷ []) 3 (answer false (some (pos 1)) (6 ∷ 5 ∷ 3 ∷ 1 ∷ []) (some (pos 1)) (6 ∷ 5 ∷ 2 ∷ 0 ∷ []) 16 22 (shown 2 (pos 0) (pos 1) 2 (2 ∷ 1 ∷ []) ∷ shown 3 (pos 0) (pos 1) 2 (2 ∷ 0 ∷ []) ∷ shown 2 (pos 0) (pos 1) 1 (1 ∷ []) ∷ shown 3 (pos 0) (pos 1) 1 (0 ∷ []) ∷ []))
    ∷ case relaxing 3 frontier lowest (item 1 0 ∷ item 2 0 ∷ item 2 0 ∷ item 0 0 ∷ []) 3 (answer true (some (pos 0)) (6 ∷ 4 ∷ 2 ∷ 0 ∷ []) (some (pos 0)) (6 ∷ 4 ∷ 2 ∷ 0 ∷ []) 16 22 (shown 3 (pos 0) (pos 0) 2 (2 ∷ 0 ∷ []) ∷ shown 2 (pos 0) (pos 0) 2 (2 ∷ 1 ∷ []) ∷ shown 2 (pos 0) (pos 0) 1 (1 ∷ []) ∷ shown 3 (pos 0) (pos 0) 1 (0 ∷ []) ∷ []))
    -- Rule 5, relaxed: a layer of just as many nodes as the width is not squashed (T, width 3).
    ∷ case relaxing 3 last_exact_layer lowest (item 1 4 ∷ item 1 3 ∷ item 1 2 ∷ []) 2 (answer true (some (pos 7)) (4 ∷ 3 ∷ 1 ∷ []) (some (pos 7)) (4 ∷ 3 ∷ 1 ∷ []) 9 11 [])
    -- From a deeper record: its value is the root's, items from its depth on are decided, by their own bytes, and its path stands first (T from H's first record).
    ∷ case_from relaxing 1 last_exact_layer lowest (item 1 4 ∷ item 1 3 ∷ item 1 2 ∷ []) (shown 1 (pos 4) (pos 9) 1 (1 ∷ [])) (answer true (some (pos 7)) (1 ∷ 4 ∷ 3 ∷ []) (some (pos 7)) (1 ∷ 4 ∷ 3 ∷ []) 5 5 [])
    -- From a deeper record whose path isn't in the order of items, one item left.
    ∷ case_from relaxing 1 last_exact_layer lowest (item 1 4 ∷ item 1 3 ∷ item 1 2 ∷ []) (shown 1 (pos 3) (pos 5) 2 (3 ∷ 0 ∷ [])) (answer true (some (pos 5)) (3 ∷ 0 ∷ 5 ∷ []) (some (pos 5)) (3 ∷ 0 ∷ 5 ∷ []) 3 2 [])
    -- From a record that decides every item: its value and its path, whatever the lower bound.
    ∷ case_from relaxing 1 last_exact_layer (pos 10) (item 1 4 ∷ item 1 3 ∷ item 1 2 ∷ []) (shown 0 (pos 7) (pos 7) 3 (1 ∷ 4 ∷ 3 ∷ [])) (answer true (some (pos 7)) (1 ∷ 4 ∷ 3 ∷ []) (some (pos 7)) (1 ∷ 4 ∷ 3 ∷ []) 1 0 [])
    -- From a deeper record, squashed: drained records stand on it, with its path first (last exact layer, frontier).
    ∷ case_from relaxing 1 last_exact_layer lowest (item 1 5 ∷ item 1 4 ∷ item 1 3 ∷ item 1 2 ∷ []) (shown 2 (pos 5) (pos 14) 1 (1 ∷ [])) (answer false (some (pos 14)) (1 ∷ 7 ∷ 5 ∷ 3 ∷ []) none [] 9 12 (shown 1 (pos 9) (pos 14) 2 (1 ∷ 3 ∷ []) ∷ shown 2 (pos 5) (pos 10) 2 (1 ∷ 2 ∷ []) ∷ []))
    ∷ case_from relaxing 1 frontier lowest (item 1 5 ∷ item 1 4 ∷ item 1 3 ∷ item 1 2 ∷ []) (shown 2 (pos 5) (pos 14) 1 (1 ∷ [])) (answer false (some (pos 14)) (1 ∷ 7 ∷ 5 ∷ 3 ∷ []) none [] 9 12 (shown 2 (pos 5) (pos 10) 2 (1 ∷ 2 ∷ []) ∷ shown 1 (pos 9) (pos 14) 2 (1 ∷ 3 ∷ []) ∷ []))
    ∷ []

-- Tables, row by row: what is given with the rooms, and the refusal's number (0 for none), node rows, edge rows, stored layers (newest first).
pub record TableCase : Type 0 where
  pub given : Given
  pub node_room : ℕ
  pub edge_room : ℕ
  pub figures : ShownTables

abbrev lent : ℕ → ℕ → Mode → ℕ → CutsetKind → ℤ → List Item → ℕ → ShownTables → TableCase
lent node_room edge_room mode width kind lower items capacity figures =
    record {
      given = record { mode = mode; width = width; kind = kind; lower = lower; items = items; start = root_record capacity };
      node_room = node_room;
      edge_room = edge_room;
      figures = figures;
    }

-- the same from a record that is given
abbrev lent_from : ℕ → ℕ → Mode → ℕ → CutsetKind → ℤ → List Item → ShownRecord → ShownTables → TableCase
lent_from node_room edge_room mode width kind lower items start figures =
    record {
      given = record { mode = mode; width = width; kind = kind; lower = lower; items = items; start = shown_record start };
      node_room = node_room;
      edge_room = edge_room;
      figures = figures;
    }

unfoldable pub tables : List TableCase
tables =
    -- A squashed run that dies out with items left stores 0..0, and marks nothing.
    lent 1024 1792 relaxing 3 last_exact_layer (pos 1) (item 1 0 ∷ item 2 1 ∷ item 0 0 ∷ item 2 1 ∷ []) 3 (record {
      number = 0;
      nodes = (node 3 0 (pos 0) lowest 0 0 (pos 2) (E ∷ [])
          ∷ node 2 1 (pos 0) lowest 1 1 (pos 2) (E ∷ C ∷ [])
          ∷ node 3 1 (pos 0) lowest 2 2 (pos 2) (E ∷ C ∷ [])
          ∷ node 1 2 (pos 1) lowest 3 3 (pos 0) (E ∷ [])
          ∷ node 3 2 (pos 0) lowest 4 4 highest (E ∷ D ∷ [])
          ∷ node 0 2 (pos 1) lowest 5 5 (pos 0) (E ∷ [])
          ∷ node 2 2 (pos 0) lowest 6 6 highest (E ∷ D ∷ [])
          ∷ node 3 2 (pos 0) lowest 8 8 (pos 1) (R ∷ [])
          ∷ []);
      edges = (edge 0 1 1 0 0
          ∷ edge 0 2 0 0 0
          ∷ edge 2 3 3 1 0
          ∷ edge 2 4 2 0 0
          ∷ edge 1 5 3 1 0
          ∷ edge 1 6 2 0 0
          ∷ edge 2 7 2 0 0
          ∷ edge 1 7 2 0 7
          ∷ []);
      layers = (range 0 0 ∷ range 3 8 ∷ range 1 3 ∷ range 0 1 ∷ []);
    })
    -- A deleted row keeps its best edge, an older one than its newest; the merged row's best edge is the better of those that were copied.
    ∷ lent 1024 1792 relaxing 2 last_exact_layer lowest (item 1 1 ∷ item 1 2 ∷ item 1 1 ∷ []) 3 (record {
      number = 0;
      nodes = (node 3 0 (pos 0) (pos 4) 0 0 (pos 4) (E ∷ M ∷ [])
          ∷ node 2 1 (pos 1) (pos 3) 1 1 (pos 3) (E ∷ M ∷ C ∷ [])
          ∷ node 3 1 (pos 0) (pos 3) 2 2 (pos 3) (E ∷ M ∷ C ∷ [])
          ∷ node 2 2 (pos 2) lowest 3 6 highest (E ∷ D ∷ [])
          ∷ node 3 2 (pos 0) lowest 4 4 highest (E ∷ D ∷ [])
          ∷ node 1 2 (pos 3) (pos 1) 5 5 (pos 1) (E ∷ M ∷ [])
          ∷ node 3 2 (pos 2) (pos 1) 8 9 (pos 1) (R ∷ M ∷ [])
          ∷ node 0 3 (pos 4) (pos 0) 10 10 highest (E ∷ M ∷ [])
          ∷ node 1 3 (pos 3) (pos 0) 11 11 highest (E ∷ M ∷ [])
          ∷ node 2 3 (pos 3) (pos 0) 12 12 highest (M ∷ [])
          ∷ node 3 3 (pos 2) (pos 0) 13 13 highest (M ∷ [])
          ∷ []);
      edges = (edge 0 1 1 1 0
          ∷ edge 0 2 0 0 0
          ∷ edge 2 3 3 2 0
          ∷ edge 2 4 2 0 0
          ∷ edge 1 5 3 2 0
          ∷ edge 1 3 2 0 3
          ∷ edge 1 6 2 0 0
          ∷ edge 2 6 3 2 7
          ∷ edge 2 6 2 0 8
          ∷ edge 5 7 5 1 0
          ∷ edge 5 8 4 0 0
          ∷ edge 6 9 5 1 0
          ∷ edge 6 10 4 0 0
          ∷ []);
      layers = (range 7 11 ∷ range 3 7 ∷ range 1 3 ∷ range 0 1 ∷ []);
    })
    -- One that dies out at the last item stores nothing more: the rows of its last stored layer, a deleted one too, get 0 and a mark and pass it up.
    ∷ lent 1024 1792 relaxing 3 last_exact_layer (pos 1) (item 1 0 ∷ item 2 1 ∷ item 2 1 ∷ []) 3 (record {
      number = 0;
      nodes = (node 3 0 (pos 0) (pos 1) 0 0 (pos 2) (E ∷ M ∷ [])
          ∷ node 2 1 (pos 0) (pos 1) 1 1 (pos 2) (E ∷ M ∷ C ∷ [])
          ∷ node 3 1 (pos 0) (pos 1) 2 2 (pos 2) (E ∷ M ∷ C ∷ [])
          ∷ node 1 2 (pos 1) (pos 0) 3 3 (pos 0) (E ∷ M ∷ [])
          ∷ node 3 2 (pos 0) (pos 0) 4 4 highest (E ∷ M ∷ D ∷ [])
          ∷ node 0 2 (pos 1) (pos 0) 5 5 (pos 0) (E ∷ M ∷ [])
          ∷ node 2 2 (pos 0) (pos 0) 6 6 highest (E ∷ M ∷ D ∷ [])
          ∷ node 3 2 (pos 0) (pos 0) 8 8 (pos 1) (R ∷ M ∷ [])
          ∷ []);
      edges = (edge 0 1 1 0 0
          ∷ edge 0 2 0 0 0
          ∷ edge 2 3 3 1 0
          ∷ edge 2 4 2 0 0
          ∷ edge 1 5 3 1 0
          ∷ edge 1 6 2 0 0
          ∷ edge 2 7 2 0 0
          ∷ edge 1 7 2 0 7
          ∷ []);
      layers = (range 3 8 ∷ range 1 3 ∷ range 0 1 ∷ []);
    })
    -- The cutset flag stands on every listed row, marked or not.
    ∷ lent 1024 1792 relaxing 1 last_exact_layer (pos 0) (item 1 0 ∷ item 1 1 ∷ item 0 0 ∷ []) 1 (record {
      number = 0;
      nodes = (node 1 0 (pos 0) (pos 1) 0 0 (pos 1) (E ∷ M ∷ [])
          ∷ node 0 1 (pos 0) lowest 1 1 (pos 0) (E ∷ C ∷ [])
          ∷ node 1 1 (pos 0) (pos 1) 2 2 (pos 1) (E ∷ M ∷ C ∷ [])
          ∷ node 0 2 (pos 1) lowest 3 3 highest (E ∷ D ∷ [])
          ∷ node 1 2 (pos 0) lowest 4 4 highest (E ∷ D ∷ [])
          ∷ node 1 2 (pos 1) (pos 0) 5 6 (pos 0) (R ∷ M ∷ [])
          ∷ node 1 3 (pos 1) (pos 0) 8 8 highest (M ∷ [])
          ∷ []);
      edges = (edge 0 1 1 0 0
          ∷ edge 0 2 0 0 0
          ∷ edge 2 3 3 1 0
          ∷ edge 2 4 2 0 0
          ∷ edge 2 5 3 1 0
          ∷ edge 2 5 2 0 5
          ∷ edge 5 6 5 0 0
          ∷ edge 5 6 4 0 7
          ∷ []);
      layers = (range 6 7 ∷ range 3 6 ∷ range 1 3 ∷ range 0 1 ∷ []);
    })
    -- No node row lent is 11, nothing written.
    ∷ lent 0 1792 relaxing 1 last_exact_layer lowest (item 1 4 ∷ item 1 3 ∷ item 1 2 ∷ []) 2 (record {
      number = 11;
      nodes = [];
      edges = [];
      layers = [];
    })
    -- The parent's fast bound is written before its children; for one child 11 comes before 12.
    ∷ lent 1 0 relaxing 1 last_exact_layer lowest (item 1 4 ∷ item 1 3 ∷ item 1 2 ∷ []) 2 (record {
      number = 11;
      nodes = (node 2 0 (pos 0) lowest 0 0 (pos 9) (E ∷ [])
          ∷ []);
      edges = [];
      layers = (range 0 1 ∷ []);
    })
    -- A child is nothing, or node and edge: no edge room, so no row.
    ∷ lent 1024 0 relaxing 1 last_exact_layer lowest (item 1 4 ∷ item 1 3 ∷ item 1 2 ∷ []) 2 (record {
      number = 12;
      nodes = (node 2 0 (pos 0) lowest 0 0 (pos 9) (E ∷ [])
          ∷ []);
      edges = [];
      layers = (range 0 1 ∷ []);
    })
    -- No room for one more edge to a child that is there.
    ∷ lent 1024 5 relaxing 1 last_exact_layer lowest (item 1 4 ∷ item 1 3 ∷ item 1 2 ∷ []) 2 (record {
      number = 12;
      nodes = (node 2 0 (pos 0) lowest 0 0 (pos 9) (E ∷ [])
          ∷ node 1 1 (pos 4) lowest 1 1 (pos 5) (E ∷ [])
          ∷ node 2 1 (pos 0) lowest 2 2 (pos 5) (E ∷ [])
          ∷ node 1 2 (pos 3) lowest 3 3 highest (E ∷ [])
          ∷ node 2 2 (pos 0) lowest 4 4 highest (E ∷ [])
          ∷ node 0 2 (pos 7) lowest 5 5 highest (E ∷ [])
          ∷ []);
      edges = (edge 0 1 1 4 0
          ∷ edge 0 2 0 0 0
          ∷ edge 2 3 3 3 0
          ∷ edge 2 4 2 0 0
          ∷ edge 1 5 3 3 0
          ∷ []);
      layers = (range 1 3 ∷ range 0 1 ∷ []);
    })
    -- No room for the merged row: nothing of it, no deleted flag.
    ∷ lent 6 1792 relaxing 1 last_exact_layer lowest (item 1 4 ∷ item 1 3 ∷ item 1 2 ∷ []) 2 (record {
      number = 11;
      nodes = (node 2 0 (pos 0) lowest 0 0 (pos 9) (E ∷ [])
          ∷ node 1 1 (pos 4) lowest 1 1 (pos 5) (E ∷ [])
          ∷ node 2 1 (pos 0) lowest 2 2 (pos 5) (E ∷ [])
          ∷ node 1 2 (pos 4) lowest 6 6 highest (E ∷ [])
          ∷ node 2 2 (pos 0) lowest 4 4 highest (E ∷ [])
          ∷ node 0 2 (pos 7) lowest 5 5 highest (E ∷ [])
          ∷ []);
      edges = (edge 0 1 1 4 0
          ∷ edge 0 2 0 0 0
          ∷ edge 2 3 3 3 0
          ∷ edge 2 4 2 0 0
          ∷ edge 1 5 3 3 0
          ∷ edge 1 3 2 0 3
          ∷ []);
      layers = (range 1 3 ∷ range 0 1 ∷ []);
    })
    -- The merged row stays if its first copied edge finds no room; the first merged node is flagged, later ones aren't yet.
    ∷ lent 1024 6 relaxing 1 last_exact_layer lowest (item 1 4 ∷ item 1 3 ∷ item 1 2 ∷ []) 2 (record {
      number = 12;
      nodes = (node 2 0 (pos 0) lowest 0 0 (pos 9) (E ∷ [])
          ∷ node 1 1 (pos 4) lowest 1 1 (pos 5) (E ∷ [])
          ∷ node 2 1 (pos 0) lowest 2 2 (pos 5) (E ∷ [])
          ∷ node 1 2 (pos 4) lowest 6 6 highest (E ∷ [])
          ∷ node 2 2 (pos 0) lowest 4 4 highest (E ∷ [])
          ∷ node 0 2 (pos 7) lowest 5 5 highest (E ∷ D ∷ [])
          ∷ node 2 2 lowest lowest 0 0 highest (R ∷ [])
          ∷ []);
      edges = (edge 0 1 1 4 0
          ∷ edge 0 2 0 0 0
          ∷ edge 2 3 3 3 0
          ∷ edge 2 4 2 0 0
          ∷ edge 1 5 3 3 0
          ∷ edge 1 3 2 0 3
          ∷ []);
      layers = (range 1 3 ∷ range 0 1 ∷ []);
    })
    -- No room for the second merged node's first edge: the first node's is copied, the second is flagged.
    ∷ lent 1024 7 relaxing 1 last_exact_layer lowest (item 1 4 ∷ item 1 3 ∷ item 1 2 ∷ []) 2 (record {
      number = 12;
      nodes = (node 2 0 (pos 0) lowest 0 0 (pos 9) (E ∷ [])
          ∷ node 1 1 (pos 4) lowest 1 1 (pos 5) (E ∷ [])
          ∷ node 2 1 (pos 0) lowest 2 2 (pos 5) (E ∷ [])
          ∷ node 1 2 (pos 4) lowest 6 6 highest (E ∷ D ∷ [])
          ∷ node 2 2 (pos 0) lowest 4 4 highest (E ∷ [])
          ∷ node 0 2 (pos 7) lowest 5 5 highest (E ∷ D ∷ [])
          ∷ node 2 2 (pos 7) lowest 7 7 highest (R ∷ [])
          ∷ []);
      edges = (edge 0 1 1 4 0
          ∷ edge 0 2 0 0 0
          ∷ edge 2 3 3 3 0
          ∷ edge 2 4 2 0 0
          ∷ edge 1 5 3 3 0
          ∷ edge 1 3 2 0 3
          ∷ edge 1 6 3 3 0
          ∷ []);
      layers = (range 1 3 ∷ range 0 1 ∷ []);
    })
    -- A restricted squash flags deleted, and there is neither a cutset flag nor a mark (case J).
    ∷ lent 1024 1792 restricted 1 last_exact_layer lowest (item 1 4 ∷ item 1 3 ∷ item 1 2 ∷ []) 2 (record {
      number = 0;
      nodes = (node 2 0 (pos 0) lowest 0 0 (pos 9) (E ∷ [])
          ∷ node 1 1 (pos 4) lowest 1 1 (pos 5) (E ∷ [])
          ∷ node 2 1 (pos 0) lowest 2 2 highest (E ∷ D ∷ [])
          ∷ node 0 2 (pos 7) lowest 3 3 (pos 0) (E ∷ [])
          ∷ node 1 2 (pos 4) lowest 4 4 highest (E ∷ D ∷ [])
          ∷ node 0 3 (pos 7) lowest 5 5 highest (E ∷ [])
          ∷ []);
      edges = (edge 0 1 1 4 0
          ∷ edge 0 2 0 0 0
          ∷ edge 1 3 3 3 0
          ∷ edge 1 4 2 0 0
          ∷ edge 3 5 4 0 0
          ∷ []);
      layers = (range 5 6 ∷ range 3 5 ∷ range 1 3 ∷ range 0 1 ∷ []);
    })
    -- A relaxed run without a squash has neither a cutset flag nor a mark (T, width 3).
    ∷ lent 1024 1792 relaxing 3 last_exact_layer lowest (item 1 4 ∷ item 1 3 ∷ item 1 2 ∷ []) 2 (record {
      number = 0;
      nodes = (node 2 0 (pos 0) lowest 0 0 (pos 9) (E ∷ [])
          ∷ node 1 1 (pos 4) lowest 1 1 (pos 5) (E ∷ [])
          ∷ node 2 1 (pos 0) lowest 2 2 (pos 5) (E ∷ [])
          ∷ node 1 2 (pos 4) lowest 6 6 (pos 2) (E ∷ [])
          ∷ node 2 2 (pos 0) lowest 4 4 (pos 2) (E ∷ [])
          ∷ node 0 2 (pos 7) lowest 5 5 (pos 0) (E ∷ [])
          ∷ node 1 3 (pos 4) lowest 10 10 highest (E ∷ [])
          ∷ node 2 3 (pos 0) lowest 8 8 highest (E ∷ [])
          ∷ node 0 3 (pos 7) lowest 11 11 highest (E ∷ [])
          ∷ []);
      edges = (edge 0 1 1 4 0
          ∷ edge 0 2 0 0 0
          ∷ edge 2 3 3 3 0
          ∷ edge 2 4 2 0 0
          ∷ edge 1 5 3 3 0
          ∷ edge 1 3 2 0 3
          ∷ edge 4 6 5 2 0
          ∷ edge 4 7 4 0 0
          ∷ edge 3 8 5 2 0
          ∷ edge 3 6 4 0 7
          ∷ edge 5 8 4 0 9
          ∷ []);
      layers = (range 6 9 ∷ range 3 6 ∷ range 1 3 ∷ range 0 1 ∷ []);
    })
    -- From a deeper record: row 0 has the record's capacity, depth and value; edges have the bytes of items from its depth on (T from H's first record).
    ∷ lent_from 1024 1792 relaxing 1 last_exact_layer lowest (item 1 4 ∷ item 1 3 ∷ item 1 2 ∷ []) (shown 1 (pos 4) (pos 9) 1 (1 ∷ [])) (record {
      number = 0;
      nodes = (node 1 1 (pos 4) lowest 0 0 (pos 5) (E ∷ [])
          ∷ node 0 2 (pos 7) lowest 1 1 (pos 0) (E ∷ [])
          ∷ node 1 2 (pos 4) lowest 2 2 (pos 2) (E ∷ [])
          ∷ node 0 3 (pos 7) lowest 5 5 highest (E ∷ [])
          ∷ node 1 3 (pos 4) lowest 4 4 highest (E ∷ [])
          ∷ []);
      edges = (edge 0 1 3 3 0
          ∷ edge 0 2 2 0 0
          ∷ edge 2 3 5 2 0
          ∷ edge 2 4 4 0 0
          ∷ edge 1 3 4 0 3
          ∷ []);
      layers = (range 3 5 ∷ range 1 3 ∷ range 0 1 ∷ []);
    })
    -- From a deeper record, squashed: the merged row has the depth of those that it stands for.
    ∷ lent_from 1024 1792 relaxing 1 last_exact_layer lowest (item 1 5 ∷ item 1 4 ∷ item 1 3 ∷ item 1 2 ∷ []) (shown 2 (pos 5) (pos 14) 1 (1 ∷ [])) (record {
      number = 0;
      nodes = (node 2 1 (pos 5) (pos 9) 0 0 (pos 9) (E ∷ M ∷ [])
          ∷ node 1 2 (pos 9) (pos 5) 1 1 (pos 5) (E ∷ M ∷ C ∷ [])
          ∷ node 2 2 (pos 5) (pos 5) 2 2 (pos 5) (E ∷ M ∷ C ∷ [])
          ∷ node 1 3 (pos 9) lowest 6 6 highest (E ∷ D ∷ [])
          ∷ node 2 3 (pos 5) lowest 4 4 highest (E ∷ D ∷ [])
          ∷ node 0 3 (pos 12) lowest 5 5 highest (E ∷ D ∷ [])
          ∷ node 2 3 (pos 12) (pos 2) 7 10 (pos 2) (R ∷ M ∷ [])
          ∷ node 1 4 (pos 14) (pos 0) 11 11 highest (M ∷ [])
          ∷ node 2 4 (pos 12) (pos 0) 12 12 highest (M ∷ [])
          ∷ []);
      edges = (edge 0 1 3 4 0
          ∷ edge 0 2 2 0 0
          ∷ edge 2 3 5 3 0
          ∷ edge 2 4 4 0 0
          ∷ edge 1 5 5 3 0
          ∷ edge 1 3 4 0 3
          ∷ edge 1 6 5 3 0
          ∷ edge 1 6 4 0 7
          ∷ edge 2 6 5 3 8
          ∷ edge 2 6 4 0 9
          ∷ edge 6 7 7 2 0
          ∷ edge 6 8 6 0 0
          ∷ []);
      layers = (range 7 9 ∷ range 3 7 ∷ range 1 3 ∷ range 0 1 ∷ []);
    })
    ∷ []

-- Row 10: a full layer, of 1,024 rows, takes neither a child nor a merged row, before 11 and 12 are asked; one row less does, however many rows there are in all.
abbrev crowd : ℕ → ℕ → Diagram
crowd start rows = record { nodes = replicate rows no_node; edges = []; layers = []; last = unsquashed; start = start }

abbrev no_room : Settings
no_room = record { mode = exactly; width = 1; lower = 0; node_room = 0; edge_room = 0 }

abbrev stop_of : Run → ℕ
stop_of (going d) = 0
stop_of (stopped n d) = n

abbrev halt_of : Squashed → ℕ
halt_of (layer d rows) = 0
halt_of (halted n d) = n

unfoldable pub stops : List ℕ
stops =
    stop_of (new_child no_room 0 0 0 0 (crowd 0 1024))
    ∷ stop_of (new_child no_room 0 0 0 0 (crowd 0 1023))
    ∷ stop_of (new_child no_room 0 0 0 0 (crowd 7 1031))
    ∷ stop_of (new_child no_room 0 0 0 0 (crowd 8 1031))
    ∷ halt_of (merge_into nowhere no_room 0 [] (0 ∷ []) (crowd 0 1024))
    ∷ halt_of (merge_into nowhere no_room 0 [] (0 ∷ []) (crowd 0 1023))
    ∷ halt_of (merge_into nowhere no_room 0 [] (0 ∷ []) (crowd 7 1031))
    ∷ halt_of (merge_into nowhere no_room 0 [] (0 ∷ []) (crowd 8 1031))
    ∷ []

-- The root record, of page 7: 'value 0, bound i64 maximum, depth 0, empty path'.
abbrev pub Root : Type 0
Root = show_record (root_record 7) ≡ shown 7 (pos 0) highest 0 []

-- A path's room: 'places past it are written 0'.
abbrev pub Padded : Type 0
Padded = padded (5 ∷ 3 ∷ []) ≡ 5 ∷ 3 ∷ replicate 62 0

-- the other three statements
abbrev pub Answers : Type 0
Answers = map (λ c. shown_of c.given) answers ≡ map (λ c. c.figures) answers

abbrev pub Tables : Type 0
Tables = map (λ c. tables_of c.node_room c.edge_room c.given) tables ≡ map (λ c. c.figures) tables

abbrev pub Stops : Type 0
Stops = stops ≡ (10 ∷ 11 ∷ 10 ∷ 11 ∷ 10 ∷ 11 ∷ 10 ∷ 11 ∷ [])
