-- One name on an `unfolding` line that opens every definition of the diagram, so that a run computes.
use Prim.Native.Nat.{ℕ}
use Rattle.words.specs.I64.{word, number, sat_add}
use Rattle.knapsack.specs.Items.{counted, takes, skips}
use Rattle.knapsack.specs.FastBound.{fast_bound}
use Rattle.diagram.specs.Record.{padded, root_record}
use Rattle.diagram.specs.Node.{fresh, entered, with_fast, with_deleted, as_relaxed, in_cutset, marked_with}
use Rattle.diagram.specs.Tables.{with_nodes, rows_from, rows_of, coming, inbound_below, inbound}
use Rattle.diagram.specs.Run.{need, only_if}
use Rattle.diagram.specs.Rule1.{root_only, rooted}
use Rattle.diagram.specs.Rule4.{handed, receive, landed, push_edge, add_edge, lookup, push_node, child_of, new_child, branch_to, branch_on}
use Rattle.diagram.specs.Rule3.{branch_take, branch_both, note_fast, reach, expand, expand_all}
use Rattle.diagram.specs.Rule6.{insert_by, sort_by, by_squash, delete_all, restrict, merged_capacity, merged_row, copy_edges, merge_all, twin_of, squashed, squash_need, keep_first, merge_into, merge, relax}
use Rattle.diagram.specs.Rule5.{name_last, with_last, squash_if, squash}
use Rattle.diagram.specs.Rule2.{by_capacity, ordered, store, store_empty, store_last, has_rows, expand_squashed, layer_step, grow, grown}
use Rattle.diagram.specs.After1.{terminals, better, best_of, best_node, parent_by, walk_up, exact_path, best_exact_node}
use Rattle.diagram.specs.After2.{never_squashed, is_exact}
use Rattle.diagram.specs.After3.{decisions_up, path_to}
use Rattle.diagram.specs.After4.{list_row, list_rows, layer_cutset, frontier_edges, frontier_rows, frontier_layers, no_cutset, cutset_of, cutset_for}
use Rattle.diagram.specs.After5.{ground_rows, ground_layer, raise, raise_parents, raise_rows, raise_layers, bounds_if, local_bounds}
use Rattle.diagram.specs.After6.{outcome, drained_bound, drained_record, drain_rows, drain_for, drained, finish, run}
use Rattle.diagram.specs.Figures.{show_record, shown_record, show_value, show_path, show, flag_if, show_node, show_diagram, show_tables, answer_of, tables_of, shown_of}

unfoldable pub computing : ℕ
unfolding word number sat_add counted takes skips fast_bound padded root_record fresh entered with_fast with_deleted as_relaxed in_cutset marked_with with_nodes rows_from rows_of coming inbound_below inbound need only_if root_only rooted handed receive landed push_edge add_edge lookup push_node child_of new_child branch_to branch_on branch_take branch_both note_fast reach expand expand_all insert_by sort_by by_squash delete_all restrict merged_capacity merged_row copy_edges merge_all twin_of squashed squash_need keep_first merge_into merge relax name_last with_last squash_if squash by_capacity ordered store store_empty store_last has_rows expand_squashed layer_step grow grown terminals better best_of best_node parent_by walk_up exact_path best_exact_node never_squashed is_exact decisions_up path_to list_row list_rows layer_cutset frontier_edges frontier_rows frontier_layers no_cutset cutset_of cutset_for ground_rows ground_layer raise raise_parents raise_rows raise_layers bounds_if local_bounds outcome drained_bound drained_record drain_rows drain_for drained finish run show_record shown_record show_value show_path show flag_if show_node show_diagram show_tables answer_of tables_of shown_of
computing = 0
