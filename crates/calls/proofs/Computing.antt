-- One name on an `unfolding` line that opens every definition of a compile, from its request to the lent words after it, so that a call computes.
use Prim.Native.Nat.{ℕ}
use Rattle.knapsack.specs.Items.{item_of, is_take}
use Rattle.diagram.proofs.Computing.{computing as diagram_computing}
use Rattle.layout.specs.Table.{words_of, over}
use Rattle.layout.specs.Rows.{digit, flags_word, has_flag, encode_node, decode_node, encode_edge, decode_edge, node_table, edge_table}
use Rattle.layout.specs.Records.{encode_record, decode_record, record_table}
use Rattle.calls.specs.Asked.{items_of, record_of}
use Rattle.calls.specs.Rows.{namings, taken_weight, taken_profit}
use Rattle.calls.specs.Refusals.{first_of, some_above, each_once, is_natural, problem_checks, record_checks, compile_refusal}
use Rattle.calls.specs.Compile.{rooms_of, settings_of, run_of, value_of, path_of, compiled_of, effect, drain_into, effect_of, unless, compile_effect, after, compile}

unfoldable pub computing : ℕ
unfolding diagram_computing item_of is_take words_of digit flags_word has_flag encode_node decode_node encode_edge decode_edge node_table edge_table encode_record decode_record record_table items_of record_of namings taken_weight taken_profit first_of some_above each_once is_natural problem_checks record_checks compile_refusal rooms_of settings_of run_of value_of path_of compiled_of effect drain_into effect_of unless compile_effect over after compile
computing = 0
