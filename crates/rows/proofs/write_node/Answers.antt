-- `rows::write_node` meets its contract: eight stores, one behind the other, are the row's words.
use native.Mathlib.Numerals.{towards_suc}
use Rattle.layout.specs.Rows.{encode_node}
use Rattle.rows.proofs.Access.{node_written}
use Rattle.rows.proofs.write_node.Goals as goal

pub returns : goal.returns
unfolding encode_node
returns c = node_written _ _ _ _ (simp (towards_suc, c.flags_word-flags.ensures))
