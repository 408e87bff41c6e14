-- `rows::write_edge` meets its contract: five stores, one behind the other, are the row's words.
use native.Mathlib.Numerals.{towards_suc}
use Rattle.layout.specs.Rows.{encode_edge}
use Rattle.rows.proofs.Access.{edge_written}
use Rattle.rows.proofs.write_edge.Goals as goal

pub returns : goal.returns
unfolding encode_edge
returns c = edge_written _ _ _ _ (simp towards_suc)
