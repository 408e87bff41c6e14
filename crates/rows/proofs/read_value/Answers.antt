-- `rows::read_value` meets its contract: the word at the field's place of the row is the field.
use mathlib.Core.Path.{refl}
use native.Mathlib.Omega.{arith}
use lib.Dec.{lit<}
use Rattle.layout.specs.Rows.{encode_node, value_place}
use Rattle.rows.proofs.Access.{field_read}
use Rattle.rows.proofs.read_value.Goals as goal

pub returns : goal.returns
unfolding encode_node
returns c = field_read (λ n. n.value) value_place (lit< tt) (λ n. refl) _ _ _ (omega arith)
