-- The layout's figures hold: computed from the definitions.
use mathlib.Core.Path.{refl}
use Rattle.diagram.specs.Record.{padded}
use Rattle.layout.specs.Table.{words_of, over}
use Rattle.layout.specs.Rows.{digit, flags_word, encode_node, encode_edge, node_table, edge_table}
use Rattle.layout.specs.Records.{encode_record, record_table}
use Rattle.layout.specs.Figures.{figures, Figures}

pub figures_right : Figures
unfolding padded words_of over digit flags_word encode_node encode_edge node_table edge_table encode_record record_table figures
figures_right = refl
