-- What the tables' lengths allow where they hold a diagram.
use mathlib.Core.Path.{◌≡◌, ap}
use mathlib.Core.List.{List}
use Prim.Native.Nat.{ℕ, ◌*◌, ◌≤◌}
use native.Mathlib.Omega.{arith}
use lib.ListN.{length, length-append, length-drop}
use Rattle.diagram.specs.Node.{Node, Edge}
use Rattle.diagram.specs.Tables.{Diagram}
use Rattle.diagram.specs.Run.{Settings}
use Rattle.layout.specs.Table.{over}
use Rattle.layout.specs.Rows.{node_words, edge_words, encode_node, encode_edge, node_table, edge_table}
use Rattle.layout.proofs.Table.{length_words}
use Rattle.layout.proofs.Rows.{node_width, edge_width}
use Rattle.branch.specs.declared.Counts.{Counts}
use Rattle.branch.specs.declared.Rooms.{Rooms}
use Rattle.branch.specs.State.{Stands, Held, Ready}

-- words over old ones: neither gets lost
over_long : (ws old : List ℕ) → (length ws ≤ length (over ws old)) × (length old ≤ length (over ws old))
unfolding over
over_long ws old = simp (length-append, length-drop) (omega arith)

node_table_long : (ns : List Node) → length (node_table ns) ≡ length ns * node_words
unfolding node_table
node_table_long ns = length_words encode_node node_words node_width ns

edge_table_long : (es : List Edge) → length (edge_table es) ≡ length es * edge_words
unfolding edge_table
edge_table_long es = length_words encode_edge edge_words edge_width es

module _ (d : Diagram) (old_n old_e ns es : List ℕ) (held : Held d old_n old_e ns es) where
  pub nodes_in : length d.nodes * node_words ≤ length ns
  nodes_in = rw held.nodes_are (omega (arith, (over_long (node_table d.nodes) old_n).0, node_table_long d.nodes))

  pub edges_in : length d.edges * edge_words ≤ length es
  edges_in = rw held.edges_are (omega (arith, (over_long (edge_table d.edges) old_e).0, edge_table_long d.edges))

  old_nodes_in : length old_n ≤ length ns
  old_nodes_in = rw held.nodes_are (over_long (node_table d.nodes) old_n).1

  old_edges_in : length old_e ≤ length es
  old_edges_in = rw held.edges_are (over_long (edge_table d.edges) old_e).1

  pub ready_of : (s : Settings) (start : ℕ) (k : Counts) (rooms : Rooms) → Stands s d old_n old_e start k rooms → Ready start k rooms ns es
  ready_of s start k rooms st =
      let n : k.nodes ≡ length d.nodes = ap (λ (c : Counts). c.nodes) st.counts_are in
      record {
        start_low = omega (arith, st.first_is, st.start_in);
        rows_in = omega (arith, nodes_in);
        rooms_in = omega (arith, st.old_nodes, old_nodes_in);
        edges_in = omega (arith, st.old_edges, old_edges_in);
      }
