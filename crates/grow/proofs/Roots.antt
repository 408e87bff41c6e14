-- The root's row: written, or refused where there is no room for it.
use mathlib.Core.Path.{◌≡◌, refl, ap, ◌∙◌}
use mathlib.Core.Bool.{true, false}
use mathlib.Core.List.{List, [], ◌∷◌}
use Prim.Native.Nat.{ℕ, ◌*◌, ◌<◌, ◌≤◌}
use native.Mathlib.Omega.{arith}
use lib.Dec.{ltb}
use lib.ListN.{length}
use borrow.Author.Tests.{lt-ltb, le-ltb}
use Rattle.diagram.specs.Node.{Node, fresh}
use Rattle.diagram.specs.Run.{need}
use Rattle.diagram.specs.Rule1.{root_only, rooted}
use Rattle.layout.specs.Table.{words_of, over}
use Rattle.layout.specs.Rows.{node_words, node_table, edge_table}
use Rattle.rows.specs.Access.{NodeWritten}
use Rattle.branch.specs.State.{Going, Stopped}
use Rattle.grow.specs.declared.Root.{Root}
use Rattle.grow.specs.Growing.{RootPushed}

no_nodes : (old : List ℕ) → old ≡ over (node_table []) old
unfolding node_table words_of over
no_nodes old = refl

no_edges : (old : List ℕ) → old ≡ over (edge_table []) old
unfolding edge_table words_of over
no_edges old = refl

pub root_refused : (room : ℕ) (r : Root) (ns : List ℕ) → room ≤ 0 → RootPushed room r ns (Stopped 11 (record { nodes = 0; edges = 0 })) ns
unfolding rooted need
root_refused room r ns h =
    record {
      does = λ s es e.
          let f : ltb 0 s.node_room ≡ false = le-ltb 0 s.node_room (omega (arith, e)) in
          rw f (record { step_is = refl; held = record { nodes_are = no_nodes ns; edges_are = no_edges es } });
    }

pub root_written : (room : ℕ) (r : Root) (ns : List ℕ) (n : Node) (ns' : List ℕ) → 0 < room → room * node_words ≤ length ns → n ≡ fresh r.capacity r.depth r.value true → NodeWritten ns 0 n ns' → RootPushed room r ns (Going (record { nodes = 1; edges = 0 })) ns'
unfolding rooted need root_only
root_written room r ns n ns' h l q w =
    record {
      does = λ s es e.
          let f : ltb 0 s.node_room ≡ true = lt-ltb 0 s.node_room (omega (arith, e)) in
          rw f
          (record {
            step_is = refl;
            held =
                record {
                  nodes_are = w.appended [] ns (no_nodes ns) refl (omega arith) ∙ ap (λ (x : Node). over (node_table (x ∷ [])) ns) q;
                  edges_are = no_edges es;
                };
          });
    }

pub ruleset roots = (root_refused, root_written)
