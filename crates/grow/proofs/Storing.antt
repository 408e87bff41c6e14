-- The last stored layer: empty, or with the rows that no item is left for.
use mathlib.Core.Path.{◌≡◌, ap, ◌∙◌}
use mathlib.Core.Bool.{true, false}
use mathlib.Core.List.{List, ◌∷◌}
use Prim.Native.Nat.{◌<◌, ◌≤◌}
use native.Mathlib.Omega.{arith}
use lib.Dec.{ltb}
use lib.ListN.{length}
use borrow.Author.Tests.{lt-ltb, le-ltb}
use Rattle.diagram.specs.Tables.{Range, coming}
use Rattle.diagram.specs.Rule2.{store_empty, store_last, has_rows}
use Rattle.layers.specs.declared.Layers.{Layers}
use Rattle.layers.specs.Stored.{range, stored}
use Rattle.branch.specs.declared.Counts.{Counts}
use Rattle.branch.specs.State.{Going}
use Rattle.grow.specs.declared.Growth.{Growth}
use Rattle.grow.specs.Turns.{EmptyStored, LastStored}

-- the growth with other layers
abbrev with_layers : Growth → Layers → Growth
with_layers g l = record { counts = g.counts; start = g.start; layers = l; last = g.last }

pub empty_stored : (g : Growth) (l : Layers) → stored l ≡ range 0 0 ∷ stored g.layers → EmptyStored g (with_layers g l)
unfolding store_empty
empty_stored g l p =
    record {
      does = λ d old_n old_e ns es reached e held.
          record {
            stepped = record { step_is = ap Going e; held = record { nodes_are = held.nodes_are; edges_are = held.edges_are } };
            reached = (reached.0, record { layers_are = p ∙ ap (λ (ls : List Range). range 0 0 ∷ ls) reached.1.layers_are; last_is = reached.1.last_is });
          };
    }

-- rows are left, and stored
pub rows_stored : (g : Growth) (l : Layers) → g.start < g.counts.nodes → stored l ≡ range g.start g.counts.nodes ∷ stored g.layers → LastStored g (with_layers g l)
unfolding store_last coming has_rows
rows_stored g l h p =
    record {
      does = λ d old_n old_e ns es reached e held.
          let n : g.counts.nodes ≡ length d.nodes = ap (λ (c : Counts). c.nodes) e in
          let f : ltb d.start (length d.nodes) ≡ true = lt-ltb d.start (length d.nodes) (omega (arith, reached.0)) in
          rw f (record {
            stepped = record { step_is = ap Going e; held = record { nodes_are = held.nodes_are; edges_are = held.edges_are } };
            reached = (reached.0, record { layers_are = p ∙ rw (reached.0, n, reached.1.layers_are); last_is = reached.1.last_is });
          });
    }

-- none is
pub none_stored : (g : Growth) → g.counts.nodes ≤ g.start → LastStored g g
unfolding store_last has_rows
none_stored g h =
    record {
      does = λ d old_n old_e ns es reached e held.
          let n : g.counts.nodes ≡ length d.nodes = ap (λ (c : Counts). c.nodes) e in
          let f : ltb d.start (length d.nodes) ≡ false = le-ltb d.start (length d.nodes) (omega (arith, reached.0)) in
          rw f (record { stepped = record { step_is = ap Going e; held = held }; reached = reached });
    }

pub ruleset last_laws = (none_stored, rows_stored)
