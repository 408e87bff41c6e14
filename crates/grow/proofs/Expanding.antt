-- A squashed layer is stored and expanded: the stored layers and the next layer's first row are the diagram's.
use mathlib.Core.Path.{◌≡◌, refl, sym, ap, ◌∙◌}
use mathlib.Core.List.{List, ◌∷◌}
use Prim.Native.Nat.{ℕ}
use native.Mathlib.Omega.{arith}
use lib.ListN.{length}
use Rattle.std.specs.Prelude.{Result, Ok, Err}
use Rattle.knapsack.specs.Items.{Item}
use Rattle.diagram.specs.Tables.{Diagram, coming}
use Rattle.diagram.specs.Run.{Settings, Run}
use Rattle.diagram.specs.Rule2.{store}
use Rattle.diagram.specs.Rule3.{expand_all}
use Rattle.theorems.proofs.Holds.{Holds, held, void}
use Rattle.theorems.proofs.Frames.{Framed, expand_framed}
use Rattle.layers.specs.declared.Layers.{Layers}
use Rattle.layers.specs.Stored.{range, stored}
use Rattle.reasons.specs.declared.Refusal.{Refusal}
use Rattle.branch.specs.declared.Counts.{Counts}
use Rattle.branch.specs.declared.Rooms.{Rooms}
use Rattle.branch.specs.declared.Extent.{Extent}
use Rattle.branch.specs.State.{said_of}
use Rattle.expand.specs.State.{Layer, AllExpanded}
use Rattle.grow.specs.declared.Task.{Task}
use Rattle.grow.specs.declared.Growth.{Growth}
use Rattle.grow.specs.Growing.{Shape, Reached}
use Rattle.grow.specs.Turns.{grown_of, SquashedLayer, LayerExpanded}
use Rattle.grow.proofs.Stopping.{stopped_grew}

module _ (weights profits : List ℕ) (t : Task) (g : Growth) (depth : ℕ) (rows ns es : List ℕ) where
  module _ (s : Settings) (d : Diagram) (old_n old_e : List ℕ) (item : Item) (rest : List Item) (q : SquashedLayer weights profits t g depth rows ns es s d old_n old_e item rest) where
    counted : g.counts.nodes ≡ length d.nodes
    counted = ap (λ (c : Counts). c.nodes) q.stands.counts_are

    stored_layer : Layer weights profits rows g.counts.nodes g.counts t.rooms depth t.lower ns es s (store d) old_n old_e item rest
    unfolding store
    stored_layer =
        record {
          stands =
              record {
                first_is = counted;
                start_in = omega arith;
                counts_are = q.stands.counts_are;
                node_room = q.stands.node_room;
                edge_room = q.stands.edge_room;
                old_nodes = q.stands.old_nodes;
                old_edges = q.stands.old_edges;
              };
          held = record { nodes_are = q.held.nodes_are; edges_are = q.held.edges_are };
          lower_is = q.lower_is;
          left = q.left;
          deep = q.rows_deep;
        }

    module _ (l : Layers) (p : stored l ≡ range g.start g.counts.nodes ∷ stored g.layers) where
      stored_shape : (e : Diagram) → Framed (store d) e → (g.counts.nodes ≡ e.start) × Shape l g.last e
      unfolding store coming
      stored_shape e f = (
        counted ∙ sym f.start_is,
        record {
          layers_are = p ∙ rw (q.stands.first_is, counted, q.shape.layers_are) refl ∙ sym f.layers_are;
          last_is = q.shape.last_is ∙ sym f.last_is;
        },
      )

      stored_reached : (c : Counts) (run : Run) → Holds (Framed (store d)) run → Reached run (Ok (record { counts = c; start = g.counts.nodes; layers = l; last = g.last }))
      stored_reached c run (held {d = e} f) = stored_shape e f
      stored_reached c run void = tt

  pub layer_expanded : (l : Layers) → stored l ≡ range g.start g.counts.nodes ∷ stored g.layers → (rooms : Rooms) → rooms ≡ t.rooms → (r : Result (Unit {0}) Refusal) (at : Extent) (ns' es' : List ℕ) → at.start ≡ g.counts.nodes → AllExpanded weights profits rows g.counts.nodes g.counts rooms depth t.lower ns es (said_of r at.counts) ns' es' → LayerExpanded weights profits t g depth rows ns es (grown_of r at (record { layers = l; last = g.last })) ns' es'
  layer_expanded l p rooms told r at ns' es' same did = go r (rw told at did)
    where
      go : (r : Result (Unit {0}) Refusal) → AllExpanded weights profits rows g.counts.nodes g.counts t.rooms depth t.lower ns es (said_of r at.counts) ns' es' → LayerExpanded weights profits t g depth rows ns es (grown_of r at (record { layers = l; last = g.last })) ns' es'
      go (Ok a) did =
          record {
            does = λ s d old_n old_e item rest q.
                record {
                  stepped = did.does s (store d) old_n old_e item rest (stored_layer s d old_n old_e item rest q);
                  reached = rw same (stored_reached s d old_n old_e item rest q l p at.counts (expand_all s (item ∷ rest) item depth rows (store d)) (expand_framed s (item ∷ rest) item depth rows (store d)));
                };
          }
      go (Err e) did =
          record {
            does = λ s d old_n old_e item rest q.
                stopped_grew (expand_all s (item ∷ rest) item depth rows (store d)) old_n old_e (record { refusal = e; counts = at.counts }) ns' es'
                (did.does s (store d) old_n old_e item rest (stored_layer s d old_n old_e item rest q));
          }
