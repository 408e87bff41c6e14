-- What a caller says of both squashes in the words of the definitions: when the relaxed one may be called, and what the restricted one leaves.
use mathlib.Core.Path.{◌≡◌, refl, ap, ◌∙◌}
use mathlib.Core.Bool.{true}
use mathlib.Core.List.{List, [], ◌∷◌, Memᴰ}
use Prim.Native.Nat.{ℕ, ◌<◌, ◌≤◌}
use lib.ListN.{length, drop, length-set}
use Rattle.diagram.specs.Node.{Node, update, with_deleted}
use Rattle.diagram.specs.Tables.{Diagram, with_nodes}
use Rattle.diagram.specs.Run.{Settings}
use Rattle.diagram.specs.Rule6.{delete_all, restrict}
use Rattle.theorems.proofs.Arc.{Coming}
use Rattle.theorems.proofs.Links.{Wired}
use Rattle.branch.specs.declared.Counts.{Counts}
use Rattle.branch.specs.declared.Rooms.{Rooms}
use Rattle.branch.specs.State.{Going, Stands, Held}
use Rattle.squash.specs.Places.{Under, Restricted}
use Rattle.squash.specs.Squashing.{Done, Squashes}

-- the coming layer of a run is of one depth, so a list of its rows may be squashed
pub squashes_of : (s : Settings) (d : Diagram) (old_n old_e : List ℕ) (start : ℕ) (k : Counts) (rooms : Rooms) (rows ns es : List ℕ) (depth : ℕ) → Stands s d old_n old_e start k rooms → Held d old_n old_e ns es → Wired d → Coming depth d → ((r : ℕ) → Memᴰ r rows → (d.start ≤ r) × (r < length d.nodes)) → Squashes s d old_n old_e start k rooms rows ns es
squashes_of s d old_n old_e start k rooms rows ns es depth st held w g i =
    record {
      stands = st;
      held = held;
      wired = w;
      depth = depth;
      rows_above = λ r m. (i r m).0;
      rows_in = λ r m. (i r m).1;
      rows_deep = λ r m. g.deps r (i r m).0 (i r m).1;
    }

delete_long : (ns : List Node) (rs : List ℕ) → length (delete_all ns rs) ≡ length ns
unfolding delete_all
delete_long ns [] = refl
delete_long ns (r ∷ rs) = delete_long (update (with_deleted true) ns r) rs ∙ length-set ns r _

-- the restricted squash, as the definition has it: no count changes, and the first width rows are the layer
pub restricted_done : (s : Settings) (d : Diagram) (old_n old_e : List ℕ) (start : ℕ) (k : Counts) (rooms : Rooms) (width : ℕ) (rows ns es ns' : List ℕ) → s.width ≡ width → Stands s d old_n old_e start k rooms → Held d old_n old_e ns es → Under (length d.nodes) rows → Restricted width rows ns ns' → Done (restrict s rows d) old_n old_e width (Going k) rows ns' es
unfolding restrict with_nodes
restricted_done s d old_n old_e start k rooms width rows ns es ns' w st held u did =
    rw w (record {
      step_is = ap Going (st.counts_are ∙ rw (delete_long d.nodes (drop width rows)));
      held = record { nodes_are = did.does d.nodes old_n held.nodes_are u; edges_are = held.edges_are };
      rows_are = refl;
    })
