-- The order of a layer and its squash: which rows the list holds, and what the tables hold.
use mathlib.Core.Path.{◌≡◌, refl, sym, ap, subst, ◌∙◌}
use mathlib.Core.Bool.{Bool, true, false, cond}
use mathlib.Core.List.{List, [], ◌∷◌, Memᴰ}
use Prim.Native.Nat.{ℕ, ◌+◌, ◌*◌, ◌/◌, ◌<◌, ◌≤◌}
use native.Mathlib.Omega.{arith}
use lib.ListN.{length}
use lib.Seq.{take_all}
use Rattle.diagram.specs.Tables.{Diagram, rows_from}
use Rattle.diagram.specs.Run as Def
use Rattle.diagram.specs.Run.{exactly, restricted, relaxing, Settings, is_relaxing}
use Rattle.diagram.specs.Rule2.{by_capacity}
use Rattle.diagram.specs.Rule5.{with_last, squash_if, squash}
use Rattle.diagram.specs.Rule6.{sort_by, by_squash, layer, restrict, relax}
use Rattle.layout.specs.Rows.{node_words}
use Rattle.theorems.proofs.Sort.{sort_perm, perm_mem}
use Rattle.theorems.proofs.Links.{last_wired}
use Rattle.order.specs.Below.{Below, none, more, Within}
use Rattle.order.specs.Order.{Sorted}
use Rattle.order.proofs.Below.{below_rows, within_table}
use Rattle.order.proofs.Layer.{filled_ordered}
use Rattle.branch.specs.declared.Counts.{Counts}
use Rattle.branch.specs.declared.Rooms.{Rooms}
use Rattle.branch.specs.State.{Said, Going}
use Rattle.squash.specs.Places.{Restricted}
use Rattle.squash.specs.Squashing.{Done, Squashes, Squashable, Relaxed}
use Rattle.squash.proofs.Callers.{restricted_done}
use Rattle.grow.specs.declared.Mode.{Mode}
use Rattle.grow.specs.declared.Mode.TheVariants as the
use Rattle.grow.specs.Told.{mode_of}
use Rattle.grow.specs.Growing.{too_wide, squash_wide}
use Rattle.grow.specs.Turns.{LayerOrdered, WideSquashed}

-- ---- the order

-- rows whose words lie in a table lie whole in it
pub rows_within : (t l : List ℕ) (first count : ℕ) → l ≡ rows_from first count → (first + count) * node_words ≤ length t → Within t l
rows_within t l first count e h = rw e (below_rows (length t / node_words) first count (omega arith))

pub layer_ordered : (start count : ℕ) (ns l u : List ℕ) → l ≡ rows_from start count → Sorted ns by_capacity l u → LayerOrdered start count ns u
layer_ordered start count ns l u f s =
    record { rows_are = λ d old e a b. filled_ordered d ns start count l u old f s e a b }

-- ---- the rows of a layer in squash order

pub below_all : (n : ℕ) (rows : List ℕ) → ((r : ℕ) → Memᴰ r rows → r < n) → Below n rows
below_all n [] h = none
below_all n (r ∷ rows) h = more (h r (Memᴰ.head refl)) (below_all n rows (λ q m. h q (Memᴰ.tail m)))

module _ (s : Settings) (d : Diagram) (old_n old_e : List ℕ) (start : ℕ) (k : Counts) (rooms : Rooms) (rows ns es : List ℕ) (g : Squashes s d old_n old_e start k rooms rows ns es) where
  rows_below : Below (length d.nodes) rows
  rows_below = below_all (length d.nodes) rows g.rows_in

  within_of : Within ns rows
  within_of = within_table ns d.nodes old_n rows g.held.nodes_are rows_below

  module _ (u : List ℕ) (did : Sorted ns by_squash rows u) where
    in_order : u ≡ sort_by (by_squash d.nodes) rows
    in_order = did.is_sorted d.nodes old_n g.held.nodes_are rows_below

    was_there : (r : ℕ) → Memᴰ r u → Memᴰ r rows
    was_there r m = perm_mem (sort_perm (by_squash d.nodes) rows) (subst (λ (l : List ℕ). Memᴰ r l) in_order m)

    squashes_in_order : Squashes s d old_n old_e start k rooms u ns es
    squashes_in_order =
        record {
          stands = g.stands;
          held = g.held;
          wired = g.wired;
          depth = g.depth;
          rows_above = λ r m. g.rows_above r (was_there r m);
          rows_in = λ r m. g.rows_in r (was_there r m);
          rows_deep = λ r m. g.rows_deep r (was_there r m);
        }

module _ (start : ℕ) (k : Counts) (rooms : Rooms) (keep : ℕ) (rows ns es : List ℕ) (sit : Squashable start k rooms keep rows ns es) where
  pub sortable : Within ns rows
  sortable = within_of sit.settings sit.diagram sit.old_n sit.old_e start k rooms rows ns es sit.squashes

  pub squashable_in_order : (u : List ℕ) → length u ≡ length rows → Sorted ns by_squash rows u → Squashable start k rooms keep u ns es
  squashable_in_order u long did =
      record {
        settings = sit.settings;
        diagram = sit.diagram;
        old_n = sit.old_n;
        old_e = sit.old_e;
        squashes = squashes_in_order sit.settings sit.diagram sit.old_n sit.old_e start k rooms rows ns es sit.squashes u did;
        wide = omega (arith, sit.wide, long);
      }

-- ---- the squash of a layer that is too wide

wide_restricts : (m : Mode) (s : Settings) (rows : List ℕ) (d : Diagram) → is_relaxing (mode_of m) ≡ false → squash_wide (mode_of m) s rows d ≡ restrict s (sort_by (by_squash d.nodes) rows) d
unfolding squash_wide
wide_restricts the.Exact s rows d e = refl
wide_restricts the.Restricted s rows d e = refl
wide_restricts the.Relaxed s rows d e = absurd (cc)

wide_relaxes : (m : Mode) (s : Settings) (rows : List ℕ) (d : Diagram) → is_relaxing (mode_of m) ≡ true → squash_wide (mode_of m) s rows d ≡ relax s (sort_by (by_squash d.nodes) rows) d
unfolding squash_wide
wide_relaxes the.Exact s rows d e = absurd (cc)
wide_relaxes the.Restricted s rows d e = absurd (cc)
wide_relaxes the.Relaxed s rows d e = refl

module _ (m : Mode) (width start : ℕ) (k : Counts) (rooms : Rooms) (rows ns es u : List ℕ) (sorted : Sorted ns by_squash rows u) (r : Bool) (q : r ≡ is_relaxing (mode_of m)) where
  pub wide_restricted : r ≡ false → (ns' : List ℕ) → Restricted width u ns ns' → WideSquashed m width start k rooms rows ns es (Going k) u ns' es
  wide_restricted c ns' did =
      record {
        does = λ s d old_n old_e w g.
            let o = squashes_in_order s d old_n old_e start k rooms rows ns es g u sorted in
            let a = restricted_done s d old_n old_e start k rooms width u ns es ns' w o.stands o.held o.rows_in did in
            rw (wide_restricts m s rows d (sym q ∙ c))
            (subst (λ (l : List ℕ). Done (restrict s l d) old_n old_e width (Going k) u ns' es) (in_order s d old_n old_e start k rooms rows ns es g u sorted) a);
      }

  pub wide_relaxed : r ≡ true → (step : Said) (rows' ns' es' : List ℕ) → Relaxed start k rooms width u ns es step rows' ns' es' → WideSquashed m width start k rooms rows ns es step rows' ns' es'
  wide_relaxed c step rows' ns' es' did =
      record {
        does = λ s d old_n old_e w g.
            let a = did.does s d old_n old_e w (squashes_in_order s d old_n old_e start k rooms rows ns es g u sorted) in
            rw (wide_relaxes m s rows d (sym q ∙ c))
            (subst (λ (l : List ℕ). Done (relax s l d) old_n old_e width step rows' ns' es') (in_order s d old_n old_e start k rooms rows ns es g u sorted) a);
      }

-- ---- the squash of any layer

-- A layer is squashed if it is too wide.
pub record IfSquashed (wide : Bool) (m : Mode) (width start : ℕ) (k : Counts) (rooms : Rooms) (rows ns es : List ℕ) (step : Said) (rows' ns' es' : List ℕ) : Type 0 where
  pub does : (s : Settings) (d : Diagram) (old_n old_e : List ℕ) → s.width ≡ width → Squashes s d old_n old_e start k rooms rows ns es → Done (squash_if wide (squash_wide (mode_of m) s rows (with_last d)) (layer d rows)) old_n old_e (cond wide width (length rows)) step rows' ns' es'

-- rule 5 with the test by itself
pub squash_law : (m : Def.Mode) (s : Settings) (rows : List ℕ) (d : Diagram) → squash m s rows d ≡ squash_if (too_wide m s.width (length rows) (length d.layers)) (squash_wide m s rows (with_last d)) (layer d rows)
unfolding squash squash_if too_wide squash_wide with_last
squash_law exactly s rows d = refl
squash_law restricted s rows d = refl
squash_law relaxing s rows d = refl

-- naming the last exact layer leaves the tables
squashes_last : (s : Settings) (d : Diagram) (old_n old_e : List ℕ) (start : ℕ) (k : Counts) (rooms : Rooms) (rows ns es : List ℕ) → Squashes s d old_n old_e start k rooms rows ns es → Squashes s (with_last d) old_n old_e start k rooms rows ns es
unfolding with_last
squashes_last s d old_n old_e start k rooms rows ns es g =
    record {
      stands =
          record {
            first_is = g.stands.first_is;
            start_in = g.stands.start_in;
            counts_are = g.stands.counts_are;
            node_room = g.stands.node_room;
            edge_room = g.stands.edge_room;
            old_nodes = g.stands.old_nodes;
            old_edges = g.stands.old_edges;
          };
      held = record { nodes_are = g.held.nodes_are; edges_are = g.held.edges_are };
      wired = last_wired d g.wired;
      depth = g.depth;
      rows_above = g.rows_above;
      rows_in = g.rows_in;
      rows_deep = g.rows_deep;
    }

module _ (wide : Bool) (m : Mode) (width start : ℕ) (k : Counts) (rooms : Rooms) (rows ns es : List ℕ) where
  pub squash_spared : wide ≡ false → IfSquashed wide m width start k rooms rows ns es (Going k) rows ns es
  unfolding squash_if
  squash_spared e =
      let l : length rows ≤ length rows = omega arith in
      record { does = λ s d old_n old_e w g. rw e (record { step_is = ap Going g.stands.counts_are; held = g.held; rows_are = sym (take_all (length rows) rows l) }) }

  pub squash_needed : wide ≡ true → (step : Said) (rows' ns' es' : List ℕ) → WideSquashed m width start k rooms rows ns es step rows' ns' es' → IfSquashed wide m width start k rooms rows ns es step rows' ns' es'
  unfolding squash_if
  squash_needed e step rows' ns' es' did =
      record { does = λ s d old_n old_e w g. rw e (did.does s (with_last d) old_n old_e w (squashes_last s d old_n old_e start k rooms rows ns es g)) }

pub ruleset order_laws = (rows_within, layer_ordered)

pub ruleset squash_laws = (squashable_in_order, wide_restricted, wide_relaxed)
