-- The two scans of a layer's rows, turn by turn: the largest capacity, and the first row with a capacity.
use mathlib.Core.Path.{◌≡◌, sym, ap, ◌∙◌}
use mathlib.Core.List.{List, ◌∷◌}
use Prim.Native.Nat.{ℕ, suc, ◌+◌, ◌<◌, ◌≤◌, max}
use native.Mathlib.Numerals.{add-one}
use native.Mathlib.Omega.{arith}
use lib.ListN.{length, get_or, drop, drop_of_length-le}
use borrow.Author.Tests.{eq-eqb, ne_eqb}
use Rattle.std.specs.Prelude.{Some, None}
use Rattle.diagram.specs.Node.{Node, node_at}
use Rattle.diagram.specs.Tables as Def
use Rattle.diagram.specs.Rule6.{merged_capacity, twin_of}
use Rattle.layout.specs.Table.{over}
use Rattle.layout.specs.Rows.{node_table}
use Rattle.rows.specs.Access.{FieldRead}
use Rattle.rows.specs.declared.NodeId.{NodeId}
use Rattle.squash.specs.Places.{Under, CapacityMerged, TwinFound}
use Rattle.squash.proofs.Changing.{rows_next, place_mem}

module _ (rows t : List ℕ) where
  -- the row at place i, in the table
  turn_reads : (i r c : ℕ) → i < length rows → r ≡ get_or rows i 0 → FieldRead t r (λ x. x.capacity) c → (ns : List Node) (old : List ℕ) → t ≡ over (node_table ns) old → Under (length ns) rows → c ≡ (node_at ns r).capacity
  turn_reads i r c h e read ns old p u = read.is_field ns old p (u r (rw e (place_mem rows i h)))

  -- ---- the largest capacity

  -- of the rows so far it is `most`; the larger of that and of the rest's is that of all
  pub record Most (i most : ℕ) : Type 0 where
    pub so_far : (ns : List Node) (old : List ℕ) → t ≡ over (node_table ns) old → Under (length ns) rows → max most (merged_capacity ns (drop i rows)) ≡ merged_capacity ns rows

  one_merged : (ns : List Node) (r i : ℕ) → drop i rows ≡ r ∷ drop (suc i) rows → merged_capacity ns (drop i rows) ≡ max (node_at ns r).capacity (merged_capacity ns (drop (suc i) rows))
  unfolding merged_capacity
  one_merged ns r i e = rw e

  pub most_one : (i r c most : ℕ) → i < length rows → r ≡ get_or rows i 0 → FieldRead t r (λ x. x.capacity) c → Most i most → Most (i + 1) (max c most)
  most_one i r c most h e read m =
      record {
        so_far = λ ns old p u.
            let k = turn_reads i r c h e read ns old p u in
            let o = one_merged ns r i (rows_next rows i r h e) in
            let w = m.so_far ns old p u in
            rw add-one (omega (arith, k, o, w));
      }

  pub most_all : (i most : ℕ) → length rows ≤ i → Most i most → CapacityMerged rows t most
  unfolding merged_capacity
  most_all i most h m =
      record {
        is_merged = λ ns old p u.
            let e = ap (merged_capacity ns) (drop_of_length-le rows h) in
            let w = m.so_far ns old p u in
            omega (arith, e, w);
      }

  -- ---- the first row with a capacity

  module _ (capacity : ℕ) where
    -- the rows so far don't have it: those that are left decide
    pub record Passed (i : ℕ) : Type 0 where
      pub left : (ns : List Node) (old : List ℕ) → t ≡ over (node_table ns) old → Under (length ns) rows → twin_of ns capacity (drop i rows) ≡ twin_of ns capacity rows

    twin_miss : (ns : List Node) (r i : ℕ) → drop i rows ≡ r ∷ drop (suc i) rows → ((node_at ns r).capacity ≡ capacity → ⊥) → twin_of ns capacity (drop i rows) ≡ twin_of ns capacity (drop (suc i) rows)
    unfolding twin_of
    twin_miss ns r i e h = rw (e, ne_eqb (node_at ns r).capacity capacity h, twin_of)

    twin_hit : (ns : List Node) (r i : ℕ) → drop i rows ≡ r ∷ drop (suc i) rows → (node_at ns r).capacity ≡ capacity → twin_of ns capacity (drop i rows) ≡ Def.at r
    unfolding twin_of
    twin_hit ns r i e h = rw (e, eq-eqb (node_at ns r).capacity capacity h, twin_of)

    pub found_none : (i : ℕ) → length rows ≤ i → Passed i → TwinFound capacity rows t None
    unfolding twin_of
    found_none i h w =
        record {
          is_twin = λ ns old p u. ap (twin_of ns capacity) (sym (drop_of_length-le rows h)) ∙ w.left ns old p u;
        }

    module _ (i : ℕ) (w : Passed i) (r : NodeId) (c : ℕ) (h : i < length rows) (e : r.0 ≡ get_or rows i 0) (read : FieldRead t r.0 (λ x. x.capacity) c) where
      pub passed_one : (c ≡ capacity → ⊥) → Passed (i + 1)
      passed_one o =
          record {
            left = λ ns old p u.
                let k = turn_reads i r.0 c h e read ns old p u in
                rw add-one (sym (twin_miss ns r.0 i (rows_next rows i r.0 h e) (λ y. o (k ∙ y))) ∙ w.left ns old p u);
          }

      pub found_at : c ≡ capacity → TwinFound capacity rows t (Some r)
      found_at o =
          record {
            is_twin = λ ns old p u.
                let k = turn_reads i r.0 c h e read ns old p u in
                sym (twin_hit ns r.0 i (rows_next rows i r.0 h e) (sym k ∙ o)) ∙ w.left ns old p u;
          }
