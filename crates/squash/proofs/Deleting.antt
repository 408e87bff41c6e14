-- The loop that flags rows deleted, turn by turn.
use mathlib.Core.Path.{◌≡◌, sym, ap, ◌∙◌}
use mathlib.Core.Bool.{true}
use mathlib.Core.List.{List, ◌∷◌}
use Prim.Native.Nat.{ℕ, suc, ◌+◌, ◌<◌, ◌≤◌}
use native.Mathlib.Numerals.{add-one}
use native.Mathlib.Omega.{arith}
use lib.ListN.{length, get_or, drop, length-set, drop_of_length-le}
use Rattle.diagram.specs.Node.{Node, update, with_deleted}
use Rattle.diagram.specs.Rule6.{delete_all}
use Rattle.layout.specs.Table.{over}
use Rattle.layout.specs.Rows.{node_table}
use Rattle.squash.specs.Places.{Under, RowChanged, Restricted}
use Rattle.squash.proofs.Changing.{place_mem, rows_next}

-- the table's rows after the turns so far
pub record Flagged (ns : List Node) (old rows : List ℕ) (width i : ℕ) (u : List ℕ) : Type 0 where
  pub rows_now : List Node
  pub table_is : u ≡ over (node_table rows_now) old
  pub long : length rows_now ≡ length ns
  pub left : delete_all rows_now (drop i rows) ≡ delete_all ns (drop width rows)

module _ (width : ℕ) (rows t : List ℕ) where
  pub record Deleting (i : ℕ) (u : List ℕ) : Type 0 where
    pub so_far : (ns : List Node) (old : List ℕ) → t ≡ over (node_table ns) old → Under (length ns) rows → Flagged ns old rows width i u

  one_deleted : (ns : List Node) (r i : ℕ) → drop i rows ≡ r ∷ drop (suc i) rows → delete_all (update (with_deleted true) ns r) (drop (suc i) rows) ≡ delete_all ns (drop i rows)
  unfolding delete_all
  one_deleted ns r i e = rw e

  pub deleting_one : (i : ℕ) (u : List ℕ) (r : ℕ) (v : List ℕ) → i < length rows → r ≡ get_or rows i 0 → RowChanged (with_deleted true) u r v → Deleting i u → Deleting (i + 1) v
  deleting_one i u r v h e w d =
      record {
        so_far = λ ns old p b.
            let f = d.so_far ns old p b in
            let m : r < length ns = b r (rw e (place_mem rows i h)) in
            record {
              rows_now = update (with_deleted true) f.rows_now r;
              table_is = w.does f.rows_now old f.table_is (omega (arith, f.long));
              long = length-set f.rows_now r _ ∙ f.long;
              left = rw add-one (one_deleted f.rows_now r i (rows_next rows i r h e) ∙ f.left);
            };
      }

  pub deleting_done : (i : ℕ) (u : List ℕ) → length rows ≤ i → Deleting i u → Restricted width rows t u
  unfolding delete_all
  deleting_done i u h d =
      record {
        does = λ ns old p b.
            let f = d.so_far ns old p b in
            f.table_is ∙ ap (λ (ms : List Node). over (node_table ms) old) (ap (delete_all f.rows_now) (sym (drop_of_length-le rows h)) ∙ f.left);
      }
