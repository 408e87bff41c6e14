-- A row read, changed and written back, and the row at a place of the layer list.
use mathlib.Core.Path.{◌≡◌, refl, ap, ◌∙◌}
use mathlib.Core.List.{List, [], ◌∷◌, Memᴰ}
use Prim.Native.Nat.{ℕ, zero, suc, ◌<◌}
use native.Mathlib.Nat.{le_of_suc-le-suc, not-suc-le-zero}
use lib.ListN.{length, get_or, set, drop}
use lib.Seq.{drop-cons}
use Rattle.diagram.specs.Node.{Node}
use Rattle.layout.specs.Table.{over}
use Rattle.layout.specs.Rows.{node_table}
use Rattle.rows.specs.Access.{NodeRead, NodeWritten}
use Rattle.squash.specs.Places.{RowChanged}

pub row_changed : (f : Node → Node) (t : List ℕ) (r : ℕ) (n x : Node) (u : List ℕ) → NodeRead t r n → x ≡ f n → NodeWritten t r x u → RowChanged f t r u
row_changed f t r n x u read e w =
    record {
      does = λ ns old h l.
          w.replaced ns old h l ∙ ap (λ (m : Node). over (node_table (set ns r m)) old) (e ∙ ap f (read.is_row ns old h l));
    }

-- what stands at a place of a list is one of its members
pub place_mem : (rows : List ℕ) (i : ℕ) → i < length rows → Memᴰ (get_or rows i 0) rows
place_mem [] i h = absurd (not-suc-le-zero h)
place_mem (r ∷ rs) zero h = Memᴰ.head refl
place_mem (r ∷ rs) (suc i) h = Memᴰ.tail (place_mem rs i (le_of_suc-le-suc h))

-- the row at place i, and those behind it
pub rows_next : (rows : List ℕ) (i r : ℕ) → i < length rows → r ≡ get_or rows i 0 → drop i rows ≡ r ∷ drop (suc i) rows
rows_next rows i r h e = rw e (drop-cons rows i 0 h)
