-- Cutset flags cleared row by row.
use mathlib.Core.Path.{◌≡◌, refl, ap, ◌∙◌}
use mathlib.Core.Bool.{false}
use mathlib.Core.List.{List, [], ◌∷◌}
use Prim.Native.Nat.{ℕ, zero, suc, ◌+◌, ◌<◌, ◌≤◌}
use native.Mathlib.Omega.{arith}
use lib.ListN.{length, set}
use Rattle.diagram.specs.Node.{Node, node_at}
use Rattle.layout.specs.Table.{over}
use Rattle.layout.specs.Rows.{node_table}
use Rattle.rows.specs.Access.{NodeRead, NodeWritten}
use Rattle.cutset.specs.Views.{with_cutset, uncut, uncuts}
use Rattle.cutset.specs.Clearing.{Cleared}

-- the first i rows without their flags
unfoldable pub cleared : ℕ → List Node → List Node
cleared zero ns = ns
cleared (suc i) [] = []
cleared (suc i) (n ∷ ns) = uncut n ∷ cleared i ns

one_cleared : (i : ℕ) (ns : List Node) → set (cleared i ns) i (uncut (node_at (cleared i ns) i)) ≡ cleared (suc i) ns
unfolding cleared
one_cleared zero [] = refl
one_cleared zero (n ∷ ns) = refl
one_cleared (suc i) [] = refl
one_cleared (suc i) (n ∷ ns) = ap (λ (l : List Node). uncut n ∷ l) (one_cleared i ns)

all_cleared : (ns : List Node) → cleared (length ns) ns ≡ uncuts ns
unfolding cleared
all_cleared [] = refl
all_cleared (n ∷ ns) = ap (λ (l : List Node). uncut n ∷ l) (all_cleared ns)

length_cleared : (i : ℕ) (ns : List Node) → length (cleared i ns) ≡ length ns
unfolding cleared
length_cleared zero ns = refl
length_cleared (suc i) [] = refl
length_cleared (suc i) (n ∷ ns) = ap suc (length_cleared i ns)

-- the first i rows are cleared
pub record Clearing (t : List ℕ) (count i : ℕ) (u : List ℕ) : Type 0 where
  pub so_far : (ns : List Node) (old : List ℕ) → t ≡ over (node_table ns) old → count ≡ length ns → u ≡ over (node_table (cleared i ns)) old

pub none_yet : (t : List ℕ) (count : ℕ) → Clearing t count 0 t
unfolding cleared
none_yet t count = record { so_far = λ ns old e h. e }

pub one_more : (t : List ℕ) (count i : ℕ) (u : List ℕ) (n x : Node) (v : List ℕ) → i < count → Clearing t count i u → NodeRead u i n → x ≡ with_cutset false n → NodeWritten u i x v → Clearing t count (i + 1) v
one_more t count i u n x v l g read e w =
    record {
      so_far = λ ns old q h.
          let z : i + 1 ≡ suc i = omega arith in
          let k : i < length (cleared i ns) = omega (arith, length_cleared i ns) in
          let f = g.so_far ns old q h in
          let y : x ≡ uncut (node_at (cleared i ns) i) = e ∙ ap uncut (read.is_row (cleared i ns) old f k) in
          rw z (w.replaced (cleared i ns) old f k ∙ ap (λ (m : List Node). over (node_table m) old) (ap (set (cleared i ns) i) y ∙ one_cleared i ns));
    }

pub all_of_them : (t : List ℕ) (count i : ℕ) (u : List ℕ) → i ≤ count → count ≤ i → Clearing t count i u → Cleared t count u
all_of_them t count i u a b g =
    record {
      does = λ ns old q h.
          let z : i ≡ length ns = omega arith in
          g.so_far ns old q h ∙ ap (λ (k : ℕ). over (node_table (cleared k ns)) old) z ∙ ap (λ (m : List Node). over (node_table m) old) (all_cleared ns);
    }

-- what clearing the flags needs
pub ruleset clearing = (none_yet, one_more, all_of_them)
