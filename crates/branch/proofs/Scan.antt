-- The scan of the coming layer's rows, turn by turn.
use mathlib.Core.Path.{◌≡◌, sym, ap, ◌∙◌}
use mathlib.Core.List.{List, ◌∷◌}
use Prim.Native.Nat.{ℕ, suc, ◌+◌, ◌<◌, ◌≤◌}
use native.Mathlib.Omega.{arith}
use lib.ListN.{length, drop, drop_of_length-le}
use lib.Seq.{drop-cons}
use borrow.Author.Tests.{eq-eqb, ne_eqb}
use Rattle.diagram.specs.Node.{Node, no_node, node_at}
use Rattle.diagram.specs.Tables.{at}
use Rattle.diagram.specs.Rule4.{lookup}
use Rattle.layout.specs.Table.{over}
use Rattle.layout.specs.Rows.{node_table}
use Rattle.rows.specs.Access.{FieldRead}
use Rattle.std.specs.Prelude.{Some, None}
use Rattle.branch.specs.State.{LookedUp}

-- the rows before i don't have that capacity: what is left decides
pub record Passed (t : List ℕ) (count capacity i : ℕ) : Type 0 where
  pub left : (ns : List Node) (old : List ℕ) (first : ℕ) → t ≡ over (node_table ns) old → count ≡ length ns → lookup capacity (drop i ns) (first + i) ≡ lookup capacity ns first

-- one row's turn
turn : (capacity : ℕ) (ns : List Node) (i r : ℕ) → i < length ns → lookup capacity (drop i ns) r ≡ lookup capacity (node_at ns i ∷ drop (suc i) ns) r
turn capacity ns i r h = ap (λ (l : List Node). lookup capacity l r) (drop-cons ns i no_node h)

lookup_miss : (capacity : ℕ) (n : Node) (ns : List Node) (r : ℕ) → (n.capacity ≡ capacity → ⊥) → lookup capacity (n ∷ ns) r ≡ lookup capacity ns (suc r)
unfolding lookup
lookup_miss capacity n ns r h = rw (ne_eqb n.capacity capacity h, lookup)

lookup_hit : (capacity : ℕ) (n : Node) (ns : List Node) (r : ℕ) → n.capacity ≡ capacity → lookup capacity (n ∷ ns) r ≡ at r
unfolding lookup
lookup_hit capacity n ns r h = rw (eq-eqb n.capacity capacity h, lookup)

pub passed_one : (t : List ℕ) (count capacity i c : ℕ) → i < count → FieldRead t i (λ x. x.capacity) c → (c ≡ capacity → ⊥) → Passed t count capacity i → Passed t count capacity (i + 1)
passed_one t count capacity i c h read other p =
    record {
      left = λ ns old first e l.
          let k : i < length ns = omega arith in
          let z : first + (i + 1) ≡ suc (first + i) = omega arith in
          let y : i + 1 ≡ suc i = omega arith in
          let q : c ≡ (node_at ns i).capacity = read.is_field ns old e k in
          rw (z, y) (sym (turn capacity ns i (first + i) k ∙ lookup_miss capacity (node_at ns i) (drop (suc i) ns) (first + i) (λ w. other (q ∙ w))) ∙ p.left ns old first e l);
    }

pub found_none : (t : List ℕ) (count capacity i : ℕ) → count ≤ i → Passed t count capacity i → LookedUp t count capacity None
unfolding lookup
found_none t count capacity i h p =
    record {
      is_first = λ ns old first e l.
          let k : length ns ≤ i = omega arith in
          ap (λ (m : List Node). lookup capacity m (first + i)) (sym (drop_of_length-le ns k)) ∙ p.left ns old first e l;
      below = tt;
    }

pub found_at : (t : List ℕ) (count capacity i c : ℕ) → i < count → FieldRead t i (λ x. x.capacity) c → c ≡ capacity → Passed t count capacity i → LookedUp t count capacity (Some i)
found_at t count capacity i c h read same p =
    record {
      is_first = λ ns old first e l.
          let k : i < length ns = omega arith in
          let q : c ≡ (node_at ns i).capacity = read.is_field ns old e k in
          sym (turn capacity ns i (first + i) k ∙ lookup_hit capacity (node_at ns i) (drop (suc i) ns) (first + i) (sym q ∙ same)) ∙ p.left ns old first e l;
      below = h;
    }

-- what the scan of `lookup` stands on
pub ruleset scan = (passed_one, found_none, found_at)
