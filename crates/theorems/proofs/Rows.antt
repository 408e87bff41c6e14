-- Rows of a table after one of them was changed or one was added, the rows that a range names, the lookup of a capacity, and the inbound edges.
use mathlib.Core.Path.{◌≡◌, subst}
use mathlib.Core.Bool.{true, false, cond}
use mathlib.Core.List.Memᴰ
use mathlib.Core.List.{List, [], ◌∷◌, ◌++◌, Memᴰ}
use mathlib.Core.Logic.{⊎_elim, ◌≢◌}
use Prim.Native.Nat.{ℕ, zero, suc, ◌+◌, ◌-◌, ◌≤◌, ◌<◌}
use native.Mathlib.Decide.{ℕ_discrete}
use native.Mathlib.Omega.{arith}
use lib.Dec.{eqb}
use lib.ListN.{length, length-append, get_or-append, drop, length-drop}
use lib.Seq.{get_or-drop, get_or-set_same, get_or-set_other, get_or-append_seam}
use borrow.Author.Tests.{eqb-true, eqb-false, eq-eqb}
use Rattle.knapsack.proofs.Cases.{by_test}
use Rattle.diagram.specs.Node.{Node, Edge, no_node, node_at, edge_at, update}
use Rattle.diagram.specs.Rule4.{lookup}
use Rattle.diagram.specs.Tables.{Range, Diagram, at, nowhere, rows_from, rows_of, inbound_below, inbound}

-- a row of a table of which row s was changed
pub update_at : (P : Node → Type 0) (f : Node → Node) (ns : List Node) (s r : ℕ) → s < length ns → (r ≡ s → P (f (node_at ns s))) → (r ≢ s → P (node_at ns r)) → P (node_at (update f ns s) r)
update_at P f ns s r h a b =
    elim (ℕ_discrete r s) [
      | yes e ↦ rw (e, get_or-set_same ns s (f (node_at ns s)) no_node h) (a e)
      | no e ↦ rw (get_or-set_other ns s r (f (node_at ns s)) no_node e) (b e)
    ]

-- a row of a table with one row more
pub snoc_at : (P : Node → Type 0) (ns : List Node) (n : Node) (r : ℕ) → r < length (ns ++ (n ∷ [])) → (r ≡ length ns → P n) → (r < length ns → P (node_at ns r)) → P (node_at (ns ++ (n ∷ [])) r)
snoc_at P ns n r h a b =
    elim (ℕ_discrete r (length ns)) [
      | yes e ↦ rw (e, get_or-append_seam ns n [] no_node) (a e)
      | no e ↦ let l : r < length ns = omega (arith, length-append ns (n ∷ [])) in rw (get_or-append ns (n ∷ []) no_node r l) (b l)
    ]

-- ---- the rows of a range

pub rows_mem : (i n r : ℕ) → i ≤ r → r < i + n → Memᴰ r (rows_from i n)
unfolding rows_from
rows_mem i zero r h k = absurd (omega arith)
rows_mem i (suc n) r h k =
    by_test (λ _. Memᴰ r (i ∷ rows_from (suc i) n)) (eqb r i)
    (λ e. Memᴰ.head (eqb-true r i e))
    (λ e. Memᴰ.tail (rows_mem (suc i) n r (omega (arith, eqb-false)) (omega arith)))

pub rows_below : (i n r : ℕ) → Memᴰ r (rows_from i n) → (i ≤ r) × (r < i + n)
unfolding rows_from
rows_below i zero r m = absurd (Memᴰ.not-nil m)
rows_below i (suc n) r (Memᴰ.head e) = omega arith
rows_below i (suc n) r (Memᴰ.tail m) = let h = rows_below (suc i) n r m in omega arith

pub range_mem : (L : Range) (r : ℕ) → L.lo ≤ r → r < L.hi → Memᴰ r (rows_of L)
unfolding rows_of
range_mem L r a b = rows_mem L.lo (L.hi - L.lo) r a (omega arith)

pub range_in : (L : Range) (r : ℕ) → Memᴰ r (rows_of L) → (L.lo ≤ r) × (r < L.hi)
unfolding rows_of
range_in L r m = let z = rows_below L.lo (L.hi - L.lo) r m in omega arith

-- ---- the lookup: a row of the coming layer with that capacity

pub record Lies (capacity lo : ℕ) (ns : List Node) (t : ℕ) : Type 0 where
  pub step : ℕ
  pub is_at : t ≡ lo + step
  pub below : step < length ns
  pub is_cap : (node_at ns step).capacity ≡ capacity

lies_tail : (capacity lo : ℕ) (n : Node) (ns : List Node) (t : ℕ) → Lies capacity (suc lo) ns t → Lies capacity lo (n ∷ ns) t
lies_tail capacity lo n ns t l = record { step = suc l.step; is_at = omega arith; below = omega arith; is_cap = l.is_cap }

lies_head : (capacity lo : ℕ) (n : Node) (ns : List Node) (t : ℕ) → eqb n.capacity capacity ≡ true → at lo ≡ at t → Lies capacity lo (n ∷ ns) t
lies_head capacity lo n ns t q f = record { step = 0; is_at = let z : lo ≡ t = cc in omega arith; below = omega arith; is_cap = eqb-true n.capacity capacity q }

pub lookup_at : (capacity : ℕ) (ns : List Node) (lo t : ℕ) → lookup capacity ns lo ≡ at t → Lies capacity lo ns t
unfolding lookup
lookup_at capacity [] lo t e = let z : ◌≡◌ {A = ℕ} 0 1 = cc in absurd (omega arith)
lookup_at capacity (n ∷ ns) lo t e =
    (by_test (λ b. elim b [ true ↦ at lo | false ↦ lookup capacity ns (suc lo) ] ≡ at t → Lies capacity lo (n ∷ ns) t) (eqb n.capacity capacity)
    (λ q f. lies_head capacity lo n ns t q f)
    (λ q f. lies_tail capacity lo n ns t (lookup_at capacity ns (suc lo) t f))) e

pub lookup_nowhere : (capacity : ℕ) (ns : List Node) (lo i : ℕ) → lookup capacity ns lo ≡ nowhere → i < length ns → (node_at ns i).capacity ≡ capacity → ⊥
unfolding lookup
lookup_nowhere capacity [] lo i e h q = omega arith
lookup_nowhere capacity (n ∷ ns) lo zero e h q =
    (by_test (λ b. elim b [ true ↦ at lo | false ↦ lookup capacity ns (suc lo) ] ≡ nowhere → ⊥) (eqb n.capacity capacity)
    (λ t f. let z : ◌≡◌ {A = ℕ} 0 1 = cc in omega arith)
    (λ t f. eqb-false _ _ t q)) e
lookup_nowhere capacity (n ∷ ns) lo (suc i) e h q =
    (by_test (λ b. elim b [ true ↦ at lo | false ↦ lookup capacity ns (suc lo) ] ≡ nowhere → ⊥) (eqb n.capacity capacity)
    (λ t f. let z : ◌≡◌ {A = ℕ} 0 1 = cc in omega arith)
    (λ t f. lookup_nowhere capacity ns (suc lo) i f (omega arith) q)) e

-- a row found in the coming layer, as a row of the whole table
pub found_in : (capacity : ℕ) (d : Diagram) (t : ℕ) → Lies capacity d.start (drop d.start d.nodes) t → t < length d.nodes
found_in capacity d t l = omega (arith, length-drop d.start d.nodes)

pub found_cap : (capacity : ℕ) (d : Diagram) (t : ℕ) → Lies capacity d.start (drop d.start d.nodes) t → (node_at d.nodes t).capacity ≡ capacity
found_cap capacity d t l = rw (l.is_at, ← (get_or-drop d.start d.nodes l.step no_node)) l.is_cap

pub none_of : (capacity : ℕ) (d : Diagram) (r : ℕ) → lookup capacity (drop d.start d.nodes) d.start ≡ nowhere → d.start ≤ r → r < length d.nodes → (node_at d.nodes r).capacity ≡ capacity → ⊥
none_of capacity d r e a b q =
    let z : d.start + (r - d.start) ≡ r = omega arith in
    lookup_nowhere capacity (drop d.start d.nodes) d.start (r - d.start) e (omega (arith, length-drop d.start d.nodes)) (rw (get_or-drop, z) q)

-- ---- inbound edges: e is one of row r's exactly if it ends there

pub below_mem : (es : List Edge) (r p e : ℕ) → e < p → (edge_at es e).to ≡ r → Memᴰ e (inbound_below p es r)
unfolding inbound_below
below_mem es r zero e h q = absurd (omega arith)
below_mem es r (suc p) e h q =
    elim (ℕ_discrete e p) [
      | yes a ↦ rw (eq-eqb (edge_at es p).to r (subst (λ (n : ℕ). (edge_at es n).to ≡ r) a q)) (Memᴰ.head a)
      | no a ↦ by_test (λ b. Memᴰ e (cond b (p ∷ inbound_below p es r) (inbound_below p es r))) (eqb (edge_at es p).to r)
          (λ t. Memᴰ.tail (below_mem es r p e (omega arith) q))
          (λ t. below_mem es r p e (omega arith) q)
    ]

pub below_back : (es : List Edge) (r p e : ℕ) → Memᴰ e (inbound_below p es r) → (e < p) × ((edge_at es e).to ≡ r)
unfolding inbound_below
below_back es r zero e m = absurd (Memᴰ.not-nil m)
below_back es r (suc p) e m =
    (by_test (λ b. Memᴰ e (cond b (p ∷ inbound_below p es r) (inbound_below p es r)) → (e < suc p) × ((edge_at es e).to ≡ r)) (eqb (edge_at es p).to r)
    (λ t k. ⊎_elim (λ q. (omega arith, rw q (eqb-true _ _ t))) (λ q. let z = below_back es r p e q in (omega arith, z.1)) (Memᴰ.cases_cons k))
    (λ t k. let z = below_back es r p e k in (omega arith, z.1))) m

pub inbound_mem : (es : List Edge) (r e : ℕ) → e < length es → (edge_at es e).to ≡ r → Memᴰ e (inbound es r)
unfolding inbound
inbound_mem es r e h q = below_mem es r (length es) e h q

pub inbound_back : (es : List Edge) (r e : ℕ) → Memᴰ e (inbound es r) → (e < length es) × ((edge_at es e).to ≡ r)
unfolding inbound
inbound_back es r e m = below_back es r (length es) e m
