-- Paths: the decisions up from an exact row, behind the record's path, pass the checks 7 to 9.
use mathlib.Core.Path.{◌≡◌, refl, sym, ap, ◌∙◌}
use mathlib.Core.Bool.{true, cond}
use mathlib.Core.List.{List, [], ◌∷◌, ◌++◌}
use Prim.Native.Nat.{ℕ, zero, suc, ◌+◌, ◌≤◌, ◌<◌, ◌*◌, min}
use native.Mathlib.Omega.{arith}
use lib.Dec.{eqb, ltb}
use lib.ListN.{length, get_or, length-append, drop, length-drop}
use borrow.Author.Tests.{eqb-true, ltb-true, ltb-false, eqb-false, eq-eqb, ne_eqb}
use Rattle.words.specs.I64.{mid, top}
use Rattle.knapsack.specs.Items.{Item, no_item, counted, takes, skips, item_of, is_take}
use Rattle.knapsack.proofs.Cases.{by_test}
use Rattle.knapsack.proofs.Items.{item_of_takes, item_of_skips, is_take_takes, is_take_skips}
use Rattle.diagram.specs.After3.{decisions_up}
use Rattle.diagram.specs.Node.{Node, node_at, edge_at, fresh}
use Rattle.diagram.specs.Record.{Record}
use Rattle.diagram.specs.Tables.{Diagram}
use Rattle.theorems.proofs.Move.{Choice, by_skip, by_take}
use Rattle.theorems.proofs.Tower.{root_row}
use Rattle.theorems.proofs.Sound.{Kin, Sound}

-- what the taken decisions of a path add up to, and how often it names item k
unfoldable pub share : (Item → ℕ) → List Item → ℕ → ℕ
share f items b = cond (is_take b) (f (get_or items (item_of b) no_item)) 0

unfoldable pub sum_taken : (Item → ℕ) → List Item → List ℕ → ℕ
sum_taken f items [] = 0
sum_taken f items (b ∷ p) = share f items b + sum_taken f items p

unfoldable pub names_it : ℕ → ℕ → ℕ
names_it k b = cond (eqb (item_of b) k) 1 0

unfoldable pub times_named : ℕ → List ℕ → ℕ
times_named k [] = 0
times_named k (b ∷ p) = names_it k b + times_named k p

-- the checks 7 to 9 pass: the path names each item below the depth once, its taken weights and the capacity left are the page's, its taken profits are the value
pub record Valid (items : List Item) (page : ℕ) (r : Record) : Type 0 where
  pub deep : r.depth ≤ length items
  pub long : length r.path ≡ r.depth
  pub once : (k : ℕ) → k < r.depth → times_named k r.path ≡ 1
  pub weights : sum_taken (λ i. counted i.weight) items r.path + r.capacity ≡ page
  pub profits : mid + sum_taken (λ i. i.profit) items r.path ≡ r.value

pub drop_head : (items : List Item) (k : ℕ) (i : Item) (is : List Item) → drop k items ≡ i ∷ is → get_or items k no_item ≡ i
drop_head [] zero i is e = let z : ◌≡◌ {A = ℕ} 0 1 = cc in absurd (omega arith)
drop_head [] (suc k) i is e = let z : ◌≡◌ {A = ℕ} 0 1 = cc in absurd (omega arith)
drop_head (x ∷ items) zero i is e = cc
drop_head (x ∷ items) (suc k) i is e = drop_head items k i is e

skip_share : (f : Item → ℕ) (items : List Item) (k : ℕ) → share f items (skips k) ≡ 0
unfolding share
skip_share f items k = rw is_take_skips

take_share : (f : Item → ℕ) (items : List Item) (k : ℕ) → share f items (takes k) ≡ f (get_or items k no_item)
unfolding share
take_share f items k = rw (is_take_takes, item_of_takes)

pub named_is : (k b n : ℕ) → item_of b ≡ n → ((k ≡ n → names_it k b ≡ 1) × ((k ≡ n → ⊥) → names_it k b ≡ 0))
unfolding names_it
named_is k b n e = ((λ q. rw (eq-eqb (item_of b) k (e ∙ sym q))), (λ q. rw (ne_eqb (item_of b) k (λ z. q (sym z ∙ e)))))

-- what one decision does to the sums
pub record Byte (items : List Item) (n : Node) (decision c capacity : ℕ) : Type 0 where
  pub deep : n.depth < length items
  pub names : item_of decision ≡ n.depth
  pub weighs : share (λ i. counted i.weight) items decision + capacity ≡ n.capacity
  pub earns : share (λ i. i.profit) items decision ≡ c

pub choice_byte : (items : List Item) (n : Node) (decision c capacity : ℕ) → Choice items n decision c capacity → Byte items n decision c capacity
choice_byte items n decision c capacity (by_skip l p q r) =
    record { deep = l; names = rw p (item_of_skips n.depth); weighs = rw (p, skip_share (λ i. counted i.weight) items n.depth) (omega arith); earns = rw (p, skip_share (λ i. i.profit) items n.depth) (sym q) }
choice_byte items n decision c capacity (by_take i is e w p q r) =
    let h = drop_head items n.depth i is e in
    record { deep = omega (arith, length-drop n.depth items, ap (length {A = Item}) e); names = rw p (item_of_takes n.depth); weighs = rw (p, take_share (λ i. counted i.weight) items n.depth, h) (omega arith); earns = rw (p, take_share (λ i. i.profit) items n.depth, h) (sym q) }

-- p leads from the record, whose root's row is r₀, to row n: it names the items between their depths once each, and capacity and value are what it leaves
pub record PathUp (items : List Item) (r₀ n : Node) (p : List ℕ) : Type 0 where
  pub long : length p + r₀.depth ≡ n.depth
  pub once : (k : ℕ) → r₀.depth ≤ k → k < n.depth → times_named k p ≡ 1
  pub low : (k : ℕ) → k < r₀.depth → times_named k p ≡ 0
  pub high : (k : ℕ) → n.depth ≤ k → times_named k p ≡ 0
  pub weights : sum_taken (λ i. counted i.weight) items p + n.capacity ≡ r₀.capacity
  pub profits : n.value ≡ min top (r₀.value + sum_taken (λ i. i.profit) items p)

-- the decisions up from row y
abbrev pub up_from : ℕ → Diagram → ℕ → List ℕ
up_from f d y = decisions_up f d.nodes d.edges (node_at d.nodes y).best

pub path_root : (f : ℕ) (d : Diagram) (y : ℕ) → (node_at d.nodes y).best ≡ 0 → up_from f d y ≡ []
unfolding decisions_up
path_root zero d y e = refl
path_root (suc f) d y e = ap (λ (b : ℕ). decisions_up (suc f) d.nodes d.edges b) e

pub path_via : (f : ℕ) (d : Diagram) (y e : ℕ) → (node_at d.nodes y).best ≡ suc e → up_from (suc f) d y ≡ (edge_at d.edges e).decision ∷ up_from f d (edge_at d.edges e).from
unfolding decisions_up
path_via f d y e q = ap (λ (b : ℕ). decisions_up (suc f) d.nodes d.edges b) q

up_root : (items : List Item) (r₀ n : Node) → Kin r₀ n → r₀.value ≤ top → PathUp items r₀ n []
unfolding sum_taken times_named
up_root items r₀ n k h =
    record { long = omega (arith, k.depth_is); once = λ q a b. absurd (omega (arith, k.depth_is)); low = λ q a. refl; high = λ q a. refl; weights = omega (arith, k.capacity_is); profits = omega (arith, k.value_is) }

pub up_more : (items : List Item) (r₀ s n : Node) (decision c : ℕ) (p : List ℕ) → n.depth ≡ suc s.depth → n.value ≡ min top (s.value + c) → Choice items s decision c n.capacity → PathUp items r₀ s p → PathUp items r₀ n (decision ∷ p)
unfolding sum_taken times_named
up_more items r₀ s n decision c p dq vq ch u =
    let b = choice_byte items s decision c n.capacity ch in
    let at-it : (k : ℕ) → ((k ≡ s.depth → names_it k decision ≡ 1) × ((k ≡ s.depth → ⊥) → names_it k decision ≡ 0)) = λ k. named_is k decision s.depth b.names in
    record {
      long = omega (arith, u.long);
      once = λ k l h. by_test (λ _. names_it k decision + times_named k p ≡ 1) (eqb k s.depth)
          (λ t. let q = eqb-true k s.depth t in omega (arith, (at-it k).0 q, u.high k (omega arith)))
          (λ t. let q = eqb-false k s.depth t in omega (arith, (at-it k).1 q, u.once k l (omega (arith, q))));
      low = λ k l. omega (arith, (at-it k).1 (λ z. omega (arith, u.long)), u.low k l);
      high = λ k l. omega (arith, (at-it k).1 (λ z. omega arith), u.high k (omega arith));
      weights = omega (arith, b.weighs, u.weights);
      profits = omega (arith, b.earns, u.profits);
    }

-- The path up from an exact row, in tables of any mode: each parent has the smaller row, so y steps are enough.
pub path_up : (items : List Item) (d : Diagram) (r₀ : Node) → Sound items r₀ d → r₀.best ≡ 0 → r₀.value ≤ top → (f y : ℕ) → y ≤ f → y < length d.nodes → (node_at d.nodes y).exact ≡ true → PathUp items r₀ (node_at d.nodes y) (up_from f d y)
path_up items d r₀ w b₀ h₀ zero zero lf ln x =
    rw (path_root 0 d 0 (w.root.best_is ∙ b₀)) (up_root items r₀ (node_at d.nodes 0) w.root h₀)
path_up items d r₀ w b₀ h₀ zero (suc y) lf ln x = absurd (omega arith)
path_up items d r₀ w b₀ h₀ (suc f) zero lf ln x =
    rw (path_root (suc f) d 0 (w.root.best_is ∙ b₀)) (up_root items r₀ (node_at d.nodes 0) w.root h₀)
path_up items d r₀ w b₀ h₀ (suc f) (suc y) lf ln x =
    let v = w.traced (suc y) ln (omega arith) (w.pure (suc y) ln x) in
    let s = (edge_at d.edges v.by).from in
    let u = path_up items d r₀ w b₀ h₀ f s (omega (arith, v.before)) (omega (arith, v.before)) (v.up x) in
    rw (path_via f d (suc y) v.by v.best_is) (up_more items r₀ (node_at d.nodes s) (node_at d.nodes (suc y)) _ _ (up_from f d s) v.depth v.value v.choice u)

-- sums of a path in two parts
names_append : (k : ℕ) (p q : List ℕ) → times_named k (p ++ q) ≡ times_named k p + times_named k q
unfolding times_named
names_append k [] q = omega arith
names_append k (b ∷ p) q = omega (arith, names_append k p q)

sum_append : (f : Item → ℕ) (items : List Item) (p q : List ℕ) → sum_taken f items (p ++ q) ≡ sum_taken f items p + sum_taken f items q
unfolding sum_taken
sum_append f items [] q = omega arith
sum_append f items (b ∷ p) q = omega (arith, sum_append f items p q)

-- how many of the items below n a path names: each byte names one
unfoldable named_below : ℕ → List ℕ → ℕ
named_below zero p = 0
named_below (suc n) p = times_named n p + named_below n p

below_nil : (n : ℕ) → named_below n [] ≡ 0
unfolding named_below times_named
below_nil zero = refl
below_nil (suc n) = omega (arith, below_nil n)

below_cons : (n b : ℕ) (p : List ℕ) → named_below n (b ∷ p) ≡ named_below n (b ∷ []) + named_below n p
unfolding named_below times_named
below_cons zero b p = refl
below_cons (suc n) b p = omega (arith, below_cons n b p)

named_le : (k b : ℕ) → names_it k b ≤ 1
unfolding names_it
named_le k b = by_test (λ t. cond t 1 0 ≤ 1) (eqb (item_of b) k) (λ _. omega arith) (λ _. omega arith)

-- a byte that names a larger item names none below
byte_out : (n b : ℕ) → n ≤ item_of b → named_below n (b ∷ []) ≡ 0
unfolding named_below times_named
byte_out zero b h = refl
byte_out (suc n) b h = omega (arith, byte_out n b (omega arith), (named_is n b (item_of b) refl).1 (λ q. omega arith))

byte_in : (n b : ℕ) → named_below n (b ∷ []) ≤ 1
unfolding named_below times_named
byte_in zero b = omega arith
byte_in (suc n) b =
    by_test (λ _. names_it n b + 0 + named_below n (b ∷ []) ≤ 1) (eqb (item_of b) n)
    (λ t. omega (arith, byte_out n b (omega (arith, eqb-true (item_of b) n t)), named_le n b))
    (λ t. omega (arith, byte_in n b, (named_is n b (item_of b) refl).1 (λ q. eqb-false (item_of b) n t (sym q))))

byte_both : (n k b : ℕ) → n ≤ k → named_below n (b ∷ []) + names_it k b ≤ 1
byte_both n k b h =
    by_test (λ _. named_below n (b ∷ []) + names_it k b ≤ 1) (eqb (item_of b) k)
    (λ t. omega (arith, byte_out n b (omega (arith, eqb-true (item_of b) k t)), named_le k b))
    (λ t. omega (arith, byte_in n b, (named_is k b (item_of b) refl).1 (λ q. eqb-false (item_of b) k t (sym q))))

counts : (n k : ℕ) (p : List ℕ) → n ≤ k → named_below n p + times_named k p ≤ length p
unfolding times_named
counts n k [] h = omega (arith, below_nil n)
counts n k (b ∷ p) h = omega (arith, below_cons n b p, counts n k p h, byte_both n k b h)

all_once : (n : ℕ) (p : List ℕ) → ((k : ℕ) → k < n → times_named k p ≡ 1) → named_below n p ≡ n
unfolding named_below
all_once zero p h = refl
all_once (suc n) p h = omega (arith, h n (omega arith), all_once n p (λ k l. h k (omega arith)))

-- a valid record's path names no item from its depth on
pub names_none : (items : List Item) (page : ℕ) (r : Record) → Valid items page r → (k : ℕ) → r.depth ≤ k → times_named k r.path ≡ 0
names_none items page r v k h = omega (arith, counts r.depth k r.path h, all_once r.depth r.path v.once, v.long)

-- profits are small
pub sum_small : (items : List Item) → ((i : ℕ) → (get_or items i no_item).profit ≤ 1000000) → (p : List ℕ) → sum_taken (λ i. i.profit) items p ≤ 1000000 * length p
unfolding sum_taken share
sum_small items h [] = omega arith
sum_small items h (b ∷ p) =
    by_test (λ t. cond t (get_or items (item_of b) no_item).profit 0 + sum_taken (λ i. i.profit) items p ≤ 1000000 * length (b ∷ p)) (is_take b)
    (λ t. omega (arith, h (item_of b), sum_small items h p))
    (λ t. omega (arith, sum_small items h p))

-- the record's path, then the path up
pub up_valid : (items : List Item) (page : ℕ) (r r' : Record) (n : Node) (up : List ℕ) → ((i : ℕ) → (get_or items i no_item).profit ≤ 1000000) → length items ≤ 64 → Valid items page r → n.depth ≤ length items → PathUp items (root_row r) n up → r'.capacity ≡ n.capacity → r'.value ≡ n.value → r'.depth ≡ n.depth → r'.path ≡ r.path ++ up → Valid items page r'
unfolding fresh root_row
up_valid items page r r' n up small l64 v dn u cq vq dq pq =
    let p = r.path in
    let ln : length (p ++ up) ≡ length p + length up = length-append p up in
    let e = sum_append (λ i. i.profit) items p up in
    let b = sum_small items small (p ++ up) in
    record {
      deep = omega arith;
      long = rw pq (omega (arith, v.long, u.long));
      once = λ k h. rw (pq, names_append k p up)
          (by_test (λ _. times_named k p + times_named k up ≡ 1) (ltb k r.depth)
          (λ t. let q = ltb-true k r.depth t in omega (arith, v.once k q, u.low k q))
          (λ t. let q = ltb-false k r.depth t in omega (arith, names_none items page r v k q, u.once k q (omega arith))));
      weights = rw (pq, sum_append (λ i. counted i.weight) items p up) (omega (arith, v.weights, u.weights));
      profits = rw pq (omega (arith, v.profits, u.profits, v.long, u.long));
    }

-- an exact row's depth is no more than the number of items
pub exact_deep : (items : List Item) (d : Diagram) (r₀ : Node) → Sound items r₀ d → r₀.depth ≤ length items → (y : ℕ) → y < length d.nodes → (node_at d.nodes y).exact ≡ true → (node_at d.nodes y).depth ≤ length items
exact_deep items d r₀ w h zero ln x = omega (arith, w.root.depth_is)
exact_deep items d r₀ w h (suc y) ln x =
    let v = w.traced (suc y) ln (omega arith) (w.pure (suc y) ln x) in
    omega (arith, v.depth, (choice_byte items _ _ _ _ v.choice).deep)

pub valid_small : (items : List Item) (page : ℕ) (r : Record) → ((i : ℕ) → (get_or items i no_item).profit ≤ 1000000) → length items ≤ 64 → Valid items page r → r.value ≤ top
valid_small items page r small l v = omega (arith, v.profits, sum_small items small r.path, v.long, v.deep)
