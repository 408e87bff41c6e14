-- A run of an expansion as a trail of legal moves: a noted bound, an edge to a row of the coming layer, a new row with its edge.
-- Every invariant of the expansion is then kept by three moves.
use mathlib.Core.Path.{◌≡◌, refl, ap, ◌∙◌}
use mathlib.Core.Bool.{Bool, cond}
use mathlib.Core.List.{List, [], ◌∷◌}
use Prim.Native.Nat.{ℕ, ◌+◌, ◌-◌, ◌≤◌, ◌<◌}
use native.Mathlib.Omega.{arith}
use lib.Dec.{leb}
use lib.ListN.{length, length-append, get_or-append, drop, length-set}
use lib.Seq.{get_or-set_same, get_or-set_other}
use borrow.Author.Tests.{leb-true}
use Rattle.words.specs.I64.{mid}
use Rattle.knapsack.specs.FastBound.{fast_bound}
use Rattle.knapsack.specs.Items.{Item, counted, takes, skips}
use Rattle.knapsack.proofs.Cases.{by_test}
use Rattle.diagram.specs.Node.{Node, no_node, no_edge, node_at, edge_at, entered, with_fast}
use Rattle.diagram.specs.Rule3.{note_fast}
use Rattle.diagram.specs.Rule4.{receive, landed, push_edge, lookup, push_node, child_of}
use Rattle.diagram.specs.Tables.{Diagram, nowhere, with_nodes}
use Rattle.theorems.proofs.Rows.{update_at}

-- a legal decision of cost c from node n: it leads to a state of that capacity
pub data Choice (items : List Item) (n : Node) (decision c capacity : ℕ) : Type 0 where
  by_skip : n.depth < length items → decision ≡ skips n.depth → c ≡ 0 → capacity ≡ n.capacity → Choice items n decision c capacity
  by_take : (i : Item) (is : List Item) → drop n.depth items ≡ i ∷ is → counted i.weight ≤ n.capacity → decision ≡ takes n.depth → c ≡ i.profit → capacity ≡ n.capacity - counted i.weight → Choice items n decision c capacity

-- the three moves of an expansion of a layer of depth k: row s, before the coming layer, gets its fast bound; an edge goes from row s to row t of the
-- coming layer; a new row comes with its edge from row s
pub data Move (items : List Item) (k : ℕ) (d : Diagram) : Diagram → Type 0 where
  note : (s : ℕ) → s < d.start → d.start ≤ length d.nodes → Move items k d (note_fast (drop (node_at d.nodes s).depth items) s d)
  edge : (s t decision c : ℕ) → s < d.start → (node_at d.nodes s).depth ≡ k → d.start ≤ t → t < length d.nodes → Choice items (node_at d.nodes s) decision c (node_at d.nodes t).capacity → Move items k d (push_edge s t decision c d)
  child : (s decision c capacity : ℕ) → s < d.start → (node_at d.nodes s).depth ≡ k → d.start ≤ length d.nodes → Choice items (node_at d.nodes s) decision c capacity → lookup capacity (drop d.start d.nodes) d.start ≡ nowhere → Move items k d (push_edge s (length d.nodes) decision c (push_node (child_of s c capacity d.nodes) d))

-- moves one after the other
pub data Trail (items : List Item) (k : ℕ) (d : Diagram) : Diagram → Type 0 where
  here : Trail items k d d
  step : {e f : Diagram} → Trail items k d e → Move items k e f → Trail items k d f

pub trail_trans : {items : List Item} {k : ℕ} {d e f : Diagram} → Trail items k d e → Trail items k e f → Trail items k d f
trail_trans a here = a
trail_trans a (step b m) = step (trail_trans a b) m

-- what is kept by each move is kept
pub trail_keeps : {items : List Item} {k : ℕ} (P : Diagram → Type 0) → ((d e : Diagram) → Move items k d e → P d → P e) → {d e : Diagram} → Trail items k d e → P d → P e
trail_keeps P k here p = p
trail_keeps P k (step {e = e} {f = f} t m) p = k e f m (trail_keeps P k t p)

-- all of a row but its fast bound
unfoldable pub core : Node → Node
core n = record { capacity = n.capacity; depth = n.depth; value = n.value; bottom = n.bottom; best = n.best; newest = n.newest; fast = 0; exact = n.exact; relaxed = n.relaxed; marked = n.marked; cutset = n.cutset; deleted = n.deleted }

-- the fast bound was set
abbrev pub Noted : List Item → Node → Type 0
Noted items n = n.fast ≡ mid + fast_bound (drop n.depth items) n.capacity

-- what an edge more leaves of a row: its value may rise
pub record Rise (a b : Node) : Type 0 where
  pub capacity_is : b.capacity ≡ a.capacity
  pub depth_is : b.depth ≡ a.depth
  pub deleted_is : b.deleted ≡ a.deleted
  pub cutset_is : b.cutset ≡ a.cutset
  pub value_up : a.value ≤ b.value

pub rise_refl : (a : Node) → Rise a a
rise_refl a = record { capacity_is = refl; depth_is = refl; deleted_is = refl; cutset_is = refl; value_up = omega arith }

pub rise_trans : {a b c : Node} → Rise a b → Rise b c → Rise a c
rise_trans p q = record { capacity_is = q.capacity_is ∙ p.capacity_is; depth_is = q.depth_is ∙ p.depth_is; deleted_is = q.deleted_is ∙ p.deleted_is; cutset_is = q.cutset_is ∙ p.cutset_is; value_up = omega arith }

-- from tables to later ones, while the same layer is coming: stored rows keep all but their fast bound, the coming layer's rows rise, edges stay
pub record Later (items : List Item) (d e : Diagram) : Type 0 where
  pub begins : e.start ≡ d.start
  pub layers_are : e.layers ≡ d.layers
  pub last_is : e.last ≡ d.last
  pub old : (r : ℕ) → r < d.start → core (node_at e.nodes r) ≡ core (node_at d.nodes r)
  pub noted : (r : ℕ) → r < d.start → Noted items (node_at d.nodes r) → Noted items (node_at e.nodes r)
  pub rises : (r : ℕ) → r < length d.nodes → Rise (node_at d.nodes r) (node_at e.nodes r)
  pub longer : length d.nodes ≤ length e.nodes
  pub more : length d.edges ≤ length e.edges
  pub edges_are : (k : ℕ) → k < length d.edges → edge_at e.edges k ≡ edge_at d.edges k

pub later_refl : (items : List Item) (d : Diagram) → Later items d d
later_refl items d = record { begins = refl; layers_are = refl; last_is = refl; old = λ r h. refl; noted = λ r h n. n; rises = λ r h. rise_refl _; longer = omega arith; more = omega arith; edges_are = λ k h. refl }

pub later_trans : (items : List Item) (d e f : Diagram) → Later items d e → Later items e f → Later items d f
later_trans items d e f a b =
    record {
      begins = b.begins ∙ a.begins;
      layers_are = b.layers_are ∙ a.layers_are;
      last_is = b.last_is ∙ a.last_is;
      old = λ r h. b.old r (omega arith) ∙ a.old r h;
      noted = λ r h n. b.noted r (omega arith) (a.noted r h n);
      rises = λ r h. rise_trans (a.rises r h) (b.rises r (omega arith));
      longer = omega arith;
      more = omega arith;
      edges_are = λ k h. b.edges_are k (omega arith) ∙ a.edges_are k h;
    }

receive_rise : (e : ℕ) (px : Bool) (v : ℕ) (n : Node) → Rise n (receive e px v n)
unfolding receive entered
receive_rise e px v n =
    record { capacity_is = refl; depth_is = refl; deleted_is = refl; cutset_is = refl; value_up = by_test (λ b. n.value ≤ cond b v n.value) (leb n.value v) (λ h. leb-true _ _ h) (λ h. omega arith) }

pub landed_rise : (s c : ℕ) (d : Diagram) (n : Node) → Rise n (landed d.nodes d.edges s c n)
unfolding landed
landed_rise s c d n = receive_rise _ _ _ n

pub push_later : (items : List Item) (s t decision c : ℕ) (d : Diagram) → d.start ≤ t → t < length d.nodes → Later items d (push_edge s t decision c d)
unfolding push_edge
push_later items s t decision c d l h =
    record {
      begins = refl;
      layers_are = refl;
      last_is = refl;
      old = λ r k. ap core (get_or-set_other d.nodes t r (landed d.nodes d.edges s c (node_at d.nodes t)) no_node (omega arith));
      noted = λ r k n. rw (get_or-set_other d.nodes t r (landed d.nodes d.edges s c (node_at d.nodes t)) no_node (omega arith)) n;
      rises = λ r k. update_at (λ n. Rise (node_at d.nodes r) n) (landed d.nodes d.edges s c) d.nodes t r h (λ e. rw e (landed_rise s c d _)) (λ e. rise_refl _);
      longer = rw length-set (omega arith);
      more = simp length-append (omega arith);
      edges_are = λ k q. get_or-append d.edges _ no_edge k q;
    }

pub node_later : (items : List Item) (n : Node) (d : Diagram) → d.start ≤ length d.nodes → Later items d (push_node n d)
unfolding push_node with_nodes
node_later items n d h =
    record {
      begins = refl;
      layers_are = refl;
      last_is = refl;
      old = λ r k. ap core (get_or-append d.nodes (n ∷ []) no_node r (omega arith));
      noted = λ r k m. rw (get_or-append d.nodes (n ∷ []) no_node r (omega arith)) m;
      rises = λ r k. rw (get_or-append d.nodes (n ∷ []) no_node r k) (rise_refl _);
      longer = simp length-append (omega arith);
      more = omega arith;
      edges_are = λ k q. refl;
    }

with_fast_rise : (b : ℕ) (n : Node) → Rise n (with_fast b n)
unfolding with_fast
with_fast_rise b n = record { capacity_is = refl; depth_is = refl; deleted_is = refl; cutset_is = refl; value_up = omega arith }

with_fast_core : (b : ℕ) (n : Node) → core (with_fast b n) ≡ core n
unfolding with_fast core
with_fast_core b n = refl

with_fast_noted : (items : List Item) (n : Node) → Noted items (with_fast (mid + fast_bound (drop n.depth items) n.capacity) n)
unfolding with_fast
with_fast_noted items n = refl

pub note_later : (items : List Item) (s : ℕ) (d : Diagram) → s < length d.nodes → Later items d (note_fast (drop (node_at d.nodes s).depth items) s d)
unfolding note_fast with_nodes
note_later items s d h =
    record {
      begins = refl;
      layers_are = refl;
      last_is = refl;
      old = λ r k. update_at (λ n. core n ≡ core (node_at d.nodes r)) (with_fast _) d.nodes s r h (λ e. rw e (with_fast_core _ _)) (λ e. refl);
      noted = λ r k m. update_at (λ n. Noted items n) (with_fast _) d.nodes s r h (λ e. with_fast_noted items (node_at d.nodes s)) (λ e. m);
      rises = λ r k. update_at (λ n. Rise (node_at d.nodes r) n) (with_fast _) d.nodes s r h (λ e. rw e (with_fast_rise _ _)) (λ e. rise_refl _);
      longer = rw length-set (omega arith);
      more = omega arith;
      edges_are = λ k q. refl;
    }

pub note_noted : (items : List Item) (s : ℕ) (d : Diagram) → s < length d.nodes → Noted items (node_at (note_fast (drop (node_at d.nodes s).depth items) s d).nodes s)
unfolding note_fast with_nodes
note_noted items s d h = rw (get_or-set_same d.nodes s _ no_node h) (with_fast_noted items (node_at d.nodes s))

pub child_later : (items : List Item) (s decision c capacity : ℕ) (d : Diagram) → d.start ≤ length d.nodes → Later items d (push_edge s (length d.nodes) decision c (push_node (child_of s c capacity d.nodes) d))
unfolding push_node with_nodes
child_later items s decision c capacity d h =
    let g = node_later items (child_of s c capacity d.nodes) d h in
    later_trans items d (push_node (child_of s c capacity d.nodes) d) _ g (push_later items s (length d.nodes) decision c (push_node (child_of s c capacity d.nodes) d) h (simp length-append (omega arith)))

pub move_later : (items : List Item) {k : ℕ} (d e : Diagram) → Move items k d e → Later items d e
move_later items d e (note s h l) = note_later items s d (omega arith)
move_later items d e (edge s t decision c h q l k ch) = push_later items s t decision c d l k
move_later items d e (child s decision c capacity h q l ch n) = child_later items s decision c capacity d l

-- every trail leads to later tables
pub trail_later : (items : List Item) {k : ℕ} {d e : Diagram} → Trail items k d e → Later items d e
trail_later items {d} t = trail_keeps (λ e. Later items d e) (λ e f m g. later_trans items d e f g (move_later items e f m)) t (later_refl items d)
