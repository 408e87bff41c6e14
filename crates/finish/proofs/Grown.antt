-- Every run that is not refused leaves what the steps after its last layer ask for: decisions of one byte, and stored layers within its rows.
use mathlib.Core.Path.{◌≡◌, refl, sym, subst, ◌∙◌}
use mathlib.Core.Bool.{Bool, true, false}
use mathlib.Core.List.{List, [], ◌∷◌, ◌++◌}
use Prim.Native.Nat.{ℕ, zero, suc, ◌-◌, ◌≤◌, ◌<◌}
use native.Mathlib.Decide.{ℕ_discrete}
use native.Mathlib.Omega.{arith}
use lib.ListN.{length, get_or, drop, length-set, length-append, length-drop}
use Rattle.knapsack.specs.Items.{Item, takes, skips}
use Rattle.diagram.specs.Node.{Node, Edge, node_at, edge_at, update, with_fast, with_deleted, as_relaxed}
use Rattle.diagram.specs.Record.{Record}
use Rattle.diagram.specs.Run.{Mode, exactly, restricted, relaxing, Settings, Run}
use Rattle.diagram.specs.Tables.{Diagram, Range, Found, at, nowhere, with_nodes, coming}
use Rattle.diagram.specs.Rule1.{root_only, rooted}
use Rattle.diagram.specs.Rule2.{store, store_empty, store_last, has_rows, expand_squashed, layer_step, ordered, grow, grown}
use Rattle.diagram.specs.Rule3.{branch_take, branch_both, note_fast, expand, expand_all}
use Rattle.diagram.specs.Rule4.{push_edge, add_edge, push_node, child_of, new_child, branch_to, branch_on}
use Rattle.diagram.specs.Rule5.{with_last, squash}
use Rattle.diagram.specs.Rule6.{Squashed, delete_all, restrict, copy_edges, merge_all, squashed, keep_first, merge_into, merge, relax}
use Rattle.layers.specs.declared.Layer.{Layer}
use Rattle.layers.specs.declared.Layers.{Layers}
use Rattle.layers.specs.Layer.{no_layer}
use Rattle.layers.specs.Stored.{first_ones, stored}
use Rattle.theorems.proofs.Holds.{Holds, held, void, then_holds, need_holds, only_holds, SquashHolds, settled, halts, squash_need_holds, squash_if_holds}
use Rattle.finish.specs.Bounds.{Ranged}

-- each of the layers ends at row n or before it
abbrev pub Ends : List Range → ℕ → Type 0
Ends [] n = Unit {0}
Ends (l ∷ ls) n = (l.hi ≤ n) × Ends ls n

pub record Usable (d : Diagram) : Type 0 where
  pub bytes : (e : ℕ) → (edge_at d.edges e).decision < 256
  pub ends : Ends d.layers (length d.nodes)
  pub start_in : d.start ≤ length d.nodes

pub ends_more : (ls : List Range) (n m : ℕ) → n ≤ m → Ends ls n → Ends ls m
ends_more [] n m h e = tt
ends_more (l ∷ ls) n m h e = (omega (arith, e.0), ends_more ls n m h e.1)

more_usable : (d e : Diagram) → Usable d → ((i : ℕ) → (edge_at e.edges i).decision < 256) → e.layers ≡ d.layers → length d.nodes ≤ length e.nodes → e.start ≡ d.start → Usable e
more_usable d e u b l n s =
    record { bytes = b; ends = subst (λ (ls : List Range). Ends ls (length e.nodes)) (sym l) (ends_more d.layers (length d.nodes) (length e.nodes) n u.ends); start_in = omega (arith, u.start_in) }

-- ---- one step

none_bytes : (e : ℕ) → (edge_at [] e).decision < 256
none_bytes zero = omega arith
none_bytes (suc e) = omega arith

one_byte : (es : List Edge) (x : Edge) → ((e : ℕ) → (edge_at es e).decision < 256) → x.decision < 256 → (e : ℕ) → (edge_at (es ++ (x ∷ [])) e).decision < 256
one_byte [] x h l zero = l
one_byte [] x h l (suc e) = none_bytes e
one_byte (y ∷ es) x h l zero = h zero
one_byte (y ∷ es) x h l (suc e) = one_byte es x (λ i. h (suc i)) l e

push_usable : (p c decision cost : ℕ) (d : Diagram) → decision < 256 → Usable d → Usable (push_edge p c decision cost d)
unfolding push_edge
push_usable p c decision cost d l u =
    more_usable d (push_edge p c decision cost d) u (one_byte d.edges _ u.bytes l) refl (rw length-set (omega arith)) refl

node_usable : (n : Node) (d : Diagram) → Usable d → Usable (push_node n d)
unfolding push_node with_nodes
node_usable n d u = more_usable d (push_node n d) u u.bytes refl (simp length-append (omega arith)) refl

update_usable : (f : Node → Node) (r : ℕ) (d : Diagram) → Usable d → Usable (with_nodes d (update f d.nodes r))
unfolding with_nodes
update_usable f r d u = more_usable d (with_nodes d (update f d.nodes r)) u u.bytes refl (rw length-set (omega arith)) refl

last_usable : (d : Diagram) → Usable d → Usable (with_last d)
unfolding with_last
last_usable d u = more_usable d (with_last d) u u.bytes refl (omega arith) refl

store_usable : (d : Diagram) → Usable d → Usable (store d)
unfolding store coming
store_usable d u = record { bytes = u.bytes; ends = (omega arith, u.ends); start_in = omega arith }

empty_usable : (d : Diagram) → Usable d → Usable (store_empty d)
unfolding store_empty
empty_usable d u = record { bytes = u.bytes; ends = (omega arith, u.ends); start_in = u.start_in }

end_usable : (b : Bool) (d : Diagram) → Usable d → Usable (store_last b d)
unfolding store_last coming
end_usable true d u = record { bytes = u.bytes; ends = (omega arith, u.ends); start_in = u.start_in }
end_usable false d u = u

-- ---- the expansion of a layer

branch_usable : (f : Found) (opts : Settings) (p decision cost capacity : ℕ) (d : Diagram) → decision < 256 → Usable d → Holds Usable (branch_to f opts p decision cost capacity d)
unfolding branch_to add_edge new_child
branch_usable (at c) opts p decision cost capacity d l u = need_holds {P = Usable} _ _ _ _ (λ _. held (push_usable p c decision cost d l u))
branch_usable nowhere opts p decision cost capacity d l u =
    need_holds {P = Usable} _ _ _ _ (λ _. need_holds {P = Usable} _ _ _ _ (λ _. need_holds {P = Usable} _ _ _ _
    (λ _. held (push_usable p (length d.nodes) decision cost (push_node (child_of p cost capacity d.nodes) d) l (node_usable (child_of p cost capacity d.nodes) d u)))))

bytes_of : (k : ℕ) → k < 64 → (takes k < 256) × (skips k < 256)
unfolding takes skips
bytes_of k h = (omega arith, omega arith)

expand_usable : (opts : Settings) (left : List Item) (i : Item) (k : ℕ) (d : Diagram) (p : ℕ) → k < 64 → Usable d → Holds Usable (expand opts left i k d p)
unfolding expand branch_both branch_take branch_on note_fast
expand_usable opts left i k d p h u =
    let n = update_usable (with_fast _) p d u in
    let b = bytes_of k h in
    only_holds {P = Usable} _ _ _
    (λ _. then_holds {P = Usable} _ (only_holds {P = Usable} _ _ _ (λ _. branch_usable _ opts p (takes k) i.profit _ _ b.0 n) (λ _. n)) (λ e q. branch_usable _ opts p (skips k) 0 _ e b.1 q))
    (λ _. n)

all_usable : (opts : Settings) (left : List Item) (i : Item) (k : ℕ) (ps : List ℕ) (d : Diagram) → k < 64 → Usable d → Holds Usable (expand_all opts left i k ps d)
unfolding expand_all
all_usable opts left i k [] d h u = held u
all_usable opts left i k (p ∷ ps) d h u = then_holds {P = Usable} _ (expand_usable opts left i k d p h u) (λ e q. all_usable opts left i k ps e h q)

-- ---- the squash

delete_long : (ns : List Node) (rs : List ℕ) → length (delete_all ns rs) ≡ length ns
unfolding delete_all
delete_long ns [] = refl
delete_long ns (r ∷ rs) = delete_long (update (with_deleted true) ns r) rs ∙ length-set ns r (with_deleted true (node_at ns r))

restrict_usable : (opts : Settings) (rows : List ℕ) (d : Diagram) → Usable d → SquashHolds (λ e _. Usable e) (restrict opts rows d)
unfolding restrict with_nodes
restrict_usable opts rows d u =
    let ns = delete_all d.nodes (drop opts.width rows) in
    settled (more_usable d (with_nodes d ns) u u.bytes refl (omega (arith, delete_long d.nodes (drop opts.width rows))) refl)

copy_usable : (opts : Settings) (m : ℕ) (es : List ℕ) (d : Diagram) → Usable d → Holds Usable (copy_edges opts m es d)
unfolding copy_edges add_edge
copy_usable opts m [] d u = held u
copy_usable opts m (e ∷ es) d u =
    then_holds {P = Usable} _ (need_holds {P = Usable} _ _ _ _ (λ _. held (push_usable _ m _ _ d (u.bytes e) u))) (λ d₁ q. copy_usable opts m es d₁ q)

merge_usable : (opts : Settings) (m : ℕ) (rs : List ℕ) (d : Diagram) → Usable d → Holds Usable (merge_all opts m rs d)
unfolding merge_all
merge_usable opts m [] d u = held u
merge_usable opts m (r ∷ rs) d u =
    then_holds {P = Usable} _ (copy_usable opts m _ _ (update_usable (with_deleted true) r d u)) (λ d₁ q. merge_usable opts m rs d₁ q)

squashed_usable : (run : Run) (f : Diagram → Diagram) (rows : List ℕ) → Holds Usable run → ((d : Diagram) → Usable d → Usable (f d)) → SquashHolds (λ e _. Usable e) (squashed run f rows)
unfolding squashed
squashed_usable run f rows (held {d = d} u) k = settled (k d u)
squashed_usable run f rows void k = halts

into_usable : (t : Found) (opts : Settings) (capacity : ℕ) (kept rest : List ℕ) (d : Diagram) → Usable d → SquashHolds (λ e _. Usable e) (merge_into t opts capacity kept rest d)
unfolding merge_into keep_first
into_usable (at m) opts capacity kept rest d u =
    squashed_usable _ _ _ (merge_usable opts m rest _ (update_usable as_relaxed m d u)) (λ e q. update_usable (with_deleted false) (get_or rest 0 0) e q)
into_usable nowhere opts capacity kept rest d u =
    squash_need_holds {P = λ e _. Usable e} _ _ _ _ (squash_need_holds {P = λ e _. Usable e} _ _ _ _ (squashed_usable _ _ _ (merge_usable opts _ rest _ (node_usable _ d u)) (λ e q. q)))

squash_usable : (md : Mode) (opts : Settings) (rows : List ℕ) (d : Diagram) → Usable d → SquashHolds (λ e _. Usable e) (squash md opts rows d)
unfolding squash relax merge
squash_usable exactly opts rows d u = settled u
squash_usable restricted opts rows d u = squash_if_holds {P = λ e _. Usable e} _ _ _ (λ _. restrict_usable opts _ (with_last d) (last_usable d u)) (λ _. settled u)
squash_usable relaxing opts rows d u = squash_if_holds {P = λ e _. Usable e} _ _ _ (λ _. into_usable _ opts _ _ _ (with_last d) (last_usable d u)) (λ _. settled u)

-- ---- the growth

layer_usable : (opts : Settings) (left : List Item) (i : Item) (k : ℕ) (x : Squashed) → k < 64 → SquashHolds (λ e _. Usable e) x → Holds Usable (expand_squashed x opts left i k)
unfolding expand_squashed
layer_usable opts left i k x h (settled {d = d} {l = l} u) = all_usable opts left i k l (store d) h (store_usable d u)
layer_usable opts left i k x h halts = void

grow_usable : (opts : Settings) (left : List Item) (k : ℕ) (d : Diagram) → length left ≤ 64 - k → Usable d → Holds Usable (grow opts left k d)
unfolding grow layer_step
grow_usable opts [] k d h u = held (end_usable (has_rows d) d u)
grow_usable opts (i ∷ is) k d h u =
    only_holds {P = Usable} _ _ _
    (λ _. then_holds {P = Usable} _ (layer_usable opts (i ∷ is) i k _ (omega arith) (squash_usable opts.mode opts (ordered d) d u)) (λ e q. grow_usable opts is (suc k) e (omega arith) q))
    (λ _. empty_usable d u)

root_usable : (r : Record) → Usable (root_only r)
unfolding root_only
root_usable r = record { bytes = none_bytes; ends = tt; start_in = omega arith }

-- The law: with 64 items at most.
pub grown_usable : (opts : Settings) (items : List Item) (r : Record) → length items ≤ 64 → Holds Usable (grown opts items r)
unfolding grown rooted
grown_usable opts items r h =
    then_holds {P = Usable} _ (need_holds {P = Usable} _ _ _ _ (λ _. held (root_usable r)))
    (λ d u. grow_usable opts (drop r.depth items) r.depth d (omega (arith, length-drop r.depth items)) u)

-- ---- the stored layers, as the code holds them

ranged_in : (rows : List Layer) (c n : ℕ) → Ends (first_ones rows c) n → (i : ℕ) → i < c → (get_or rows i no_layer).to ≤ n
unfolding first_ones
ranged_in rows zero n e i h = absurd (omega arith)
ranged_in rows (suc c) n e i h = elim (ℕ_discrete i c) [
  | yes q ↦ subst (λ (j : ℕ). (get_or rows j no_layer).to ≤ n) (sym q) e.0
  | no q ↦ ranged_in rows c n e.1 i (omega arith)
]

pub ranged_of : (l : Layers) (d : Diagram) → Usable d → stored l ≡ d.layers → Ranged l (length d.nodes)
unfolding stored
ranged_of l d u q = record { ends = ranged_in l.rows l.count (length d.nodes) (subst (λ (ls : List Range). Ends ls (length d.nodes)) (sym q) u.ends) }
