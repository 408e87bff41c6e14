-- Refusal 10 comes in exact mode alone: a relaxed or restricted run of width 256 at most never makes a 1,025th node in one layer.
use mathlib.Core.Path.{◌≡◌, refl, ap, ◌∙◌}
use mathlib.Core.Bool.{Bool, true, false}
use mathlib.Core.List.{List, [], ◌∷◌}
use mathlib.Core.Logic.{⊎_elim, ◌≢◌}
use Prim.Native.Nat.{ℕ, suc, ◌+◌, ◌-◌, ◌≤◌, ◌<◌, ◌*◌, max}
use native.Mathlib.Omega.{arith}
use lib.Dec.{eqb, ltb}
use lib.ListN.{length, get_or, length-append, drop, length-set, length-take}
use borrow.Author.Tests.{eqb-true, ltb-true, ltb-false, eqb-false}
use Rattle.knapsack.specs.Items.{Item, takes, skips}
use Rattle.knapsack.proofs.Cases.{by_test}
use Rattle.diagram.specs.Node.{Node, update, with_deleted, as_relaxed}
use Rattle.diagram.specs.Record.{Record}
use Rattle.diagram.specs.Rule1.{root_only, rooted}
use Rattle.diagram.specs.Rule2.{ordered, store, expand_squashed, layer_step, grow, grown}
use Rattle.diagram.specs.Rule3.{branch_take, branch_both, note_fast, expand, expand_all}
use Rattle.diagram.specs.Rule4.{push_edge, add_edge, lookup, push_node, child_of, new_child, branch_to, branch_on}
use Rattle.diagram.specs.Rule5.{with_last, squash_if, squash}
use Rattle.diagram.specs.Rule6.{Squashed, layer, halted, restrict, copy_edges, merge_all, squashed, squash_need, keep_first, merge_into, relax, merge}
use Rattle.diagram.specs.Run.{Mode, exactly, restricted, relaxing, Settings, Run, going, stopped, and_then, need, only_if, layer_room}
use Rattle.diagram.specs.Tables.{Range, Diagram, Found, at, nowhere, with_nodes, coming, inbound}
use Rattle.theorems.proofs.Bool.{and_true, either_false}
use Rattle.theorems.proofs.Sort.{ordered_length}

-- P of the tables where the run goes on; where it stopped, the number isn't 10
pub data Safe (P : Diagram → Type 0) : Run → Type 0 where
  goes : {d : Diagram} → P d → Safe P (going d)
  other : {n : ℕ} {d : Diagram} → n ≢ 10 → Safe P (stopped n d)

then_safe : {P Q : Diagram → Type 0} {x : Run} (f : Diagram → Run) → Safe P x → ((d : Diagram) → P d → Safe Q (f d)) → Safe Q (and_then x f)
then_safe f (goes {d = d} p) k = k d p
then_safe f (other h) k = other h

need_safe : {P : Diagram → Type 0} (b : Bool) (n : ℕ) (d : Diagram) (x : Run) → (b ≡ false → n ≢ 10) → Safe P x → Safe P (need b n d x)
unfolding need
need_safe true n d x h a = a
need_safe false n d x h a = other (h refl)

only_safe : {P : Diagram → Type 0} (b : Bool) (x : Run) (d : Diagram) → (b ≡ true → Safe P x) → P d → Safe P (only_if b x d)
unfolding only_if
only_safe true x d a p = a refl
only_safe false x d a p = goes p

safe_map : {P Q : Diagram → Type 0} {x : Run} → ((d : Diagram) → P d → Q d) → Safe P x → Safe Q x
safe_map f (goes {d = d} p) = goes (f d p)
safe_map f (other h) = other h

-- the coming layer has n rows at most, and the stored layers are ls
record Small (ls : List Range) (n : ℕ) (d : Diagram) : Type 0 where
  few : length d.nodes ≤ d.start + n
  layers_are : d.layers ≡ ls

small_more : (ls : List Range) (n m : ℕ) (d : Diagram) → n ≤ m → Small ls n d → Small ls m d
small_more ls n m d h s = record { few = omega (arith, s.few); layers_are = s.layers_are }

push_small : (ls : List Range) (n p c decision cost : ℕ) (d : Diagram) → Small ls n d → Small ls n (push_edge p c decision cost d)
unfolding push_edge
push_small ls n p c decision cost d s = record { few = rw length-set s.few; layers_are = s.layers_are }

node_small : (ls : List Range) (n : ℕ) (x : Node) (d : Diagram) → Small ls n d → Small ls (suc n) (push_node x d)
unfolding push_node with_nodes
node_small ls n x d s = record { few = simp length-append (omega (arith, s.few)); layers_are = s.layers_are }

note_small : (ls : List Range) (n : ℕ) (left : List Item) (p : ℕ) (d : Diagram) → Small ls n d → Small ls n (note_fast left p d)
unfolding note_fast with_nodes
note_small ls n left p d s = record { few = rw length-set s.few; layers_are = s.layers_are }

not_ten : (n : ℕ) → 10 < n → n ≢ 10
not_ten n h e = omega arith

-- ---- an expansion adds two rows at most

add_safe : (P : Diagram → Type 0) (opts : Settings) (p c decision cost : ℕ) (d : Diagram) → P (push_edge p c decision cost d) → Safe P (add_edge opts p c decision cost d)
unfolding add_edge
add_safe P opts p c decision cost d q = need_safe _ _ _ _ (λ _. not_ten 12 (omega arith)) (goes q)

branch_to_safe : (f : Found) (opts : Settings) (ls : List Range) (n p decision cost capacity : ℕ) (d : Diagram) → n < layer_room → Small ls n d → Safe (Small ls (suc n)) (branch_to f opts p decision cost capacity d)
unfolding branch_to new_child
branch_to_safe (at c) opts ls n p decision cost capacity d h s = add_safe (Small ls (suc n)) opts p c decision cost d (push_small ls (suc n) p c decision cost d (small_more ls n (suc n) d (omega arith) s))
branch_to_safe nowhere opts ls n p decision cost capacity d h s =
    need_safe _ _ _ _ (λ e. absurd (omega (arith, s.few, ltb-false (length d.nodes - d.start) layer_room e)))
    (need_safe _ _ _ _ (λ _. not_ten 11 (omega arith)) (need_safe _ _ _ _ (λ _. not_ten 12 (omega arith))
    (goes (push_small ls (suc n) p (length d.nodes) decision cost (push_node (child_of p cost capacity d.nodes) d) (node_small ls n (child_of p cost capacity d.nodes) d s)))))

branch_safe : (opts : Settings) (ls : List Range) (n p decision cost capacity : ℕ) (d : Diagram) → n < layer_room → Small ls n d → Safe (Small ls (suc n)) (branch_on opts p decision cost capacity d)
unfolding branch_on
branch_safe opts ls n p decision cost capacity d h s = branch_to_safe (lookup capacity (drop d.start d.nodes) d.start) opts ls n p decision cost capacity d h s

expand_safe : (opts : Settings) (ls : List Range) (n : ℕ) (left : List Item) (i : Item) (k : ℕ) (d : Diagram) (p : ℕ) → suc n < layer_room → Small ls n d → Safe (Small ls (suc (suc n))) (expand opts left i k d p)
unfolding expand branch_both branch_take
expand_safe opts ls n left i k d p h s =
    let s₀ = note_small ls n left p d s in
    only_safe _ _ _
    (λ _. then_safe {P = Small ls (suc n)} _ (only_safe _ _ _ (λ _. branch_safe opts ls n p (takes k) i.profit _ (note_fast left p d) (omega arith) s₀) (small_more ls n (suc n) _ (omega arith) s₀))
    (λ e q. branch_safe opts ls (suc n) p (skips k) 0 _ e h q))
    (small_more ls n (suc (suc n)) _ (omega arith) s₀)

all_safe : (opts : Settings) (ls : List Range) (n : ℕ) (left : List Item) (i : Item) (k : ℕ) (ps : List ℕ) (d : Diagram) → n + 2 * length ps ≤ layer_room → Small ls n d → Safe (Small ls (n + 2 * length ps)) (expand_all opts left i k ps d)
unfolding expand_all
all_safe opts ls n left i k [] d h s = goes (small_more ls n _ d (omega arith) s)
all_safe opts ls n left i k (p ∷ ps) d h s =
    then_safe _ (expand_safe opts ls n left i k d p (omega arith) s)
    (λ e q. safe_map (λ f z. small_more ls _ _ f (omega arith) z) (all_safe opts ls (suc (suc n)) left i k ps e (omega arith) q))

-- ---- a merge stops with 12 alone

abbrev Stored : List Range → Diagram → Type 0
Stored ls d = d.layers ≡ ls

push_layers : (p c decision cost : ℕ) (d : Diagram) → (push_edge p c decision cost d).layers ≡ d.layers
unfolding push_edge
push_layers p c decision cost d = refl

copy_safe : (opts : Settings) (ls : List Range) (m : ℕ) (es : List ℕ) (d : Diagram) → Stored ls d → Safe (Stored ls) (copy_edges opts m es d)
unfolding copy_edges
copy_safe opts ls m [] d s = goes s
copy_safe opts ls m (e ∷ es) d s = then_safe {P = Stored ls} _ (add_safe (Stored ls) opts _ m _ _ d (push_layers _ _ _ _ d ∙ s)) (λ f q. copy_safe opts ls m es f q)

merge_safe : (opts : Settings) (ls : List Range) (m : ℕ) (rs : List ℕ) (d : Diagram) → Stored ls d → Safe (Stored ls) (merge_all opts m rs d)
unfolding merge_all with_nodes
merge_safe opts ls m [] d s = goes s
merge_safe opts ls m (r ∷ rs) d s = then_safe {P = Stored ls} _ (copy_safe opts ls m (inbound d.edges r) (with_nodes d (update (with_deleted true) d.nodes r)) s) (λ f q. merge_safe opts ls m rs f q)

-- what a squash leaves: w rows to expand at most
pub data SafeSquash (ls : List Range) (w : ℕ) : Squashed → Type 0 where
  leaves : {d : Diagram} {l : List ℕ} → d.layers ≡ ls → length l ≤ w → SafeSquash ls w (layer d l)
  ends : {n : ℕ} {d : Diagram} → n ≢ 10 → SafeSquash ls w (halted n d)

squash_need_safe : {ls : List Range} {w : ℕ} (b : Bool) (n : ℕ) (d : Diagram) (x : Squashed) → (b ≡ false → n ≢ 10) → SafeSquash ls w x → SafeSquash ls w (squash_need b n d x)
unfolding squash_need
squash_need_safe true n d x h a = a
squash_need_safe false n d x h a = ends (h refl)

squashed_safe : (ls : List Range) (w : ℕ) (x : Run) (f : Diagram → Diagram) (l : List ℕ) → ((d : Diagram) → (f d).layers ≡ d.layers) → length l ≤ w → Safe (Stored ls) x → SafeSquash ls w (squashed x f l)
unfolding squashed
squashed_safe ls w x f l k h (goes {d = d} s) = leaves (k d ∙ s) h
squashed_safe ls w x f l k h (other n) = ends n

keep_layers : (r : ℕ) (d : Diagram) → (keep_first r d).layers ≡ d.layers
unfolding keep_first with_nodes
keep_layers r d = refl

node_layers : (x : Node) (d : Diagram) → (push_node x d).layers ≡ d.layers
unfolding push_node with_nodes
node_layers x d = refl

relaxed_layers : (m : ℕ) (d : Diagram) → (with_nodes d (update as_relaxed d.nodes m)).layers ≡ d.layers
unfolding with_nodes
relaxed_layers m d = refl

into_safe : (f : Found) (opts : Settings) (ls : List Range) (w n capacity : ℕ) (kept rest : List ℕ) (d : Diagram) → n < layer_room → Small ls n d → length kept + 1 ≤ w → SafeSquash ls w (merge_into f opts capacity kept rest d)
unfolding merge_into
into_safe (at m) opts ls w n capacity kept rest d h s c =
    squashed_safe ls w _ (keep_first (get_or rest 0 0)) _ (keep_layers (get_or rest 0 0)) (simp length-append (omega arith)) (merge_safe opts ls m rest _ (relaxed_layers m d ∙ s.layers_are))
into_safe nowhere opts ls w n capacity kept rest d h s c =
    squash_need_safe _ _ _ _ (λ e. absurd (omega (arith, s.few, ltb-false (length d.nodes - d.start) layer_room e)))
    (squash_need_safe _ _ _ _ (λ _. not_ten 11 (omega arith))
    (squashed_safe ls w _ (λ e. e) _ (λ d. refl) (simp length-append (omega arith)) (merge_safe opts ls (length d.nodes) rest _ (node_layers _ d ∙ s.layers_are))))

last_small : (ls : List Range) (n : ℕ) (d : Diagram) → Small ls n d → Small ls n (with_last d)
unfolding with_last
last_small ls n d s = record { few = s.few; layers_are = s.layers_are }

delete_layers : (d : Diagram) (ns : List Node) → (with_nodes (with_last d) ns).layers ≡ d.layers
unfolding with_nodes with_last
delete_layers d ns = refl

either_safe : {ls : List Range} {w : ℕ} (b : Bool) (x y : Squashed) → (b ≡ true → SafeSquash ls w x) → (b ≡ false → SafeSquash ls w y) → SafeSquash ls w (squash_if b x y)
unfolding squash_if
either_safe true x y p q = p refl
either_safe false x y p q = q refl

-- the rows to expand are w at most: where the layer is wide, where it isn't, and in the two layers that a relaxed run never squashes
squash_safe : (m : Mode) → m ≢ exactly → (opts : Settings) (ls : List Range) (w n : ℕ) (d : Diagram) → n < layer_room → Small ls n d → (opts.width < length (ordered d) → (opts.width ≤ w) × (1 ≤ w)) → (length (ordered d) ≤ opts.width → length (ordered d) ≤ w) → (length ls ≤ 1 → length (ordered d) ≤ w) → SafeSquash ls w (squash m opts (ordered d) d)
unfolding squash restrict relax merge
squash_safe exactly ne opts ls w n d hn s wide narrow early = absurd (ne refl)
squash_safe restricted ne opts ls w n d hn s wide narrow early =
    either_safe _ _ _
    (λ t. let z = wide (ltb-true _ _ t) in leaves (delete_layers d _ ∙ s.layers_are) (simp length-take (omega arith)))
    (λ t. leaves s.layers_are (narrow (ltb-false opts.width (length (ordered d)) t)))
squash_safe relaxing ne opts ls w n d hn s wide narrow early =
    either_safe _ _ _
    (λ t. let z = wide (ltb-true _ _ (and_true _ _ t)) in into_safe _ opts ls w n _ _ _ (with_last d) hn (last_small ls n d s) (simp length-take (omega arith)))
    (λ t. leaves s.layers_are
    (⊎_elim
    (λ u. narrow (ltb-false opts.width (length (ordered d)) u))
    (λ u. early (omega (arith, ltb-false 1 (length d.layers) u, ap (length {A = Range}) s.layers_are)))
    (either_false (ltb opts.width (length (ordered d))) (ltb 1 (length d.layers)) t)))

-- ---- layer by layer

-- 2 w rows at most in the coming layer; one in the first, two in the second
pub record Narrow (w : ℕ) (d : Diagram) : Type 0 where
  pub all : length d.nodes ≤ d.start + 2 * w
  pub first : length d.layers ≡ 0 → length d.nodes ≤ d.start + 1
  pub second : length d.layers ≤ 1 → length d.nodes ≤ d.start + 2

store_small : (ls : List Range) (d : Diagram) → d.layers ≡ ls → Small (coming d ∷ ls) 0 (store d)
unfolding store
store_small ls d e = record { few = omega arith; layers_are = ap (λ (q : List Range). coming d ∷ q) e }

squashed_narrow : (opts : Settings) (ls : List Range) (w n : ℕ) (x : Squashed) (left : List Item) (i : Item) (k : ℕ) → n ≤ w → w ≤ 256 → (length ls ≡ 0 → n ≤ 1) → SafeSquash ls n x → Safe (Narrow w) (expand_squashed x opts left i k)
unfolding expand_squashed
squashed_narrow opts ls w n x left i k h hw h0 (leaves {d = d} {l = l} e c) =
    safe_map
    (λ f z. let ln = ap (length {A = Range}) z.layers_are in
    record { all = omega (arith, z.few); first = λ q. absurd (omega arith); second = λ q. omega (arith, z.few, h0 (omega arith)) })
    (all_safe opts (coming d ∷ ls) 0 left i k l (store d) (omega arith) (store_small ls d e))
squashed_narrow opts ls w n x left i k h hw h0 (ends z) = other z

-- the rows to expand are w at most
pub squash_narrow : (opts : Settings) (w : ℕ) (d : Diagram) → opts.mode ≢ exactly → opts.width ≤ w → 2 ≤ w → w ≤ 256 → Narrow w d → SafeSquash d.layers w (squash opts.mode opts (ordered d) d)
squash_narrow opts w d ne hw h2 h256 s =
    let ol = ordered_length d in
    squash_safe opts.mode ne opts d.layers w (2 * w) d (omega arith) (record { few = s.all; layers_are = refl }) (λ q. (hw, omega arith)) (λ q. omega arith) (λ q. omega (arith, s.second q))

-- one of the first layer, two of the second, w of any other
pub step_narrow : (opts : Settings) (w : ℕ) (left : List Item) (i : Item) (k : ℕ) (d : Diagram) → opts.mode ≢ exactly → opts.width ≤ w → 2 ≤ w → w ≤ 256 → Narrow w d → Safe (Narrow w) (layer_step opts left i k d)
unfolding layer_step
step_narrow opts w left i k d ne hw h2 h256 s =
    let ol = ordered_length d in
    by_test (λ _. Safe (Narrow w) (expand_squashed (squash opts.mode opts (ordered d) d) opts left i k)) (eqb (length d.layers) 0)
    (λ t. let f = s.first (eqb-true (length d.layers) 0 t) in
    squashed_narrow opts d.layers w 1 _ left i k (omega arith) h256 (λ _. omega arith)
    (squash_safe opts.mode ne opts d.layers 1 (2 * w) d (omega arith) (record { few = s.all; layers_are = refl }) (λ q. (omega arith, omega arith)) (λ q. omega arith) (λ q. omega arith)))
    (λ t. squashed_narrow opts d.layers w w _ left i k (omega arith) h256 (λ q. absurd (eqb-false (length d.layers) 0 t q))
    (squash_narrow opts w d ne hw h2 h256 s))

grow_safe : (opts : Settings) (w : ℕ) (is : List Item) (k : ℕ) (d : Diagram) → opts.mode ≢ exactly → opts.width ≤ w → 2 ≤ w → w ≤ 256 → Narrow w d → Safe (λ _. Unit {0}) (grow opts is k d)
unfolding grow
grow_safe opts w [] k d ne hw h2 h256 s = goes tt
grow_safe opts w (i ∷ is) k d ne hw h2 h256 s =
    only_safe _ _ _ (λ _. then_safe _ (step_narrow opts w (i ∷ is) i k d ne hw h2 h256 s) (λ e q. grow_safe opts w is (suc k) e ne hw h2 h256 q)) tt

pub root_narrow : (w : ℕ) (r : Record) → 2 ≤ w → Narrow w (root_only r)
unfolding root_only
root_narrow w r h = record { all = omega arith; first = λ _. omega arith; second = λ _. omega arith }

safe_stops : {x : Run} (d : Diagram) → Safe (λ _. Unit {0}) x → x ≡ stopped 10 d → ⊥
safe_stops d (goes p) e = let z : ◌≡◌ {A = ℕ} 0 1 = cc in omega arith
safe_stops d (other {n = n} h) e = let z : n ≡ 10 = cc in h z

-- A relaxed or restricted run of width 256 at most is never refused by 10.
pub never_ten : (opts : Settings) (items : List Item) (r : Record) (d : Diagram) → opts.mode ≢ exactly → opts.width ≤ 256 → grown opts items r ≡ stopped 10 d → ⊥
unfolding grown rooted
never_ten opts items r d ne hw e =
    let w = max opts.width 2 in
    safe_stops d
    (then_safe {P = Narrow w} _ (need_safe _ _ _ _ (λ _. not_ten 11 (omega arith)) (goes (root_narrow w r (omega arith)))) (λ x q. grow_safe opts w (drop r.depth items) r.depth x ne (omega arith) (omega arith) (omega arith) q)) e
