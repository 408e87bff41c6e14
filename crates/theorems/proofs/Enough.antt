-- How many rows a relaxed run needs at most: lent so many it is never refused, and it drains no more records than it has node rows.
use mathlib.Core.Path.{◌≡◌, refl, sym, ap, subst, ◌∙◌}
use mathlib.Core.Bool.{Bool, true, false, cond}
use mathlib.Core.List.Permᴰ
use mathlib.Core.List.{List, [], ◌∷◌, ◌++◌, Memᴰ}
use mathlib.Core.Logic.{◌≢◌}
use Prim.Native.Nat.{ℕ, zero, suc, ◌+◌, ◌-◌, ◌≤◌, ◌<◌, ◌*◌, max}
use native.Mathlib.Decide.{ℕ_discrete}
use native.Mathlib.Nat.{suc-mul, mul-le-mul}
use native.Mathlib.Omega.{arith}
use lib.Dec.{eqb, ltb}
use lib.ListN.{length, get_or, length-append, get_or-append, drop, take, length-set, length-drop}
use lib.Seq.{get_or-append_seam}
use borrow.Author.Tests.{eqb-true, ne_eqb, ltb-true, ltb-false, lt-ltb}
use Rattle.knapsack.specs.Items.{Item, takes, skips}
use Rattle.knapsack.proofs.Cases.{by_test}
use Rattle.diagram.specs.After4.{CutsetKind}
use Rattle.diagram.specs.After6.{Outcome, outcome, drained, finished, finish, run}
use Rattle.diagram.specs.Node.{Node, Edge, no_edge, node_at, edge_at, update, with_deleted, as_relaxed}
use Rattle.diagram.specs.Record.{Record}
use Rattle.diagram.specs.Rule1.{root_only, rooted}
use Rattle.diagram.specs.Rule2.{ordered, store, has_rows, expand_squashed, layer_step, grow, grown}
use Rattle.diagram.specs.Rule3.{branch_take, branch_both, note_fast, expand, expand_all}
use Rattle.diagram.specs.Rule4.{push_edge, add_edge, lookup, push_node, child_of, new_child, branch_to, branch_on}
use Rattle.diagram.specs.Rule5.{with_last, squash_if, squash}
use Rattle.diagram.specs.Rule6.{sort_by, by_squash, Squashed, layer, copy_edges, merge_all, merged_row, twin_of, squashed, squash_need, keep_first, merge_into, relax, merge}
use Rattle.diagram.specs.Run.{Mode, exactly, relaxing, Settings, Run, going, and_then, need, only_if, layer_room}
use Rattle.diagram.specs.Tables.{Range, Diagram, Found, at, nowhere, with_nodes, inbound_below, inbound}
use Rattle.theorems.proofs.Rows.{lookup_at, found_in}
use Rattle.theorems.proofs.Sort.{sort_perm, Apart, apart_next, perm_apart, ordered_apart}
use Rattle.theorems.proofs.Links.{inbound_append}
use Rattle.theorems.proofs.Squash.{Parted, parted, last_parted}
use Rattle.theorems.proofs.Holds.{Holds, held}
use Rattle.theorems.proofs.Tower.{root_row}
use Rattle.theorems.proofs.Exactness.{relaxing_is_full, Sane, grown_sane}
use Rattle.theorems.proofs.Fits.{Fits, empty_fits, ended_fits, outcome_fits}
use Rattle.theorems.proofs.Ten as Ten
use Rattle.theorems.proofs.Ten.{Safe, SafeSquash, Narrow, squash_narrow, step_narrow, root_narrow}
use Rattle.theorems.proofs.Once.{drained_few}

-- ---- a run that isn't refused

-- the run goes on, and P holds of its tables
pub data Goes (P : Diagram → Type 0) : Run → Type 0 where
  onto : {d : Diagram} → P d → Goes P (going d)

then_goes : {P Q : Diagram → Type 0} {x : Run} (f : Diagram → Run) → Goes P x → ((d : Diagram) → P d → Goes Q (f d)) → Goes Q (and_then x f)
then_goes f (onto {d = d} p) k = k d p

need_goes : {P : Diagram → Type 0} (b : Bool) (n : ℕ) (d : Diagram) (x : Run) → b ≡ true → Goes P x → Goes P (need b n d x)
unfolding need
need_goes true n d x h a = a
need_goes false n d x h a = let z : ◌≡◌ {A = ℕ} 0 1 = cc in absurd (omega arith)

only_goes : {P : Diagram → Type 0} (b : Bool) (x : Run) (d : Diagram) → Goes P x → P d → Goes P (only_if b x d)
unfolding only_if
only_goes true x d a p = a
only_goes false x d a p = onto p

goes_map : {P Q : Diagram → Type 0} {x : Run} → ((d : Diagram) → P d → Q d) → Goes P x → Goes Q x
goes_map f (onto {d = d} p) = onto (f d p)

-- ---- tables with A node rows and B edge rows at most

-- The coming layer begins at row s, and the edges below number t end before it.
record Sized (s t A B : ℕ) (d : Diagram) : Type 0 where
  begins : d.start ≡ s
  rows : length d.nodes ≤ A
  arcs : length d.edges ≤ B
  made : t ≤ length d.edges
  old : (e : ℕ) → e < t → (edge_at d.edges e).to < s
  reach : (e : ℕ) → e < length d.edges → (edge_at d.edges e).to < length d.nodes

sized_more : (s t A B A' B' : ℕ) (d : Diagram) → A ≤ A' → B ≤ B' → Sized s t A B d → Sized s t A' B' d
sized_more s t A B A' B' d h k z = record { begins = z.begins; rows = omega (arith, z.rows); arcs = omega (arith, z.arcs); made = z.made; old = z.old; reach = z.reach }

update_sized : (s t A B : ℕ) (f : Node → Node) (r : ℕ) (d : Diagram) → Sized s t A B d → Sized s t A B (with_nodes d (update f d.nodes r))
unfolding with_nodes
update_sized s t A B f r d z = record { begins = z.begins; rows = rw length-set z.rows; arcs = z.arcs; made = z.made; old = z.old; reach = λ e h. rw length-set (z.reach e h) }

note_sized : (s t A B : ℕ) (left : List Item) (p : ℕ) (d : Diagram) → Sized s t A B d → Sized s t A B (note_fast left p d)
unfolding note_fast with_nodes
note_sized s t A B left p d z = record { begins = z.begins; rows = rw length-set z.rows; arcs = z.arcs; made = z.made; old = z.old; reach = λ e h. rw length-set (z.reach e h) }

node_sized : (s t A B : ℕ) (n : Node) (d : Diagram) → Sized s t A B d → Sized s t (suc A) B (push_node n d)
unfolding push_node with_nodes
node_sized s t A B n d z =
    record { begins = z.begins; rows = simp length-append (omega (arith, z.rows)); arcs = z.arcs; made = z.made; old = z.old; reach = λ e h. simp length-append (omega (arith, z.reach e h)) }

last_sized : (s t A B : ℕ) (d : Diagram) → Sized s t A B d → Sized s t A B (with_last d)
unfolding with_last
last_sized s t A B d z = record { begins = z.begins; rows = z.rows; arcs = z.arcs; made = z.made; old = z.old; reach = z.reach }

-- an edge of a table with one edge more
edge_snoc : (P : Edge → Type 0) (es : List Edge) (x : Edge) (e : ℕ) → e < length (es ++ (x ∷ [])) → P x → (e < length es → P (edge_at es e)) → P (edge_at (es ++ (x ∷ [])) e)
edge_snoc P es x e h a b =
    elim (ℕ_discrete e (length es)) [
      | yes q ↦ rw (q, get_or-append_seam es x [] no_edge) a
      | no q ↦ let l : e < length es = omega (arith, length-append es (x ∷ [])) in rw (get_or-append es (x ∷ []) no_edge e l) (b l)
    ]

push_sized : (s t A B p c decision cost : ℕ) (d : Diagram) → c < length d.nodes → Sized s t A B d → Sized s t A (suc B) (push_edge p c decision cost d)
unfolding push_edge
push_sized s t A B p c decision cost d h z =
    record {
      begins = z.begins;
      rows = rw length-set z.rows;
      arcs = simp length-append (omega (arith, z.arcs));
      made = simp length-append (omega (arith, z.made));
      old = λ e k. rw (get_or-append d.edges _ no_edge e (omega (arith, z.made))) (z.old e k);
      reach = λ e k. rw length-set (edge_snoc (λ x. x.to < length d.nodes) d.edges _ e k h (λ l. z.reach e l));
    }

-- ---- an expansion adds two node rows and two edge rows at most

-- there is room for A node rows, in a layer that begins at row s, and for B edge rows
record Room (opts : Settings) (s A B : ℕ) : Type 0 where
  in_layer : A ≤ s + layer_room
  for_nodes : A ≤ opts.node_room
  for_edges : B ≤ opts.edge_room

room_less : (opts : Settings) (s A B A' B' : ℕ) → A' ≤ A → B' ≤ B → Room opts s A B → Room opts s A' B'
room_less opts s A B A' B' h k m = record { in_layer = omega (arith, m.in_layer); for_nodes = omega (arith, m.for_nodes); for_edges = omega (arith, m.for_edges) }

add_goes : (P : Diagram → Type 0) (opts : Settings) (p c decision cost : ℕ) (d : Diagram) → length d.edges < opts.edge_room → P (push_edge p c decision cost d) → Goes P (add_edge opts p c decision cost d)
unfolding add_edge
add_goes P opts p c decision cost d h q = need_goes _ _ _ _ (lt-ltb _ _ h) (onto q)

long_node : (n : Node) (d : Diagram) → length (push_node n d).nodes ≡ suc (length d.nodes)
unfolding push_node with_nodes
long_node n d = simp length-append (omega arith)

branch_to_goes : (f : Found) (opts : Settings) (s t A B p decision cost capacity : ℕ) (d : Diagram) → lookup capacity (drop d.start d.nodes) d.start ≡ f → Room opts s (suc A) (suc B) → Sized s t A B d → Goes (Sized s t (suc A) (suc B)) (branch_to f opts p decision cost capacity d)
unfolding branch_to new_child
branch_to_goes (at c) opts s t A B p decision cost capacity d e m z =
    add_goes (Sized s t (suc A) (suc B)) opts p c decision cost d (omega (arith, z.arcs, m.for_edges))
    (sized_more s t A (suc B) (suc A) (suc B) _ (omega arith) (omega arith) (push_sized s t A B p c decision cost d (found_in capacity d c (lookup_at capacity (drop d.start d.nodes) d.start c e)) z))
branch_to_goes nowhere opts s t A B p decision cost capacity d e m z =
    let n = child_of p cost capacity d.nodes in
    need_goes _ _ _ _ (lt-ltb (length d.nodes - d.start) layer_room (omega (arith, z.rows, z.begins, m.in_layer)))
    (need_goes _ _ _ _ (lt-ltb (length d.nodes) opts.node_room (omega (arith, z.rows, m.for_nodes)))
    (need_goes _ _ _ _ (lt-ltb (length d.edges) opts.edge_room (omega (arith, z.arcs, m.for_edges)))
    (onto (push_sized s t (suc A) B p (length d.nodes) decision cost (push_node n d) (omega (arith, long_node n d)) (node_sized s t A B n d z)))))

branch_goes : (opts : Settings) (s t A B p decision cost capacity : ℕ) (d : Diagram) → Room opts s (suc A) (suc B) → Sized s t A B d → Goes (Sized s t (suc A) (suc B)) (branch_on opts p decision cost capacity d)
unfolding branch_on
branch_goes opts s t A B p decision cost capacity d m z = branch_to_goes (lookup capacity (drop d.start d.nodes) d.start) opts s t A B p decision cost capacity d refl m z

expand_goes : (opts : Settings) (s t A B : ℕ) (left : List Item) (i : Item) (k : ℕ) (d : Diagram) (p : ℕ) → Room opts s (suc (suc A)) (suc (suc B)) → Sized s t A B d → Goes (Sized s t (suc (suc A)) (suc (suc B))) (expand opts left i k d p)
unfolding expand branch_both branch_take
expand_goes opts s t A B left i k d p m z =
    let z₀ = note_sized s t A B left p d z in
    only_goes _ _ _
    (then_goes {P = Sized s t (suc A) (suc B)} _
    (only_goes _ _ _ (branch_goes opts s t A B p (takes k) i.profit _ (note_fast left p d) (room_less opts s _ _ (suc A) (suc B) (omega arith) (omega arith) m) z₀) (sized_more s t A B (suc A) (suc B) _ (omega arith) (omega arith) z₀))
    (λ e q. branch_goes opts s t (suc A) (suc B) p (skips k) 0 _ e m q))
    (sized_more s t A B (suc (suc A)) (suc (suc B)) _ (omega arith) (omega arith) z₀)

all_goes : (opts : Settings) (s t A B : ℕ) (left : List Item) (i : Item) (k : ℕ) (ps : List ℕ) (d : Diagram) → Room opts s (A + 2 * length ps) (B + 2 * length ps) → Sized s t A B d → Goes (Sized s t (A + 2 * length ps) (B + 2 * length ps)) (expand_all opts left i k ps d)
unfolding expand_all
all_goes opts s t A B left i k [] d m z = onto (sized_more s t A B _ _ d (omega arith) (omega arith) z)
all_goes opts s t A B left i k (p ∷ ps) d m z =
    then_goes _ (expand_goes opts s t A B left i k d p (room_less opts s _ _ (suc (suc A)) (suc (suc B)) (omega arith) (omega arith) m) z)
    (λ e q. goes_map (λ f y. sized_more s t _ _ _ _ f (omega arith) (omega arith) y)
    (all_goes opts s t (suc (suc A)) (suc (suc B)) left i k ps e (room_less opts s _ _ _ _ (omega arith) (omega arith) m) q))

-- ---- a merge copies the edges that end in the merged rows

-- as many copies as these rows have inbound edges
unfoldable owing : List Edge → List ℕ → ℕ
owing es [] = 0
owing es (r ∷ rs) = length (inbound es r) + owing es rs

owing_same : (es fs : List Edge) (rs : List ℕ) → ((r : ℕ) → Memᴰ r rs → inbound fs r ≡ inbound es r) → owing fs rs ≡ owing es rs
unfolding owing
owing_same es fs [] h = refl
owing_same es fs (r ∷ rs) h = omega (arith, ap (length {A = ℕ}) (h r (Memᴰ.head refl)), owing_same es fs rs (λ q m. h q (Memᴰ.tail m)))

-- an edge to another row is none of its inbound edges
inbound_other : (es : List Edge) (x : Edge) (r : ℕ) → x.to ≢ r → inbound (es ++ (x ∷ [])) r ≡ inbound es r
unfolding inbound inbound_below
inbound_other es x r h =
    let l : length (es ++ (x ∷ [])) ≡ suc (length es) = simp length-append (omega arith) in
    rw (l, get_or-append_seam es x [] no_edge, ne_eqb x.to r h, inbound_append es (x ∷ []) r (length es) (omega arith))

-- copies to row m change no other row's inbound edges
record Copying (m : ℕ) (d f : Diagram) : Type 0 where
  long : length f.nodes ≡ length d.nodes
  same : (r : ℕ) → r ≢ m → inbound f.edges r ≡ inbound d.edges r

push_copying : (p m decision cost : ℕ) (d : Diagram) → Copying m d (push_edge p m decision cost d)
unfolding push_edge
push_copying p m decision cost d = record { long = length-set d.nodes m _; same = λ r h. inbound_other d.edges _ r (λ e. h (sym e)) }

copy_goes : (opts : Settings) (s t A B m : ℕ) (es : List ℕ) (d : Diagram) → m < length d.nodes → B + length es ≤ opts.edge_room → Sized s t A B d → Goes (λ f. Sized s t A (B + length es) f × Copying m d f) (copy_edges opts m es d)
unfolding copy_edges
copy_goes opts s t A B m [] d h k z = onto (sized_more s t A B A _ d (omega arith) (omega arith) z, record { long = refl; same = λ r n. refl })
copy_goes opts s t A B m (e ∷ es) d h k z =
    then_goes {P = λ f. Sized s t A (suc B) f × Copying m d f} _
    (add_goes (λ f. Sized s t A (suc B) f × Copying m d f) opts _ m _ _ d (omega (arith, z.arcs)) (push_sized s t A B _ m _ _ d h z, push_copying _ m _ _ d))
    (λ f q. goes_map (λ g y. (sized_more s t A _ A _ g (omega arith) (omega arith) y.0, record { long = y.1.long ∙ q.1.long; same = λ r n. y.1.same r n ∙ q.1.same r n }))
    (copy_goes opts s t A (suc B) m es f (omega (arith, q.1.long)) (omega arith) q.0))

flag_same : (d : Diagram) (f : Node → Node) (r : ℕ) → (length (with_nodes d (update f d.nodes r)).nodes ≡ length d.nodes) × ((with_nodes d (update f d.nodes r)).edges ≡ d.edges)
unfolding with_nodes
flag_same d f r = (length-set d.nodes r _, refl)

merge_goes : (opts : Settings) (s t A B m : ℕ) (rs : List ℕ) (d : Diagram) → m < length d.nodes → ((r : ℕ) → Memᴰ r rs → r ≢ m) → B + owing d.edges rs ≤ opts.edge_room → Sized s t A B d → Goes (Sized s t A (B + owing d.edges rs)) (merge_all opts m rs d)
unfolding merge_all owing
merge_goes opts s t A B m [] d h o k z = onto (sized_more s t A B A _ d (omega arith) (omega arith) z)
merge_goes opts s t A B m (r ∷ rs) d h o k z =
    let d₁ = with_nodes d (update (with_deleted true) d.nodes r) in
    let g = flag_same d (with_deleted true) r in
    let n = length (inbound d.edges r) in
    then_goes _ (copy_goes opts s t A B m (inbound d.edges r) d₁ (omega (arith, g.0)) (omega arith) (update_sized s t A B (with_deleted true) r d z))
    (λ f q. let w : owing f.edges rs ≡ owing d.edges rs = owing_same d.edges f.edges rs (λ x y. q.1.same x (o x (Memᴰ.tail y)) ∙ ap (λ (es : List Edge). inbound es x) g.1) in
    goes_map (λ x y. sized_more s t A _ A _ x (omega arith) (omega arith) y)
    (merge_goes opts s t A (B + n) m rs f (omega (arith, q.1.long, g.0)) (λ x y. o x (Memᴰ.tail y)) (omega arith) q.0))

-- ---- of different rows of the coming layer, the inbound edges are at most those that came into the layer

-- their inbound edges among the first p
unfoldable below : ℕ → List Edge → List ℕ → ℕ
below p es [] = 0
below p es (r ∷ rs) = length (inbound_below p es r) + below p es rs

below_all : (es : List Edge) (rs : List ℕ) → owing es rs ≡ below (length es) es rs
unfolding owing below inbound
below_all es [] = refl
below_all es (r ∷ rs) = omega (arith, below_all es rs)

-- edge p ends in none of them
below_none : (p : ℕ) (es : List Edge) (rs : List ℕ) → (Memᴰ (edge_at es p).to rs → ⊥) → below (suc p) es rs ≡ below p es rs
unfolding below inbound_below
below_none p es [] h = refl
below_none p es (r ∷ rs) h = rw (ne_eqb (edge_at es p).to r (λ e. h (Memᴰ.head e)), below_none p es rs (λ m. h (Memᴰ.tail m)))

-- it ends in one of them at most
below_one : (p : ℕ) (es : List Edge) (rs : List ℕ) → Apart rs → below (suc p) es rs ≤ suc (below p es rs)
unfolding below inbound_below
below_one p es [] a = omega arith
below_one p es (r ∷ rs) (apart_next n a) =
    by_test (λ b. length (cond b (p ∷ inbound_below p es r) (inbound_below p es r)) + below (suc p) es rs ≤ suc (length (inbound_below p es r) + below p es rs)) (eqb (edge_at es p).to r)
    (λ e. omega (arith, below_none p es rs (λ m. n (subst (λ (q : ℕ). Memᴰ q rs) (eqb-true (edge_at es p).to r e) m))))
    (λ e. omega (arith, below_one p es rs a))

below_zero : (es : List Edge) (rs : List ℕ) → below 0 es rs ≡ 0
unfolding below inbound_below
below_zero es [] = refl
below_zero es (r ∷ rs) = omega (arith, below_zero es rs)

below_most : (s t p : ℕ) (es : List Edge) (rs : List ℕ) → Apart rs → ((r : ℕ) → Memᴰ r rs → s ≤ r) → ((e : ℕ) → e < t → (edge_at es e).to < s) → below p es rs ≤ p - t
below_most s t zero es rs a h o = omega (arith, below_zero es rs)
below_most s t (suc p) es rs a h o =
    let i = below_most s t p es rs a h o in
    by_test (λ _. below (suc p) es rs ≤ suc p - t) (ltb p t)
    (λ e. let k = ltb-true p t e in omega (arith, below_none p es rs (λ m. let u = o p k in omega (arith, h _ m))))
    (λ e. omega (arith, ltb-false p t e, below_one p es rs a))

owing_most : (s t A B : ℕ) (d : Diagram) (rs : List ℕ) → Apart rs → ((r : ℕ) → Memᴰ r rs → s ≤ r) → Sized s t A B d → owing d.edges rs ≤ length d.edges - t
owing_most s t A B d rs a h z = omega (arith, below_all d.edges rs, below_most s t (length d.edges) d.edges rs a h z.old)

-- ---- a squash adds a node row at most, and copies at most the edges that came into the layer

-- the squash isn't refused, and P holds of its tables
data Left (P : Diagram → Type 0) : Squashed → Type 0 where
  left : {d : Diagram} {l : List ℕ} → P d → Left P (layer d l)

need_left : {P : Diagram → Type 0} (b : Bool) (n : ℕ) (d : Diagram) (x : Squashed) → b ≡ true → Left P x → Left P (squash_need b n d x)
unfolding squash_need
need_left true n d x h a = a
need_left false n d x h a = let z : ◌≡◌ {A = ℕ} 0 1 = cc in absurd (omega arith)

if_left : {P : Diagram → Type 0} (b : Bool) (x y : Squashed) → Left P x → Left P y → Left P (squash_if b x y)
unfolding squash_if
if_left true x y p q = p
if_left false x y p q = q

squashed_left : (P Q : Diagram → Type 0) (x : Run) (f : Diagram → Diagram) (l : List ℕ) → ((d : Diagram) → P d → Q (f d)) → Goes P x → Left Q (squashed x f l)
unfolding squashed
squashed_left P Q x f l k (onto {d = d} p) = left (k d p)

keep_sized : (s t A B r : ℕ) (d : Diagram) → Sized s t A B d → Sized s t A B (keep_first r d)
unfolding keep_first
keep_sized s t A B r d z = update_sized s t A B (with_deleted false) r d z

twin_mem : (ns : List Node) (c : ℕ) (rs : List ℕ) (m : ℕ) → twin_of ns c rs ≡ at m → Memᴰ m rs
unfolding twin_of
twin_mem ns c [] m e = let z : ◌≡◌ {A = ℕ} 0 1 = cc in absurd (omega arith)
twin_mem ns c (r ∷ rs) m e =
    (by_test (λ b. elim b [ true ↦ at r | false ↦ twin_of ns c rs ] ≡ at m → Memᴰ m (r ∷ rs)) (eqb (node_at ns r).capacity c)
    (λ q f. let z : m ≡ r = cc in Memᴰ.head z)
    (λ q f. Memᴰ.tail (twin_mem ns c rs m f))) e

node_edges : (n : Node) (d : Diagram) → (push_node n d).edges ≡ d.edges
unfolding push_node with_nodes
node_edges n d = refl

into_left : (f : Found) (opts : Settings) (s t A B C capacity : ℕ) (kept rest : List ℕ) (d : Diagram) → twin_of d.nodes capacity kept ≡ f → Parted d kept rest → Room opts s (suc A) (B + C) → owing d.edges rest ≤ C → Sized s t A B d → Left (Sized s t (suc A) (B + C)) (merge_into f opts capacity kept rest d)
unfolding merge_into
into_left (at m) opts s t A B C capacity kept rest d e pt rm h z =
    let i = twin_mem d.nodes capacity kept m e in
    let d₁ = with_nodes d (update as_relaxed d.nodes m) in
    let g = flag_same d as_relaxed m in
    let o : owing d₁.edges rest ≡ owing d.edges rest = ap (λ (es : List Edge). owing es rest) g.1 in
    squashed_left (Sized s t A (B + owing d₁.edges rest)) (Sized s t (suc A) (B + C)) _ (keep_first (get_or rest 0 0)) _
    (λ f q. keep_sized s t (suc A) (B + C) (get_or rest 0 0) f (sized_more s t _ _ _ _ f (omega arith) (omega arith) q))
    (merge_goes opts s t A B m rest d₁ (omega (arith, g.0, pt.kept_in m i)) (λ r y q. pt.apart m i (subst (λ (v : ℕ). Memᴰ v rest) q y)) (omega (arith, rm.for_edges)) (update_sized s t A B as_relaxed m d z))
into_left nowhere opts s t A B C capacity kept rest d e pt rm h z =
    let n = merged_row capacity (node_at d.nodes (get_or rest 0 0)).depth in
    let o : owing (push_node n d).edges rest ≡ owing d.edges rest = ap (λ (es : List Edge). owing es rest) (node_edges n d) in
    need_left _ _ _ _ (lt-ltb (length d.nodes - d.start) layer_room (omega (arith, z.rows, z.begins, rm.in_layer)))
    (need_left _ _ _ _ (lt-ltb (length d.nodes) opts.node_room (omega (arith, z.rows, rm.for_nodes)))
    (squashed_left (Sized s t (suc A) (B + owing (push_node n d).edges rest)) (Sized s t (suc A) (B + C)) _ (λ e. e) _
    (λ f q. sized_more s t _ _ _ _ f (omega arith) (omega arith) q)
    (merge_goes opts s t (suc A) B (length d.nodes) rest (push_node n d) (omega (arith, long_node n d)) (λ r y q. omega (arith, pt.rest_in r y)) (omega (arith, rm.for_edges)) (node_sized s t A B n d z))))

apart_drop : (n : ℕ) (l : List ℕ) → Apart l → Apart (drop n l)
apart_drop zero l a = a
apart_drop (suc n) [] a = a
apart_drop (suc n) (x ∷ l) (apart_next h a) = apart_drop n l a

last_same : (d : Diagram) → ((with_last d).nodes ≡ d.nodes) × ((with_last d).edges ≡ d.edges)
unfolding with_last
last_same d = (refl, refl)

squash_left : (opts : Settings) (s t A B C : ℕ) (d : Diagram) → Room opts s (suc A) (B + C) → length d.edges - t ≤ C → Sized s t A B d → Left (Sized s t (suc A) (B + C)) (squash relaxing opts (ordered d) d)
unfolding squash relax merge
squash_left opts s t A B C d rm h z =
    let n = opts.width - 1 in
    let o = sort_by (by_squash d.nodes) (ordered d) in
    let pt = parted d (by_squash d.nodes) n in
    let a : Apart (drop n o) = apart_drop n o (perm_apart (Permᴰ.symm (sort_perm (by_squash d.nodes) (ordered d))) (ordered_apart d)) in
    let m = owing_most s t A B d (drop n o) a (λ r y. omega (arith, z.begins, pt.rest_in r y)) z in
    let q : owing (with_last d).edges (drop n o) ≤ C = omega (arith, ap (λ (es : List Edge). owing es (drop n o)) (last_same d).1) in
    if_left _ _ _
    (into_left _ opts s t A B C _ (take n o) (drop n o) (with_last d) refl (last_parted d (take n o) (drop n o) pt) rm q (last_sized s t A B d z))
    (left (sized_more s t A B _ _ d (omega arith) (omega arith) z))

-- ---- layer by layer

-- When a layer comes there are N node rows and M edge rows at most, and 2 w edges at most came into the layer.
record Layer (w N M : ℕ) (d : Diagram) : Type 0 where
  row : ℕ
  edge : ℕ
  sized : Sized row edge N M d
  recent : length d.edges ≤ edge + 2 * w

layer_more : (w N M N' M' : ℕ) (d : Diagram) → N ≤ N' → M ≤ M' → Layer w N M d → Layer w N' M' d
layer_more w N M N' M' d h k y = record { row = y.row; edge = y.edge; sized = sized_more y.row y.edge N M N' M' d h k y.sized; recent = y.recent }

store_sized : (s t A B : ℕ) (d : Diagram) → Sized s t A B d → Sized (length d.nodes) (length d.edges) (length d.nodes) (length d.edges) (store d)
unfolding store
store_sized s t A B d z = record { begins = refl; rows = omega arith; arcs = omega arith; made = omega arith; old = z.reach; reach = z.reach }

squashed_goes : (opts : Settings) (ls : List Range) (w s t A B : ℕ) (items : List Item) (i : Item) (k : ℕ) (x : Squashed) → w ≤ 256 → A + 2 * w ≤ opts.node_room → B + 2 * w ≤ opts.edge_room → Left (Sized s t A B) x → SafeSquash ls w x → Goes (Layer w (A + 2 * w) (B + 2 * w)) (expand_squashed x opts items i k)
unfolding expand_squashed
squashed_goes opts ls w s t A B items i k x h256 ha hb (left {d = d} {l = l} z) (Ten.leaves q c) =
    goes_map (λ f y. record { row = length d.nodes; edge = length d.edges; sized = sized_more _ _ _ _ _ _ f (omega (arith, z.rows)) (omega (arith, z.arcs)) y; recent = omega (arith, y.arcs) })
    (all_goes opts (length d.nodes) (length d.edges) (length d.nodes) (length d.edges) items i k l (store d) (record { in_layer = omega arith; for_nodes = omega (arith, z.rows); for_edges = omega (arith, z.arcs) }) (store_sized s t A B d z))

both : {P Q : Diagram → Type 0} {x : Run} → Goes P x → Safe Q x → Goes (λ d. P d × Q d) x
both (onto p) (Ten.goes q) = onto (p, q)

exact_sized : (s t A B : ℕ) (d : Diagram) → Sized s t A B d → Sized s t (length d.nodes) (length d.edges) d
exact_sized s t A B d z = record { begins = z.begins; rows = omega arith; arcs = omega arith; made = z.made; old = z.old; reach = z.reach }

not_exact : (m : Mode) → m ≡ relaxing → m ≢ exactly
not_exact m e q = let z : ◌≡◌ {A = ℕ} 0 1 = cc in omega arith

-- a layer's turn needs 2 w + 1 node rows and 4 w edge rows more at most
step_goes : (opts : Settings) (w N M : ℕ) (items : List Item) (i : Item) (k : ℕ) (d : Diagram) → opts.mode ≡ relaxing → opts.width ≤ w → 2 ≤ w → w ≤ 256 → N + (2 * w + 1) ≤ opts.node_room → M + 4 * w ≤ opts.edge_room → Layer w N M d → Narrow w d → Goes (λ e. Layer w (N + (2 * w + 1)) (M + 4 * w) e × Narrow w e) (layer_step opts items i k d)
unfolding layer_step
step_goes opts w N M items i k d e hw h2 h256 hn hm y v =
    let ne = not_exact opts.mode e in
    let z = y.sized in
    let l : Left (Sized y.row y.edge (suc (length d.nodes)) (length d.edges + 2 * w)) (squash relaxing opts (ordered d) d)
    = squash_left opts y.row y.edge (length d.nodes) (length d.edges) (2 * w) d (record { in_layer = omega (arith, v.all, z.begins); for_nodes = omega (arith, z.rows); for_edges = omega (arith, z.arcs) }) (omega (arith, y.recent)) (exact_sized _ _ _ _ d z) in
    let g = squashed_goes opts d.layers w y.row y.edge (suc (length d.nodes)) (length d.edges + 2 * w) items i k (squash opts.mode opts (ordered d) d) h256 (omega (arith, z.rows)) (omega (arith, z.arcs))
    (subst (λ (m : Mode). Left (Sized y.row y.edge (suc (length d.nodes)) (length d.edges + 2 * w)) (squash m opts (ordered d) d)) (sym e) l)
    (squash_narrow opts w d ne hw h2 h256 v) in
    both (goes_map (λ f q. layer_more w _ _ _ _ f (omega (arith, z.rows)) (omega (arith, z.arcs)) q) g) (step_narrow opts w items i k d ne hw h2 h256 v)

layer_fits : (w N M : ℕ) (d : Diagram) → Layer w N M d → Fits N M d
layer_fits w N M d y = record { nodes_fit = y.sized.rows; edges_fit = y.sized.arcs }

fits_more : (a b a' b' : ℕ) (d : Diagram) → a ≤ a' → b ≤ b' → Fits a b d → Fits a' b' d
fits_more a b a' b' d h k p = record { nodes_fit = omega (arith, p.nodes_fit); edges_fit = omega (arith, p.edges_fit) }

grow_goes : (opts : Settings) (w N M : ℕ) (is : List Item) (k : ℕ) (d : Diagram) → opts.mode ≡ relaxing → opts.width ≤ w → 2 ≤ w → w ≤ 256 → N + length is * (2 * w + 1) ≤ opts.node_room → M + length is * (4 * w) ≤ opts.edge_room → Layer w N M d → Narrow w d → Goes (Fits (N + length is * (2 * w + 1)) (M + length is * (4 * w))) (grow opts is k d)
unfolding grow
grow_goes opts w N M [] k d e hw h2 h256 hn hm y v = onto (fits_more N M _ _ _ (omega arith) (omega arith) (ended_fits N M (has_rows d) d (layer_fits w N M d y)))
grow_goes opts w N M (i ∷ is) k d e hw h2 h256 hn hm y v =
    let p = suc-mul (length is) (2 * w + 1) in
    let q = suc-mul (length is) (4 * w) in
    only_goes _ _ _
    (then_goes _ (step_goes opts w N M (i ∷ is) i k d e hw h2 h256 (omega arith) (omega arith) y v)
    (λ f z. goes_map (λ g u. fits_more _ _ _ _ g (omega arith) (omega arith) u)
    (grow_goes opts w (N + (2 * w + 1)) (M + 4 * w) is (suc k) f e hw h2 h256 (omega arith) (omega arith) z.0 z.1)))
    (fits_more N M _ _ _ (omega arith) (omega arith) (empty_fits N M d (layer_fits w N M d y)))

root_layer : (w : ℕ) (r : Record) → Layer w 1 0 (root_only r)
unfolding root_only
root_layer w r = record { row = 0; edge = 0; sized = record { begins = refl; rows = omega arith; arcs = omega arith; made = omega arith; old = λ e h. absurd (omega arith); reach = λ e h. absurd (omega arith) }; recent = omega arith }

-- ---- the rows that n items need at most, in a relaxed run of that width

unfoldable pub nodes_for : ℕ → ℕ → ℕ
nodes_for width n = 1 + n * (2 * max width 2 + 1)

unfoldable pub edges_for : ℕ → ℕ → ℕ
edges_for width n = n * (4 * max width 2)

grown_goes : (opts : Settings) (items : List Item) (r : Record) → opts.mode ≡ relaxing → opts.width ≤ 256 → nodes_for opts.width (length (drop r.depth items)) ≤ opts.node_room → edges_for opts.width (length (drop r.depth items)) ≤ opts.edge_room
    → Goes (Fits (nodes_for opts.width (length (drop r.depth items))) (edges_for opts.width (length (drop r.depth items)))) (grown opts items r)
unfolding grown rooted nodes_for edges_for
grown_goes opts items r e hw hn hm =
    let w = max opts.width 2 in
    then_goes {P = λ d. Layer w 1 0 d × Narrow w d} _ (need_goes _ _ _ _ (lt-ltb 0 opts.node_room (omega arith)) (onto (root_layer w r, root_narrow w r (omega arith))))
    (λ d q. goes_map (λ f u. fits_more _ _ _ _ f (omega arith) (omega arith) u)
    (grow_goes opts w 1 0 (drop r.depth items) r.depth d e (omega arith) (omega arith) (omega arith) (omega arith) (omega arith) q.0 q.1))

-- ---- whole runs

-- the run finishes, with a node rows and b edge rows at most, and drains a records at most
pub record Through (opts : Settings) (k : CutsetKind) (items : List Item) (r : Record) (a b : ℕ) : Type 0 where
  pub outcome_is : Outcome
  pub finishes : run opts k items r ≡ finished outcome_is
  pub fits : Fits a b outcome_is.diagram
  pub drains : length (drained r.path outcome_is) ≤ a

finish_through : (opts : Settings) (k : CutsetKind) (items : List Item) (r : Record) (a b : ℕ) (x : Run) → opts.mode ≡ relaxing → grown opts items r ≡ x → Goes (Fits a b) x → Holds (Sane items opts.lower (root_row r) opts.mode) x → Through opts k items r a b
unfolding run finish
finish_through opts k items r a b x e g (onto {d = d} p) (held w) =
    let h : outcome opts.mode k d ≡ outcome relaxing k d = ap (λ (m : Mode). outcome m k d) e in
    let v = subst (λ (m : Mode). Sane items opts.lower (root_row r) m d) e w in
    record {
      outcome_is = outcome relaxing k d;
      finishes = ap (finish opts.mode k) g ∙ ap finished h;
      fits = outcome_fits a b relaxing k d p;
      drains = omega (arith, p.nodes_fit, drained_few r.path k d v.fits (v.exact.last_layer relaxing_is_full));
    }

-- Lent so many rows for the items that are left, a relaxed run of width 256 at most is never refused.
pub relaxed_runs_through : (opts : Settings) (k : CutsetKind) (items : List Item) (r : Record) → opts.mode ≡ relaxing → opts.width ≤ 256 → nodes_for opts.width (length (drop r.depth items)) ≤ opts.node_room → edges_for opts.width (length (drop r.depth items)) ≤ opts.edge_room
    → Through opts k items r (nodes_for opts.width (length (drop r.depth items))) (edges_for opts.width (length (drop r.depth items)))
relaxed_runs_through opts k items r e hw hn hm = finish_through opts k items r _ _ (grown opts items r) e refl (grown_goes opts items r e hw hn hm) (grown_sane items opts r)

-- ---- the same in figures, for 64 items at most

nodes_64 : (width n : ℕ) → width ≤ 256 → n ≤ 64 → nodes_for width n ≤ 32833
unfolding nodes_for
nodes_64 width n h k =
    let one : 2 * max width 2 + 1 ≤ 513 = omega arith in
    let all : n * (2 * max width 2 + 1) ≤ 64 * 513 = mul-le-mul k one in
    omega arith

edges_64 : (width n : ℕ) → width ≤ 256 → n ≤ 64 → edges_for width n ≤ 65536
unfolding edges_for
edges_64 width n h k =
    let one : 4 * max width 2 ≤ 1024 = omega arith in
    let all : n * (4 * max width 2) ≤ 64 * 1024 = mul-le-mul k one in
    omega arith

through_more : (opts : Settings) (k : CutsetKind) (items : List Item) (r : Record) (a b a' b' : ℕ) → a ≤ a' → b ≤ b' → Through opts k items r a b → Through opts k items r a' b'
through_more opts k items r a b a' b' h l t = record { outcome_is = t.outcome_is; finishes = t.finishes; fits = fits_more a b a' b' _ h l t.fits; drains = omega (arith, t.drains) }

-- With 32,833 node rows and 65,536 edge rows a relaxed run of 64 items and width 256 at most is never refused, and drains 32,833 records at most.
pub always_enough : (opts : Settings) (k : CutsetKind) (items : List Item) (r : Record) → opts.mode ≡ relaxing → opts.width ≤ 256 → length items ≤ 64 → 32833 ≤ opts.node_room → 65536 ≤ opts.edge_room → Through opts k items r 32833 65536
always_enough opts k items r e hw h64 hn hm =
    let n = length (drop r.depth items) in
    let h : n ≤ 64 = omega (arith, length-drop r.depth items) in
    let a = nodes_64 opts.width n hw h in
    let b = edges_64 opts.width n hw h in
    through_more opts k items r (nodes_for opts.width n) (edges_for opts.width n) 32833 65536 a b (relaxed_runs_through opts k items r e hw (omega arith) (omega arith))
