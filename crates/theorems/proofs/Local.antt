-- Local bounds: a row that is worth x above the lower bound is marked, and its value from bottom shows it.
use mathlib.Core.Path.{◌≡◌, refl, sym, ap, subst, ◌∙◌}
use mathlib.Core.Bool.{Bool, true, false, cond}
use mathlib.Core.List.Memᴰ
use mathlib.Core.List.{List, [], ◌∷◌, Memᴰ}
use Prim.Native.Nat.{ℕ, ◌+◌, ◌-◌, ◌≤◌, ◌<◌, min}
use native.Mathlib.Omega.{arith}
use lib.Dec.{ltb}
use lib.ListN.{length, drop, length-set}
use lib.Seq.{get_or-set_same, set_out}
use borrow.Author.Tests.{ltb-true, ltb-false}
use Rattle.words.specs.I64.{mid, top, sat_add}
use Rattle.knapsack.specs.Best.{best}
use Rattle.knapsack.specs.Items.{Item}
use Rattle.knapsack.proofs.Best.{best_no_items}
use Rattle.knapsack.proofs.Cases.{by_test}
use Rattle.diagram.specs.After5.{ground_rows, ground_layer, raise, raise_parents, raise_rows, raise_layers, bounds_if, local_bounds}
use Rattle.diagram.specs.Node.{Node, Edge, no_node, node_at, edge_at, update, marked_with}
use Rattle.diagram.specs.Run.{Mode, exactly, restricted, relaxing}
use Rattle.diagram.specs.Tables.{Range, LastExact, unsquashed, squashed_after, Diagram, rows_of, coming, inbound}
use Rattle.theorems.proofs.Rows.{update_at, range_mem, inbound_mem}
use Rattle.theorems.proofs.Arc.{Stepped}
use Rattle.theorems.proofs.Tower.{Tower, root, more, Finished}
use Rattle.theorems.proofs.Steps.{completion, step_lemma}

-- all but what the pass and the cutset write
unfoldable pub plain : Node → Node
plain n = record { capacity = n.capacity; depth = n.depth; value = n.value; bottom = 0; best = n.best; newest = n.newest; fast = n.fast; exact = n.exact; relaxed = n.relaxed; marked = false; cutset = false; deleted = n.deleted }

-- from rows to rows with more marks and larger bottom values
pub record Raised (ns ms : List Node) : Type 0 where
  pub long : length ms ≡ length ns
  pub plain_is : (r : ℕ) → plain (node_at ms r) ≡ plain (node_at ns r)
  pub bots : (r : ℕ) → (node_at ns r).bottom ≤ (node_at ms r).bottom
  pub marks : (r : ℕ) → (node_at ns r).marked ≡ true → (node_at ms r).marked ≡ true

pub raised_refl : (ns : List Node) → Raised ns ns
raised_refl ns = record { long = refl; plain_is = λ r. refl; bots = λ r. omega arith; marks = λ r h. h }

pub raised_trans : (a b c : List Node) → Raised a b → Raised b c → Raised a c
raised_trans a b c p q = record { long = q.long ∙ p.long; plain_is = λ r. q.plain_is r ∙ p.plain_is r; bots = λ r. omega (arith, p.bots r, q.bots r); marks = λ r h. q.marks r (p.marks r h) }

raise_fields : (b : ℕ) (n : Node) → (plain (raise b n) ≡ plain n) × (n.bottom ≤ (raise b n).bottom) × (b ≤ (raise b n).bottom) × ((raise b n).marked ≡ true)
unfolding raise marked_with plain
raise_fields b n = (refl, omega arith, omega arith, refl)

raise_raised : (b : ℕ) (ns : List Node) (s : ℕ) → Raised ns (update (raise b) ns s)
raise_raised b ns s =
    by_test (λ _. Raised ns (update (raise b) ns s)) (ltb s (length ns))
    (λ t. let h = ltb-true _ _ t in
    let f = raise_fields b (node_at ns s) in
    record {
      long = length-set ns s _;
      plain_is = λ r. update_at (λ n. plain n ≡ plain (node_at ns r)) (raise b) ns s r h (λ e. rw e f.0) (λ e. refl);
      bots = λ r. update_at (λ n. (node_at ns r).bottom ≤ n.bottom) (raise b) ns s r h (λ e. rw e f.1) (λ e. omega arith);
      marks = λ r k. update_at (λ n. n.marked ≡ true) (raise b) ns s r h (λ e. f.3) (λ e. k);
    })
    (λ t. rw (set_out ns s (raise b (node_at ns s)) (ltb-false _ _ t)) (raised_refl ns))

-- row r is marked, and its bottom value is b at least
pub record Shows (b r : ℕ) (ns : List Node) : Type 0 where
  pub is_marked : (node_at ns r).marked ≡ true
  pub bottom : b ≤ (node_at ns r).bottom

shows_up : (b r : ℕ) (ns ms : List Node) → Raised ns ms → Shows b r ns → Shows b r ms
shows_up b r ns ms g s = record { is_marked = g.marks r s.is_marked; bottom = omega (arith, s.bottom, g.bots r) }

raise_shows : (b : ℕ) (ns : List Node) (s : ℕ) → s < length ns → Shows b s (update (raise b) ns s)
raise_shows b ns s h =
    let q = get_or-set_same ns s (raise b (node_at ns s)) no_node h in
    let f = raise_fields b (node_at ns s) in
    record { is_marked = rw q f.3; bottom = rw q f.2 }

pub edges_raised : (es : List Edge) (b : ℕ) (l : List ℕ) (ns : List Node) → Raised ns (raise_parents es b l ns)
unfolding raise_parents
edges_raised es b [] ns = raised_refl ns
edges_raised es b (e ∷ l) ns = raised_trans ns _ _ (raise_raised _ ns _) (edges_raised es b l _)

edges_show : (es : List Edge) (b : ℕ) (e : ℕ) (l : List ℕ) → Memᴰ e l → (ns : List Node) → (edge_at es e).from < length ns → Shows (sat_add b (mid + (edge_at es e).cost)) (edge_at es e).from (raise_parents es b l ns)
unfolding raise_parents
edges_show es b e l (Memᴰ.head {x = k} {xs = ks} q) ns h =
    rw q (shows_up _ _ _ _ (edges_raised es b ks (update (raise (sat_add b (mid + (edge_at es k).cost))) ns (edge_at es k).from)) (raise_shows _ ns _ (rw (← q) h)))
edges_show es b e l (Memᴰ.tail {x = k} {xs = ks} m) ns h =
    edges_show es b e ks m (update (raise (sat_add b (mid + (edge_at es k).cost))) ns (edge_at es k).from) (rw length-set h)

row_raised : (t : Bool) (es : List Edge) (b : ℕ) (l : List ℕ) (ns : List Node) → Raised ns (cond t (raise_parents es b l ns) ns)
row_raised true es b l ns = edges_raised es b l ns
row_raised false es b l ns = raised_refl ns

pub rows_raised : (es : List Edge) (rs : List ℕ) (ns : List Node) → Raised ns (raise_rows es rs ns)
unfolding raise_rows
rows_raised es [] ns = raised_refl ns
rows_raised es (r ∷ rs) ns = raised_trans ns _ _ (row_raised (node_at ns r).marked es (node_at ns r).bottom (inbound es r) ns) (rows_raised es rs _)

-- what a row hands up
sat_mono : (a b c : ℕ) → a ≤ b → sat_add a c ≤ sat_add b c
unfolding sat_add
sat_mono a b c h = omega arith

rows_show : (es : List Edge) (r : ℕ) (rs : List ℕ) → Memᴰ r rs → (ns : List Node) → (node_at ns r).marked ≡ true → (e : ℕ) → e < length es → (edge_at es e).to ≡ r → (edge_at es e).from < length ns → Shows (sat_add (node_at ns r).bottom (mid + (edge_at es e).cost)) (edge_at es e).from (raise_rows es rs ns)
unfolding raise_rows
rows_show es r rs (Memᴰ.head {x = k} {xs = ks} q) ns m e l d h =
    let m' : (node_at ns k).marked ≡ true = rw (← q) m in
    rw m' (shows_up _ _ _ _ (rows_raised es ks (raise_parents es (node_at ns k).bottom (inbound es k) ns)) (rw q (edges_show es (node_at ns k).bottom e (inbound es k) (inbound_mem es k e l (d ∙ q)) ns h)))
rows_show es r rs (Memᴰ.tail {x = k} {xs = ks} q) ns m e l d h =
    let g = row_raised (node_at ns k).marked es (node_at ns k).bottom (inbound es k) ns in
    let ms = cond (node_at ns k).marked (raise_parents es (node_at ns k).bottom (inbound es k) ns) ns in
    let h' : (edge_at es e).from < length ms = omega (arith, g.long) in
    let s = rows_show es r ks q ms (g.marks r m) e l d h' in
    record { is_marked = s.is_marked; bottom = omega (arith, s.bottom, sat_mono (node_at ns r).bottom (node_at ms r).bottom (mid + (edge_at es e).cost) (g.bots r)) }

pub layers_raised : (es : List Edge) (ls : List Range) (ns : List Node) → Raised ns (raise_layers es ls ns)
unfolding raise_layers
layers_raised es [] ns = raised_refl ns
layers_raised es (l ∷ ls) ns = raised_trans ns _ _ (rows_raised es (rows_of l) ns) (layers_raised es ls _)

-- ---- the rows of the last stored layer: 0 and a mark

-- nothing else of a row changes
pub record Dressed (ns ms : List Node) : Type 0 where
  pub long : length ms ≡ length ns
  pub plain_is : (r : ℕ) → plain (node_at ms r) ≡ plain (node_at ns r)

dressed_trans : (a b c : List Node) → Dressed a b → Dressed b c → Dressed a c
dressed_trans a b c p q = record { long = q.long ∙ p.long; plain_is = λ r. q.plain_is r ∙ p.plain_is r }

pub raised_dressed : (a b : List Node) → Raised a b → Dressed a b
raised_dressed a b p = record { long = p.long; plain_is = p.plain_is }

ground_fields : (n : Node) → (plain (marked_with mid n) ≡ plain n) × ((marked_with mid n).marked ≡ true) × ((marked_with mid n).bottom ≡ mid)
unfolding marked_with plain
ground_fields n = (refl, refl, refl)

ground_one : (ns : List Node) (s : ℕ) → Dressed ns (update (marked_with mid) ns s)
ground_one ns s =
    by_test (λ _. Dressed ns (update (marked_with mid) ns s)) (ltb s (length ns))
    (λ t. record { long = length-set ns s _; plain_is = λ r. update_at (λ n. plain n ≡ plain (node_at ns r)) (marked_with mid) ns s r (ltb-true _ _ t) (λ e. rw e (ground_fields _).0) (λ e. refl) })
    (λ t. rw (set_out ns s (marked_with mid (node_at ns s)) (ltb-false _ _ t)) (record { long = refl; plain_is = λ r. refl }))

pub ground_dressed : (rs : List ℕ) (ns : List Node) → Dressed ns (ground_rows rs ns)
unfolding ground_rows
ground_dressed [] ns = record { long = refl; plain_is = λ r. refl }
ground_dressed (r ∷ rs) ns = dressed_trans ns _ _ (ground_one ns r) (ground_dressed rs _)

ground_keeps : (rs : List ℕ) (r : ℕ) (ns : List Node) → Shows mid r ns → Shows mid r (ground_rows rs ns)
unfolding ground_rows
ground_keeps [] r ns s = s
ground_keeps (q ∷ qs) r ns s = ground_keeps qs r (update (marked_with mid) ns q)
    (by_test (λ _. Shows mid r (update (marked_with mid) ns q)) (ltb q (length ns))
    (λ t. let f = ground_fields (node_at ns q) in
    record {
      is_marked = update_at (λ n. n.marked ≡ true) (marked_with mid) ns q r (ltb-true _ _ t) (λ _. f.1) (λ _. s.is_marked);
      bottom = update_at (λ n. mid ≤ n.bottom) (marked_with mid) ns q r (ltb-true _ _ t) (λ _. omega (arith, f.2)) (λ _. s.bottom);
    })
    (λ t. rw (set_out ns q (marked_with mid (node_at ns q)) (ltb-false _ _ t)) s))

ground_show : (r : ℕ) (rs : List ℕ) → Memᴰ r rs → (ns : List Node) → r < length ns → Shows mid r (ground_rows rs ns)
unfolding ground_rows
ground_show r rs (Memᴰ.head {x = k} {xs = ks} q) ns h =
    let f = ground_fields (node_at ns k) in
    let g = get_or-set_same ns k (marked_with mid (node_at ns k)) no_node (rw (← q) h) in
    ground_keeps ks r (update (marked_with mid) ns k) (rw q (record { is_marked = rw g f.1; bottom = rw g (omega (arith, f.2)) }))
ground_show r rs (Memᴰ.tail {x = k} {xs = ks} q) ns h = ground_show r ks q (update (marked_with mid) ns k) (rw length-set h)

-- the rows of a layer show what their completions earn
abbrev pub Good : List Item → ℕ → Diagram → Range → List Node → Type 0
Good items lower d L ns = (x y : ℕ) → L.lo ≤ x → x < L.hi → (node_at d.nodes x).deleted ≡ false → y ≤ completion items (node_at d.nodes x) → lower < (node_at d.nodes x).value + y → Shows (min top (mid + y)) x ns

good_up : (items : List Item) (lower : ℕ) (d : Diagram) (L : Range) (ns ms : List Node) → Raised ns ms → Good items lower d L ns → Good items lower d L ms
good_up items lower d L ns ms g k x y a b c e f = shows_up _ x ns ms g (k x y a b c e f)

sat_two : (b c y : ℕ) → min top (mid + (y - c)) ≤ b → min top (mid + y) ≤ sat_add b (mid + c)
unfolding sat_add
sat_two b c y h = omega arith

good_below : (items : List Item) (lower : ℕ) (d : Diagram) (U L : Range) (ns : List Node) → lower < top → L.hi ≤ length ns → ((x : ℕ) → L.lo ≤ x → x < L.hi → (node_at d.nodes x).deleted ≡ false → Stepped items lower d x U.lo U.hi) → Good items lower d U ns → Good items lower d L (raise_rows d.edges (rows_of U) ns)
good_below items lower d U L ns ht hl s k x y a b c e f =
    let n = step_lemma items lower d x U.lo U.hi y ht f e (s x a b c) in
    let w = (edge_at d.edges n.via).cost in
    let t = (edge_at d.edges n.via).to in
    let g = k t (y - w) n.above n.under n.live (omega (arith, n.gains)) (omega (arith, n.hands)) in
    let z = rows_show d.edges t (rows_of U) (range_mem U t n.above n.under) ns g.is_marked n.via n.below refl (rw n.from (omega arith)) in
    let q = sat_two (node_at ns t).bottom w y g.bottom in
    let r = rw n.from at z in
    record { is_marked = r.is_marked; bottom = omega (arith, r.bottom) }

pub good_all : (items : List Item) (lower : ℕ) (d : Diagram) (S : Range) (ns : List Node) → lower < top → {U : Range} {ls : List Range} → Tower items lower d (U ∷ ls) → U.hi ≤ length ns → U.lo ≤ U.hi → Good items lower d U ns → Memᴰ S (U ∷ ls) → Good items lower d S (raise_layers d.edges (U ∷ ls) ns)
unfolding raise_layers
good_all items lower d S ns ht t hl hu g (Memᴰ.head {x = U} {xs = ls} q) = rw q (good_up items lower d U ns _ (layers_raised d.edges (U ∷ ls) ns) g)
good_all items lower d S ns ht (root a b) hl hu g (Memᴰ.tail m) = absurd (Memᴰ.not-nil m)
good_all items lower d S ns ht (more {U = U} {L = L} a b s t) hl hu g (Memᴰ.tail m) =
    good_all items lower d S (raise_rows d.edges (rows_of U) ns) ht t (rw (rows_raised d.edges (rows_of U) ns).long (omega arith)) (up t) (good_below items lower d U L ns ht (omega arith) s g) m
  where
    up : {L : Range} {ls : List Range} → Tower items lower d (L ∷ ls) → L.lo ≤ L.hi
    up (root a b) = omega arith
    up (more a b s t) = b

-- ---- the pass as a whole

layer_dressed : (ls : List Range) (ns : List Node) → Dressed ns (ground_layer ls ns)
unfolding ground_layer
layer_dressed [] ns = record { long = refl; plain_is = λ r. refl }
layer_dressed (l ∷ ls) ns = ground_dressed (rows_of l) ns

if_dressed : (l : LastExact) (d : Diagram) (ns : List Node) → Dressed ns (bounds_if l d ns)
unfolding bounds_if
if_dressed unsquashed d ns = record { long = refl; plain_is = λ r. refl }
if_dressed (squashed_after s) d ns = dressed_trans ns _ _ (layer_dressed d.layers ns) (raised_dressed _ _ (layers_raised d.edges d.layers _))

-- local bounds change bottom values and marks alone
pub bounds_dressed : (m : Mode) (d : Diagram) (ns : List Node) → Dressed ns (local_bounds m d ns)
unfolding local_bounds
bounds_dressed exactly d ns = record { long = refl; plain_is = λ r. refl }
bounds_dressed restricted d ns = record { long = refl; plain_is = λ r. refl }
bounds_dressed relaxing d ns = if_dressed d.last d ns

bounds_are : (d : Diagram) (ns : List Node) (s : Range) (L : Range) (ls : List Range) → d.last ≡ squashed_after s → d.layers ≡ L ∷ ls → local_bounds relaxing d ns ≡ raise_layers d.edges (L ∷ ls) (ground_rows (rows_of L) ns)
unfolding local_bounds bounds_if ground_layer
bounds_are d ns s L ls e st =
    ap (λ (l : LastExact). bounds_if l d ns) e ∙ ap (λ (k : List Range). raise_layers d.edges k (ground_layer k ns)) st

-- After the pass each row of a stored layer that is worth more than the lower bound is marked, and its bottom value shows what its completions earn.
pub local_bounds_lem : (items : List Item) (lower : ℕ) (r₀ : Node) (d : Diagram) (ns : List Node) (s : Range) → lower < top → Finished items lower r₀ d → d.last ≡ squashed_after s → d.start < length d.nodes → length d.nodes ≤ length ns → (S : Range) → Memᴰ S d.layers → Good items lower d S (local_bounds relaxing d ns)
unfolding coming completion
local_bounds_lem items lower r₀ d ns s ht f e h hl S m =
    let st = f.stored h in
    let g₀ : Good items lower d (coming d) (ground_rows (rows_of (coming d)) ns) = λ x y a b c u v.
    let q = f.ends x a b in
    let z : best (drop (node_at d.nodes x).depth items) (node_at d.nodes x).capacity ≡ 0 = rw q (best_no_items _) in
    let w = ground_show x (rows_of (coming d)) (range_mem (coming d) x a b) ns (omega arith) in
    record { is_marked = w.is_marked; bottom = omega (arith, w.bottom) } in
    let r = (ground_dressed (rows_of (coming d)) ns).long in
    let k = good_all items lower d S (ground_rows (rows_of (coming d)) ns) ht f.tower (omega arith) (omega arith) g₀ (subst (λ (l : List Range). Memᴰ S l) st m) in
    subst (λ (z : List Node). Good items lower d S z) (sym (bounds_are d ns s (coming d) f.under e st)) k
