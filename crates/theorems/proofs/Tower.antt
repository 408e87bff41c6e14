-- The finished tables: layer upon layer, every row that is not flagged has, if it is branched, an arc for each decision into the next layer.
use mathlib.Core.Path.{◌≡◌, refl, sym, ap, subst, ◌∙◌}
use mathlib.Core.Bool.{Bool, true, false}
use mathlib.Core.List.{List, [], ◌∷◌}
use Prim.Native.Nat.{ℕ, suc, ◌+◌, ◌≤◌, ◌<◌}
use native.Mathlib.Omega.{arith}
use lib.Dec.{ltb}
use lib.ListN.{length, drop}
use borrow.Author.Tests.{ltb-false}
use Rattle.knapsack.specs.Items.{Item}
use Rattle.diagram.specs.Node.{Node, Edge, node_at, edge_at, fresh}
use Rattle.diagram.specs.Record.{Record}
use Rattle.diagram.specs.Rule1.{root_only}
use Rattle.diagram.specs.Rule2.{store, store_empty, store_last}
use Rattle.diagram.specs.Run.{Mode}
use Rattle.diagram.specs.Tables.{Range, Diagram, coming}
use Rattle.theorems.proofs.Move.{core, Noted, Later, trail_later}
use Rattle.theorems.proofs.Arc.{Coming, Arc, core_val, core_cap, core_dep, core_del, val_handed, outlook, Stepped, core_outlook, Layered}
use Rattle.theorems.proofs.Squash.{Full, Settled, Way, untouched, merges, deletes}
use Rattle.theorems.proofs.Growth.{Ready, Step, store_is}

-- from one table to a later one: the rows below n, and the edges, stay
pub record Frozen (items : List Item) (n : ℕ) (d e : Diagram) : Type 0 where
  pub old : (r : ℕ) → r < n → core (node_at e.nodes r) ≡ core (node_at d.nodes r)
  pub noted : (r : ℕ) → r < n → Noted items (node_at d.nodes r) → Noted items (node_at e.nodes r)
  pub more : length d.edges ≤ length e.edges
  pub edges_are : (k : ℕ) → k < length d.edges → edge_at e.edges k ≡ edge_at d.edges k

arc_frozen : (items : List Item) (n : ℕ) (d e : Diagram) (s c capacity k lo hi : ℕ) → Frozen items n d e → s < n → hi ≤ n → Arc d s c capacity k lo hi → Arc e s c capacity k lo hi
arc_frozen items n d e s c capacity k lo hi g h b a =
    let q = g.edges_are a.via a.below in
    let t = (edge_at d.edges a.via).to in
    let z = g.old t (omega (arith, a.under)) in
    let v = val_handed s c d e (core_val _ _ (g.old s h)) in
    record {
      via = a.via;
      below = omega arith;
      from = rw q a.from;
      costs = rw q a.costs;
      above = rw q a.above;
      under = rw q a.under;
      room = rw q (omega (arith, a.room, core_cap _ _ z));
      depth = rw q (core_dep _ _ z ∙ a.depth);
      live = rw q (core_del _ _ z ∙ a.live);
      worth = rw q (omega (arith, a.worth, core_val _ _ z));
    }

stepped_frozen : (items : List Item) (lower n : ℕ) (d e : Diagram) (s lo hi : ℕ) → Frozen items n d e → s < n → hi ≤ n → Stepped items lower d s lo hi → Stepped items lower e s lo hi
stepped_frozen items lower n d e s lo hi g h b a =
    let o = g.old s h in
    let z = core_outlook items _ _ o in
    let cq = core_cap _ _ o in
    let dq = core_dep _ _ o in
    record {
      noted = g.noted s h a.noted;
      deep = rw dq a.deep;
      skip = λ l. rw (cq, dq) (arc_frozen items n d e s 0 _ _ lo hi g h b (a.skip (rw z at l)));
      take = λ l i is q w. rw (cq, dq) (arc_frozen items n d e s i.profit _ _ lo hi g h b (a.take (rw z at l) i is (rw dq at q) (rw cq at w)));
    }

-- stored layers, newest first: each row that isn't flagged is stepped into the layer above; the lowest layer begins at row 0
pub data Tower (items : List Item) (lower : ℕ) (d : Diagram) : List Range → Type 0 where
  root : {L : Range} → L.lo ≡ 0 → 0 < L.hi → Tower items lower d (L ∷ [])
  more : {U L : Range} {ls : List Range} → L.hi ≤ U.lo → U.lo ≤ U.hi → ((x : ℕ) → L.lo ≤ x → x < L.hi → (node_at d.nodes x).deleted ≡ false → Stepped items lower d x U.lo U.hi) → Tower items lower d (L ∷ ls) → Tower items lower d (U ∷ L ∷ ls)

pub tower_late : {items : List Item} {lower : ℕ} {d : Diagram} {L : Range} {ls : List Range} → Tower items lower d (L ∷ ls) → 0 < L.hi
tower_late (root a b) = b
tower_late (more a b s t) = let z = tower_late t in omega arith

pub tower_frozen : (items : List Item) (lower n : ℕ) (d e : Diagram) → Frozen items n d e → {L : Range} {ls : List Range} → L.hi ≤ n → Tower items lower d (L ∷ ls) → Tower items lower e (L ∷ ls)
tower_frozen items lower n d e g h (root a b) = root a b
tower_frozen items lower n d e g h (more {U = U} {L = L} a b s t) =
    more a b (λ x l u v. stepped_frozen items lower n d e x U.lo U.hi g (omega arith) h (s x l u (sym (core_del _ _ (g.old x (omega arith))) ∙ v)))
    (tower_frozen items lower n d e g (omega arith) t)

-- the coming layer counts as the tower's head; row 0 is the root, apart from its fast bound; k counts the layers
pub record Built (items : List Item) (lower : ℕ) (r₀ : Node) (k : ℕ) (d : Diagram) : Type 0 where
  pub tower : Tower items lower d (coming d ∷ d.layers)
  pub top : core (node_at d.nodes 0) ≡ core r₀
  pub level : k ≡ r₀.depth + length d.layers

-- ---- a squash keeps the tower

settled_frozen : (items : List Item) (md : Mode) (k : ℕ) (d e : Diagram) (l : List ℕ) → Settled md k d e l → Frozen items d.start d e
settled_frozen items md k d e l z = record { old = λ r h. ap core (z.old r h); noted = λ r h n. rw (z.old r h) n; more = z.more; edges_are = z.edges_are }

arc_depth : (k s c capacity k' : ℕ) (d : Diagram) → Coming k d → Arc d s c capacity k' d.start (length d.nodes) → k' ≡ k
arc_depth k s c capacity k' d g a = sym a.depth ∙ g.deps _ a.above a.under

stepped_settled : (items : List Item) (lower : ℕ) (md : Mode) (k : ℕ) (d e : Diagram) (l : List ℕ) (s : ℕ) → Full md → Coming k d → Settled md k d e l → s < d.start → Stepped items lower d s d.start (length d.nodes) → Stepped items lower e s d.start (length e.nodes)
stepped_settled items lower md k d e l s fm g z h a =
    let o = z.old s h in
    let zq = ap (outlook items) o in
    let cq = ap (λ (n : Node). n.capacity) o in
    let dq = ap (λ (n : Node). n.depth) o in
    record {
      noted = rw o a.noted;
      deep = rw dq a.deep;
      skip = λ u. let b = a.skip (rw zq at u) in let q = arc_depth k s _ _ _ d g b in rw (cq, dq, q) (z.arcs fm s _ _ h (rw q at b));
      take = λ u i is y w. let b = a.take (rw zq at u) i is (rw dq at y) (rw cq at w) in let q = arc_depth k s _ _ _ d g b in rw (cq, dq, q) (z.arcs fm s _ _ h (rw q at b));
    }

stepped_lo : {items : List Item} {lower : ℕ} {d : Diagram} {s lo lo' hi : ℕ} → lo ≡ lo' → Stepped items lower d s lo hi → Stepped items lower d s lo' hi
stepped_lo {items} {lower} {d} {s} {lo} {lo'} {hi} e a = subst (λ (x : ℕ). Stepped items lower d s x hi) e a

squash_tower : (items : List Item) (lower : ℕ) (md : Mode) (k : ℕ) (d e : Diagram) (l : List ℕ) → Full md → Coming k d → Settled md k d e l → d.start ≤ length d.nodes → (ls : List Range) → Tower items lower d (coming d ∷ ls) → Tower items lower e (coming e ∷ ls)
unfolding coming
squash_tower items lower md k d e l fm g z sl ls (root a b) = root {L = coming e} (z.begins ∙ a) (omega (arith, z.longer))
squash_tower items lower md k d e l fm g z sl ls (more {L = L} a b s t) =
    more {U = coming e} {L = L} (omega (arith, z.begins)) (omega (arith, z.begins, z.longer))
    (λ x lo hi v. stepped_lo (sym z.begins) (stepped_settled items lower md k d e l x fm g z (omega arith) (s x lo hi (sym (ap (λ (n : Node). n.deleted) (z.old x (omega arith))) ∙ v))))
    (tower_frozen items lower d.start d e (settled_frozen items md k d e l z) (omega arith) t)

-- row 0
tower_high : (items : List Item) (lower : ℕ) (d : Diagram) (ls : List Range) → 1 < length ls → Tower items lower d (coming d ∷ ls) → 0 < d.start
unfolding coming
tower_high items lower d ls h (root a b) = absurd (omega arith)
tower_high items lower d ls h (more {L = L} a b s t) = let z = tower_late t in omega arith

squash_top : (items : List Item) (lower : ℕ) (md : Mode) (k : ℕ) (d e : Diagram) (l : List ℕ) → Full md → Settled md k d e l → Way md k d e → Tower items lower d (coming d ∷ d.layers) → node_at e.nodes 0 ≡ node_at d.nodes 0
squash_top items lower md k d e l fm z untouched t = refl
squash_top items lower md k d e l fm z (merges q h w) t = z.old 0 (tower_high items lower d d.layers h t)
squash_top items lower md k d e l fm z (deletes rest q i) t = absurd (fm q)

-- ---- a layer's step keeps the tower

store_frozen : (items : List Item) (d e : Diagram) → Later items (store d) e → Frozen items (length d.nodes) d e
unfolding store
store_frozen items d e g = record { old = g.old; noted = g.noted; more = g.more; edges_are = g.edges_are }

step_tower : (items : List Item) (lower : ℕ) (md : Mode) (k : ℕ) (l : List ℕ) (d e f : Diagram) → Settled md k d e l → Layered items lower k l (store e) f → (ls : List Range) → f.layers ≡ coming e ∷ ls → Tower items lower e (coming e ∷ ls) → Tower items lower f (coming f ∷ f.layers)
unfolding coming store
step_tower items lower md k l d e f z y ls q t =
    let g = trail_later items y.trail in
    let b = g.begins in
    subst (λ (x : List Range). Tower items lower f (coming f ∷ x)) (sym q) (more {U = coming f} {L = coming e} (omega arith) (omega (arith, g.longer))
    (λ x lo hi v. stepped_lo (sym b) (y.stepped x (z.lives x (omega (arith, z.begins)) hi (sym (core_del _ _ (g.old x hi)) ∙ v))))
    (tower_frozen items lower (length e.nodes) e f (store_frozen items e f g) (omega arith) t))

late : {items : List Item} {lower : ℕ} (d : Diagram) → Tower items lower d (coming d ∷ d.layers) → 0 < length d.nodes
unfolding coming
late d t = tower_late t

-- the layers that are stored, once a step is done
pub step_layers : (items : List Item) (lower : ℕ) (md : Mode) (k : ℕ) (d f : Diagram) → (t : Step items lower md k d f) → f.layers ≡ coming t.after ∷ d.layers
step_layers items lower md k d f t =
    (trail_later items t.layer.trail).layers_are ∙ (store_is t.after).3 ∙ ap (λ (q : List Range). coming t.after ∷ q) t.squash.layers_are

pub step_built : (items : List Item) (lower : ℕ) (r₀ : Node) (md : Mode) → Full md → (k : ℕ) (d f : Diagram) → Ready k d → Step items lower md k d f → Built items lower r₀ k d → Built items lower r₀ (suc k) f
step_built items lower r₀ md fm k d f g t w =
    let c = t.after in
    let s = store_is c in
    let z = t.squash in
    let r = trail_later items t.layer.trail in
    let sl = step_layers items lower md k d f t in
    record {
      tower = step_tower items lower md k t.order d c f z t.layer d.layers sl (squash_tower items lower md k d c t.order fm g.now z g.fits d.layers w.tower);
      top = r.old 0 (omega (arith, s.2, late d w.tower, z.longer)) ∙ ap core (ap (λ (n : List Node). node_at n 0) s.0 ∙ squash_top items lower md k d c t.order fm z t.way w.tower) ∙ w.top;
      level = omega (arith, w.level, ap (length {A = Range}) sl);
    }

-- ---- the finished tables

-- of the tables at the end: the terminals stand on the tower, no item is left for them, none is flagged, row 0 is the root
pub record Finished (items : List Item) (lower : ℕ) (r₀ : Node) (d : Diagram) : Type 0 where
  pub under : List Range
  pub tower : Tower items lower d (coming d ∷ under)
  pub stored : d.start < length d.nodes → d.layers ≡ coming d ∷ under
  pub ends : (r : ℕ) → d.start ≤ r → r < length d.nodes → drop (node_at d.nodes r).depth items ≡ []
  pub lives : (r : ℕ) → d.start ≤ r → r < length d.nodes → (node_at d.nodes r).deleted ≡ false
  pub top : core (node_at d.nodes 0) ≡ core r₀

same_frozen : (items : List Item) (n : ℕ) (d e : Diagram) → e.nodes ≡ d.nodes → e.edges ≡ d.edges → Frozen items n d e
same_frozen items n d e p q =
    record { old = λ r h. ap (λ (ns : List Node). core (node_at ns r)) p; noted = λ r h x. subst (λ (ns : List Node). Noted items (node_at ns r)) (sym p) x; more = omega (arith, ap (length {A = Edge}) q); edges_are = λ k h. ap (λ (es : List Edge). edge_at es k) q }

pub last_finished : (b : Bool) (items : List Item) (lower : ℕ) (r₀ : Node) (k : ℕ) (d : Diagram) → ltb d.start (length d.nodes) ≡ b → drop k items ≡ [] → Ready k d → Built items lower r₀ k d → Finished items lower r₀ (store_last b d)
unfolding store_last coming
last_finished true items lower r₀ k d h e g w =
    record {
      under = d.layers;
      tower = tower_frozen items lower (length d.nodes) d (store_last true d) (same_frozen items _ d _ refl refl) {L = coming d} (omega arith) w.tower;
      stored = λ h. refl;
      ends = λ r a b. rw (g.now.deps r a b) e;
      lives = g.now.lives;
      top = w.top;
    }
last_finished false items lower r₀ k d h e g w =
    record { under = d.layers; tower = w.tower; stored = λ y. absurd (omega (arith, ltb-false d.start (length d.nodes) h)); ends = λ r a b. rw (g.now.deps r a b) e; lives = g.now.lives; top = w.top }

pub empty_finished : (items : List Item) (lower : ℕ) (r₀ : Node) (k : ℕ) (d : Diagram) → ltb d.start (length d.nodes) ≡ false → Ready k d → Built items lower r₀ k d → Finished items lower r₀ (store_empty d)
unfolding store_empty coming
empty_finished items lower r₀ k d h g w =
    let no = ltb-false d.start (length d.nodes) h in
    record {
      under = d.layers;
      tower = tower_frozen items lower (length d.nodes) d (store_empty d) (same_frozen items _ d _ refl refl) {L = coming d} (omega arith) w.tower;
      stored = λ y. absurd (omega arith);
      ends = λ r a b. absurd (omega arith);
      lives = g.now.lives;
      top = w.top;
    }

-- the root's row
unfoldable pub root_row : Record → Node
root_row r = fresh r.capacity r.depth r.value true

pub root_built : (items : List Item) (lower : ℕ) (r : Record) → Built items lower (root_row r) r.depth (root_only r)
unfolding root_only root_row fresh coming
root_built items lower r =
    record { tower = root {L = record { lo = 0; hi = 1 }} refl (omega arith); top = refl; level = omega arith }
