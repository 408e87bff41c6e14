-- The cutset lemmas: a row of the cutset, exact and not the root, is worth what the record is worth above the bound, unless an exact terminal is.
use mathlib.Core.Path.{◌≡◌, refl, sym, ap, subst, ◌∙◌}
use mathlib.Core.Bool.{Bool, true, false, cond, ◌&&◌, not}
use mathlib.Core.List.{List, [], ◌∷◌, ◌++◌, Memᴰ}
use mathlib.Core.Logic.{◌⊎◌, ⊎_elim, inl, inr}
use Prim.Native.Nat.{ℕ, zero, suc, ◌≤◌, ◌<◌}
use native.Mathlib.Omega.{arith}
use lib.ListN.{length, drop, length-set}
use Rattle.words.specs.I64.{top}
use Rattle.knapsack.specs.Best.{best}
use Rattle.knapsack.specs.Items.{Item}
use Rattle.knapsack.proofs.Best.{best_no_items}
use Rattle.knapsack.proofs.Cases.{by_test}
use Rattle.diagram.specs.After4.{last_exact_layer, frontier, Cutset, list_row, list_rows, layer_cutset, frontier_edges, frontier_rows, frontier_layers, no_cutset, cutset_of}
use Rattle.diagram.specs.Node.{Node, Edge, node_at, edge_at, in_cutset}
use Rattle.diagram.specs.Tables.{Range, LastExact, squashed_after, Diagram, rows_of, coming, inbound}
use Rattle.theorems.proofs.Bool.{and_both}
use Rattle.theorems.proofs.Rows.{update_at, range_mem, range_in, inbound_mem}
use Rattle.theorems.proofs.Move.{Noted}
use Rattle.theorems.proofs.Tower.{Tower, root, more, Finished}
use Rattle.theorems.proofs.Steps.{completion, potential, next_pot, step_x, InRange, tower_has}
use Rattle.theorems.proofs.Sound.{Sound}
use Rattle.theorems.proofs.Exactness.{LastLayer}
use Rattle.theorems.proofs.Local.{plain}

-- a cutset in the making, over the rows ns
pub record Listing (ns : List Node) (c : Cutset) : Type 0 where
  pub long : length c.nodes ≡ length ns
  pub plain_is : (r : ℕ) → plain (node_at c.nodes r) ≡ plain (node_at ns r)
  pub listed : (r : ℕ) → r < length ns → (node_at c.nodes r).cutset ≡ true → Memᴰ r c.listed
  pub exacts : (r : ℕ) → Memᴰ r c.listed → (r < length ns) × ((node_at ns r).exact ≡ true)

pub plain_exact : (a b : Node) → plain a ≡ plain b → a.exact ≡ b.exact
unfolding plain
plain_exact a b e = ap (λ (n : Node). n.exact) e

cut_fields : (n : Node) → (plain (in_cutset n) ≡ plain n) × ((in_cutset n).cutset ≡ true)
unfolding in_cutset plain
cut_fields n = (refl, refl)

-- one parent: listed if it is exact and not yet listed
abbrev pub add : Cutset → ℕ → Cutset
add c s = cond ((node_at c.nodes s).exact && not (node_at c.nodes s).cutset) (list_row s c) c

pub row_listing : (ns : List Node) (c : Cutset) (s : ℕ) → s < length ns → (node_at ns s).exact ≡ true → Listing ns c → Listing ns (list_row s c)
unfolding list_row
row_listing ns c s h x g =
    let b : s < length c.nodes = omega (arith, g.long) in
    record {
      long = length-set c.nodes s _ ∙ g.long;
      plain_is = λ r. update_at (λ n. plain n ≡ plain (node_at ns r)) in_cutset c.nodes s r b (λ e. (cut_fields _).0 ∙ g.plain_is s ∙ ap (λ (q : ℕ). plain (node_at ns q)) (sym e)) (λ e. g.plain_is r);
      listed = λ r l. update_at (λ n. n.cutset ≡ true → Memᴰ r (c.listed ++ (s ∷ []))) in_cutset c.nodes s r b (λ e _. mathlib.Core.List.Memᴰ.append_right c.listed (mathlib.Core.List.Memᴰ.head e)) (λ e q. mathlib.Core.List.Memᴰ.append_left _ (g.listed r l q));
      exacts = λ r m. ⊎_elim (λ a. g.exacts r a) (λ a. let q = mathlib.Core.List.Memᴰ.eq_of_singleton a in (omega arith, rw q x)) (mathlib.Core.List.Memᴰ.append_cases c.listed m);
    }

nil_exact : (ns : List Node) (s : ℕ) → (node_at ns s).exact ≡ true → s < length ns
nil_exact [] zero e = let z : ◌≡◌ {A = ℕ} 0 1 = cc in absurd (omega arith)
nil_exact [] (suc s) e = let z : ◌≡◌ {A = ℕ} 0 1 = cc in absurd (omega arith)
nil_exact (n ∷ ns) zero e = omega arith
nil_exact (n ∷ ns) (suc s) e = let z = nil_exact ns s e in omega arith

-- what one step ensures: the list grows, and holds an exact parent
pub record Added (ns : List Node) (c e : Cutset) : Type 0 where
  pub listing : Listing ns e
  pub keeps : (r : ℕ) → Memᴰ r c.listed → Memᴰ r e.listed

added_trans : (ns : List Node) (a b c : Cutset) → Added ns a b → Added ns b c → Added ns a c
added_trans ns a b c p q = record { listing = q.listing; keeps = λ r m. q.keeps r (p.keeps r m) }

add_added : (ns : List Node) (c : Cutset) (s : ℕ) → Listing ns c → Added ns c (add c s)
unfolding list_row
add_added ns c s g =
    by_test (λ b. Added ns c (cond b (list_row s c) c)) ((node_at c.nodes s).exact && not (node_at c.nodes s).cutset)
    (λ t. let x = (and_both (node_at c.nodes s).exact (not (node_at c.nodes s).cutset) t).0 in
    record { listing = row_listing ns c s (omega (arith, nil_exact c.nodes s x, g.long)) (sym (plain_exact _ _ (g.plain_is s)) ∙ x) g; keeps = λ r m. mathlib.Core.List.Memᴰ.append_left _ m })
    (λ t. record { listing = g; keeps = λ r m. m })

add_has : (ns : List Node) (c : Cutset) (s : ℕ) → Listing ns c → s < length ns → (node_at ns s).exact ≡ true → Memᴰ s (add c s).listed
unfolding list_row
add_has ns c s g h x =
    let x' : (node_at c.nodes s).exact ≡ true = plain_exact _ _ (g.plain_is s) ∙ x in
    by_test (λ b. (node_at c.nodes s).cutset ≡ b → Memᴰ s (cond ((node_at c.nodes s).exact && not b) (list_row s c) c).listed) (node_at c.nodes s).cutset
    (λ _ t. rw x' (g.listed s h t))
    (λ _ t. rw x' (mathlib.Core.List.Memᴰ.append_right c.listed (mathlib.Core.List.Memᴰ.head refl))) refl

edges_added : (ns : List Node) (es : List Edge) (l : List ℕ) (c : Cutset) → Listing ns c → Added ns c (frontier_edges es l c)
unfolding frontier_edges
edges_added ns es [] c g = record { listing = g; keeps = λ r m. m }
edges_added ns es (e ∷ l) c g =
    let a = add_added ns c (edge_at es e).from g in
    added_trans ns c _ _ a (edges_added ns es l (add c (edge_at es e).from) a.listing)

edges_has : (ns : List Node) (es : List Edge) (e : ℕ) (l : List ℕ) → Memᴰ e l → (c : Cutset) → Listing ns c → (edge_at es e).from < length ns → (node_at ns (edge_at es e).from).exact ≡ true → Memᴰ (edge_at es e).from (frontier_edges es l c).listed
unfolding frontier_edges
edges_has ns es e l (mathlib.Core.List.Memᴰ.head {x = k} {xs = ks} q) c g h x =
    let a = add_added ns c (edge_at es k).from g in
    (edges_added ns es ks (add c (edge_at es k).from) a.listing).keeps _ (rw q (add_has ns c (edge_at es k).from g (rw (← q) h) (rw (← q) x)))
edges_has ns es e l (mathlib.Core.List.Memᴰ.tail {x = k} {xs = ks} q) c g h x =
    let a = add_added ns c (edge_at es k).from g in
    edges_has ns es e ks q (add c (edge_at es k).from) a.listing h x

pub row_added : (b : Bool) (ns : List Node) (es : List Edge) (l : List ℕ) (c : Cutset) → Listing ns c → Added ns c (cond b c (frontier_edges es l c))
row_added true ns es l c g = record { listing = g; keeps = λ r m. m }
row_added false ns es l c g = edges_added ns es l c g

pub rows_added : (ns : List Node) (es : List Edge) (rs : List ℕ) (c : Cutset) → Listing ns c → Added ns c (frontier_rows es rs c)
unfolding frontier_rows
rows_added ns es [] c g = record { listing = g; keeps = λ r m. m }
rows_added ns es (r ∷ rs) c g =
    let a = row_added (node_at c.nodes r).exact ns es (inbound es r) c g in
    added_trans ns c _ _ a (rows_added ns es rs (cond (node_at c.nodes r).exact c (frontier_edges es (inbound es r) c)) a.listing)

rows_has : (ns : List Node) (es : List Edge) (r : ℕ) (rs : List ℕ) → Memᴰ r rs → (c : Cutset) → Listing ns c → (node_at ns r).exact ≡ false → (e : ℕ) → e < length es → (edge_at es e).to ≡ r → (edge_at es e).from < length ns → (node_at ns (edge_at es e).from).exact ≡ true → Memᴰ (edge_at es e).from (frontier_rows es rs c).listed
unfolding frontier_rows
rows_has ns es r rs (mathlib.Core.List.Memᴰ.head {x = k} {xs = ks} q) c g nx e l d h x =
    let nx' : (node_at c.nodes k).exact ≡ false = plain_exact _ _ (g.plain_is k) ∙ (rw q at nx) in
    let a = edges_added ns es (inbound es k) c g in
    subst (λ (b : Bool). Memᴰ (edge_at es e).from (frontier_rows es ks (cond b c (frontier_edges es (inbound es k) c))).listed) (sym nx') ((rows_added ns es ks (frontier_edges es (inbound es k) c) a.listing).keeps _ (edges_has ns es e (inbound es k) (inbound_mem es k e l (d ∙ q)) c g h x))
rows_has ns es r rs (mathlib.Core.List.Memᴰ.tail {x = k} {xs = ks} q) c g nx e l d h x =
    let a = row_added (node_at c.nodes k).exact ns es (inbound es k) c g in
    rows_has ns es r ks q (cond (node_at c.nodes k).exact c (frontier_edges es (inbound es k) c)) a.listing nx e l d h x

pub layers_added : (ns : List Node) (es : List Edge) (ls : List Range) (c : Cutset) → Listing ns c → Added ns c (frontier_layers es ls c)
unfolding frontier_layers
layers_added ns es [] c g = record { listing = g; keeps = λ r m. m }
layers_added ns es (l ∷ ls) c g =
    let a = rows_added ns es (rows_of l) c g in
    added_trans ns c _ _ a (layers_added ns es ls (frontier_rows es (rows_of l) c) a.listing)

layers_has : (ns : List Node) (es : List Edge) (S : Range) (ls : List Range) → Memᴰ S ls → (c : Cutset) → Listing ns c → (r : ℕ) → S.lo ≤ r → r < S.hi → (node_at ns r).exact ≡ false → (e : ℕ) → e < length es → (edge_at es e).to ≡ r → (edge_at es e).from < length ns → (node_at ns (edge_at es e).from).exact ≡ true → Memᴰ (edge_at es e).from (frontier_layers es ls c).listed
unfolding frontier_layers
layers_has ns es S ls (mathlib.Core.List.Memᴰ.head {x = L} {xs = ks} q) c g r a b nx e l d h x =
    let m = rows_has ns es r (rows_of L) (subst (λ (z : Range). Memᴰ r (rows_of z)) q (range_mem S r a b)) c g nx e l d h x in
    (layers_added ns es ks (frontier_rows es (rows_of L) c) (rows_added ns es (rows_of L) c g).listing).keeps _ m
layers_has ns es S ls (mathlib.Core.List.Memᴰ.tail {x = L} {xs = ks} q) c g r a b nx e l d h x =
    layers_has ns es S ks q (frontier_rows es (rows_of L) c) (rows_added ns es (rows_of L) c g).listing r a b nx e l d h x

pub start_listing : (ns : List Node) → ((r : ℕ) → r < length ns → (node_at ns r).cutset ≡ false) → Listing ns (record { nodes = ns; listed = [] })
start_listing ns cl =
    record { long = refl; plain_is = λ r. refl; listed = λ r h q. let w = cl r h in let z : ◌≡◌ {A = ℕ} 0 1 = cc in absurd (omega arith); exacts = λ r m. absurd (mathlib.Core.List.Memᴰ.not-nil m) }

-- the last exact layer: its rows
pub all_added : (ns : List Node) (rs : List ℕ) (c : Cutset) → Listing ns c → ((r : ℕ) → Memᴰ r rs → (r < length ns) × ((node_at ns r).exact ≡ true)) → Added ns c (list_rows rs c)
unfolding list_rows list_row
all_added ns [] c g b = record { listing = g; keeps = λ r m. m }
all_added ns (r ∷ rs) c g b =
    let z = b r (mathlib.Core.List.Memᴰ.head refl) in
    let p = row_listing ns c r z.0 z.1 g in
    added_trans ns c (list_row r c) _ (record { listing = p; keeps = λ q m. mathlib.Core.List.Memᴰ.append_left _ m }) (all_added ns rs (list_row r c) p (λ q m. b q (mathlib.Core.List.Memᴰ.tail m)))

all_has : (ns : List Node) (r : ℕ) (rs : List ℕ) → Memᴰ r rs → (c : Cutset) → Listing ns c → ((r : ℕ) → Memᴰ r rs → (r < length ns) × ((node_at ns r).exact ≡ true)) → Memᴰ r (list_rows rs c).listed
unfolding list_rows list_row
all_has ns r rs (mathlib.Core.List.Memᴰ.head {x = k} {xs = ks} q) c g b =
    let z = b k (mathlib.Core.List.Memᴰ.head refl) in
    (all_added ns ks (list_row k c) (row_listing ns c k z.0 z.1 g) (λ y m. b y (mathlib.Core.List.Memᴰ.tail m))).keeps r (mathlib.Core.List.Memᴰ.append_right c.listed (mathlib.Core.List.Memᴰ.head q))
all_has ns r rs (mathlib.Core.List.Memᴰ.tail {x = k} {xs = ks} q) c g b =
    let z = b k (mathlib.Core.List.Memᴰ.head refl) in
    all_has ns r ks q (list_row k c) (row_listing ns c k z.0 z.1 g) (λ y m. b y (mathlib.Core.List.Memᴰ.tail m))

-- a row of the cutset that is worth x
pub record CutRow (items : List Item) (d : Diagram) (x : ℕ) (l : List ℕ) : Type 0 where
  pub row : ℕ
  pub in_cut : Memᴰ row l
  pub not_root : 0 < row
  pub inside : row < length d.nodes
  pub exact : (node_at d.nodes row).exact ≡ true
  pub live : (node_at d.nodes row).deleted ≡ false
  pub worth : x ≤ potential items (node_at d.nodes row)
  pub noted : Noted items (node_at d.nodes row)
  pub layer : Range
  pub stored : Memᴰ layer d.layers
  pub lo_is : layer.lo ≤ row
  pub hi_is : row < layer.hi

record ExactIn (items : List Item) (d : Diagram) (L : Range) (x : ℕ) : Type 0 where
  at_row : InRange items d L x
  exact : (node_at d.nodes at_row.row).exact ≡ true
  not_root : 0 < at_row.row

-- down by the step lemma while the rows are exact; b: the rows below it are exact, the second layer among them
module _ (items : List Item) (lower : ℕ) (d : Diagram) (x b : ℕ) (hb : lower < x) (ht : x ≤ top) (hd : (node_at d.nodes 0).deleted ≡ false) (hx : x ≤ potential items (node_at d.nodes 0))
    (ex : (r : ℕ) → r < b → (node_at d.nodes r).exact ≡ true) (S : Range) (S-deep : 0 < S.lo) (S-is : S.hi ≡ b) (cl : List ℕ)
    (has : (L : Range) → Memᴰ L d.layers → (r : ℕ) → L.lo ≤ r → r < L.hi → (node_at d.nodes r).exact ≡ false → (e : ℕ) → e < length d.edges → (edge_at d.edges e).to ≡ r → (edge_at d.edges e).from < length d.nodes → (node_at d.nodes (edge_at d.edges e).from).exact ≡ true → Memᴰ (edge_at d.edges e).from cl) where
  walk_down : {U L : Range} {ls : List Range} → Tower items lower d (U ∷ L ∷ ls) → ((T : Range) → Memᴰ T (U ∷ L ∷ ls) → Memᴰ T d.layers) → U.hi ≤ length d.nodes → Memᴰ S (U ∷ L ∷ ls) ⊎ (U.hi ≤ b) → CutRow items d x cl ⊎ ExactIn items d U x
  walk_down (more {U = U} {L = L} p q s (root lo hi)) part hl wh =
      let n = step_x items lower d 0 U.lo U.hi x hb ht hx (s 0 (omega arith) hi hd) in
      let low : U.hi ≤ b = ⊎_elim (λ m. ⊎_elim (λ e. omega (arith, S-is, ap (λ (z : Range). z.hi) e)) (λ k. ⊎_elim (λ e. absurd (omega (arith, S-deep, ap (λ (z : Range). z.lo) e))) (λ z. absurd (mathlib.Core.List.Memᴰ.not-nil z)) (mathlib.Core.List.Memᴰ.cases_cons k)) (mathlib.Core.List.Memᴰ.cases_cons m)) (λ k. k) wh in
      inr (record { at_row = record { row = _; lo_is = n.above; hi_is = n.under; live = n.live; worth = next_pot items d 0 U.lo U.hi x ht hx n }; exact = ex _ (omega (arith, n.under)); not_root = omega (arith, n.above) })
  walk_down (more {U = U} {L = L} p q s (more {U = L₁} {L = K} {ls = ks} p' q' s' t)) part hl wh =
      let wh' : Memᴰ S (L ∷ K ∷ ks) ⊎ (L.hi ≤ b) = ⊎_elim (λ m. ⊎_elim (λ e. inr (omega (arith, S-is, ap (λ (z : Range). z.hi) e))) (λ k. inl k) (mathlib.Core.List.Memᴰ.cases_cons m)) (λ k. inr (omega arith)) wh in
      ⊎_elim (λ c. inl c)
      (λ z. let r = z.at_row in
      let n = step_x items lower d r.row U.lo U.hi x hb ht r.worth (s r.row r.lo_is r.hi_is r.live) in
      let y = (edge_at d.edges n.via).to in
      by_test (λ k. (node_at d.nodes y).exact ≡ k → CutRow items d x cl ⊎ ExactIn items d U x) (node_at d.nodes y).exact
      (λ _ k. inr (record { at_row = record { row = y; lo_is = n.above; hi_is = n.under; live = n.live; worth = next_pot items d r.row U.lo U.hi x ht r.worth n }; exact = k; not_root = omega (arith, n.above, r.hi_is) }))
      (λ _ k. let sl : r.row < length d.nodes = omega (arith, r.hi_is) in
      let m = has U (part U (mathlib.Core.List.Memᴰ.head refl)) y n.above n.under k n.via n.below refl (rw n.from sl) (rw n.from z.exact) in
      inl (record { row = r.row; in_cut = rw n.from at m; not_root = z.not_root; inside = sl; exact = z.exact; live = r.live; worth = r.worth; noted = (s r.row r.lo_is r.hi_is r.live).noted; layer = L; stored = part L (mathlib.Core.List.Memᴰ.tail (mathlib.Core.List.Memᴰ.head refl)); lo_is = r.lo_is; hi_is = r.hi_is })) refl)
      (walk_down (more {U = L} {L = K} {ls = ks} p' q' s' t) (λ T m. part T (mathlib.Core.List.Memᴰ.tail m)) (omega arith) wh')

-- an exact terminal worth x
pub record ExactEnd (d : Diagram) (x : ℕ) : Type 0 where
  pub row : ℕ
  pub lo_is : d.start ≤ row
  pub hi_is : row < length d.nodes
  pub exact : (node_at d.nodes row).exact ≡ true
  pub worth : x ≤ (node_at d.nodes row).value

pub end_worth : (items : List Item) (n : Node) (x : ℕ) → drop n.depth items ≡ [] → x ≤ potential items n → x ≤ n.value
unfolding completion
end_worth items n x e h = let z : best (drop n.depth items) n.capacity ≡ 0 = rw e (best_no_items _) in omega arith

-- The frontier: a row of it is worth x, or an exact terminal is.
pub frontier_lemma : (items : List Item) (lower : ℕ) (r₀ : Node) (d : Diagram) (x : ℕ) (s : Range) → lower < x → x ≤ top → Finished items lower r₀ d → Sound items r₀ d → LastLayer d s → d.start < length d.nodes → (node_at d.nodes 0).deleted ≡ false → x ≤ potential items (node_at d.nodes 0) → CutRow items d x (cutset_of frontier d).listed ⊎ ExactEnd d x
unfolding cutset_of coming no_cutset
frontier_lemma items lower r₀ d x s hb ht f w q hn hd hx = go f.under f.tower (f.stored hn)
  where
    go : (ls : List Range) → Tower items lower d (coming d ∷ ls) → d.layers ≡ coming d ∷ ls → CutRow items d x (frontier_layers d.edges d.layers (record { nodes = d.nodes; listed = [] })).listed ⊎ ExactEnd d x
    go ls (root a b) e =
        ⊎_elim (λ k. absurd (omega (arith, q.deep, ap (λ (z : Range). z.lo) k))) (λ k. absurd (mathlib.Core.List.Memᴰ.not-nil k)) (mathlib.Core.List.Memᴰ.cases_cons (subst (λ (z : List Range). Memᴰ s z) e q.stored))
    go ls (more {U = U} {L = L} {ls = ks} a b st t) e =
        ⊎_elim (λ c. inl c)
        (λ z. let r = z.at_row in inr (record { row = r.row; lo_is = r.lo_is; hi_is = r.hi_is; exact = z.exact; worth = end_worth items _ x (f.ends r.row r.lo_is r.hi_is) r.worth }))
        (walk_down items lower d x s.hi hb ht hd hx q.exacts s q.deep refl _
        (λ T m r u v nx k l dq h ex. layers_has d.nodes d.edges T d.layers m _ (start_listing d.nodes w.clean) r u v nx k l dq h ex)
        (more {U = coming d} {L = L} {ls = ks} a b st t) (λ T m. subst (λ (z : List Range). Memᴰ T z) (sym e) m) (omega arith) (inl (subst (λ (z : List Range). Memᴰ s z) e q.stored)))

-- the layers from S down, and the one on it
record Above (items : List Item) (lower : ℕ) (d : Diagram) (S : Range) : Type 0 where
  over : Range
  down : List Range
  tower : Tower items lower d (over ∷ S ∷ down)

tower_above : (items : List Item) (lower : ℕ) (d : Diagram) {U : Range} {ls : List Range} (S : Range) → Tower items lower d (U ∷ ls) → Memᴰ S ls → Above items lower d S
tower_above items lower d S (root a b) m = absurd (mathlib.Core.List.Memᴰ.not-nil m)
tower_above items lower d S (more {U = U} {L = L} {ls = ks} a b s t) (mathlib.Core.List.Memᴰ.head q) = subst (λ (z : Range). Above items lower d z) (sym q) (record { over = U; down = ks; tower = more {U = U} {L = L} {ls = ks} a b s t })
tower_above items lower d S (more a b s t) (mathlib.Core.List.Memᴰ.tail m) = tower_above items lower d S t m

above_row : (items : List Item) (lower : ℕ) (d : Diagram) (x : ℕ) {U S : Range} {ks : List Range} → lower < x → x ≤ top → (node_at d.nodes 0).deleted ≡ false → x ≤ potential items (node_at d.nodes 0) → Tower items lower d (U ∷ S ∷ ks) → (i : InRange items d S x) × Noted items (node_at d.nodes i.row)
above_row items lower d x hb ht hd hx (more a b s t) = let i = tower_has items lower d x hb ht hd hx t in (i, (s i.row i.lo_is i.hi_is i.live).noted)

pub last_cut : (d : Diagram) (s : Range) → d.last ≡ squashed_after s → cutset_of last_exact_layer d ≡ list_rows (rows_of s) (no_cutset d)
unfolding cutset_of layer_cutset
last_cut d s e = ap (λ (l : LastExact). layer_cutset l (no_cutset d)) e

-- The last exact layer: a row of it is worth x.
pub last_layer_lemma : (items : List Item) (lower : ℕ) (r₀ : Node) (d : Diagram) (x : ℕ) (s : Range) → lower < x → x ≤ top → Finished items lower r₀ d → Sound items r₀ d → d.last ≡ squashed_after s → LastLayer d s → d.start < length d.nodes → (node_at d.nodes 0).deleted ≡ false → x ≤ potential items (node_at d.nodes 0) → CutRow items d x (cutset_of last_exact_layer d).listed
unfolding coming no_cutset
last_layer_lemma items lower r₀ d x s hb ht f w le q hn hd hx =
    let m : Memᴰ s f.under = ⊎_elim (λ k. absurd (omega (arith, q.done, ap (λ (z : Range). z.hi) k))) (λ k. k) (mathlib.Core.List.Memᴰ.cases_cons (subst (λ (z : List Range). Memᴰ s z) (f.stored hn) q.stored)) in
    let a = tower_above items lower d s f.tower m in
    let p = above_row items lower d x hb ht hd hx a.tower in
    let i = p.0 in
    let bd : (r : ℕ) → Memᴰ r (rows_of s) → (r < length d.nodes) × ((node_at d.nodes r).exact ≡ true) = λ r k. let z = range_in s r k in (omega (arith, q.done), q.exacts r (omega arith)) in
    record {
      row = i.row;
      in_cut = subst (λ (z : Cutset). Memᴰ i.row z.listed) (sym (last_cut d s le)) (all_has d.nodes i.row (rows_of s) (range_mem s i.row i.lo_is i.hi_is) (no_cutset d) (start_listing d.nodes w.clean) bd);
      not_root = omega (arith, q.deep, i.lo_is);
      inside = omega (arith, q.done, i.hi_is);
      exact = q.exacts i.row i.hi_is;
      live = i.live;
      worth = i.worth;
      noted = p.1;
      layer = s;
      stored = q.stored;
      lo_is = i.lo_is;
      hi_is = i.hi_is;
    }
