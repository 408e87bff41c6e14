-- Every drained record passes the checks 7 to 9 if the compiled record does, and is strictly deeper.
use mathlib.Core.Path.{◌≡◌, refl, sym, ap, subst, ◌∙◌}
use mathlib.Core.Bool.{Bool, true, false, cond, ◌&&◌, not}
use mathlib.Core.List.Memᴰ
use mathlib.Core.List.{List, [], ◌∷◌, ◌++◌, Memᴰ}
use mathlib.Core.Logic.{⊎_elim}
use Prim.Native.Nat.{ℕ, zero, suc, ◌≤◌, ◌<◌}
use native.Mathlib.Omega.{arith}
use lib.ListN.{length, get_or}
use Rattle.words.specs.I64.{top}
use Rattle.knapsack.specs.Items.{Item, no_item}
use Rattle.knapsack.proofs.Cases.{by_test}
use Rattle.diagram.specs.After3.{decisions_up, path_to}
use Rattle.diagram.specs.After4.{CutsetKind, last_exact_layer, frontier, Cutset, list_row, list_rows, layer_cutset, frontier_edges, frontier_rows, frontier_layers, no_cutset, cutset_of}
use Rattle.diagram.specs.After6.{Outcome, outcome, drained_record, drain_rows, drain_for, drained}
use Rattle.diagram.specs.Node.{Node, Edge, node_at, edge_at, fresh}
use Rattle.diagram.specs.Record.{Record}
use Rattle.diagram.specs.Run.{relaxing}
use Rattle.diagram.specs.Tables.{Range, LastExact, unsquashed, squashed_after, Diagram, Found, at, nowhere, rows_of, inbound}
use Rattle.theorems.proofs.Rows.{range_in, inbound_back}
use Rattle.theorems.proofs.Tower.{root_row}
use Rattle.theorems.proofs.Links.{Wired}
use Rattle.theorems.proofs.Sound.{Sound}
use Rattle.theorems.proofs.Exactness.{LastLayer, Exactness, relaxing_is_full}
use Rattle.theorems.proofs.Local.{plain, bounds_dressed}
use Rattle.theorems.proofs.Cutset.{Listing, plain_exact, add, row_added, rows_added, start_listing}
use Rattle.theorems.proofs.Drain.{cut_listing, plain_val, outcome_is, outcome_plain}
use Rattle.theorems.proofs.Path.{Valid, up_from, path_up, up_valid, exact_deep, valid_small}

-- a drained record is of a row of the cutset
pub record DrainedFrom (pre : List ℕ) (d : Diagram) (l : List ℕ) (r : Record) : Type 0 where
  pub bv : ℕ
  pub row : ℕ
  pub in_cut : Memᴰ row l
  pub is_rec : r ≡ drained_record pre d bv row

drain_of : (pre : List ℕ) (d : Diagram) (bv : ℕ) (rs : List ℕ) (r : Record) → Memᴰ r (drain_rows pre d bv rs) → DrainedFrom pre d rs r
unfolding drain_rows
drain_of pre d bv [] r m = absurd (Memᴰ.not-nil m)
drain_of pre d bv (q ∷ qs) r m =
    (by_test (λ b. Memᴰ r (cond b (drained_record pre d bv q ∷ drain_rows pre d bv qs) (drain_rows pre d bv qs)) → DrainedFrom pre d (q ∷ qs) r) (node_at d.nodes q).marked
    (λ _ k. ⊎_elim (λ e. record { bv = bv; row = q; in_cut = Memᴰ.head refl; is_rec = e }) (λ k. later (drain_of pre d bv qs r k)) (Memᴰ.cases_cons k))
    (λ _ k. later (drain_of pre d bv qs r k))) m
  where
    later : DrainedFrom pre d qs r → DrainedFrom pre d (q ∷ qs) r
    later o = record { bv = o.bv; row = o.row; in_cut = Memᴰ.tail o.in_cut; is_rec = o.is_rec }

pub drained_of_lem : (pre : List ℕ) (o : Outcome) (r : Record) → Memᴰ r (drained pre o) → DrainedFrom pre o.diagram o.cutset r
unfolding drained drain_for
drained_of_lem pre o r m = drain_for_lem o.best pre o r m
  where
    drain_for_lem : (f : Found) (pre : List ℕ) (o : Outcome) (r : Record) → Memᴰ r (drain_for f pre o) → DrainedFrom pre o.diagram o.cutset r
    drain_for_lem nowhere pre o r m = absurd (Memᴰ.not-nil m)
    drain_for_lem (at q) pre o r m = drain_of pre o.diagram _ o.cutset r m

-- ---- the paths of the outcome's tables are those of the growth's

pub path_same : (ns ms : List Node) (es : List Edge) → ((r : ℕ) → (node_at ms r).best ≡ (node_at ns r).best) → (f e : ℕ) → decisions_up f ms es e ≡ decisions_up f ns es e
unfolding decisions_up
path_same ns ms es b zero e = refl
path_same ns ms es b (suc f) zero = refl
path_same ns ms es b (suc f) (suc e) =
    ap (λ (l : List ℕ). (edge_at es e).decision ∷ l) (ap (decisions_up f ms es) (b (edge_at es e).from) ∙ path_same ns ms es b f (node_at ns (edge_at es e).from).best)

pub plain_best : (a b : Node) → plain a ≡ plain b → a.best ≡ b.best
unfolding plain
plain_best a b e = ap (λ (n : Node). n.best) e

outcome_long : (k : CutsetKind) (d : Diagram) → Listing d.nodes (cutset_of k d) → length (outcome relaxing k d).diagram.nodes ≡ length d.nodes
outcome_long k d li = ap (length {A = Node}) (outcome_is k d).2 ∙ (bounds_dressed relaxing d (cutset_of k d).nodes).long ∙ li.long

pub outcome_path : (k : CutsetKind) (d : Diagram) → Listing d.nodes (cutset_of k d) → (pre : List ℕ) (r : ℕ) → path_to pre (outcome relaxing k d).diagram r ≡ pre ++ up_from (length d.nodes) d r
unfolding path_to
outcome_path k d li pre r =
    let e = (outcome relaxing k d).diagram in
    let b : (q : ℕ) → (node_at e.nodes q).best ≡ (node_at d.nodes q).best = λ q. plain_best _ _ (outcome_plain k d li q) in
    ap (λ (l : List ℕ). pre ++ l)
    (ap (λ (n : ℕ). decisions_up n e.nodes e.edges (node_at e.nodes r).best) (outcome_long k d li)
    ∙ ap (λ (es : List Edge). decisions_up (length d.nodes) e.nodes es (node_at e.nodes r).best) (outcome_is k d).4
    ∙ ap (decisions_up (length d.nodes) e.nodes d.edges) (b r)
    ∙ path_same d.nodes e.nodes d.edges b (length d.nodes) (node_at d.nodes r).best)

pub drained_is : (pre : List ℕ) (d : Diagram) (bv r : ℕ) → ((drained_record pre d bv r).capacity ≡ (node_at d.nodes r).capacity) × ((drained_record pre d bv r).value ≡ (node_at d.nodes r).value) × ((drained_record pre d bv r).depth ≡ (node_at d.nodes r).depth) × ((drained_record pre d bv r).path ≡ path_to pre d r)
unfolding drained_record
drained_is pre d bv r = (refl, refl, refl, refl)

pub root_is : (r : Record) → ((root_row r).best ≡ 0) × ((root_row r).value ≡ r.value) × ((root_row r).depth ≡ r.depth) × ((root_row r).exact ≡ true) × ((root_row r).capacity ≡ r.capacity)
unfolding root_row fresh
root_is r = (refl, refl, refl, refl, refl)

-- The tables d of a relaxed run of record r, whose last exact layer is as it should be.
module _ (items : List Item) (page : ℕ) (r : Record) (d : Diagram) (k : CutsetKind) (w : Sound items (root_row r) d) (ll : (s : Range) → d.last ≡ squashed_after s → LastLayer d s) (sl : d.start ≤ length d.nodes) (r' : Record) (m : Memᴰ r' (drained r.path (outcome relaxing k d))) where
  listing : Listing d.nodes (cutset_of k d)
  listing = cut_listing items (root_row r) k d w ll sl

  from : DrainedFrom r.path (outcome relaxing k d).diagram (outcome relaxing k d).cutset r'
  from = drained_of_lem r.path (outcome relaxing k d) r' m

  in_cutset_lem : Memᴰ from.row (cutset_of k d).listed
  in_cutset_lem = subst (λ (l : List ℕ). Memᴰ from.row l) (outcome_is k d).1 from.in_cut

  -- it has the state, the value and the path of an exact row
  drained_row : (r'.capacity ≡ (node_at d.nodes from.row).capacity) × (r'.value ≡ (node_at d.nodes from.row).value) × (r'.depth ≡ (node_at d.nodes from.row).depth) × (r'.path ≡ r.path ++ up_from (length d.nodes) d from.row)
  drained_row =
      let e = (outcome relaxing k d).diagram in
      let di = drained_is r.path e from.bv from.row in
      let pv = plain_val _ _ (outcome_plain k d listing from.row) in (
        ap (λ (x : Record). x.capacity) from.is_rec ∙ di.0 ∙ pv.1,
        ap (λ (x : Record). x.value) from.is_rec ∙ di.1 ∙ pv.0,
        ap (λ (x : Record). x.depth) from.is_rec ∙ di.2 ∙ pv.2,
        ap (λ (x : Record). x.path) from.is_rec ∙ di.3 ∙ outcome_path k d listing r.path from.row,
      )

  pub drained_valid : ((i : ℕ) → (get_or items i no_item).profit ≤ 1000000) → length items ≤ 64 → Valid items page r → Valid items page r'
  drained_valid small l64 v =
      let fr = root_is r in
      let c = from.row in
      let ex = listing.exacts c in_cutset_lem in
      let ht = valid_small items page r small l64 v in
      let u = path_up items d (root_row r) w fr.0 (omega (arith, fr.1)) (length d.nodes) c (omega (arith, ex.0)) ex.0 ex.1 in
      let dn = exact_deep items d (root_row r) w (omega (arith, v.deep, fr.2)) c ex.0 ex.1 in
      let z = drained_row in
      up_valid items page r r' (node_at d.nodes c) (up_from (length d.nodes) d c) small l64 v dn u z.0 z.1 z.2 z.3

-- ---- a drained record is strictly deeper

-- what holds of the sources of edges into rows that are not exact holds of the frontier
abbrev All : (ℕ → Type 0) → Cutset → Type 0
All Q c = (r : ℕ) → Memᴰ r c.listed → Q r

put_all : (Q : ℕ → Type 0) (b : Bool) (c : Cutset) (s : ℕ) → Q s → All Q c → All Q (cond b (list_row s c) c)
unfolding list_row
put_all Q true c s q a r m = ⊎_elim (λ k. a r k) (λ k. subst Q (sym (Memᴰ.eq_of_singleton k)) q) (Memᴰ.append_cases c.listed m)
put_all Q false c s q a r m = a r m

edges_all : (Q : ℕ → Type 0) (es : List Edge) (l : List ℕ) (c : Cutset) → ((e : ℕ) → Memᴰ e l → Q (edge_at es e).from) → All Q c → All Q (frontier_edges es l c)
unfolding frontier_edges
edges_all Q es [] c h a = a
edges_all Q es (e ∷ l) c h a = edges_all Q es l (add c (edge_at es e).from) (λ x m. h x (Memᴰ.tail m)) (put_all Q ((node_at c.nodes (edge_at es e).from).exact && not (node_at c.nodes (edge_at es e).from).cutset) c (edge_at es e).from (h e (Memᴰ.head refl)) a)

row_all : (Q : ℕ → Type 0) (b : Bool) (es : List Edge) (l : List ℕ) (c : Cutset) → (b ≡ false → (e : ℕ) → Memᴰ e l → Q (edge_at es e).from) → All Q c → All Q (cond b c (frontier_edges es l c))
row_all Q true es l c h a = a
row_all Q false es l c h a = edges_all Q es l c (h refl) a

rows_all : (Q : ℕ → Type 0) (ns : List Node) (es : List Edge) (rs : List ℕ) (c : Cutset) → Listing ns c → ((r e : ℕ) → (node_at ns r).exact ≡ false → e < length es → (edge_at es e).to ≡ r → Q (edge_at es e).from) → All Q c → All Q (frontier_rows es rs c)
unfolding frontier_rows
rows_all Q ns es [] c g h a = a
rows_all Q ns es (r ∷ rs) c g h a =
    rows_all Q ns es rs (cond (node_at c.nodes r).exact c (frontier_edges es (inbound es r) c)) (row_added (node_at c.nodes r).exact ns es (inbound es r) c g).listing h
    (row_all Q (node_at c.nodes r).exact es (inbound es r) c (λ x e m. let z = inbound_back es r e m in h r e (sym (plain_exact _ _ (g.plain_is r)) ∙ x) z.0 z.1) a)

layers_all : (Q : ℕ → Type 0) (ns : List Node) (es : List Edge) (ls : List Range) (c : Cutset) → Listing ns c → ((r e : ℕ) → (node_at ns r).exact ≡ false → e < length es → (edge_at es e).to ≡ r → Q (edge_at es e).from) → All Q c → All Q (frontier_layers es ls c)
unfolding frontier_layers
layers_all Q ns es [] c g h a = a
layers_all Q ns es (l ∷ ls) c g h a = layers_all Q ns es ls (frontier_rows es (rows_of l) c) (rows_added ns es (rows_of l) c g).listing h (rows_all Q ns es (rows_of l) c g h a)

all_all : (Q : ℕ → Type 0) (rs : List ℕ) (c : Cutset) → ((r : ℕ) → Memᴰ r rs → Q r) → All Q c → All Q (list_rows rs c)
unfolding list_rows
all_all Q [] c h a = a
all_all Q (s ∷ rs) c h a = all_all Q rs (list_row s c) (λ x m. h x (Memᴰ.tail m)) (put_all Q true c s (h s (Memᴰ.head refl)) a)

-- a row that is exact and not the root is deeper than the record
exact_deeper : (items : List Item) (d : Diagram) (r₀ : Node) → Sound items r₀ d → r₀.best ≡ 0 → r₀.value ≤ top → (y : ℕ) → 0 < y → y < length d.nodes → (node_at d.nodes y).exact ≡ true → r₀.depth < (node_at d.nodes y).depth
exact_deeper items d r₀ w b₀ h₀ y p ln x =
    let v = w.traced y ln p (w.pure y ln x) in
    let s = (edge_at d.edges v.by).from in
    let u = path_up items d r₀ w b₀ h₀ s s (omega arith) (omega (arith, v.before)) (v.up x) in
    omega (arith, v.depth, u.long)

layer_deeper : (items : List Item) (d : Diagram) (r₀ : Node) → Sound items r₀ d → ((s : Range) → d.last ≡ squashed_after s → LastLayer d s) → d.start ≤ length d.nodes → r₀.best ≡ 0 → r₀.value ≤ top → (l : LastExact) → d.last ≡ l → (r : ℕ) → Memᴰ r (layer_cutset l (no_cutset d)).listed → r₀.depth < (node_at d.nodes r).depth
unfolding layer_cutset no_cutset
layer_deeper items d r₀ w ll sl b₀ h₀ unsquashed e = λ r m. absurd (Memᴰ.not-nil m)
layer_deeper items d r₀ w ll sl b₀ h₀ (squashed_after s) e =
    let q = ll s e in
    all_all (λ r. r₀.depth < (node_at d.nodes r).depth) (rows_of s) (record { nodes = d.nodes; listed = [] })
    (λ r m. let z = range_in s r m in exact_deeper items d r₀ w b₀ h₀ r (omega (arith, q.deep)) (omega (arith, q.done)) (q.exacts r (omega arith)))
    (λ r m. absurd (Memᴰ.not-nil m))

pub empty_listing : (d : Diagram) → ((r : ℕ) → r < length d.nodes → (node_at d.nodes r).cutset ≡ false) → Listing d.nodes (no_cutset d)
unfolding no_cutset
empty_listing d cl = start_listing d.nodes cl

empty_all : (Q : ℕ → Type 0) (d : Diagram) → All Q (no_cutset d)
unfolding no_cutset
empty_all Q d r m = absurd (Memᴰ.not-nil m)

cut_deeper : (items : List Item) (k : CutsetKind) (d : Diagram) (r₀ : Node) → Sound items r₀ d → Wired d → Exactness relaxing r₀.depth d → d.start ≤ length d.nodes → r₀.best ≡ 0 → r₀.value ≤ top → (r : ℕ) → Memᴰ r (cutset_of k d).listed → r₀.depth < (node_at d.nodes r).depth
unfolding cutset_of
cut_deeper items frontier d r₀ w wi ex sl b₀ h₀ =
    layers_all (λ r. r₀.depth < (node_at d.nodes r).depth) d.nodes d.edges d.layers (no_cutset d) (empty_listing d w.clean)
    (λ r e x l q. let a = wi.arrows e l in let f = ex.far _ a.to_in (subst (λ (z : ℕ). (node_at d.nodes z).exact ≡ false) (sym q) x) in omega (arith, a.deeper))
    (empty_all (λ r. r₀.depth < (node_at d.nodes r).depth) d)
cut_deeper items last_exact_layer d r₀ w wi ex sl b₀ h₀ = layer_deeper items d r₀ w (ex.last_layer relaxing_is_full) sl b₀ h₀ d.last refl

pub drained_deeper : (items : List Item) (r r' : Record) (d : Diagram) (k : CutsetKind) → r.value ≤ top → d.start ≤ length d.nodes → Sound items (root_row r) d → Wired d → Exactness relaxing (root_row r).depth d → Memᴰ r' (drained r.path (outcome relaxing k d)) → r.depth < r'.depth
drained_deeper items r r' d k ht sl w wi ex m =
    let ll = ex.last_layer relaxing_is_full in
    let fr = root_is r in
    let h = cut_deeper items k d (root_row r) w wi ex sl fr.0 (omega (arith, fr.1)) _ (in_cutset_lem items 0 r d k w ll sl r' m) in
    omega (arith, h, fr.2, (drained_row items 0 r d k w ll sl r' m).2)
