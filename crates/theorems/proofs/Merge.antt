-- The merge of rows of the coming layer as a trail of two kinds of moves: a row is flagged deleted, an edge is copied to the merged row.
use mathlib.Core.Path.{◌≡◌, refl, sym, ap, ◌∙◌}
use mathlib.Core.Bool.{true, false}
use mathlib.Core.List.{List, [], ◌∷◌, ◌++◌, Memᴰ}
use mathlib.Core.Logic.{◌⊎◌, ⊎_elim, inl, inr, ◌≢◌}
use Prim.Native.Nat.{ℕ, ◌≤◌, ◌<◌}
use native.Mathlib.Omega.{arith}
use lib.ListN.{length, length-append, get_or-append, length-set}
use lib.Seq.{get_or-set_same, get_or-set_other, get_or-append_seam}
use Rattle.diagram.specs.Node.{Node, Edge, no_node, no_edge, node_at, edge_at, update, with_deleted}
use Rattle.diagram.specs.Rule4.{handed, landed, push_edge, add_edge}
use Rattle.diagram.specs.Rule6.{copy_edges, merge_all}
use Rattle.diagram.specs.Run.{Settings}
use Rattle.diagram.specs.Tables.{Diagram, with_nodes, inbound}
use Rattle.theorems.proofs.Holds.{Holds, held, then_holds, need_holds, holds_map}
use Rattle.theorems.proofs.Rows.{update_at, inbound_mem, inbound_back}
use Rattle.theorems.proofs.Move.{Rise, rise_refl, rise_trans, landed_rise}
use Rattle.theorems.proofs.Arc.{val_handed, landed_facts}

-- the two moves of a merge of the rows `rest` into row m: a row of rest is flagged, an edge that ends in rest is copied to m
pub data MergeMove (m : ℕ) (rest : List ℕ) (d : Diagram) : Diagram → Type 0 where
  flag : (r : ℕ) → Memᴰ r rest → d.start ≤ r → r < length d.nodes → r ≢ m → MergeMove m rest d (with_nodes d (update (with_deleted true) d.nodes r))
  copy : (s decision c e : ℕ) → e < length d.edges → (edge_at d.edges e).from ≡ s → Memᴰ (edge_at d.edges e).to rest → d.start ≤ m → m < length d.nodes → MergeMove m rest d (push_edge s m decision c d)

pub data MergeTrail (m : ℕ) (rest : List ℕ) (d : Diagram) : Diagram → Type 0 where
  mhere : MergeTrail m rest d d
  mstep : {e f : Diagram} → MergeTrail m rest d e → MergeMove m rest e f → MergeTrail m rest d f

pub merging_trans : {m : ℕ} {rest : List ℕ} {d e f : Diagram} → MergeTrail m rest d e → MergeTrail m rest e f → MergeTrail m rest d f
merging_trans a mhere = a
merging_trans a (mstep b x) = mstep (merging_trans a b) x

pub merging_keeps : {m : ℕ} {rest : List ℕ} (P : Diagram → Type 0) → ((d e : Diagram) → MergeMove m rest d e → P d → P e) → {d e : Diagram} → MergeTrail m rest d e → P d → P e
merging_keeps P k mhere p = p
merging_keeps P k (mstep {e = e} {f = f} t x) p = k e f x (merging_keeps P k t p)

-- all but the flag
unfoldable pub bare : Node → Node
bare n = record { capacity = n.capacity; depth = n.depth; value = n.value; bottom = n.bottom; best = n.best; newest = n.newest; fast = n.fast; exact = n.exact; relaxed = n.relaxed; marked = n.marked; cutset = n.cutset; deleted = false }

-- what a merge leaves: stored rows and edges stay, other rows than m change their flag alone, row m rises, only rows of rest get flagged
pub record Merged (m : ℕ) (rest : List ℕ) (d e : Diagram) : Type 0 where
  pub begins : e.start ≡ d.start
  pub layers_are : e.layers ≡ d.layers
  pub last_is : e.last ≡ d.last
  pub long : length e.nodes ≡ length d.nodes
  pub old : (r : ℕ) → r < d.start → node_at e.nodes r ≡ node_at d.nodes r
  pub others : (r : ℕ) → r ≢ m → bare (node_at e.nodes r) ≡ bare (node_at d.nodes r)
  pub mine : Rise (node_at d.nodes m) (node_at e.nodes m)
  pub kept : (r : ℕ) → (node_at d.nodes r).deleted ≡ true → (node_at e.nodes r).deleted ≡ true
  pub new : (r : ℕ) → (node_at e.nodes r).deleted ≡ true → ((node_at d.nodes r).deleted ≡ true) ⊎ Memᴰ r rest
  pub more : length d.edges ≤ length e.edges
  pub edges_are : (k : ℕ) → k < length d.edges → edge_at e.edges k ≡ edge_at d.edges k

merged_refl : (m : ℕ) (rest : List ℕ) (d : Diagram) → Merged m rest d d
merged_refl m rest d = record { begins = refl; layers_are = refl; last_is = refl; long = refl; old = λ r h. refl; others = λ r h. refl; mine = rise_refl _; kept = λ r h. h; new = λ r h. inl h; more = omega arith; edges_are = λ k h. refl }

merged_trans : (m : ℕ) (rest : List ℕ) (d e f : Diagram) → Merged m rest d e → Merged m rest e f → Merged m rest d f
merged_trans m rest d e f a b =
    record {
      begins = b.begins ∙ a.begins;
      layers_are = b.layers_are ∙ a.layers_are;
      last_is = b.last_is ∙ a.last_is;
      long = b.long ∙ a.long;
      old = λ r h. b.old r (omega arith) ∙ a.old r h;
      others = λ r h. b.others r h ∙ a.others r h;
      mine = rise_trans a.mine b.mine;
      kept = λ r h. b.kept r (a.kept r h);
      new = λ r h. ⊎_elim (λ y. a.new r y) (λ y. inr y) (b.new r h);
      more = omega arith;
      edges_are = λ k h. b.edges_are k (omega arith) ∙ a.edges_are k h;
    }

del_fields : (n : Node) → (bare (with_deleted true n) ≡ bare n) × ((with_deleted true n).deleted ≡ true)
unfolding with_deleted bare
del_fields n = (refl, refl)

flag_merged : (m : ℕ) (rest : List ℕ) (d : Diagram) (r : ℕ) → Memᴰ r rest → d.start ≤ r → r < length d.nodes → r ≢ m → Merged m rest d (with_nodes d (update (with_deleted true) d.nodes r))
unfolding with_nodes
flag_merged m rest d r i l h o =
    let ns = d.nodes in
    record {
      begins = refl;
      layers_are = refl;
      last_is = refl;
      long = length-set ns r _;
      old = λ q k. get_or-set_other ns r q _ no_node (omega arith);
      others = λ q k. update_at (λ n. bare n ≡ bare (node_at ns q)) (with_deleted true) ns r q h (λ e. rw e (del_fields _).0) (λ e. refl);
      mine = rw (get_or-set_other ns r m (with_deleted true (node_at ns r)) no_node (λ e. o (sym e))) (rise_refl _);
      kept = λ q k. update_at (λ n. n.deleted ≡ true) (with_deleted true) ns r q h (λ e. (del_fields _).1) (λ e. k);
      new = λ q. update_at (λ n. n.deleted ≡ true → ((node_at ns q).deleted ≡ true) ⊎ Memᴰ q rest) (with_deleted true) ns r q h (λ e z. inr (rw e i)) (λ e z. inl z);
      more = omega arith;
      edges_are = λ k q. refl;
    }

copy_merged : (m : ℕ) (rest : List ℕ) (d : Diagram) (s decision c : ℕ) → d.start ≤ m → m < length d.nodes → Merged m rest d (push_edge s m decision c d)
unfolding push_edge
copy_merged m rest d s decision c l h =
    let ns = d.nodes in
    let x = landed_rise s c d (node_at ns m) in
    record {
      begins = refl;
      layers_are = refl;
      last_is = refl;
      long = length-set ns m _;
      old = λ q k. get_or-set_other ns m q _ no_node (omega arith);
      others = λ q k. ap bare (get_or-set_other ns m q _ no_node k);
      mine = rw (get_or-set_same ns m (landed d.nodes d.edges s c (node_at ns m)) no_node h) x;
      kept = λ q k. update_at (λ n. n.deleted ≡ true) (landed d.nodes d.edges s c) ns m q h (λ e. x.deleted_is ∙ (rw e at k)) (λ e. k);
      new = λ q. update_at (λ n. n.deleted ≡ true → ((node_at ns q).deleted ≡ true) ⊎ Memᴰ q rest) (landed d.nodes d.edges s c) ns m q h (λ e z. inl (rw e (sym x.deleted_is ∙ z))) (λ e z. inl z);
      more = simp length-append (omega arith);
      edges_are = λ k q. get_or-append d.edges _ no_edge k q;
    }

pub merge_move_merged : (m : ℕ) (rest : List ℕ) (d e : Diagram) → MergeMove m rest d e → Merged m rest d e
merge_move_merged m rest d e (flag r i l h o) = flag_merged m rest d r i l h o
merge_move_merged m rest d e (copy s decision c x b q i l h) = copy_merged m rest d s decision c l h

pub merging_merged : (m : ℕ) (rest : List ℕ) {d e : Diagram} → MergeTrail m rest d e → Merged m rest d e
merging_merged m rest {d} t = merging_keeps (λ e. Merged m rest d e) (λ e f x g. merged_trans m rest d e f g (merge_move_merged m rest e f x)) t (merged_refl m rest d)

-- an edge of cost c from s to m, which is worth v at least
pub record Copied (m s c v : ℕ) (d : Diagram) : Type 0 where
  pub via : ℕ
  pub below : via < length d.edges
  pub from : (edge_at d.edges via).from ≡ s
  pub costs : (edge_at d.edges via).cost ≡ c
  pub to : (edge_at d.edges via).to ≡ m
  pub worth : v ≤ (node_at d.nodes m).value

copied_merged : (m : ℕ) (rest : List ℕ) (s c v : ℕ) (d e : Diagram) → Merged m rest d e → Copied m s c v d → Copied m s c v e
copied_merged m rest s c v d e g a =
    let q = g.edges_are a.via a.below in
    record { via = a.via; below = omega arith; from = rw q a.from; costs = rw q a.costs; to = rw q a.to; worth = omega (arith, a.worth, g.mine.value_up) }

push_copied : (m s decision c : ℕ) (d : Diagram) → m < length d.nodes → Copied m s c (handed d.nodes s c) (push_edge s m decision c d)
unfolding push_edge
push_copied m s decision c d h =
    let x : Edge = record { from = s; to = m; decision = decision; cost = c; next = (node_at d.nodes m).newest } in
    let q : edge_at (d.edges ++ (x ∷ [])) (length d.edges) ≡ x = get_or-append_seam d.edges x [] no_edge in
    record {
      via = length d.edges;
      below = simp length-append (omega arith);
      from = ap (λ (e : Edge). e.from) q;
      costs = ap (λ (e : Edge). e.cost) q;
      to = ap (λ (e : Edge). e.to) q;
      worth = rw (get_or-set_same d.nodes m (landed d.nodes d.edges s c (node_at d.nodes m)) no_node h) (landed_facts s c d (node_at d.nodes m)).3;
    }

-- ---- copies

-- edges of the table that end in rows of rest
abbrev pub Ending : List ℕ → List ℕ → Diagram → Type 0
Ending rest es d = (e : ℕ) → Memᴰ e es → (e < length d.edges) × Memᴰ (edge_at d.edges e).to rest

ending_merged : (m : ℕ) (rest : List ℕ) (k : ℕ) (es : List ℕ) (d e : Diagram) → Merged m rest d e → Ending rest (k ∷ es) d → Ending rest es e
ending_merged m rest k es d e g h x i = let z = h x (Memᴰ.tail i) in (omega (arith, z.0, g.more), rw (g.edges_are x z.0) z.1)

pub copy_trail : (opts : Settings) (m : ℕ) (rest es : List ℕ) (d : Diagram) → d.start ≤ m → m < length d.nodes → Ending rest es d → Holds (MergeTrail m rest d) (copy_edges opts m es d)
unfolding copy_edges add_edge
copy_trail opts m rest [] d l h n = held mhere
copy_trail opts m rest (e ∷ es) d l h n =
    let z = n e (Memᴰ.head refl) in
    then_holds _ (need_holds {P = MergeTrail m rest d} _ _ _ _ (λ _. held (mstep mhere (copy _ _ _ e z.0 refl z.1 l h))))
    (λ f t. let g = merging_merged m rest t in holds_map (λ x y. merging_trans t y) (copy_trail opts m rest es f (omega arith) (omega arith) (ending_merged m rest e es d f g n)))

record Made (m : ℕ) (rest : List ℕ) (s c v : ℕ) (d e : Diagram) : Type 0 where
  trail : MergeTrail m rest d e
  copied : Copied m s c v e

-- each edge of the list, from another row than m, has its copy
copy_made : (opts : Settings) (m : ℕ) (rest : List ℕ) (e : ℕ) (es : List ℕ) → Memᴰ e es → (d : Diagram) (s : ℕ) (c : ℕ) → d.start ≤ m → m < length d.nodes → e < length d.edges → (edge_at d.edges e).from ≡ s → (edge_at d.edges e).cost ≡ c → s < d.start → Ending rest es d → Holds (Made m rest s c (handed d.nodes s c) d) (copy_edges opts m es d)
unfolding copy_edges add_edge
copy_made opts m rest e es (Memᴰ.head {x = k} {xs = ks} z) d s c l h b q u o n =
    let zz = n k (Memᴰ.head refl) in
    let q' : (edge_at d.edges k).from ≡ s = rw (← z) q in
    let u' : (edge_at d.edges k).cost ≡ c = rw (← z) u in
    then_holds _ (need_holds {P = Made m rest s c (handed d.nodes s c) d} _ _ _ _ (λ _. held (record { trail = mstep mhere (copy _ _ _ k zz.0 refl zz.1 l h); copied = rw (q', u') (push_copied m s _ c d h) })))
    (λ f t. let g = merging_merged m rest t.trail in
    holds_map (λ x y. record { trail = merging_trans t.trail y; copied = copied_merged m rest s c _ f x (merging_merged m rest y) t.copied }) (copy_trail opts m rest ks f (omega arith) (omega arith) (ending_merged m rest k ks d f g n)))
copy_made opts m rest e es (Memᴰ.tail {x = k} {xs = ks} z) d s c l h b q u o n =
    let zz = n k (Memᴰ.head refl) in
    then_holds _ (need_holds {P = MergeTrail m rest d} _ _ _ _ (λ _. held (mstep mhere (copy _ _ _ k zz.0 refl zz.1 l h))))
    (λ f t. let g = merging_merged m rest t in
    let w = g.edges_are e b in
    let v = val_handed s c d f (ap (λ (n : Node). n.value) (g.old s o)) in
    holds_map (λ x y. record { trail = merging_trans t y.trail; copied = rw (← v) y.copied })
    (copy_made opts m rest e ks z f s c (omega arith) (omega arith) (omega arith) (rw w q) (rw w u) (omega arith) (ending_merged m rest k ks d f g n)))

-- ---- merges

abbrev pub Inside : Diagram → ℕ → List ℕ → Type 0
Inside d m rs = (r : ℕ) → Memᴰ r rs → (d.start ≤ r) × (r < length d.nodes) × (r ≢ m)

abbrev pub Part : List ℕ → List ℕ → Type 0
Part rs rest = (r : ℕ) → Memᴰ r rs → Memᴰ r rest

inside_merged : (m : ℕ) (rest : List ℕ) (r : ℕ) (rs : List ℕ) (d e : Diagram) → Merged m rest d e → Inside d m (r ∷ rs) → Inside e m rs
inside_merged m rest r rs d e g i q k = let z = i q (Memᴰ.tail k) in (omega arith, omega arith, z.2)

edges_ending : (m : ℕ) (rest : List ℕ) (r : ℕ) (d e : Diagram) → Memᴰ r rest → Merged m rest d e → Ending rest (inbound d.edges r) e
edges_ending m rest r d e i g x k =
    let z = inbound_back d.edges r x k in
    (omega (arith, z.0, g.more), rw (g.edges_are x z.0, z.1) i)

-- a merge, unless refused, is a trail of these moves
pub merge_trail : (opts : Settings) (m : ℕ) (rest rs : List ℕ) (d : Diagram) → d.start ≤ m → m < length d.nodes → Inside d m rs → Part rs rest → Holds (MergeTrail m rest d) (merge_all opts m rs d)
unfolding merge_all
merge_trail opts m rest [] d l h i p = held mhere
merge_trail opts m rest (r ∷ rs) d l h i p =
    let z = i r (Memᴰ.head refl) in
    let a : MergeTrail m rest d (with_nodes d (update (with_deleted true) d.nodes r)) = mstep mhere (flag r (p r (Memᴰ.head refl)) z.0 z.1 z.2) in
    let g = merging_merged m rest a in
    then_holds _ (copy_trail opts m rest (inbound d.edges r) (with_nodes d (update (with_deleted true) d.nodes r)) (omega arith) (omega arith) (edges_ending m rest r d _ (p r (Memᴰ.head refl)) g))
    (λ f t. let b = merging_trans a t in let g' = merging_merged m rest b in
    holds_map (λ x y. merging_trans b y) (merge_trail opts m rest rs f (omega arith) (omega arith) (inside_merged m rest r rs d f g' i) (λ q k. p q (Memᴰ.tail k))))

-- each row of the list is flagged, and an edge into it has its copy
flag_flags : (d : Diagram) (r : ℕ) → r < length d.nodes → (node_at (with_nodes d (update (with_deleted true) d.nodes r)).nodes r).deleted ≡ true
unfolding with_nodes
flag_flags d r h = rw (get_or-set_same d.nodes r (with_deleted true (node_at d.nodes r)) no_node h) (del_fields _).1

pub merge_flags : (opts : Settings) (m : ℕ) (rest : List ℕ) (r : ℕ) (rs : List ℕ) → Memᴰ r rs → (d : Diagram) → d.start ≤ m → m < length d.nodes → Inside d m rs → Part rs rest → Holds (λ e. (node_at e.nodes r).deleted ≡ true) (merge_all opts m rs d)
unfolding merge_all
merge_flags opts m rest r rs (Memᴰ.head {x = q} {xs = qs} w) d l h i p =
    let z = i q (Memᴰ.head refl) in
    let a : MergeTrail m rest d (with_nodes d (update (with_deleted true) d.nodes q)) = mstep mhere (flag q (p q (Memᴰ.head refl)) z.0 z.1 z.2) in
    let g = merging_merged m rest a in
    let k = flag_flags d q z.1 in
    then_holds _ (copy_trail opts m rest (inbound d.edges q) (with_nodes d (update (with_deleted true) d.nodes q)) (omega arith) (omega arith) (edges_ending m rest q d _ (p q (Memᴰ.head refl)) g))
    (λ f t. let g₁ = merging_merged m rest t in
    let g' = merging_merged m rest (merging_trans a t) in
    holds_map (λ x y. rw w ((merging_merged m rest y).kept q (g₁.kept q k))) (merge_trail opts m rest qs f (omega arith) (omega arith) (inside_merged m rest q qs d f g' i) (λ q k. p q (Memᴰ.tail k))))
merge_flags opts m rest r rs (Memᴰ.tail {x = q} {xs = qs} w) d l h i p =
    let z = i q (Memᴰ.head refl) in
    let a : MergeTrail m rest d (with_nodes d (update (with_deleted true) d.nodes q)) = mstep mhere (flag q (p q (Memᴰ.head refl)) z.0 z.1 z.2) in
    let g = merging_merged m rest a in
    then_holds _ (copy_trail opts m rest (inbound d.edges q) (with_nodes d (update (with_deleted true) d.nodes q)) (omega arith) (omega arith) (edges_ending m rest q d _ (p q (Memᴰ.head refl)) g))
    (λ f t. let g' = merging_merged m rest (merging_trans a t) in
    merge_flags opts m rest r qs w f (omega arith) (omega arith) (inside_merged m rest q qs d f g' i) (λ q k. p q (Memᴰ.tail k)))

pub merge_copies : (opts : Settings) (m : ℕ) (rest : List ℕ) (y : ℕ) (rs : List ℕ) → Memᴰ y rs → (e : ℕ) (d : Diagram) (s : ℕ) (c : ℕ) → (edge_at d.edges e).to ≡ y → d.start ≤ m → m < length d.nodes → Inside d m rs → Part rs rest → e < length d.edges → (edge_at d.edges e).from ≡ s → (edge_at d.edges e).cost ≡ c → s < d.start → Holds (Copied m s c (handed d.nodes s c)) (merge_all opts m rs d)
unfolding merge_all
merge_copies opts m rest y rs (Memᴰ.head {x = q} {xs = qs} w) e d s c yq l h i p b u v o =
    let z = i q (Memᴰ.head refl) in
    let d₁ = with_nodes d (update (with_deleted true) d.nodes q) in
    let a : MergeTrail m rest d d₁ = mstep mhere (flag q (p q (Memᴰ.head refl)) z.0 z.1 z.2) in
    let g = merging_merged m rest a in
    let ee = g.edges_are e b in
    let vh = val_handed s c d d₁ (ap (λ (n : Node). n.value) (g.old s o)) in
    then_holds _ (copy_made opts m rest e (inbound d.edges q) (inbound_mem d.edges q e b (yq ∙ w)) d₁ s c (omega arith) (omega arith) (omega arith) (rw ee u) (rw ee v) (omega arith) (edges_ending m rest q d d₁ (p q (Memᴰ.head refl)) g))
    (λ f t. let g' = merging_merged m rest (merging_trans a t.trail) in
    holds_map (λ x y. rw (← vh) (copied_merged m rest s c _ f x (merging_merged m rest y) t.copied)) (merge_trail opts m rest qs f (omega arith) (omega arith) (inside_merged m rest q qs d f g' i) (λ q k. p q (Memᴰ.tail k))))
merge_copies opts m rest y rs (Memᴰ.tail {x = q} {xs = qs} w) e d s c yq l h i p b u v o =
    let z = i q (Memᴰ.head refl) in
    let d₁ = with_nodes d (update (with_deleted true) d.nodes q) in
    let a : MergeTrail m rest d d₁ = mstep mhere (flag q (p q (Memᴰ.head refl)) z.0 z.1 z.2) in
    let g = merging_merged m rest a in
    then_holds _ (copy_trail opts m rest (inbound d.edges q) d₁ (omega arith) (omega arith) (edges_ending m rest q d d₁ (p q (Memᴰ.head refl)) g))
    (λ f t. let g' = merging_merged m rest (merging_trans a t) in
    let ee = g'.edges_are e b in
    let vh = val_handed s c d f (ap (λ (n : Node). n.value) (g'.old s o)) in
    holds_map (λ x k. rw (← vh) k) (merge_copies opts m rest y qs w e f s c (rw ee yq) (omega arith) (omega arith) (inside_merged m rest q qs d f g' i) (λ q k. p q (Memᴰ.tail k)) (omega arith) (rw ee u) (rw ee v) (omega arith)))
