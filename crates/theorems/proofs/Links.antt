-- The edges of a run's tables, in every mode: an edge goes from a smaller row to a larger one, the next numbers give the inbound edges, a best edge is an inbound one.
use mathlib.Core.Path.{◌≡◌, refl, sym, ap, subst, ◌∙◌}
use mathlib.Core.Bool.{Bool, true, false, cond}
use mathlib.Core.List.{List, [], ◌∷◌, ◌++◌, Memᴰ}
use Prim.Native.Nat.{ℕ, zero, suc, ◌≤◌, ◌<◌}
use native.Mathlib.Decide.{ℕ_discrete}
use native.Mathlib.Omega.{arith}
use lib.Dec.{eqb, leb}
use lib.ListN.{length, length-append, get_or-append, length-set}
use lib.Seq.{get_or-append_seam}
use borrow.Author.Tests.{eqb-true, eq-eqb, ne_eqb}
use Rattle.knapsack.specs.Items.{Item}
use Rattle.knapsack.proofs.Cases.{by_test}
use Rattle.diagram.specs.Node.{Node, Edge, no_node, no_edge, node_at, edge_at, update, fresh, entered, with_fast, with_deleted, as_relaxed}
use Rattle.diagram.specs.Record.{Record}
use Rattle.diagram.specs.Rule1.{root_only}
use Rattle.diagram.specs.Rule2.{store, store_empty, store_last, has_rows, grown}
use Rattle.diagram.specs.Rule3.{note_fast}
use Rattle.diagram.specs.Rule4.{handed, receive, landed, push_edge, push_node, child_of}
use Rattle.diagram.specs.Rule5.{with_last}
use Rattle.diagram.specs.Rule6.{merged_row, copy_edges}
use Rattle.diagram.specs.Run.{Mode, Settings}
use Rattle.diagram.specs.Tables.{Diagram, with_nodes, inbound_below, inbound}
use Rattle.theorems.proofs.Holds.{Holds, holds_map}
use Rattle.theorems.proofs.Rows.{update_at, snoc_at}
use Rattle.theorems.proofs.Move.{Move, note, edge, child}
use Rattle.theorems.proofs.Arc.{Coming}
use Rattle.theorems.proofs.Merge.{MergeMove, flag, copy, merging_keeps, Merged, merge_move_merged, Ending, copy_trail}
use Rattle.theorems.proofs.Squash.{bare_dep, Merging, Way}
use Rattle.theorems.proofs.Growth.{Ready, Step, step_keeps, squash_keeps, Ended, through, died, grown_keeps}

-- ---- the inbound edges by the next numbers

-- the newest edge below number p that ends in row r: its number and one, or 0 for none
unfoldable pub newest_below : ℕ → List Edge → ℕ → ℕ
newest_below zero es r = 0
newest_below (suc e) es r = cond (eqb (edge_at es e).to r) (suc e) (newest_below e es r)

-- the walk from an edge (its number and one, or 0 for none) along the next numbers, in at most that many steps
unfoldable pub along_next : ℕ → List Edge → ℕ → List ℕ
along_next zero es e = []
along_next (suc f) es zero = []
along_next (suc f) es (suc e) = e ∷ along_next f es (edge_at es e).next

-- each next number names the newest edge before it that ends in the same row
pub record Linked (es : List Edge) : Type 0 where
  pub link : (e : ℕ) → e < length es → (edge_at es e).next ≡ newest_below e es (edge_at es e).to

pub walk_inbound : (es : List Edge) → Linked es → (r p f : ℕ) → p ≤ f → p ≤ length es → along_next f es (newest_below p es r) ≡ inbound_below p es r
unfolding along_next newest_below inbound_below
walk_inbound es l r zero zero h k = refl
walk_inbound es l r zero (suc f) h k = refl
walk_inbound es l r (suc e) zero h k = absurd (omega arith)
walk_inbound es l r (suc e) (suc f) h k =
    by_test (λ b. along_next (suc f) es (cond b (suc e) (newest_below e es r)) ≡ cond b (e ∷ inbound_below e es r) (inbound_below e es r)) (eqb (edge_at es e).to r)
    (λ q. ap (λ (t : List ℕ). e ∷ t) (rw (l.link e k, eqb-true (edge_at es e).to r q) (walk_inbound es l r e f (omega arith) (omega arith))))
    (λ q. walk_inbound es l r e (suc f) (omega arith) (omega arith))

-- an edge more changes nothing below it
pub inbound_append : (es xs : List Edge) (r p : ℕ) → p ≤ length es → inbound_below p (es ++ xs) r ≡ inbound_below p es r
unfolding inbound_below
inbound_append es xs r zero h = refl
inbound_append es xs r (suc e) h = rw (get_or-append es xs no_edge e h, inbound_append es xs r e (omega arith))

pub newest_append : (es xs : List Edge) (r p : ℕ) → p ≤ length es → newest_below p (es ++ xs) r ≡ newest_below p es r
unfolding newest_below
newest_append es xs r zero h = refl
newest_append es xs r (suc e) h = rw (get_or-append es xs no_edge e h, newest_append es xs r e (omega arith))

newest_none : (es : List Edge) (r p : ℕ) → p ≤ length es → ((e : ℕ) → e < length es → (edge_at es e).to < r) → newest_below p es r ≡ 0
unfolding newest_below
newest_none es r zero l h = refl
newest_none es r (suc p) l h = rw (ne_eqb (edge_at es p).to r (λ q. omega (arith, h p (omega arith)))) (newest_none es r p (omega arith) h)

newest_snoc : (es : List Edge) (x : Edge) (r : ℕ) → newest_below (length (es ++ (x ∷ []))) (es ++ (x ∷ [])) r ≡ cond (eqb x.to r) (suc (length es)) (newest_below (length es) es r)
unfolding newest_below
newest_snoc es x r =
    let l : length (es ++ (x ∷ [])) ≡ suc (length es) = simp length-append (omega arith) in
    rw (l, get_or-append_seam es x [] no_edge, newest_append es (x ∷ []) r (length es) (omega arith))

-- ---- what holds of the edges

-- an edge goes from a row before the coming layer to a larger row that is one deeper
pub record Arrow (d : Diagram) (e : Edge) : Type 0 where
  pub from_in : e.from < d.start
  pub to_in : e.to < length d.nodes
  pub rises : e.from < e.to
  pub deeper : (node_at d.nodes e.to).depth ≡ suc (node_at d.nodes e.from).depth

-- the best edge of row y: none, or an edge that ends there
pub data BestEdge (es : List Edge) (y : ℕ) : ℕ → Type 0 where
  unset : BestEdge es y 0
  is_edge : (e : ℕ) → e < length es → (edge_at es e).to ≡ y → BestEdge es y (suc e)

pub record Wired (d : Diagram) : Type 0 where
  pub arrows : (e : ℕ) → e < length d.edges → Arrow d (edge_at d.edges e)
  pub link : (e : ℕ) → e < length d.edges → (edge_at d.edges e).next ≡ newest_below e d.edges (edge_at d.edges e).to
  pub first : (r : ℕ) → r < length d.nodes → (node_at d.nodes r).newest ≡ newest_below (length d.edges) d.edges r
  pub bests : (r : ℕ) → r < length d.nodes → BestEdge d.edges r (node_at d.nodes r).best

-- what a row keeps here
pub record SameLinks (a b : Node) : Type 0 where
  pub depth_is : b.depth ≡ a.depth
  pub newest_is : b.newest ≡ a.newest
  pub best_is : b.best ≡ a.best

arrow_keep : (d e : Diagram) (x : Edge) → d.start ≤ e.start → d.start ≤ length d.nodes → length d.nodes ≤ length e.nodes → ((r : ℕ) → r < length d.nodes → (node_at e.nodes r).depth ≡ (node_at d.nodes r).depth) → Arrow d x → Arrow e x
arrow_keep d e x l h n k a = record { from_in = omega (arith, a.from_in); to_in = omega (arith, a.to_in); rises = a.rises; deeper = k x.to a.to_in ∙ a.deeper ∙ ap suc (sym (k x.from (omega (arith, a.from_in)))) }

-- rows that keep their links, in tables with the same edges
pub same_wired : (d e : Diagram) → d.start ≤ length d.nodes → e.edges ≡ d.edges → d.start ≤ e.start → length e.nodes ≡ length d.nodes → ((r : ℕ) → r < length d.nodes → SameLinks (node_at d.nodes r) (node_at e.nodes r)) → Wired d → Wired e
same_wired d e sl eq st ln k w =
    let el = ap (length {A = Edge}) eq in
    record {
      arrows = λ i h. let z : i < length d.edges = omega arith in subst (λ (es : List Edge). Arrow e (edge_at es i)) (sym eq) (arrow_keep d e _ st sl (omega arith) (λ r b. (k r b).depth_is) (w.arrows i z));
      link = subst (λ (es : List Edge). (i : ℕ) → i < length es → (edge_at es i).next ≡ newest_below i es (edge_at es i).to) (sym eq) w.link;
      first = λ r h. (k r (omega arith)).newest_is ∙ w.first r (omega arith) ∙ ap (λ (es : List Edge). newest_below (length es) es r) (sym eq);
      bests = λ r h. subst (λ (es : List Edge). BestEdge es r (node_at e.nodes r).best) (sym eq) (subst (λ (b : ℕ). BestEdge d.edges r b) (sym (k r (omega arith)).best_is) (w.bests r (omega arith)));
    }

pub update_wired : (f : Node → Node) (d : Diagram) (s : ℕ) → ((n : Node) → SameLinks n (f n)) → d.start ≤ length d.nodes → s < length d.nodes → Wired d → Wired (with_nodes d (update f d.nodes s))
unfolding with_nodes
update_wired f d s k sl h w =
    same_wired d (with_nodes d (update f d.nodes s)) sl refl (omega arith) (length-set d.nodes s _)
    (λ r b. update_at (λ n. SameLinks (node_at d.nodes r) n) f d.nodes s r h (λ e. rw e (k _)) (λ e. record { depth_is = refl; newest_is = refl; best_is = refl })) w

-- a new row without edges
pub node_wired : (n : Node) (d : Diagram) → n.newest ≡ 0 → n.best ≡ 0 → d.start ≤ length d.nodes → Wired d → Wired (push_node n d)
unfolding push_node with_nodes
node_wired n d z zb sl w =
    let l : length (d.nodes ++ (n ∷ [])) ≡ suc (length d.nodes) = simp length-append (omega arith) in
    record {
      arrows = λ i h. arrow_keep d (push_node n d) _ (omega arith) sl (omega arith) (λ r b. ap (λ (m : Node). m.depth) (get_or-append d.nodes (n ∷ []) no_node r b)) (w.arrows i h);
      link = w.link;
      first = λ r b. snoc_at (λ m. m.newest ≡ newest_below (length d.edges) d.edges r) d.nodes n r b
          (λ q. z ∙ sym (newest_none d.edges r (length d.edges) (omega arith) (λ e k. omega (arith, (w.arrows e k).to_in))))
          (λ q. w.first r q);
      bests = λ r b. snoc_at (λ m. BestEdge d.edges r m.best) d.nodes n r b (λ q. rw zb unset) (λ q. w.bests r q);
    }

best_more : (es : List Edge) (x : Edge) (y b : ℕ) → BestEdge es y b → BestEdge (es ++ (x ∷ [])) y b
best_more es x y b unset = unset
best_more es x y b (is_edge e h q) = is_edge e (simp length-append (omega arith)) (rw (get_or-append es (x ∷ []) no_edge e h) q)

landed_links : (ns : List Node) (es : List Edge) (s c : ℕ) (n : Node) → ((landed ns es s c n).newest ≡ suc (length es)) × ((landed ns es s c n).depth ≡ n.depth) × ((landed ns es s c n).best ≡ cond (leb n.value (handed ns s c)) (suc (length es)) n.best)
unfolding landed receive entered
landed_links ns es s c n = (refl, refl, refl)

best_landed : (t : Bool) (es : List Edge) (x : Edge) (y b : ℕ) → x.to ≡ y → BestEdge es y b → BestEdge (es ++ (x ∷ [])) y (cond t (suc (length es)) b)
best_landed true es x y b q g = is_edge (length es) (simp length-append (omega arith)) (rw (get_or-append_seam es x [] no_edge) q)
best_landed false es x y b q g = best_more es x y b g

-- one more edge, to a row of the coming layer that is one deeper
pub push_wired : (s t decision c : ℕ) (d : Diagram) → s < d.start → d.start ≤ t → t < length d.nodes → (node_at d.nodes t).depth ≡ suc (node_at d.nodes s).depth → Wired d → Wired (push_edge s t decision c d)
unfolding push_edge
push_wired s t decision c d hs l h dq w =
    let es = d.edges in
    let e = push_edge s t decision c d in
    let x : Edge = record { from = s; to = t; decision = decision; cost = c; next = (node_at d.nodes t).newest } in
    let el : length (es ++ (x ∷ [])) ≡ suc (length es) = simp length-append (omega arith) in
    let sm = get_or-append_seam es x [] no_edge in
    let f = landed d.nodes es s c in
    let z = landed_links d.nodes es s c (node_at d.nodes t) in
    let ln = length-set d.nodes t (f (node_at d.nodes t)) in
    let deps : (r : ℕ) → r < length d.nodes → (node_at e.nodes r).depth ≡ (node_at d.nodes r).depth =
    λ r b. update_at (λ n. n.depth ≡ (node_at d.nodes r).depth) f d.nodes t r h (λ q. z.1 ∙ ap (λ (k : ℕ). (node_at d.nodes k).depth) (sym q)) (λ q. refl) in
    record {
      arrows = λ i b. elim (ℕ_discrete i (length es)) [
        | yes q ↦ subst (λ (y : Edge). Arrow e y) (sym (ap (λ (k : ℕ). edge_at (es ++ (x ∷ [])) k) q ∙ sm)) (record { from_in = hs; to_in = omega arith; rises = omega arith; deeper = deps t h ∙ dq ∙ ap suc (sym (deps s (omega arith))) })
        | no q ↦ let k : i < length es = omega arith in subst (λ (y : Edge). Arrow e y) (sym (get_or-append es (x ∷ []) no_edge i k)) (arrow_keep d e _ (omega arith) (omega arith) (omega arith) deps (w.arrows i k))
      ];
      link = λ i b. elim (ℕ_discrete i (length es)) [
        | yes q ↦ rw (q, sm, newest_append es (x ∷ []) t (length es) (omega arith)) (w.first t h)
        | no q ↦ let k : i < length es = omega arith in rw (get_or-append es (x ∷ []) no_edge i k, newest_append es (x ∷ []) (edge_at es i).to i (omega arith)) (w.link i k)
      ];
      first = λ r b. rw (newest_snoc es x r) (update_at (λ n. n.newest ≡ cond (eqb t r) (suc (length es)) (newest_below (length es) es r)) f d.nodes t r h
          (λ q. rw (eq-eqb t r (sym q)) z.0)
          (λ q. rw (ne_eqb t r (λ y. q (sym y))) (w.first r (omega arith))));
      bests = λ r b. update_at (λ n. BestEdge (es ++ (x ∷ [])) r n.best) f d.nodes t r h
          (λ q. rw z.2 (best_landed (leb (node_at d.nodes t).value (handed d.nodes s c)) es x r _ (sym q) (subst (λ (k : ℕ). BestEdge es k (node_at d.nodes t).best) (sym q) (w.bests t h))))
          (λ q. best_more es x r _ (w.bests r (omega arith)));
    }

-- ---- kept by every step of the growth

fast_links : (b : ℕ) (n : Node) → SameLinks n (with_fast b n)
unfolding with_fast
fast_links b n = record { depth_is = refl; newest_is = refl; best_is = refl }

deleted_links : (n : Node) → SameLinks n (with_deleted true n)
unfolding with_deleted
deleted_links n = record { depth_is = refl; newest_is = refl; best_is = refl }

child_links : (s c capacity : ℕ) (ns : List Node) → ((child_of s c capacity ns).newest ≡ 0) × ((child_of s c capacity ns).best ≡ 0) × ((child_of s c capacity ns).depth ≡ suc (node_at ns s).depth)
unfolding child_of fresh
child_links s c capacity ns = (refl, refl, refl)

pub node_is : (n : Node) (d : Diagram) → (node_at (push_node n d).nodes (length d.nodes) ≡ n) × (length (push_node n d).nodes ≡ suc (length d.nodes)) × ((push_node n d).start ≡ d.start)
unfolding push_node with_nodes
node_is n d = (get_or-append_seam d.nodes n [] no_node, simp length-append (omega arith), refl)

pub node_was : (n : Node) (d : Diagram) (r : ℕ) → r < length d.nodes → node_at (push_node n d).nodes r ≡ node_at d.nodes r
unfolding push_node with_nodes
node_was n d r h = get_or-append d.nodes (n ∷ []) no_node r h

pub move_wired : (items : List Item) (k : ℕ) (d e : Diagram) → Move items k d e → Coming (suc k) d → Wired d → Wired e
unfolding note_fast
move_wired items k d e (note s h l) g w = update_wired (with_fast _) d s (λ n. fast_links _ n) l (omega arith) w
move_wired items k d e (edge s t decision c h q l b ch) g w = push_wired s t decision c d h l b (g.deps t l b ∙ ap suc (sym q)) w
move_wired items k d e (child s decision c capacity h q l ch n) g w =
    let x = child_of s c capacity d.nodes in
    let z = child_links s c capacity d.nodes in
    let i = node_is x d in
    push_wired s (length d.nodes) decision c (push_node x d) (omega (arith, i.2)) (omega (arith, i.2)) (omega (arith, i.1))
    (ap (λ (m : Node). m.depth) i.0 ∙ z.2 ∙ ap (λ (m : Node). suc m.depth) (sym (node_was x d s (omega arith)))) (node_wired x d z.0 z.1 l w)

-- a merge: the merged row m and the rows of rest have depth k
pub record WiredMerge (k m : ℕ) (rest : List ℕ) (d : Diagram) : Type 0 where
  pub wired : Wired d
  pub depth : (node_at d.nodes m).depth ≡ k
  pub rest_deps : (r : ℕ) → Memᴰ r rest → (r < length d.nodes) × ((node_at d.nodes r).depth ≡ k)

pub merge_wired : (k m : ℕ) (rest : List ℕ) (d e : Diagram) → MergeMove m rest d e → WiredMerge k m rest d → WiredMerge k m rest e
merge_wired k m rest d e (flag r i l h o) w =
    let g = merge_move_merged m rest d _ (flag r i l h o) in
    record {
      wired = update_wired (with_deleted true) d r deleted_links (omega arith) h w.wired;
      depth = g.mine.depth_is ∙ w.depth;
      rest_deps = λ q j. let z = w.rest_deps q j in (omega (arith, z.0, g.long), rest_depth g q ∙ z.1);
    }
  where
    rest_depth : {x : Diagram} → Merged m rest d x → (q : ℕ) → (node_at x.nodes q).depth ≡ (node_at d.nodes q).depth
    rest_depth g q = elim (ℕ_discrete q m) [ yes z ↦ rw z g.mine.depth_is | no z ↦ bare_dep _ _ (g.others q z) ]
merge_wired k m rest d e (copy s decision c x b q i l h) w =
    let g = merge_move_merged m rest d _ (copy s decision c x b q i l h) in
    let a = w.wired.arrows x b in
    let dq : (node_at d.nodes m).depth ≡ suc (node_at d.nodes s).depth = w.depth ∙ sym (w.rest_deps _ i).1 ∙ a.deeper ∙ ap (λ (v : ℕ). suc (node_at d.nodes v).depth) q in
    record {
      wired = push_wired s m decision c d (subst (λ (v : ℕ). v < d.start) q a.from_in) l h dq w.wired;
      depth = g.mine.depth_is ∙ w.depth;
      rest_deps = λ q j. let z = w.rest_deps q j in (omega (arith, z.0, g.long), rest_depth g q ∙ z.1);
    }
  where
    rest_depth : {x : Diagram} → Merged m rest d x → (q : ℕ) → (node_at x.nodes q).depth ≡ (node_at d.nodes q).depth
    rest_depth g q = elim (ℕ_discrete q m) [ yes z ↦ rw z g.mine.depth_is | no z ↦ bare_dep _ _ (g.others q z) ]

-- so the links hold all through a merge as it is called, where each row's inbound edges are read
pub copies_wired : (opts : Settings) (k m : ℕ) (rest es : List ℕ) (d : Diagram) → d.start ≤ m → m < length d.nodes → Ending rest es d → WiredMerge k m rest d → Holds (WiredMerge k m rest) (copy_edges opts m es d)
copies_wired opts k m rest es d l h n w = holds_map (λ e t. merging_keeps (WiredMerge k m rest) (merge_wired k m rest) t w) (copy_trail opts m rest es d l h n)

pub last_wired : (d : Diagram) → Wired d → Wired (with_last d)
unfolding with_last
last_wired d w = record { arrows = λ i h. let a = w.arrows i h in record { from_in = a.from_in; to_in = a.to_in; rises = a.rises; deeper = a.deeper }; link = w.link; first = w.first; bests = w.bests }

pub store_wired : (d : Diagram) → d.start ≤ length d.nodes → Wired d → Wired (store d)
unfolding store
store_wired d l w = record { arrows = λ i h. let a = w.arrows i h in record { from_in = omega (arith, a.from_in); to_in = a.to_in; rises = a.rises; deeper = a.deeper }; link = w.link; first = w.first; bests = w.bests }

merged_links : (c dp : ℕ) → ((merged_row c dp).newest ≡ 0) × ((merged_row c dp).best ≡ 0) × ((merged_row c dp).depth ≡ dp)
unfolding merged_row as_relaxed fresh
merged_links c dp = (refl, refl, refl)

pub last_fits : (d : Diagram) → d.start ≤ length d.nodes → (with_last d).start ≤ length (with_last d).nodes
unfolding with_last
last_fits d h = h

pub merged_wired : (k : ℕ) (d e : Diagram) → d.start ≤ length d.nodes → (v : Merging k d e) → Wired d → WiredMerge k (length d.nodes) v.rest (push_node (merged_row v.c v.dp) d)
merged_wired k d e sl v w =
    let n = merged_row v.c v.dp in
    let z = merged_links v.c v.dp in
    let i = node_is n d in
    record {
      wired = node_wired n d z.0 z.1 sl w;
      depth = ap (λ (m : Node). m.depth) i.0 ∙ z.2 ∙ v.dp_is;
      rest_deps = λ r j. let u = v.rest_deps r j in (omega (arith, u.0, i.1), ap (λ (m : Node). m.depth) (node_was n d r u.0) ∙ u.1);
    }

pub squash_wired : (md : Mode) (k : ℕ) (d e : Diagram) → d.start ≤ length d.nodes → Way md k d e → Wired d → Wired e
squash_wired md k d e sl y w =
    squash_keeps md k d e Wired (last_wired d)
    (λ x r l h p. update_wired (with_deleted true) x r deleted_links (omega arith) h p)
    (λ _ v p. (merging_keeps (WiredMerge k (length (with_last d).nodes) v.rest) (merge_wired k _ v.rest) v.trail (merged_wired k (with_last d) e (last_fits d sl) v p)).wired)
    y w

pub step_wired : (items : List Item) (lower : ℕ) (md : Mode) (k : ℕ) (d f : Diagram) → Ready k d → Step items lower md k d f → Wired d → Wired f
step_wired items lower md k d f g t w = step_keeps items lower md k d f Wired (λ e y p. squash_wired md k d e g.fits y p) store_wired (λ x y m c p. move_wired items k x y m c p) g t w

pub root_wired : (r : Record) → Wired (root_only r)
unfolding root_only fresh newest_below
root_wired r =
    record {
      arrows = λ i h. absurd (omega arith);
      link = λ i h. absurd (omega arith);
      first = λ q h. let z : q ≡ 0 = omega arith in rw z refl;
      bests = λ q h. let z : q ≡ 0 = omega arith in rw z unset;
    }

last_stored_wired : (b : Bool) (d : Diagram) → Wired d → Wired (store_last b d)
unfolding store_last
last_stored_wired true d w = record { arrows = λ i h. let a = w.arrows i h in record { from_in = a.from_in; to_in = a.to_in; rises = a.rises; deeper = a.deeper }; link = w.link; first = w.first; bests = w.bests }
last_stored_wired false d w = w

empty_stored_wired : (d : Diagram) → Wired d → Wired (store_empty d)
unfolding store_empty
empty_stored_wired d w = record { arrows = λ i h. let a = w.arrows i h in record { from_in = a.from_in; to_in = a.to_in; rises = a.rises; deeper = a.deeper }; link = w.link; first = w.first; bests = w.bests }

pub ended_wired : (items : List Item) (P : ℕ → Diagram → Type 0) → ((k : ℕ) (d : Diagram) → P k d → Wired d) → (e : Diagram) → Ended items P e → Wired e
ended_wired items P f e (through k d z g p) = last_stored_wired (has_rows d) d (f k d p)
ended_wired items P f e (died k d z g p) = empty_stored_wired d (f k d p)

-- Every run that is not refused, of any mode, leaves wired tables.
pub grown_wired : (items : List Item) (opts : Settings) (r : Record) → Holds Wired (grown opts items r)
grown_wired items opts r =
    holds_map (λ e z. ended_wired items (λ _ d. Wired d) (λ k d w. w) e z)
    (grown_keeps items opts (λ _ d. Wired d) (λ k d f g t w. step_wired items opts.lower opts.mode k d f g t w) r (root_wired r))

-- ---- what follows of wired tables

-- an edge's parent has the smaller row
pub parent_smaller : (d : Diagram) → Wired d → (e : ℕ) → e < length d.edges → (edge_at d.edges e).from < (edge_at d.edges e).to
parent_smaller d w e h = (w.arrows e h).rises

-- the parent over a row's best edge, if there is one, has the smaller row
pub best_parent_smaller : (d : Diagram) → Wired d → (r e : ℕ) → r < length d.nodes → (node_at d.nodes r).best ≡ suc e → (e < length d.edges) × ((edge_at d.edges e).from < r)
best_parent_smaller d w r e h q = go (node_at d.nodes r).best (w.bests r h) q
  where
    go : (b : ℕ) → BestEdge d.edges r b → b ≡ suc e → (e < length d.edges) × ((edge_at d.edges e).from < r)
    go b unset q = absurd (omega arith)
    go b (is_edge x l z) q =
        let y : x ≡ e = omega arith in
        (omega arith, subst (λ (v : ℕ). (edge_at d.edges v).from < r) y (subst (λ (v : ℕ). (edge_at d.edges x).from < v) z (w.arrows x l).rises))

-- the walk along the next numbers gives the inbound edges
pub next_walk : (d : Diagram) → Wired d → (r : ℕ) → r < length d.nodes → along_next (length d.edges) d.edges (node_at d.nodes r).newest ≡ inbound d.edges r
unfolding inbound
next_walk d w r h = rw (w.first r h) (walk_inbound d.edges (record { link = w.link }) r (length d.edges) (length d.edges) (omega arith) (omega arith))

-- ---- the newest edge below a number, and the inbound edges below it

pub newest_low : (p : ℕ) (es : List Edge) (r : ℕ) → newest_below p es r ≤ p
unfolding newest_below
newest_low zero es r = omega arith
newest_low (suc p) es r =
    by_test (λ b. cond b (suc p) (newest_below p es r) ≤ suc p) (eqb (edge_at es p).to r)
    (λ _. omega arith)
    (λ _. omega (arith, newest_low p es r))

-- edge e is the newest of the first p edges that end in row r
pub record NewestIs (p : ℕ) (es : List Edge) (r e : ℕ) : Type 0 where
  pub below : e < p
  pub ends : (edge_at es e).to ≡ r
  pub splits : inbound_below p es r ≡ e ∷ inbound_below e es r

pub newest_found : (p : ℕ) (es : List Edge) (r e : ℕ) → newest_below p es r ≡ suc e → NewestIs p es r e
unfolding newest_below inbound_below
newest_found zero es r e q = absurd (omega arith)
newest_found (suc p) es r e q =
    (by_test (λ b. eqb (edge_at es p).to r ≡ b → cond b (suc p) (newest_below p es r) ≡ suc e → NewestIs (suc p) es r e) (eqb (edge_at es p).to r)
    (λ t u v. let z : p ≡ e = omega arith in subst (λ (x : ℕ). NewestIs (suc p) es r x) z (record { below = omega arith; ends = eqb-true _ _ t; splits = rw t }))
    (λ t u v. let n = newest_found p es r e v in record { below = omega (arith, n.below); ends = n.ends; splits = rw t n.splits }))
    refl q

pub none_inbound : (p : ℕ) (es : List Edge) (r : ℕ) → newest_below p es r ≡ 0 → inbound_below p es r ≡ []
unfolding newest_below inbound_below
none_inbound zero es r q = refl
none_inbound (suc p) es r q =
    (by_test (λ b. cond b (suc p) (newest_below p es r) ≡ 0 → cond b (p ∷ inbound_below p es r) (inbound_below p es r) ≡ []) (eqb (edge_at es p).to r)
    (λ t u. absurd (omega arith))
    (λ t u. none_inbound p es r u)) q
