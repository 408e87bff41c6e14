-- The expansion of a layer leaves, for each row of it that is branched, an edge for each decision.
use mathlib.Core.Path.{◌≡◌, refl, sym, ap, subst, ◌∙◌}
use mathlib.Core.Bool.{false, cond}
use mathlib.Core.List.Memᴰ
use mathlib.Core.List.{List, [], ◌∷◌, ◌++◌, Memᴰ}
use Prim.Native.Nat.{ℕ, suc, ◌+◌, ◌-◌, ◌≤◌, ◌<◌, min}
use native.Mathlib.Omega.{arith}
use lib.Dec.{leb, ltb}
use lib.ListN.{length, length-append, drop, length-set, length-drop}
use lib.Seq.{get_or-set_same, get_or-set_other, get_or-append_seam}
use borrow.Author.Tests.{leb-true, leb-false, ltb-true, ltb-false}
use Rattle.words.specs.I64.{mid, top, sat_add}
use Rattle.words.proofs.Laws.{sat_add_natural}
use Rattle.knapsack.specs.FastBound.{fast_bound}
use Rattle.knapsack.specs.Items.{Item, counted, takes, skips}
use Rattle.knapsack.proofs.Cases.{by_test}
use Rattle.diagram.specs.Node.{Node, Edge, no_node, no_edge, node_at, edge_at, fresh, entered}
use Rattle.diagram.specs.Rule3.{branch_take, branch_both, note_fast, reach, expand, expand_all}
use Rattle.diagram.specs.Rule4.{handed, receive, landed, push_edge, add_edge, lookup, push_node, child_of, new_child, branch_to, branch_on}
use Rattle.diagram.specs.Run.{Settings}
use Rattle.diagram.specs.Tables.{Diagram, Found, at, nowhere, with_nodes}
use Rattle.theorems.proofs.Holds.{Holds, held, then_holds, need_holds, only_holds, holds_map}
use Rattle.theorems.proofs.Rows.{snoc_at, lookup_at, found_in, found_cap, none_of}
use Rattle.theorems.proofs.Move.{Choice, by_skip, by_take, Move, note, edge, child, Trail, here, step, trail_trans, trail_keeps, core, Noted, Later, push_later, note_later, note_noted, trail_later}

-- the coming layer before its squash: of depth k, none flagged, capacities differ
pub record Coming (k : ℕ) (d : Diagram) : Type 0 where
  pub deps : (r : ℕ) → d.start ≤ r → r < length d.nodes → (node_at d.nodes r).depth ≡ k
  pub lives : (r : ℕ) → d.start ≤ r → r < length d.nodes → (node_at d.nodes r).deleted ≡ false
  pub caps : (r q : ℕ) → d.start ≤ r → r < length d.nodes → d.start ≤ q → q < length d.nodes → (node_at d.nodes r).capacity ≡ (node_at d.nodes q).capacity → r ≡ q

-- where the rows are the same in number and rise
same_coming : (items : List Item) (k : ℕ) (d e : Diagram) → Later items d e → length e.nodes ≡ length d.nodes → Coming k d → Coming k e
same_coming items k d e g l c =
    record {
      deps = λ r a b. (g.rises r (omega arith)).depth_is ∙ c.deps r (omega arith) (omega arith);
      lives = λ r a b. (g.rises r (omega arith)).deleted_is ∙ c.lives r (omega arith) (omega arith);
      caps = λ r q a b a' b' s. c.caps r q (omega arith) (omega arith) (omega arith) (omega arith) (sym (g.rises r (omega arith)).capacity_is ∙ s ∙ (g.rises q (omega arith)).capacity_is);
    }

child_fields : (s c capacity : ℕ) (d : Diagram) → ((child_of s c capacity d.nodes).capacity ≡ capacity) × ((child_of s c capacity d.nodes).depth ≡ suc (node_at d.nodes s).depth) × ((child_of s c capacity d.nodes).deleted ≡ false)
unfolding child_of fresh
child_fields s c capacity d = (refl, refl, refl)

node_coming : (k s c capacity : ℕ) (d : Diagram) → suc (node_at d.nodes s).depth ≡ k → lookup capacity (drop d.start d.nodes) d.start ≡ nowhere → Coming k d → Coming k (push_node (child_of s c capacity d.nodes) d)
unfolding push_node with_nodes
node_coming k s c capacity d e f g =
    let n = child_of s c capacity d.nodes in
    let z = child_fields s c capacity d in
    record {
      deps = λ r a b. snoc_at (λ m. m.depth ≡ k) d.nodes n r b (λ q. z.1 ∙ e) (λ q. g.deps r a q);
      lives = λ r a b. snoc_at (λ m. m.deleted ≡ false) d.nodes n r b (λ q. z.2) (λ q. g.lives r a q);
      caps = λ r q a b a' b'. snoc_at (λ m. m.capacity ≡ (node_at (d.nodes ++ (n ∷ [])) q).capacity → r ≡ q) d.nodes n r b
          (λ u. snoc_at (λ m. n.capacity ≡ m.capacity → r ≡ q) d.nodes n q b' (λ v w. omega arith) (λ v w. absurd (none_of capacity d q f a' v (sym w ∙ z.0))))
          (λ u. snoc_at (λ m. (node_at d.nodes r).capacity ≡ m.capacity → r ≡ q) d.nodes n q b' (λ v w. absurd (none_of capacity d r f a u (w ∙ z.0))) (λ v w. g.caps r q a u a' v w));
    }

-- kept by every move: a new row's capacity is one that the lookup didn't find
pub move_coming : (items : List Item) (k : ℕ) (d e : Diagram) → Move items k d e → Coming (suc k) d → Coming (suc k) e
unfolding note_fast push_edge push_node with_nodes
move_coming items k d e (note s h l) g = same_coming items (suc k) d _ (note_later items s d (omega arith)) (length-set d.nodes s _) g
move_coming items k d e (edge s t decision c h q l b ch) g = same_coming items (suc k) d _ (push_later items s t decision c d l b) (length-set d.nodes t _) g
move_coming items k d e (child s decision c capacity h q l ch n) g =
    same_coming items (suc k) (push_node (child_of s c capacity d.nodes) d) _ (push_later items s (length d.nodes) decision c (push_node (child_of s c capacity d.nodes) d) l (simp length-append (omega arith))) (length-set (d.nodes ++ _) (length d.nodes) _) (node_coming (suc k) s c capacity d (ap suc q) n g)

-- an edge of cost c from row s to a row of lo .. hi that is not flagged, of depth k, of at least that capacity and of at least the value handed over
pub record Arc (d : Diagram) (s c capacity k lo hi : ℕ) : Type 0 where
  pub via : ℕ
  pub below : via < length d.edges
  pub from : (edge_at d.edges via).from ≡ s
  pub costs : (edge_at d.edges via).cost ≡ c
  pub above : lo ≤ (edge_at d.edges via).to
  pub under : (edge_at d.edges via).to < hi
  pub room : capacity ≤ (node_at d.nodes (edge_at d.edges via).to).capacity
  pub depth : (node_at d.nodes (edge_at d.edges via).to).depth ≡ k
  pub live : (node_at d.nodes (edge_at d.edges via).to).deleted ≡ false
  pub worth : handed d.nodes s c ≤ (node_at d.nodes (edge_at d.edges via).to).value

pub core_val : (a b : Node) → core a ≡ core b → a.value ≡ b.value
unfolding core
core_val a b e = ap (λ (n : Node). n.value) e

pub core_cap : (a b : Node) → core a ≡ core b → a.capacity ≡ b.capacity
unfolding core
core_cap a b e = ap (λ (n : Node). n.capacity) e

pub core_dep : (a b : Node) → core a ≡ core b → a.depth ≡ b.depth
unfolding core
core_dep a b e = ap (λ (n : Node). n.depth) e

pub core_del : (a b : Node) → core a ≡ core b → a.deleted ≡ b.deleted
unfolding core
core_del a b e = ap (λ (n : Node). n.deleted) e

pub handed_is : (s c : ℕ) (d : Diagram) → handed d.nodes s c ≡ min top ((node_at d.nodes s).value + c)
unfolding handed
handed_is s c d = sat_add_natural (node_at d.nodes s).value c

pub val_handed : (s c : ℕ) (d e : Diagram) → (node_at e.nodes s).value ≡ (node_at d.nodes s).value → handed e.nodes s c ≡ handed d.nodes s c
unfolding handed
val_handed s c d e h = rw h

pub arc_later : (items : List Item) (d e : Diagram) (s c capacity k lo hi hi' : ℕ) → Later items d e → s < d.start → hi ≤ length d.nodes → hi ≤ hi' → Arc d s c capacity k lo hi → Arc e s c capacity k lo hi'
arc_later items d e s c capacity k lo hi hi' g h b b' a =
    let q = g.edges_are a.via a.below in
    let t = (edge_at d.edges a.via).to in
    let z = g.rises t (omega (arith, a.under)) in
    let v = val_handed s c d e (core_val _ _ (g.old s h)) in
    record {
      via = a.via;
      below = omega arith;
      from = rw q a.from;
      costs = rw q a.costs;
      above = rw q a.above;
      under = rw q (omega (arith, a.under));
      room = rw q (omega (arith, a.room, z.capacity_is));
      depth = rw q (z.depth_is ∙ a.depth);
      live = rw q (z.deleted_is ∙ a.live);
      worth = rw q (omega (arith, a.worth, z.value_up));
    }

pub landed_facts : (s c : ℕ) (d : Diagram) (n : Node) → ((landed d.nodes d.edges s c n).capacity ≡ n.capacity) × ((landed d.nodes d.edges s c n).depth ≡ n.depth) × ((landed d.nodes d.edges s c n).deleted ≡ n.deleted) × (handed d.nodes s c ≤ (landed d.nodes d.edges s c n).value)
unfolding landed receive entered
landed_facts s c d n = (refl, refl, refl, by_test (λ b. handed d.nodes s c ≤ cond b (handed d.nodes s c) n.value) (leb n.value (handed d.nodes s c)) (λ e. omega arith) (λ e. omega (arith, leb-false)))

-- one branch: a trail, and an arc for the decision
push_arc : (s t decision c capacity k : ℕ) (d : Diagram) → s < d.start → d.start ≤ t → t < length d.nodes → (node_at d.nodes t).capacity ≡ capacity → (node_at d.nodes t).depth ≡ k → (node_at d.nodes t).deleted ≡ false → Arc (push_edge s t decision c d) s c capacity k d.start (length (push_edge s t decision c d).nodes)
unfolding push_edge
push_arc s t decision c capacity k d h l b cq dp dl =
    let x : Edge = record { from = s; to = t; decision = decision; cost = c; next = (node_at d.nodes t).newest } in
    let q : edge_at (d.edges ++ (x ∷ [])) (length d.edges) ≡ x = get_or-append_seam d.edges x [] no_edge in
    let f = landed_facts s c d (node_at d.nodes t) in
    let m = get_or-set_same d.nodes t (landed d.nodes d.edges s c (node_at d.nodes t)) no_node b in
    record {
      via = length d.edges;
      below = simp length-append (omega arith);
      from = ap (λ (e : Edge). e.from) q;
      costs = ap (λ (e : Edge). e.cost) q;
      above = rw q l;
      under = rw (q, length-set) b;
      room = rw (q, m) (omega (arith, f.0));
      depth = rw (q, m) (f.1 ∙ dp);
      live = rw (q, m) (f.2 ∙ dl);
      worth = rw (q, m, val_handed s c d (push_edge s t decision c d) (ap (λ (n : Node). n.value) (get_or-set_other d.nodes t s _ no_node (omega arith)))) f.3;
    }

-- what a branch leaves
pub record Branched (items : List Item) (k s c capacity : ℕ) (d e : Diagram) : Type 0 where
  pub trail : Trail items k d e
  pub arc : Arc e s c capacity (suc k) d.start (length e.nodes)

arc_new : (s decision c capacity k : ℕ) (d : Diagram) → s < d.start → d.start ≤ length d.nodes → (node_at d.nodes s).depth ≡ k → Arc (push_edge s (length d.nodes) decision c (push_node (child_of s c capacity d.nodes) d)) s c capacity (suc k) d.start (length (push_edge s (length d.nodes) decision c (push_node (child_of s c capacity d.nodes) d)).nodes)
unfolding push_node with_nodes
arc_new s decision c capacity k d h l q =
    let n = child_of s c capacity d.nodes in
    let z = child_fields s c capacity d in
    let m = get_or-append_seam d.nodes n [] no_node in
    push_arc s (length d.nodes) decision c capacity (suc k) (push_node n d) h l (simp length-append (omega arith)) (ap (λ (x : Node). x.capacity) m ∙ z.0) (ap (λ (x : Node). x.depth) m ∙ z.1 ∙ ap suc q) (ap (λ (x : Node). x.deleted) m ∙ z.2)

branch_to_branched : (f : Found) (items : List Item) (opts : Settings) (k s decision c capacity : ℕ) (d : Diagram) → s < d.start → (node_at d.nodes s).depth ≡ k → d.start ≤ length d.nodes → Coming (suc k) d → Choice items (node_at d.nodes s) decision c capacity → lookup capacity (drop d.start d.nodes) d.start ≡ f → Holds (Branched items k s c capacity d) (branch_to f opts s decision c capacity d)
unfolding branch_to add_edge new_child
branch_to_branched (at t) items opts k s decision c capacity d h q l g ch e =
    let z = lookup_at capacity (drop d.start d.nodes) d.start t e in
    let b = found_in capacity d t z in
    let cq = found_cap capacity d t z in
    let a : d.start ≤ t = omega arith in
    need_holds _ _ _ _ (λ _. held (record {
      trail = step here (edge s t decision c h q a b (rw cq ch));
      arc = push_arc s t decision c capacity (suc k) d h a b cq (g.deps t a b) (g.lives t a b);
    }))
branch_to_branched nowhere items opts k s decision c capacity d h q l g ch e =
    need_holds _ _ _ _ (λ _. need_holds _ _ _ _ (λ _. need_holds _ _ _ _ (λ _. held (record {
      trail = step here (child s decision c capacity h q l ch e);
      arc = arc_new s decision c capacity k d h l q;
    }))))

pub branch_branched : (items : List Item) (opts : Settings) (k s decision c capacity : ℕ) (d : Diagram) → s < d.start → (node_at d.nodes s).depth ≡ k → d.start ≤ length d.nodes → Coming (suc k) d → Choice items (node_at d.nodes s) decision c capacity → Holds (Branched items k s c capacity d) (branch_on opts s decision c capacity d)
unfolding branch_on
branch_branched items opts k s decision c capacity d h q l g ch = branch_to_branched (lookup capacity (drop d.start d.nodes) d.start) items opts k s decision c capacity d h q l g ch refl

-- value plus fast bound
unfoldable pub outlook : List Item → Node → ℕ
outlook items n = sat_add n.value (mid + fast_bound (drop n.depth items) n.capacity)

-- row s was expanded: its bound is noted and, if it is branched, there is an arc for each decision
pub record Stepped (items : List Item) (lower : ℕ) (d : Diagram) (s lo hi : ℕ) : Type 0 where
  pub noted : Noted items (node_at d.nodes s)
  pub deep : (node_at d.nodes s).depth < length items
  pub skip : lower < outlook items (node_at d.nodes s) → Arc d s 0 (node_at d.nodes s).capacity (suc (node_at d.nodes s).depth) lo hi
  pub take : lower < outlook items (node_at d.nodes s) → (i : Item) (is : List Item) → drop (node_at d.nodes s).depth items ≡ i ∷ is → counted i.weight ≤ (node_at d.nodes s).capacity → Arc d s i.profit ((node_at d.nodes s).capacity - counted i.weight) (suc (node_at d.nodes s).depth) lo hi

pub core_outlook : (items : List Item) (a b : Node) → core a ≡ core b → outlook items a ≡ outlook items b
unfolding core outlook
core_outlook items a b e = ap (λ (n : Node). outlook items n) e

pub stepped_later : (items : List Item) (lower : ℕ) (d e : Diagram) (s lo hi hi' : ℕ) → Later items d e → s < d.start → hi ≤ length d.nodes → hi ≤ hi' → Stepped items lower d s lo hi → Stepped items lower e s lo hi'
stepped_later items lower d e s lo hi hi' g h b b' a =
    let o = g.old s h in
    let z = core_outlook items _ _ o in
    let cq = core_cap _ _ o in
    let dq = core_dep _ _ o in
    record {
      noted = g.noted s h a.noted;
      deep = rw dq a.deep;
      skip = λ l. rw (cq, dq) (arc_later items d e s 0 _ _ lo hi hi' g h b b' (a.skip (rw z at l)));
      take = λ l i is q w. rw (cq, dq) (arc_later items d e s i.profit _ _ lo hi hi' g h b b' (a.take (rw z at l) i is (rw dq at q) (rw cq at w)));
    }

-- take, if it fits
record Taken (items : List Item) (k s : ℕ) (i : Item) (capacity : ℕ) (d e : Diagram) : Type 0 where
  trail : Trail items k d e
  arc : counted i.weight ≤ capacity → Arc e s i.profit (capacity - counted i.weight) (suc k) d.start (length e.nodes)

take_taken : (items : List Item) (opts : Settings) (i : Item) (is : List Item) (k s capacity : ℕ) (d : Diagram) → s < d.start → (node_at d.nodes s).depth ≡ k → (node_at d.nodes s).capacity ≡ capacity → drop k items ≡ i ∷ is → d.start ≤ length d.nodes → Coming (suc k) d → Holds (Taken items k s i capacity d) (branch_take opts i k s capacity d)
unfolding branch_take
take_taken items opts i is k s capacity d h q u e l g =
    only_holds _ _ _
    (λ t. let w = leb-true (counted i.weight) capacity t in
    let ch : Choice items (node_at d.nodes s) (takes k) i.profit (capacity - counted i.weight) = by_take i is (rw q e) (omega arith) (ap takes (sym q)) refl (rw u) in
    holds_map (λ f b. record { trail = b.trail; arc = λ _. b.arc }) (branch_branched items opts k s (takes k) i.profit (capacity - counted i.weight) d h q l g ch))
    (λ t. record { trail = here; arc = λ w. absurd (omega (arith, leb-false (counted i.weight) capacity t)) })

record Done (items : List Item) (k s : ℕ) (i : Item) (capacity : ℕ) (d e : Diagram) : Type 0 where
  trail : Trail items k d e
  take : counted i.weight ≤ capacity → Arc e s i.profit (capacity - counted i.weight) (suc k) d.start (length e.nodes)
  skip : Arc e s 0 capacity (suc k) d.start (length e.nodes)

both_done : (items : List Item) (opts : Settings) (i : Item) (is : List Item) (k s capacity : ℕ) (d : Diagram) → s < d.start → (node_at d.nodes s).depth ≡ k → (node_at d.nodes s).capacity ≡ capacity → drop k items ≡ i ∷ is → d.start ≤ length d.nodes → Coming (suc k) d → Holds (Done items k s i capacity d) (branch_both opts i k s capacity d)
unfolding branch_both
both_done items opts i is k s capacity d h q u e l g =
    then_holds _ (take_taken items opts i is k s capacity d h q u e l g)
    (λ f t. let r = trail_later items t.trail in
    let o = r.old s h in
    let b = r.begins in
    let q' = core_dep _ _ o ∙ q in
    let u' = core_cap _ _ o ∙ u in
    let g' = trail_keeps (Coming (suc k)) (move_coming items k) t.trail g in
    holds_map
    (λ x z. let r' = trail_later items z.trail in
    record {
      trail = trail_trans t.trail z.trail;
      take = λ w. arc_later items f x s i.profit _ _ _ (length f.nodes) (length x.nodes) r' (omega arith) (omega arith) (omega arith) (t.arc w);
      skip = rw (← b) z.arc;
    })
    (branch_branched items opts k s (skips k) 0 capacity f (omega arith) q' (omega arith) g' (by_skip (omega (arith, length-drop k items, ap (length {A = Item}) e)) (ap skips (sym q')) refl (sym u'))))

-- a row is expanded
pub record Expanded (items : List Item) (lower k s : ℕ) (d e : Diagram) : Type 0 where
  pub trail : Trail items k d e
  pub stepped : Stepped items lower e s d.start (length e.nodes)
  pub made : length d.nodes < length e.nodes → lower < outlook items (node_at e.nodes s)

cons_inj : (i i' : Item) (is is' : List Item) → i ∷ is ≡ i' ∷ is' → i ≡ i'
cons_inj i i' is is' e = cc

finish_one : (items : List Item) (lower : ℕ) (i : Item) (is : List Item) (k s capacity : ℕ) (d e : Diagram) → s < d.start → d.start ≤ length d.nodes → (node_at d.nodes s).depth ≡ k → (node_at d.nodes s).capacity ≡ capacity → drop k items ≡ i ∷ is → Noted items (node_at d.nodes s) → Done items k s i capacity d e → Stepped items lower e s d.start (length e.nodes)
finish_one items lower i is k s capacity d e h l q u eq n t =
    let r = trail_later items t.trail in
    let o = r.old s h in
    let q' : (node_at e.nodes s).depth ≡ k = core_dep _ _ o ∙ q in
    let u' : (node_at e.nodes s).capacity ≡ capacity = core_cap _ _ o ∙ u in
    record {
      noted = r.noted s h n;
      deep = omega (arith, length-drop k items, ap (length {A = Item}) eq);
      skip = λ _. rw (q', u') t.skip;
      take = λ _ i' is' z w. let ie = cons_inj i i' is is' (sym eq ∙ sym (ap (λ (m : ℕ). drop m items) q') ∙ z) in rw (q', u', ← ie) (t.take (rw ie (rw u' at w)));
    }

reach_outlook : (items is : List Item) (s : ℕ) (d : Diagram) → is ≡ drop (node_at d.nodes s).depth items → reach is s d.nodes ≡ outlook items (node_at d.nodes s)
unfolding reach outlook
reach_outlook items is s d e = rw e

note_long : (is : List Item) (s : ℕ) (d : Diagram) → length (note_fast is s d).nodes ≡ length d.nodes
unfolding note_fast with_nodes
note_long is s d = length-set d.nodes s _

-- one row is expanded
pub one_expanded : (items : List Item) (opts : Settings) (i : Item) (is : List Item) (k : ℕ) (d : Diagram) (s : ℕ) → s < d.start → (node_at d.nodes s).depth ≡ k → drop k items ≡ i ∷ is → d.start ≤ length d.nodes → Coming (suc k) d → Holds (Expanded items opts.lower k s d) (expand opts (i ∷ is) i k d s)
unfolding expand
one_expanded items opts i is k d s h q e l g =
    let ie : i ∷ is ≡ drop (node_at d.nodes s).depth items = sym e ∙ sym (ap (λ (m : ℕ). drop m items) q) in
    let n₀ : Trail items k d (note_fast (drop (node_at d.nodes s).depth items) s d) = step here (note s h l) in
    let n : Trail items k d (note_fast (i ∷ is) s d) = subst (λ (x : List Item). Trail items k d (note_fast x s d)) (sym ie) n₀ in
    let nn : Noted items (node_at (note_fast (i ∷ is) s d).nodes s) = subst (λ (x : List Item). Noted items (node_at (note_fast x s d).nodes s)) (sym ie) (note_noted items s d (omega arith)) in
    let r = trail_later items n in
    let o = r.old s h in
    let b = r.begins in
    let q' = core_dep _ _ o ∙ q in
    let u' = core_cap _ _ o in
    only_holds _ _ _
    (λ t. holds_map (λ f z. record { trail = trail_trans n z.trail; stepped = rw (← b) (finish_one items opts.lower i is k s _ (note_fast (i ∷ is) s d) f (omega arith) (omega arith) q' u' e nn z); made = λ _. rw (core_outlook items _ _ ((trail_later items (trail_trans n z.trail)).old s h), ← (reach_outlook items (i ∷ is) s d ie)) (ltb-true _ _ t) })
    (both_done items opts i is k s _ (note_fast (i ∷ is) s d) (omega arith) q' u' e (omega arith) (trail_keeps (Coming (suc k)) (move_coming items k) n g)))
    (λ t. let no : outlook items (node_at (note_fast (i ∷ is) s d).nodes s) ≤ opts.lower = rw (core_outlook items _ _ o, ← (reach_outlook items (i ∷ is) s d ie)) (ltb-false _ _ t) in
    record { trail = n; stepped = record { noted = nn; deep = omega (arith, q', length-drop k items, ap (length {A = Item}) e); skip = λ y. absurd (omega arith); take = λ y _ _ _ _. absurd (omega arith) }; made = λ y. absurd (omega (arith, note_long (i ∷ is) s d)) })

-- a row of the list that was branched
pub record Seen (items : List Item) (lower : ℕ) (ss : List ℕ) (e : Diagram) : Type 0 where
  pub row : ℕ
  pub mem : Memᴰ row ss
  pub seen : lower < outlook items (node_at e.nodes row)

-- the layer: each row of the list is expanded, and where there are new rows one of them was branched
pub record Layered (items : List Item) (lower k : ℕ) (ss : List ℕ) (d e : Diagram) : Type 0 where
  pub trail : Trail items k d e
  pub stepped : (s : ℕ) → Memᴰ s ss → Stepped items lower e s d.start (length e.nodes)
  pub made : length d.nodes < length e.nodes → Seen items lower ss e

-- The expansion of a layer, unless refused, is a trail of moves after which each row of the list is stepped.
pub all_expanded : (items : List Item) (opts : Settings) (i : Item) (is : List Item) (k : ℕ) (ss : List ℕ) (d : Diagram) → ((s : ℕ) → Memᴰ s ss → (s < d.start) × ((node_at d.nodes s).depth ≡ k)) → drop k items ≡ i ∷ is → d.start ≤ length d.nodes → Coming (suc k) d → Holds (Layered items opts.lower k ss d) (expand_all opts (i ∷ is) i k ss d)
unfolding expand_all
all_expanded items opts i is k [] d b e l g = held (record { trail = here; stepped = λ s m. absurd (Memᴰ.not-nil m); made = λ h. absurd (omega arith) })
all_expanded items opts i is k (s ∷ ss) d b e l g =
    let h = b s (Memᴰ.head refl) in
    then_holds _ (one_expanded items opts i is k d s h.0 h.1 e l g)
    (λ f z. let r = trail_later items z.trail in
    let bg = r.begins in
    holds_map (λ x y. record { trail = trail_trans z.trail y.trail; stepped = λ q m. pick f x q z y m; made = λ h. which f x z y h })
    (all_expanded items opts i is k ss f (λ q m. let w = b q (Memᴰ.tail m) in (omega arith, core_dep _ _ (r.old q w.0) ∙ w.1)) e (omega arith) (trail_keeps (Coming (suc k)) (move_coming items k) z.trail g)))
  where
    which : (f x : Diagram) → Expanded items opts.lower k s d f → Layered items opts.lower k ss f x → length d.nodes < length x.nodes → Seen items opts.lower (s ∷ ss) x
    which f x z y h =
        let r = trail_later items z.trail in
        let r' = trail_later items y.trail in
        by_test (λ _. Seen items opts.lower (s ∷ ss) x) (ltb (length d.nodes) (length f.nodes))
        (λ t. record { row = s; mem = Memᴰ.head refl; seen = rw (core_outlook items _ _ (r'.old s (omega (arith, (b s (Memᴰ.head refl)).0, r.begins)))) (z.made (ltb-true _ _ t)) })
        (λ t. let w = y.made (omega (arith, ltb-false (length d.nodes) (length f.nodes) t)) in record { row = w.row; mem = Memᴰ.tail w.mem; seen = w.seen })

    pick : (f x : Diagram) (q : ℕ) → Expanded items opts.lower k s d f → Layered items opts.lower k ss f x → Memᴰ q (s ∷ ss) → Stepped items opts.lower x q d.start (length x.nodes)
    pick f x q z y (Memᴰ.head e) =
        let h = b s (Memᴰ.head refl) in
        let r = trail_later items z.trail in
        let r' = trail_later items y.trail in
        rw e (stepped_later items opts.lower f x s d.start (length f.nodes) (length x.nodes) r' (omega (arith, h.0, r.begins)) (omega arith) r'.longer z.stepped)
    pick f x q z y (Memᴰ.tail m) = let r = trail_later items z.trail in rw (← r.begins) (y.stepped q m)
