-- Soundness, in every mode: a row that is not relaxed has a best edge from an earlier row by a legal decision, with the state and the value that follow from it.
use mathlib.Core.Path.{◌≡◌, refl, sym, ap, subst, ◌∙◌}
use mathlib.Core.Bool.{Bool, true, false, cond, ◌&&◌}
use mathlib.Core.List.Memᴰ
use mathlib.Core.List.{List, [], ◌∷◌, ◌++◌}
use mathlib.Core.Logic.{◌⊎◌, ⊎_elim, inl, inr, ◌≢◌}
use Prim.Native.Nat.{ℕ, suc, ◌+◌, ◌≤◌, ◌<◌, min}
use native.Mathlib.Decide.{ℕ_discrete}
use native.Mathlib.Omega.{arith}
use lib.Dec.{leb}
use lib.ListN.{length, length-append, length-set}
use lib.Seq.{get_or-set_same, get_or-set_other, get_or-append_seam}
use borrow.Author.Tests.{leb-false}
use Rattle.words.specs.I64.{top}
use Rattle.knapsack.specs.Items.{Item}
use Rattle.knapsack.proofs.Cases.{by_test}
use Rattle.diagram.specs.Node.{Node, Edge, no_node, no_edge, node_at, edge_at, update, fresh, entered, with_fast, with_deleted}
use Rattle.diagram.specs.Record.{Record}
use Rattle.diagram.specs.Rule1.{root_only}
use Rattle.diagram.specs.Rule2.{store, store_empty, store_last, has_rows, grown}
use Rattle.diagram.specs.Rule3.{note_fast}
use Rattle.diagram.specs.Rule4.{handed, receive, landed, push_edge, push_node, child_of}
use Rattle.diagram.specs.Rule5.{with_last}
use Rattle.diagram.specs.Rule6.{merged_row}
use Rattle.diagram.specs.Run.{Mode, Settings}
use Rattle.diagram.specs.Tables.{Diagram, with_nodes}
use Rattle.theorems.proofs.Bool.{and_both, false_and}
use Rattle.theorems.proofs.Holds.{Holds, holds_map}
use Rattle.theorems.proofs.Rows.{update_at}
use Rattle.theorems.proofs.Move.{Choice, by_skip, by_take, Move, note, edge, child, core, Later, push_later, node_later, note_later}
use Rattle.theorems.proofs.Arc.{Coming, handed_is, val_handed}
use Rattle.theorems.proofs.Merge.{MergeMove, flag, copy, merging_keeps, Merged, merge_move_merged}
use Rattle.theorems.proofs.Squash.{merged_fields, Merging, Way}
use Rattle.theorems.proofs.Growth.{Ready, Step, step_keeps, squash_keeps, Ended, through, died, grown_keeps}
use Rattle.theorems.proofs.Tower.{root_row}
use Rattle.theorems.proofs.Links.{Wired, node_is, node_was, WiredMerge, merge_wired, last_wired, last_fits, merged_wired, step_wired, root_wired}

-- what counts of a row here
pub record Kin (a b : Node) : Type 0 where
  pub capacity_is : b.capacity ≡ a.capacity
  pub depth_is : b.depth ≡ a.depth
  pub value_is : b.value ≡ a.value
  pub best_is : b.best ≡ a.best
  pub exact_is : b.exact ≡ a.exact
  pub cutset_is : b.cutset ≡ a.cutset
  pub relaxed_is : b.relaxed ≡ a.relaxed

pub kin_core : (a b : Node) → core b ≡ core a → Kin a b
unfolding core
kin_core a b e = record { capacity_is = ap (λ (n : Node). n.capacity) e; depth_is = ap (λ (n : Node). n.depth) e; value_is = ap (λ (n : Node). n.value) e; best_is = ap (λ (n : Node). n.best) e; exact_is = ap (λ (n : Node). n.exact) e; cutset_is = ap (λ (n : Node). n.cutset) e; relaxed_is = ap (λ (n : Node). n.relaxed) e }

pub kin_refl : (a : Node) → Kin a a
kin_refl a = record { capacity_is = refl; depth_is = refl; value_is = refl; best_is = refl; exact_is = refl; cutset_is = refl; relaxed_is = refl }

pub kin_same : (a b : Node) → b ≡ a → Kin a b
kin_same a b e = rw e (kin_refl a)

-- of a row that got an edge which is not its best: it may have lost exactness
pub record Like (a b : Node) : Type 0 where
  pub capacity_is : b.capacity ≡ a.capacity
  pub depth_is : b.depth ≡ a.depth
  pub value_is : b.value ≡ a.value
  pub best_is : b.best ≡ a.best
  pub exact_of : b.exact ≡ true → a.exact ≡ true

pub kin_like : {a b : Node} → Kin a b → Like a b
kin_like k = record { capacity_is = k.capacity_is; depth_is = k.depth_is; value_is = k.value_is; best_is = k.best_is; exact_of = λ x. sym k.exact_is ∙ x }

kin_choice : (items : List Item) (a b : Node) (decision c capacity : ℕ) → Kin a b → Choice items a decision c capacity → Choice items b decision c capacity
kin_choice items a b decision c capacity k (by_skip l p q r) = by_skip (rw k.depth_is l) (rw k.depth_is p) q (rw k.capacity_is r)
kin_choice items a b decision c capacity k (by_take i is e w p q r) = by_take i is (rw k.depth_is e) (rw k.capacity_is w) (rw k.depth_is p) q (rw k.capacity_is r)

-- the best edge of row y: from a row before it, exact if y is, by a decision that leads from that row's state to y's
pub record Via (items : List Item) (d : Diagram) (y : ℕ) : Type 0 where
  pub by : ℕ
  pub best_is : (node_at d.nodes y).best ≡ suc by
  pub below : by < length d.edges
  pub ends : (edge_at d.edges by).to ≡ y
  pub before : (edge_at d.edges by).from < y
  pub stored : (edge_at d.edges by).from < d.start
  pub up : (node_at d.nodes y).exact ≡ true → (node_at d.nodes (edge_at d.edges by).from).exact ≡ true
  pub depth : (node_at d.nodes y).depth ≡ suc (node_at d.nodes (edge_at d.edges by).from).depth
  pub choice : Choice items (node_at d.nodes (edge_at d.edges by).from) (edge_at d.edges by).decision (edge_at d.edges by).cost (node_at d.nodes y).capacity
  pub value : (node_at d.nodes y).value ≡ min top ((node_at d.nodes (edge_at d.edges by).from).value + (edge_at d.edges by).cost)

-- rows before the coming layer, and edges, stay
pub record Stays (d e : Diagram) : Type 0 where
  pub begins : d.start ≤ e.start
  pub old : (r : ℕ) → r < d.start → Kin (node_at d.nodes r) (node_at e.nodes r)
  pub more : length d.edges ≤ length e.edges
  pub edges_are : (k : ℕ) → k < length d.edges → edge_at e.edges k ≡ edge_at d.edges k

pub later_stays : (items : List Item) (d e : Diagram) → Later items d e → Stays d e
later_stays items d e g = record { begins = omega (arith, g.begins); old = λ r h. kin_core _ _ (g.old r h); more = g.more; edges_are = g.edges_are }

pub merged_stays : (m : ℕ) (rest : List ℕ) (d e : Diagram) → Merged m rest d e → Stays d e
merged_stays m rest d e g = record { begins = omega (arith, g.begins); old = λ r h. kin_same _ _ (g.old r h); more = g.more; edges_are = g.edges_are }

pub via_keep : (items : List Item) (d e : Diagram) (y : ℕ) → Stays d e → Like (node_at d.nodes y) (node_at e.nodes y) → Via items d y → Via items e y
via_keep items d e y g k v =
    let q = g.edges_are v.by v.below in
    let s = (edge_at d.edges v.by).from in
    let z = g.old s v.stored in
    record {
      by = v.by;
      best_is = k.best_is ∙ v.best_is;
      below = omega (arith, v.below, g.more);
      ends = rw q v.ends;
      before = rw q v.before;
      stored = rw q (omega (arith, v.stored, g.begins));
      up = λ x. rw q (z.exact_is ∙ v.up (k.exact_of x));
      depth = rw q (k.depth_is ∙ v.depth ∙ ap suc (sym z.depth_is));
      choice = rw (q, k.capacity_is) (kin_choice items _ _ _ _ _ z v.choice);
      value = rw q (omega (arith, k.value_is, v.value, z.value_is));
    }

-- Of the tables of a run whose root's row is r₀: no cutset flags; each row but the root that isn't relaxed has a sound best edge; an exact row isn't relaxed; row 0 is the root.
pub record Sound (items : List Item) (r₀ : Node) (d : Diagram) : Type 0 where
  pub clean : (r : ℕ) → r < length d.nodes → (node_at d.nodes r).cutset ≡ false
  pub traced : (y : ℕ) → y < length d.nodes → 0 < y → (node_at d.nodes y).relaxed ≡ false → Via items d y
  pub pure : (y : ℕ) → y < length d.nodes → (node_at d.nodes y).exact ≡ true → (node_at d.nodes y).relaxed ≡ false
  pub some_row : 0 < length d.nodes
  pub root : Kin r₀ (node_at d.nodes 0)

-- the same, but for row t
record SoundBut (items : List Item) (r₀ : Node) (t : ℕ) (d : Diagram) : Type 0 where
  clean : (r : ℕ) → r < length d.nodes → (node_at d.nodes r).cutset ≡ false
  traced : (y : ℕ) → y < length d.nodes → 0 < y → y ≢ t → (node_at d.nodes y).relaxed ≡ false → Via items d y
  pure : (y : ℕ) → y < length d.nodes → y ≢ t → (node_at d.nodes y).exact ≡ true → (node_at d.nodes y).relaxed ≡ false
  some_row : 0 < length d.nodes
  root : Kin r₀ (node_at d.nodes 0)

sound_but : (items : List Item) (r₀ : Node) (t : ℕ) (d : Diagram) → Sound items r₀ d → SoundBut items r₀ t d
sound_but items r₀ t d w = record { clean = w.clean; traced = λ y h p _ x. w.traced y h p x; pure = λ y h _ x. w.pure y h x; some_row = w.some_row; root = w.root }

pub kin_trans : {a b c : Node} → Kin a b → Kin b c → Kin a c
kin_trans p q = record { capacity_is = q.capacity_is ∙ p.capacity_is; depth_is = q.depth_is ∙ p.depth_is; value_is = q.value_is ∙ p.value_is; best_is = q.best_is ∙ p.best_is; exact_is = q.exact_is ∙ p.exact_is; cutset_is = q.cutset_is ∙ p.cutset_is; relaxed_is = q.relaxed_is ∙ p.relaxed_is }

-- ---- a change of rows in which nothing counts here: a noted bound, a flag

kin_sound : (items : List Item) (r₀ : Node) (d e : Diagram) → Stays d e → length e.nodes ≡ length d.nodes → ((r : ℕ) → r < length d.nodes → Kin (node_at d.nodes r) (node_at e.nodes r)) → Sound items r₀ d → Sound items r₀ e
kin_sound items r₀ d e g ln k s =
    record {
      clean = λ r h. (k r (omega arith)).cutset_is ∙ s.clean r (omega arith);
      traced = λ y h p x. via_keep items d e y g (kin_like (k y (omega arith))) (s.traced y (omega arith) p (sym (k y (omega arith)).relaxed_is ∙ x));
      pure = λ y h x. (k y (omega arith)).relaxed_is ∙ s.pure y (omega arith) (sym (k y (omega arith)).exact_is ∙ x);
      some_row = omega (arith, s.some_row);
      root = kin_trans s.root (k 0 s.some_row);
    }

fast_kin : (b : ℕ) (n : Node) → Kin n (with_fast b n)
unfolding with_fast
fast_kin b n = record { capacity_is = refl; depth_is = refl; value_is = refl; best_is = refl; exact_is = refl; cutset_is = refl; relaxed_is = refl }

pub note_kin : (is : List Item) (s : ℕ) (d : Diagram) → s < length d.nodes → (r : ℕ) → Kin (node_at d.nodes r) (node_at (note_fast is s d).nodes r)
unfolding note_fast with_nodes
note_kin is s d h r = update_at (λ n. Kin (node_at d.nodes r) n) (with_fast _) d.nodes s r h (λ e. rw e (fast_kin _ _)) (λ e. kin_refl _)

deleted_kin : (n : Node) → Kin n (with_deleted true n)
unfolding with_deleted
deleted_kin n = record { capacity_is = refl; depth_is = refl; value_is = refl; best_is = refl; exact_is = refl; cutset_is = refl; relaxed_is = refl }

pub flag_kin : (r : ℕ) (d : Diagram) → r < length d.nodes → (q : ℕ) → Kin (node_at d.nodes q) (node_at (with_nodes d (update (with_deleted true) d.nodes r)).nodes q)
unfolding with_nodes
flag_kin r d h q = update_at (λ n. Kin (node_at d.nodes q) n) (with_deleted true) d.nodes r q h (λ e. rw e (deleted_kin _)) (λ e. kin_refl _)

-- ---- one more edge

pub landed_exact : (s c : ℕ) (d : Diagram) (n : Node) → ((landed d.nodes d.edges s c n).exact ≡ ((node_at d.nodes s).exact && n.exact)) × ((landed d.nodes d.edges s c n).cutset ≡ n.cutset) × ((landed d.nodes d.edges s c n).depth ≡ n.depth) × ((landed d.nodes d.edges s c n).capacity ≡ n.capacity) × ((landed d.nodes d.edges s c n).relaxed ≡ n.relaxed)
unfolding landed receive entered
landed_exact s c d n = (refl, refl, refl, refl, refl)

-- the newest edge is the best, or all that counts is as it was
landed_best : (s c : ℕ) (d : Diagram) (n : Node) → (((landed d.nodes d.edges s c n).best ≡ suc (length d.edges)) × ((landed d.nodes d.edges s c n).value ≡ handed d.nodes s c)) ⊎ (((landed d.nodes d.edges s c n).best ≡ n.best) × ((landed d.nodes d.edges s c n).value ≡ n.value) × (handed d.nodes s c < n.value))
unfolding landed receive entered
landed_best s c d n =
    by_test (λ b. ((cond b (suc (length d.edges)) n.best ≡ suc (length d.edges)) × (cond b (handed d.nodes s c) n.value ≡ handed d.nodes s c)) ⊎ ((cond b (suc (length d.edges)) n.best ≡ n.best) × (cond b (handed d.nodes s c) n.value ≡ n.value) × (handed d.nodes s c < n.value))) (leb n.value (handed d.nodes s c))
    (λ e. inl (refl, refl)) (λ e. inr (refl, refl, leb-false _ _ e))

-- row t with its new edge as the best
new_via : (items : List Item) (s t decision c : ℕ) (d : Diagram) → s < d.start → d.start ≤ t → t < length d.nodes → (node_at d.nodes t).depth ≡ suc (node_at d.nodes s).depth → Choice items (node_at d.nodes s) decision c (node_at d.nodes t).capacity → ((landed d.nodes d.edges s c (node_at d.nodes t)).best ≡ suc (length d.edges)) × ((landed d.nodes d.edges s c (node_at d.nodes t)).value ≡ handed d.nodes s c) → Via items (push_edge s t decision c d) t
unfolding push_edge
new_via items s t decision c d hs l h dq ch b =
    let e : Edge = record { from = s; to = t; decision = decision; cost = c; next = (node_at d.nodes t).newest } in
    let q : edge_at (d.edges ++ (e ∷ [])) (length d.edges) ≡ e = get_or-append_seam d.edges e [] no_edge in
    let m = get_or-set_same d.nodes t (landed d.nodes d.edges s c (node_at d.nodes t)) no_node h in
    let o = get_or-set_other d.nodes t s (landed d.nodes d.edges s c (node_at d.nodes t)) no_node (omega arith) in
    let f = landed_exact s c d (node_at d.nodes t) in
    record {
      by = length d.edges;
      best_is = rw m b.0;
      below = simp length-append (omega arith);
      ends = ap (λ (x : Edge). x.to) q;
      before = rw q (omega arith);
      stored = rw q hs;
      up = λ x. rw (q, o) (and_both (node_at d.nodes s).exact (node_at d.nodes t).exact (sym f.0 ∙ (rw m at x))).0;
      depth = rw (q, m, o) (f.2 ∙ dq);
      choice = rw (q, m, o, f.3) ch;
      value = rw (q, m, o) (b.1 ∙ handed_is s c d);
    }

pub push_kin : (s t decision c : ℕ) (d : Diagram) (r : ℕ) → r ≢ t → Kin (node_at d.nodes r) (node_at (push_edge s t decision c d).nodes r)
unfolding push_edge
push_kin s t decision c d r e = kin_same _ _ (get_or-set_other d.nodes t r _ no_node e)

pub push_row : (s t decision c : ℕ) (d : Diagram) → t < length d.nodes → node_at (push_edge s t decision c d).nodes t ≡ landed d.nodes d.edges s c (node_at d.nodes t)
unfolding push_edge
push_row s t decision c d h = get_or-set_same d.nodes t _ no_node h

pub push_long : (s t decision c : ℕ) (d : Diagram) → length (push_edge s t decision c d).nodes ≡ length d.nodes
unfolding push_edge
push_long s t decision c d = length-set d.nodes t _

push_via : (items : List Item) (s t decision c : ℕ) (d : Diagram) → s < d.start → d.start ≤ t → t < length d.nodes → (node_at d.nodes t).depth ≡ suc (node_at d.nodes s).depth → Choice items (node_at d.nodes s) decision c (node_at d.nodes t).capacity → Stays d (push_edge s t decision c d) → node_at (push_edge s t decision c d).nodes t ≡ landed d.nodes d.edges s c (node_at d.nodes t) → ((landed d.nodes d.edges s c (node_at d.nodes t)).exact ≡ ((node_at d.nodes s).exact && (node_at d.nodes t).exact)) × ((landed d.nodes d.edges s c (node_at d.nodes t)).cutset ≡ (node_at d.nodes t).cutset) × ((landed d.nodes d.edges s c (node_at d.nodes t)).depth ≡ (node_at d.nodes t).depth) × ((landed d.nodes d.edges s c (node_at d.nodes t)).capacity ≡ (node_at d.nodes t).capacity) × ((landed d.nodes d.edges s c (node_at d.nodes t)).relaxed ≡ (node_at d.nodes t).relaxed) → ((node_at d.nodes t).relaxed ≡ false → Via items d t) → (node_at (push_edge s t decision c d).nodes t).relaxed ≡ false → Via items (push_edge s t decision c d) t
push_via items s t decision c d hs l h dq ch st m f old x =
    ⊎_elim (λ b. new_via items s t decision c d hs l h dq ch b)
    (λ b. via_keep items d (push_edge s t decision c d) t st
    (record { capacity_is = ap (λ (n : Node). n.capacity) m ∙ f.3; depth_is = ap (λ (n : Node). n.depth) m ∙ f.2; value_is = ap (λ (n : Node). n.value) m ∙ b.1; best_is = ap (λ (n : Node). n.best) m ∙ b.0; exact_of = λ y. (and_both (node_at d.nodes s).exact (node_at d.nodes t).exact (sym f.0 ∙ sym (ap (λ (n : Node). n.exact) m) ∙ y)).1 })
    (old (sym f.4 ∙ sym (ap (λ (n : Node). n.relaxed) m) ∙ x)))
    (landed_best s c d (node_at d.nodes t))

-- row t may be sound only once its edge is there
push_sound : (items : List Item) (r₀ : Node) (s t decision c : ℕ) (d : Diagram) → s < d.start → d.start ≤ t → t < length d.nodes → SoundBut items r₀ t d → ((node_at (push_edge s t decision c d).nodes t).relaxed ≡ false → Via items (push_edge s t decision c d) t) → ((node_at (push_edge s t decision c d).nodes t).exact ≡ true → (node_at (push_edge s t decision c d).nodes t).relaxed ≡ false) → Sound items r₀ (push_edge s t decision c d)
push_sound items r₀ s t decision c d hs l h w via pur =
    let e = push_edge s t decision c d in
    let st = later_stays items d e (push_later items s t decision c d l h) in
    let ln = push_long s t decision c d in
    let m = push_row s t decision c d h in
    let f = landed_exact s c d (node_at d.nodes t) in
    record {
      clean = λ r b. elim (ℕ_discrete r t) [ yes q ↦ rw (q, m) (f.1 ∙ w.clean t h) | no q ↦ (push_kin s t decision c d r q).cutset_is ∙ w.clean r (omega arith) ];
      traced = λ y b p x. elim (ℕ_discrete y t) [
        | yes q ↦ subst (λ (z : ℕ). Via items e z) (sym q) (via (subst (λ (z : ℕ). (node_at e.nodes z).relaxed ≡ false) q x))
        | no q ↦ let k = push_kin s t decision c d y q in via_keep items d e y st (kin_like k) (w.traced y (omega arith) p q (sym k.relaxed_is ∙ x))
      ];
      pure = λ y b x. elim (ℕ_discrete y t) [
        | yes q ↦ subst (λ (z : ℕ). (node_at e.nodes z).relaxed ≡ false) (sym q) (pur (subst (λ (z : ℕ). (node_at e.nodes z).exact ≡ true) q x))
        | no q ↦ let k = push_kin s t decision c d y q in k.relaxed_is ∙ w.pure y (omega arith) q (sym k.exact_is ∙ x)
      ];
      some_row = omega (arith, w.some_row);
      root = kin_trans w.root (push_kin s t decision c d 0 (λ q. omega arith));
    }

edge_sound : (items : List Item) (r₀ : Node) (s t decision c : ℕ) (d : Diagram) → s < d.start → d.start ≤ t → t < length d.nodes → (node_at d.nodes t).depth ≡ suc (node_at d.nodes s).depth → Choice items (node_at d.nodes s) decision c (node_at d.nodes t).capacity → Sound items r₀ d → Sound items r₀ (push_edge s t decision c d)
edge_sound items r₀ s t decision c d hs l h dq ch w =
    let e = push_edge s t decision c d in
    let st = later_stays items d e (push_later items s t decision c d l h) in
    let m = push_row s t decision c d h in
    let f = landed_exact s c d (node_at d.nodes t) in
    push_sound items r₀ s t decision c d hs l h (sound_but items r₀ t d w)
    (push_via items s t decision c d hs l h dq ch st m f (λ z. w.traced t h (omega arith) z))
    (λ x. rw m (f.4 ∙ w.pure t h (and_both (node_at d.nodes s).exact (node_at d.nodes t).exact (sym f.0 ∙ subst (λ (z : Node). z.exact ≡ true) m x)).1))

-- ---- one more row

pub child_row : (s c capacity : ℕ) (d : Diagram) → ((child_of s c capacity d.nodes).capacity ≡ capacity) × ((child_of s c capacity d.nodes).depth ≡ suc (node_at d.nodes s).depth) × ((child_of s c capacity d.nodes).exact ≡ (node_at d.nodes s).exact) × ((child_of s c capacity d.nodes).cutset ≡ false) × ((child_of s c capacity d.nodes).value ≡ handed d.nodes s c) × ((child_of s c capacity d.nodes).relaxed ≡ false)
unfolding child_of fresh
child_row s c capacity d = (refl, refl, refl, refl, refl, refl)

node_sound : (items : List Item) (r₀ : Node) (n : Node) (d : Diagram) → n.cutset ≡ false → d.start ≤ length d.nodes → Sound items r₀ d → SoundBut items r₀ (length d.nodes) (push_node n d)
node_sound items r₀ n d z sl w =
    let e = push_node n d in
    let i = node_is n d in
    let st = later_stays items d e (node_later items n d sl) in
    record {
      clean = λ r b. elim (ℕ_discrete r (length d.nodes)) [ yes q ↦ rw (q, i.0) z | no q ↦ rw (node_was n d r (omega arith)) (w.clean r (omega arith)) ];
      traced = λ y b p q x. let o = node_was n d y (omega arith) in via_keep items d e y st (kin_like (kin_same _ _ o)) (w.traced y (omega arith) p (sym (ap (λ (v : Node). v.relaxed) o) ∙ x));
      pure = λ y b q x. let o = node_was n d y (omega arith) in ap (λ (v : Node). v.relaxed) o ∙ w.pure y (omega arith) (sym (ap (λ (v : Node). v.exact) o) ∙ x);
      some_row = omega (arith, i.1);
      root = kin_trans w.root (kin_same _ _ (node_was n d 0 w.some_row));
    }

child_sound : (items : List Item) (r₀ : Node) (s decision c capacity : ℕ) (d : Diagram) → s < d.start → d.start ≤ length d.nodes → Choice items (node_at d.nodes s) decision c capacity → Sound items r₀ d → Sound items r₀ (push_edge s (length d.nodes) decision c (push_node (child_of s c capacity d.nodes) d))
child_sound items r₀ s decision c capacity d hs l ch w =
    let n = child_of s c capacity d.nodes in
    let d₁ = push_node n d in
    let t = length d.nodes in
    let i = node_is n d in
    let h : t < length d₁.nodes = omega arith in
    let nr = i.0 in
    let so = node_was n d s (omega arith) in
    let z = child_row s c capacity d in
    let m = push_row s t decision c d₁ h in
    let f = landed_exact s c d₁ (node_at d₁.nodes t) in
    let hh : handed d₁.nodes s c ≡ handed d.nodes s c = val_handed s c d d₁ (ap (λ (v : Node). v.value) so) in
    push_sound items r₀ s t decision c d₁ (omega arith) (omega arith) h (node_sound items r₀ n d z.3 l w)
    (λ _. new_via items s t decision c d₁ (omega arith) (omega arith) h (rw (nr, so) z.1) (rw (nr, so, z.0) ch)
    (⊎_elim (λ k. k) (λ k. absurd (omega (arith, k.2, ap (λ (v : Node). v.value) nr, z.4))) (landed_best s c d₁ (node_at d₁.nodes t))))
    (λ x. rw m (f.4 ∙ ap (λ (v : Node). v.relaxed) nr ∙ z.5))

pub move_sound : (items : List Item) (r₀ : Node) (k : ℕ) (d e : Diagram) → Move items k d e → Coming (suc k) d → Sound items r₀ d → Sound items r₀ e
unfolding note_fast with_nodes
move_sound items r₀ k d e (note s h l) g w =
    let r = note_later items s d (omega arith) in
    kin_sound items r₀ d _ (later_stays items d _ r) (length-set d.nodes s _) (λ q b. note_kin _ s d (omega arith) q) w
move_sound items r₀ k d e (edge s t decision c h q l b ch) g w = edge_sound items r₀ s t decision c d h l b (g.deps t l b ∙ ap suc (sym q)) ch w
move_sound items r₀ k d e (child s decision c capacity h q l ch n) g w = child_sound items r₀ s decision c capacity d h l ch w

-- ---- a squash: the merged row is relaxed and not exact

pub flag_sound : (items : List Item) (r₀ : Node) (d : Diagram) (r : ℕ) → d.start ≤ r → r < length d.nodes → Sound items r₀ d → Sound items r₀ (with_nodes d (update (with_deleted true) d.nodes r))
flag_sound items r₀ d r l h w =
    let g = merge_move_merged (suc r) (r ∷ []) d _ (flag r (Memᴰ.head refl) l h (λ e. omega arith)) in
    kin_sound items r₀ d _ (merged_stays _ _ d _ g) g.long (λ q b. flag_kin r d h q) w

-- the merged row m stays relaxed and inexact
pub record SoundMerge (items : List Item) (r₀ : Node) (k m : ℕ) (rest : List ℕ) (d : Diagram) : Type 0 where
  pub sound : Sound items r₀ d
  pub wired : WiredMerge k m rest d
  pub inexact : (node_at d.nodes m).exact ≡ false
  pub is_relaxed : (node_at d.nodes m).relaxed ≡ true

pub merge_sound : (items : List Item) (r₀ : Node) (k m : ℕ) (rest : List ℕ) (d e : Diagram) → MergeMove m rest d e → SoundMerge items r₀ k m rest d → SoundMerge items r₀ k m rest e
merge_sound items r₀ k m rest d e (flag r i l h o) w =
    let z = flag_kin r d h m in
    record {
      sound = flag_sound items r₀ d r l h w.sound;
      wired = merge_wired k m rest d _ (flag r i l h o) w.wired;
      inexact = z.exact_is ∙ w.inexact;
      is_relaxed = z.relaxed_is ∙ w.is_relaxed;
    }
merge_sound items r₀ k m rest d e (copy x decision c e₀ b₀ q₀ i₀ l h) w =
    let row = push_row x m decision c d h in
    let f = landed_exact x c d (node_at d.nodes m) in
    let a₀ = w.wired.wired.arrows e₀ b₀ in
    let xs : x < d.start = subst (λ (v : ℕ). v < d.start) q₀ a₀.from_in in
    let no-x : (node_at (push_edge x m decision c d).nodes m).exact ≡ false = rw row (f.0 ∙ false_and (node_at d.nodes x).exact _ w.inexact) in
    let rel : (node_at (push_edge x m decision c d).nodes m).relaxed ≡ true = rw row (f.4 ∙ w.is_relaxed) in
    record {
      sound = push_sound items r₀ x m decision c d xs l h (sound_but items r₀ m d w.sound) (λ v. let z : ◌≡◌ {A = ℕ} 0 1 = cc in absurd (omega arith)) (λ v. let z : ◌≡◌ {A = ℕ} 0 1 = cc in absurd (omega arith));
      wired = merge_wired k m rest d _ (copy x decision c e₀ b₀ q₀ i₀ l h) w.wired;
      inexact = no-x;
      is_relaxed = rel;
    }

pub last_sound : (items : List Item) (r₀ : Node) (d : Diagram) → Sound items r₀ d → Sound items r₀ (with_last d)
unfolding with_last
last_sound items r₀ d w =
    record { clean = w.clean; traced = λ y b p x. let v = w.traced y b p x in record { by = v.by; best_is = v.best_is; below = v.below; ends = v.ends; before = v.before; stored = v.stored; up = v.up; depth = v.depth; choice = v.choice; value = v.value }; pure = w.pure; some_row = w.some_row; root = w.root }

pub merged_start : (items : List Item) (r₀ : Node) (k : ℕ) (d e : Diagram) → d.start ≤ length d.nodes → (v : Merging k d e) → Wired d → Sound items r₀ d → SoundMerge items r₀ k (length d.nodes) v.rest (push_node (merged_row v.c v.dp) d)
merged_start items r₀ k d e sl v g w =
    let n = merged_row v.c v.dp in
    let f = merged_fields v.c v.dp in
    let i = node_is n d in
    let u = node_sound items r₀ n d f.4 sl w in
    let no-x : (node_at (push_node n d).nodes (length d.nodes)).exact ≡ false = ap (λ (x : Node). x.exact) i.0 ∙ f.3 in
    let rel : (node_at (push_node n d).nodes (length d.nodes)).relaxed ≡ true = ap (λ (x : Node). x.relaxed) i.0 ∙ f.5 in
    record {
      sound = record {
        clean = u.clean;
        traced = λ y h p x. elim (ℕ_discrete y (length d.nodes)) [
          | yes q ↦ let o : (node_at (push_node n d).nodes (length d.nodes)).relaxed ≡ false = subst (λ (z : ℕ). (node_at (push_node n d).nodes z).relaxed ≡ false) q x in let z : ◌≡◌ {A = ℕ} 0 1 = cc in absurd (omega arith)
          | no q ↦ u.traced y h p q x
        ];
        pure = λ y h x. elim (ℕ_discrete y (length d.nodes)) [
          | yes q ↦ let o : (node_at (push_node n d).nodes (length d.nodes)).exact ≡ true = subst (λ (z : ℕ). (node_at (push_node n d).nodes z).exact ≡ true) q x in let z : ◌≡◌ {A = ℕ} 0 1 = cc in absurd (omega arith)
          | no q ↦ u.pure y h q x
        ];
        some_row = u.some_row;
        root = u.root;
      };
      wired = merged_wired k d e sl v g;
      inexact = no-x;
      is_relaxed = rel;
    }

pub merging_sound : (items : List Item) (r₀ : Node) (k : ℕ) (d e : Diagram) → d.start ≤ length d.nodes → (v : Merging k d e) → Wired d → Sound items r₀ d → SoundMerge items r₀ k (length d.nodes) v.rest e
merging_sound items r₀ k d e sl v g w =
    merging_keeps (SoundMerge items r₀ k (length d.nodes) v.rest) (merge_sound items r₀ k _ v.rest) v.trail (merged_start items r₀ k d e sl v g w)

pub squash_sound : (items : List Item) (r₀ : Node) (md : Mode) (k : ℕ) (d e : Diagram) → d.start ≤ length d.nodes → Way md k d e → Wired d → Sound items r₀ d → Sound items r₀ e
squash_sound items r₀ md k d e sl y g w =
    squash_keeps md k d e (Sound items r₀) (last_sound items r₀ d) (flag_sound items r₀) (λ _ v p. (merging_sound items r₀ k (with_last d) e (last_fits d sl) v (last_wired d g) p).sound) y w

-- ---- the whole growth

pub store_sound : (items : List Item) (r₀ : Node) (d : Diagram) → d.start ≤ length d.nodes → Sound items r₀ d → Sound items r₀ (store d)
unfolding store
store_sound items r₀ d l w =
    record { clean = w.clean; traced = λ y b p x. let v = w.traced y b p x in record { by = v.by; best_is = v.best_is; below = v.below; ends = v.ends; before = v.before; stored = omega (arith, v.stored); up = v.up; depth = v.depth; choice = v.choice; value = v.value }; pure = w.pure; some_row = w.some_row; root = w.root }

pub step_sound : (items : List Item) (r₀ : Node) (lower : ℕ) (md : Mode) (k : ℕ) (d f : Diagram) → Ready k d → Step items lower md k d f → Wired d → Sound items r₀ d → Sound items r₀ f
step_sound items r₀ lower md k d f g t l w = step_keeps items lower md k d f (Sound items r₀) (λ e y p. squash_sound items r₀ md k d e g.fits y l p) (store_sound items r₀) (λ x y m c p. move_sound items r₀ k x y m c p) g t w

stored_sound : (items : List Item) (r₀ : Node) (b : Bool) (d : Diagram) → Sound items r₀ d → Sound items r₀ (store_last b d)
unfolding store_last
stored_sound items r₀ true d w =
    record { clean = w.clean; traced = λ y b p x. let v = w.traced y b p x in record { by = v.by; best_is = v.best_is; below = v.below; ends = v.ends; before = v.before; stored = v.stored; up = v.up; depth = v.depth; choice = v.choice; value = v.value }; pure = w.pure; some_row = w.some_row; root = w.root }
stored_sound items r₀ false d w = w

empty_sound : (items : List Item) (r₀ : Node) (d : Diagram) → Sound items r₀ d → Sound items r₀ (store_empty d)
unfolding store_empty
empty_sound items r₀ d w =
    record { clean = w.clean; traced = λ y b p x. let v = w.traced y b p x in record { by = v.by; best_is = v.best_is; below = v.below; ends = v.ends; before = v.before; stored = v.stored; up = v.up; depth = v.depth; choice = v.choice; value = v.value }; pure = w.pure; some_row = w.some_row; root = w.root }

pub ended_sound : (items : List Item) (r₀ : Node) (P : ℕ → Diagram → Type 0) → ((k : ℕ) (d : Diagram) → P k d → Sound items r₀ d) → (e : Diagram) → Ended items P e → Sound items r₀ e
ended_sound items r₀ P f e (through k d z g p) = stored_sound items r₀ (has_rows d) d (f k d p)
ended_sound items r₀ P f e (died k d z g p) = empty_sound items r₀ d (f k d p)

pub root_sound : (items : List Item) (r : Record) → Sound items (root_row r) (root_only r)
unfolding root_only root_row fresh
root_sound items r =
    record { clean = λ q b. let z : q ≡ 0 = omega arith in rw z refl; traced = λ y b p x. absurd (omega arith); pure = λ q b x. let z : q ≡ 0 = omega arith in rw z refl; some_row = omega arith; root = kin_refl _ }

-- Every run that is not refused, of any mode, leaves sound tables.
pub grown_sound : (items : List Item) (opts : Settings) (r : Record) → Holds (Sound items (root_row r)) (grown opts items r)
grown_sound items opts r =
    holds_map (λ e z. ended_sound items (root_row r) (λ _ d. Wired d × Sound items (root_row r) d) (λ k d w. w.1) e z)
    (grown_keeps items opts (λ _ d. Wired d × Sound items (root_row r) d) (λ k d f g t w. (step_wired items opts.lower opts.mode k d f g t w.0, step_sound items (root_row r) opts.lower opts.mode k d f g t w.0 w.1)) r (root_wired r, root_sound items r))
