-- Exactness, in every mode: which rows are exact, and that the last exact layer is stored, isn't the root's, and has only exact rows up to its end.
use mathlib.Core.Path.{◌≡◌, refl, sym, ap, subst, ◌∙◌}
use mathlib.Core.Bool.{Bool, true, false}
use mathlib.Core.List.{List, [], ◌∷◌, Memᴰ}
use mathlib.Core.Logic.{⊎_elim, ◌≢◌}
use Prim.Native.Nat.{ℕ, suc, ◌+◌, ◌≤◌, ◌<◌}
use native.Mathlib.Decide.{ℕ_discrete}
use native.Mathlib.Omega.{arith}
use lib.ListN.{length, drop, length-set}
use borrow.Author.Tests.{ltb-false}
use Rattle.knapsack.specs.Items.{Item}
use Rattle.diagram.specs.Node.{Node, node_at, update, fresh, with_deleted}
use Rattle.diagram.specs.Record.{Record}
use Rattle.diagram.specs.Rule1.{root_only}
use Rattle.diagram.specs.Rule2.{store, store_empty, store_last, has_rows, grown}
use Rattle.diagram.specs.Rule3.{note_fast}
use Rattle.diagram.specs.Rule4.{push_edge, push_node, child_of}
use Rattle.diagram.specs.Rule5.{name_last, with_last}
use Rattle.diagram.specs.Rule6.{delete_all, merged_row}
use Rattle.diagram.specs.Run.{Mode, exactly, restricted, relaxing, Settings}
use Rattle.diagram.specs.Tables.{Range, LastExact, unsquashed, squashed_after, Diagram, with_nodes, coming}
use Rattle.theorems.proofs.Bool.{either_false}
use Rattle.theorems.proofs.Holds.{Holds, holds_map}
use Rattle.theorems.proofs.Move.{Move, note, edge, child, push_later, node_later, note_later}
use Rattle.theorems.proofs.Arc.{Coming}
use Rattle.theorems.proofs.Merge.{MergeMove, flag, copy, merging_keeps, merge_move_merged}
use Rattle.theorems.proofs.Squash.{Full, merged_fields, delete_keeps, Way, untouched, merges, deletes}
use Rattle.theorems.proofs.Growth.{Ready, Step, step_keeps, Ended, through, died, grown_keeps}
use Rattle.theorems.proofs.Tower.{Tower, root, more, tower_late, Built, step_built, Finished, last_finished, empty_finished, root_row, root_built}
use Rattle.theorems.proofs.Links.{Wired, node_is, node_was, last_wired, last_fits, step_wired, root_wired, ended_wired}
use Rattle.theorems.proofs.Sound.{Kin, Stays, later_stays, merged_stays, Sound, note_kin, flag_kin, landed_exact, push_kin, push_row, push_long, child_row, SoundMerge, merge_sound, last_sound, merged_start, step_sound, ended_sound, root_sound}

-- of the last exact layer s
pub record LastLayer (d : Diagram) (s : Range) : Type 0 where
  pub deep : 0 < s.lo
  pub done : s.hi ≤ d.start
  pub stored : Memᴰ s d.layers
  pub exacts : (r : ℕ) → r < s.hi → (node_at d.nodes r).exact ≡ true

abbrev pub AllExact : Diagram → Type 0
AllExact d = (r : ℕ) → r < length d.nodes → (node_at d.nodes r).exact ≡ true

-- Which rows are exact: all before the first squash and in runs that merge nothing; all up to the end of the last exact layer; and an inexact row is at
-- least two deeper than the record, whose depth is d₀.
pub record Exactness (md : Mode) (d₀ : ℕ) (d : Diagram) : Type 0 where
  pub before : d.last ≡ unsquashed → AllExact d
  pub unmerged : md ≢ relaxing → AllExact d
  pub last_layer : Full md → (s : Range) → d.last ≡ squashed_after s → LastLayer d s
  pub far : (y : ℕ) → y < length d.nodes → (node_at d.nodes y).exact ≡ false → d₀ + 2 ≤ (node_at d.nodes y).depth

layer_keep : (d e : Diagram) (s : Range) → Stays d e → e.layers ≡ d.layers → LastLayer d s → LastLayer e s
layer_keep d e s g l q =
    record { deep = q.deep; done = omega (arith, q.done, g.begins); stored = subst (λ (x : List Range). Memᴰ s x) (sym l) q.stored; exacts = λ r h. (g.old r (omega (arith, q.done))).exact_is ∙ q.exacts r h }

-- ---- a noted bound, a flag

kin_exact : (md : Mode) (d₀ : ℕ) (d e : Diagram) → Stays d e → e.layers ≡ d.layers → e.last ≡ d.last → length e.nodes ≡ length d.nodes → ((r : ℕ) → r < length d.nodes → Kin (node_at d.nodes r) (node_at e.nodes r)) → Exactness md d₀ d → Exactness md d₀ e
kin_exact md d₀ d e g la le ln k w =
    record {
      before = λ q r h. (k r (omega arith)).exact_is ∙ w.before (sym le ∙ q) r (omega arith);
      unmerged = λ q r h. (k r (omega arith)).exact_is ∙ w.unmerged q r (omega arith);
      last_layer = λ fm s q. layer_keep d e s g la (w.last_layer fm s (sym le ∙ q));
      far = λ y h x. omega (arith, w.far y (omega arith) (sym (k y (omega arith)).exact_is ∙ x), (k y (omega arith)).depth_is);
    }

-- ---- one more edge: the row stays exact if both are

push_all_lem : (s t decision c : ℕ) (d : Diagram) → s < length d.nodes → t < length d.nodes → AllExact d → AllExact (push_edge s t decision c d)
push_all_lem s t decision c d hs h a r b =
    let m = push_row s t decision c d h in
    let f = landed_exact s c d (node_at d.nodes t) in
    let ln = push_long s t decision c d in
    elim (ℕ_discrete r t) [
      | yes q ↦ rw (q, m) (f.0 ∙ rw (a s hs, a t h) refl)
      | no q ↦ (push_kin s t decision c d r q).exact_is ∙ a r (omega arith)
    ]

push_exact : (items : List Item) (md : Mode) (d₀ s t decision c : ℕ) (d : Diagram) → s < d.start → d.start ≤ t → t < length d.nodes → (node_at d.nodes t).depth ≡ suc (node_at d.nodes s).depth → Exactness md d₀ d → Exactness md d₀ (push_edge s t decision c d)
push_exact items md d₀ s t decision c d hs l h dq w =
    let e = push_edge s t decision c d in
    let g = push_later items s t decision c d l h in
    let st = later_stays items d e g in
    let ln = push_long s t decision c d in
    let m = push_row s t decision c d h in
    let f = landed_exact s c d (node_at d.nodes t) in
    let dep : (node_at e.nodes t).depth ≡ (node_at d.nodes t).depth = (g.rises t h).depth_is in
    record {
      before = λ u. push_all_lem s t decision c d (omega arith) h (w.before (sym g.last_is ∙ u));
      unmerged = λ u. push_all_lem s t decision c d (omega arith) h (w.unmerged u);
      last_layer = λ fm x q. layer_keep d e x st g.layers_are (w.last_layer fm x (sym g.last_is ∙ q));
      far = λ y b x. elim (ℕ_discrete y t) [
        | yes q ↦ subst (λ (z : ℕ). d₀ + 2 ≤ (node_at e.nodes z).depth) (sym q) (⊎_elim (λ z. omega (arith, w.far s (omega arith) z)) (λ z. omega (arith, w.far t h z)) (either_false (node_at d.nodes s).exact (node_at d.nodes t).exact (sym f.0 ∙ subst (λ (z : Node). z.exact ≡ false) m (subst (λ (z : ℕ). (node_at e.nodes z).exact ≡ false) q x))))
        | no q ↦ let k = push_kin s t decision c d y q in omega (arith, w.far y (omega arith) (sym k.exact_is ∙ x), k.depth_is)
      ];
    }

-- ---- one more row

node_same : (n : Node) (d : Diagram) → ((push_node n d).layers ≡ d.layers) × ((push_node n d).last ≡ d.last)
unfolding push_node with_nodes
node_same n d = (refl, refl)

node_all : (n : Node) (d : Diagram) → n.exact ≡ true → AllExact d → AllExact (push_node n d)
node_all n d x a r b =
    let i = node_is n d in
    elim (ℕ_discrete r (length d.nodes)) [ yes q ↦ rw (q, i.0) x | no q ↦ rw (node_was n d r (omega arith)) (a r (omega arith)) ]

-- x: the new row is exact where all others are; y: else it is deep enough
node_exact : (items : List Item) (md : Mode) (d₀ : ℕ) (n : Node) (d : Diagram) → d.start ≤ length d.nodes → (d.last ≡ unsquashed → n.exact ≡ true) → (md ≢ relaxing → n.exact ≡ true) → (n.exact ≡ false → d₀ + 2 ≤ n.depth) → Exactness md d₀ d → Exactness md d₀ (push_node n d)
node_exact items md d₀ n d sl x₁ x₂ y w =
    let e = push_node n d in
    let i = node_is n d in
    let sm = node_same n d in
    let st = later_stays items d e (node_later items n d sl) in
    record {
      before = λ u. let v = sym sm.1 ∙ u in node_all n d (x₁ v) (w.before v);
      unmerged = λ u. node_all n d (x₂ u) (w.unmerged u);
      last_layer = λ fm s q. layer_keep d e s st sm.0 (w.last_layer fm s (sym sm.1 ∙ q));
      far = λ r b z. elim (ℕ_discrete r (length d.nodes)) [
        | yes q ↦ subst (λ (v : ℕ). d₀ + 2 ≤ (node_at e.nodes v).depth) (sym q) (rw i.0 (y (rw i.0 at (subst (λ (v : ℕ). (node_at e.nodes v).exact ≡ false) q z))))
        | no q ↦ let o = node_was n d r (omega arith) in omega (arith, w.far r (omega arith) (sym (ap (λ (v : Node). v.exact) o) ∙ z), ap (λ (v : Node). v.depth) o)
      ];
    }

child_exact : (items : List Item) (md : Mode) (d₀ s decision c capacity : ℕ) (d : Diagram) → s < d.start → d.start ≤ length d.nodes → Exactness md d₀ d → Exactness md d₀ (push_edge s (length d.nodes) decision c (push_node (child_of s c capacity d.nodes) d))
child_exact items md d₀ s decision c capacity d hs l w =
    let n = child_of s c capacity d.nodes in
    let z = child_row s c capacity d in
    let i = node_is n d in
    let sl : s < length d.nodes = omega arith in
    push_exact items md d₀ s (length d.nodes) decision c (push_node n d) (omega (arith, i.2)) (omega (arith, i.2)) (omega (arith, i.1))
    (ap (λ (v : Node). v.depth) i.0 ∙ z.1 ∙ ap (λ (v : Node). suc v.depth) (sym (node_was n d s sl)))
    (node_exact items md d₀ n d l (λ u. z.2 ∙ w.before u s sl) (λ u. z.2 ∙ w.unmerged u s sl) (λ x. omega (arith, w.far s sl (sym z.2 ∙ x), z.1)) w)

pub move_exact : (items : List Item) (md : Mode) (d₀ k : ℕ) (d e : Diagram) → Move items k d e → Coming (suc k) d → Exactness md d₀ d → Exactness md d₀ e
unfolding note_fast with_nodes
move_exact items md d₀ k d e (note s h l) g w =
    let r = note_later items s d (omega arith) in
    kin_exact md d₀ d _ (later_stays items d _ r) refl refl (length-set d.nodes s _) (λ q b. note_kin _ s d (omega arith) q) w
move_exact items md d₀ k d e (edge s t decision c h q l b ch) g w = push_exact items md d₀ s t decision c d h l b (g.deps t l b ∙ ap suc (sym q)) w
move_exact items md d₀ k d e (child s decision c capacity h q l ch n) g w = child_exact items md d₀ s decision c capacity d h l w

-- ---- a merge

pub flag_exact : (md : Mode) (d₀ : ℕ) (d : Diagram) (r : ℕ) → d.start ≤ r → r < length d.nodes → Exactness md d₀ d → Exactness md d₀ (with_nodes d (update (with_deleted true) d.nodes r))
flag_exact md d₀ d r l h w =
    let g = merge_move_merged (suc r) (r ∷ []) d _ (flag r (Memᴰ.head refl) l h (λ e. omega arith)) in
    kin_exact md d₀ d _ (merged_stays _ _ d _ g) g.layers_are g.last_is g.long (λ q b. flag_kin r d h q) w

-- the tables during a merge, the last exact layer being s
record ExactMerge (items : List Item) (r₀ : Node) (md : Mode) (k m : ℕ) (rest : List ℕ) (s : Range) (d : Diagram) : Type 0 where
  exact : Exactness md r₀.depth d
  sound : SoundMerge items r₀ k m rest d
  last_is : d.last ≡ squashed_after s

merge_exact : (items : List Item) (r₀ : Node) (md : Mode) (k m : ℕ) (rest : List ℕ) (s : Range) → md ≡ relaxing → r₀.depth + 2 ≤ k → (d e : Diagram) → MergeMove m rest d e → ExactMerge items r₀ md k m rest s d → ExactMerge items r₀ md k m rest s e
merge_exact items r₀ md k m rest s mr deep d e (flag r i l h o) w =
    let g = merge_move_merged m rest d _ (flag r i l h o) in
    record { exact = flag_exact md r₀.depth d r l h w.exact; sound = merge_sound items r₀ k m rest d _ (flag r i l h o) w.sound; last_is = g.last_is ∙ w.last_is }
merge_exact items r₀ md k m rest s mr deep d e (copy x decision c e₀ b₀ q₀ i₀ l h) w =
    let g = merge_move_merged m rest d _ (copy x decision c e₀ b₀ q₀ i₀ l h) in
    let st = merged_stays m rest d (push_edge x m decision c d) g in
    let le : (push_edge x m decision c d).last ≡ squashed_after s = g.last_is ∙ w.last_is in
    record {
      exact = record {
        before = λ u. let z : ◌≡◌ {A = ℕ} 0 1 = cc in absurd (omega arith);
        unmerged = λ u. absurd (u mr);
        last_layer = λ fm y q. layer_keep d _ y st g.layers_are (w.exact.last_layer fm y (sym g.last_is ∙ q));
        far = λ y b v. elim (ℕ_discrete y m) [
          | yes q ↦ subst (λ (z : ℕ). r₀.depth + 2 ≤ (node_at (push_edge x m decision c d).nodes z).depth) (sym q) (omega (arith, g.mine.depth_is, w.sound.wired.depth))
          | no q ↦ let k = push_kin x m decision c d y q in omega (arith, w.exact.far y (omega (arith, g.long)) (sym k.exact_is ∙ v), k.depth_is)
        ];
      };
      sound = merge_sound items r₀ k m rest d _ (copy x decision c e₀ b₀ q₀ i₀ l h) w.sound;
      last_is = le;
    }

-- the layer before the first squash is named: all rows are exact then
record TopTwo (d : Diagram) : Type 0 where
  hd : Range
  tl : List Range
  is_layers : d.layers ≡ hd ∷ tl
  deep : 0 < hd.lo
  done : hd.hi ≤ d.start

top_two : (items : List Item) (lower : ℕ) (d : Diagram) → 1 < length d.layers → Tower items lower d (coming d ∷ d.layers) → TopTwo d
unfolding coming
top_two items lower d h t = go d.layers h t refl
  where
    low : {L : Range} {ls : List Range} → 0 < length ls → Tower items lower d (L ∷ ls) → 0 < L.lo
    low h (root a b) = absurd (omega arith)
    low h (more a b s t) = let z = tower_late t in omega arith

    go : (ls : List Range) → 1 < length ls → Tower items lower d (coming d ∷ ls) → ls ≡ d.layers → TopTwo d
    go ls h (root a b) e = absurd (omega arith)
    go ls h (more {L = L} {ls = ks} a b s t) e = record { hd = L; tl = ks; is_layers = sym e; deep = low (omega arith) t; done = a }

record Named (md : Mode) (d₀ : ℕ) (d : Diagram) : Type 0 where
  s : Range
  last_is : (with_last d).last ≡ squashed_after s
  exact : Exactness md d₀ (with_last d)

name_with : (md : Mode) (d₀ : ℕ) (d : Diagram) (s : Range) → (with_last d).last ≡ squashed_after s → LastLayer d s → Exactness md d₀ d → Named md d₀ d
unfolding with_last
name_with md d₀ d s e q w =
    record {
      s = s;
      last_is = e;
      exact = record {
        before = λ u. let z : ◌≡◌ {A = ℕ} 0 1 = cc in absurd (omega arith);
        unmerged = w.unmerged;
        last_layer = λ fm x u. let z : s ≡ x = cc in subst (λ (k : Range). LastLayer (with_last d) k) z (record { deep = q.deep; done = q.done; stored = q.stored; exacts = q.exacts });
        far = w.far;
      };
    }

name_exact : (md : Mode) (d₀ : ℕ) (d : Diagram) → Full md → d.start ≤ length d.nodes → TopTwo d → Exactness md d₀ d → Named md d₀ d
unfolding with_last name_last
name_exact md d₀ d fm sl t w = go d.last refl
  where
    go : (l : LastExact) → d.last ≡ l → Named md d₀ d
    go unsquashed e =
        name_with md d₀ d t.hd (rw t.is_layers (ap (λ (l : LastExact). name_last l (t.hd ∷ t.tl)) e))
        (record { deep = t.deep; done = t.done; stored = subst (λ (l : List Range). Memᴰ t.hd l) (sym t.is_layers) (Memᴰ.head refl); exacts = λ r h. w.before e r (omega (arith, t.done)) }) w
    go (squashed_after s) e = name_with md d₀ d s (ap (λ (l : LastExact). name_last l d.layers) e) (w.last_layer fm s e) w

never_unsquashed : (l : LastExact) (ls : List Range) → name_last l ls ≡ unsquashed → ⊥
unfolding name_last
never_unsquashed unsquashed [] e = let z : ◌≡◌ {A = ℕ} 0 1 = cc in omega arith
never_unsquashed unsquashed (l ∷ ls) e = let z : ◌≡◌ {A = ℕ} 0 1 = cc in omega arith
never_unsquashed (squashed_after s) ls e = let z : ◌≡◌ {A = ℕ} 0 1 = cc in omega arith

restricted_named : (md : Mode) (d₀ : ℕ) (d : Diagram) → md ≡ restricted → Exactness md d₀ d → Exactness md d₀ (with_last d)
unfolding with_last
restricted_named md d₀ d q w = record { before = λ u. absurd (never_unsquashed d.last d.layers u); unmerged = w.unmerged; last_layer = λ fm. absurd (fm q); far = w.far }

pub relaxing_is_full : Full relaxing
relaxing_is_full q = let z : ◌≡◌ {A = ℕ} 0 1 = cc in omega arith

pub exactly_is_full : Full exactly
exactly_is_full q = let z : ◌≡◌ {A = ℕ} 0 1 = cc in omega arith

relaxing_full : (md : Mode) → md ≡ relaxing → Full md
relaxing_full md q r = let z : ◌≡◌ {A = ℕ} 0 1 = cc in omega arith

-- kept by every squash
pub squash_exact : (items : List Item) (lower : ℕ) (r₀ : Node) (md : Mode) (k : ℕ) (d e : Diagram) → Ready k d → (Full md → Built items lower r₀ k d) → Wired d → Sound items r₀ d → Way md k d e → Exactness md r₀.depth d → Exactness md r₀.depth e
unfolding with_last
squash_exact items lower r₀ md k d e g b l v untouched w = w
squash_exact items lower r₀ md k d e g b l v (merges q h how) w =
    let fm = relaxing_full md q in
    let u = b fm in
    let deep : r₀.depth + 2 ≤ k = omega (arith, u.level, h) in
    let n = name_exact md r₀.depth d fm g.fits (top_two items lower d h u.tower) w in
    let x = merged_row how.c how.dp in
    let f = merged_fields how.c how.dp in
    let p₀ = merged_start items r₀ k (with_last d) e (last_fits d g.fits) how (last_wired d l) (last_sound items r₀ d v) in
    (merging_keeps (ExactMerge items r₀ md k (length (with_last d).nodes) how.rest n.s) (merge_exact items r₀ md k _ how.rest n.s q deep) how.trail
    (record {
      exact = node_exact items md r₀.depth x (with_last d) (last_fits d g.fits) (λ y. let o = n.last_is in let z : ◌≡◌ {A = ℕ} 0 1 = cc in absurd (omega arith)) (λ y. absurd (y q)) (λ y. omega (arith, f.1, how.dp_is)) n.exact;
      sound = p₀;
      last_is = (node_same x (with_last d)).1 ∙ n.last_is;
    })).exact
squash_exact items lower r₀ md k d e g b l v (deletes rest q i) w = delete_restricted (with_last d) i (restricted_named md r₀.depth d q w)
  where
    delete_restricted : (x : Diagram) → ((r : ℕ) → Memᴰ r rest → (x.start ≤ r) × (r < length x.nodes)) → Exactness md r₀.depth x → Exactness md r₀.depth (with_nodes x (delete_all x.nodes rest))
    delete_restricted x i p = delete_keeps (Exactness md r₀.depth) (flag_exact md r₀.depth) rest x i p

-- ---- the whole growth

pub store_exact : (md : Mode) (d₀ : ℕ) (d : Diagram) → d.start ≤ length d.nodes → Exactness md d₀ d → Exactness md d₀ (store d)
unfolding store
store_exact md d₀ d l w =
    record { before = w.before; unmerged = w.unmerged; last_layer = λ fm s q. let z = w.last_layer fm s q in record { deep = z.deep; done = omega (arith, z.done); stored = Memᴰ.tail z.stored; exacts = z.exacts }; far = w.far }

-- all that is kept layer by layer: the links, soundness and exactness in every mode, the tower in relaxed and exact runs
pub record Kept (items : List Item) (lower : ℕ) (r₀ : Node) (md : Mode) (k : ℕ) (d : Diagram) : Type 0 where
  pub built : Full md → Built items lower r₀ k d
  pub wired : Wired d
  pub sound : Sound items r₀ d
  pub exact : Exactness md r₀.depth d

pub step_kept : (items : List Item) (lower : ℕ) (r₀ : Node) (md : Mode) (k : ℕ) (d f : Diagram) → Ready k d → Step items lower md k d f → Kept items lower r₀ md k d → Kept items lower r₀ md (suc k) f
step_kept items lower r₀ md k d f g t w =
    record {
      built = λ fm. step_built items lower r₀ md fm k d f g t (w.built fm);
      wired = step_wired items lower md k d f g t w.wired;
      sound = step_sound items r₀ lower md k d f g t w.wired w.sound;
      exact = step_keeps items lower md k d f (Exactness md r₀.depth) (λ e y p. squash_exact items lower r₀ md k d e g w.built w.wired w.sound y p) (store_exact md r₀.depth) (λ x y m c p. move_exact items md r₀.depth k x y m c p) g t w.exact;
    }

pub root_exact : (md : Mode) (r : Record) → Exactness md (root_row r).depth (root_only r)
unfolding root_only root_row fresh
root_exact md r =
    record {
      before = λ _ q b. let z : q ≡ 0 = omega arith in rw z refl;
      unmerged = λ _ q b. let z : q ≡ 0 = omega arith in rw z refl;
      last_layer = λ fm s q. let z : ◌≡◌ {A = ℕ} 0 1 = cc in absurd (omega arith);
      far = λ q b x. let y : q ≡ 0 = omega arith in let x' = rw y at x in let z : ◌≡◌ {A = ℕ} 0 1 = cc in absurd (omega arith);
    }

pub root_kept : (items : List Item) (lower : ℕ) (md : Mode) (r : Record) → Kept items lower (root_row r) md r.depth (root_only r)
root_kept items lower md r = record { built = λ _. root_built items lower r; wired = root_wired r; sound = root_sound items r; exact = root_exact md r }

stored_exact : (b : Bool) (md : Mode) (d₀ : ℕ) (d : Diagram) → Exactness md d₀ d → Exactness md d₀ (store_last b d)
unfolding store_last
stored_exact true md d₀ d w =
    record { before = w.before; unmerged = w.unmerged; last_layer = λ fm s q. let z = w.last_layer fm s q in record { deep = z.deep; done = z.done; stored = Memᴰ.tail z.stored; exacts = z.exacts }; far = w.far }
stored_exact false md d₀ d w = w

empty_exact : (md : Mode) (d₀ : ℕ) (d : Diagram) → Exactness md d₀ d → Exactness md d₀ (store_empty d)
unfolding store_empty
empty_exact md d₀ d w =
    record { before = w.before; unmerged = w.unmerged; last_layer = λ fm s q. let z = w.last_layer fm s q in record { deep = z.deep; done = z.done; stored = Memᴰ.tail z.stored; exacts = z.exacts }; far = w.far }

-- Of the tables of a run that is not refused, of any mode md: finished if the mode is full, wired, sound, and exact where they should be.
pub record Sane (items : List Item) (lower : ℕ) (r₀ : Node) (md : Mode) (d : Diagram) : Type 0 where
  pub finished : Full md → Finished items lower r₀ d
  pub wired : Wired d
  pub sound : Sound items r₀ d
  pub exact : Exactness md r₀.depth d
  pub fits : d.start ≤ length d.nodes
  pub ends : (r : ℕ) → d.start ≤ r → r < length d.nodes → drop (node_at d.nodes r).depth items ≡ []

pub stored_fits : (b : Bool) (d : Diagram) → ((store_last b d).start ≡ d.start) × ((store_last b d).nodes ≡ d.nodes)
unfolding store_last
stored_fits true d = (refl, refl)
stored_fits false d = (refl, refl)

pub empty_fits : (d : Diagram) → ((store_empty d).start ≡ d.start) × ((store_empty d).nodes ≡ d.nodes)
unfolding store_empty
empty_fits d = (refl, refl)

last_ends : (items : List Item) (d e : Diagram) → e.start ≡ d.start → e.nodes ≡ d.nodes → ((r : ℕ) → d.start ≤ r → r < length d.nodes → drop (node_at d.nodes r).depth items ≡ []) → (r : ℕ) → e.start ≤ r → r < length e.nodes → drop (node_at e.nodes r).depth items ≡ []
last_ends items d e p q f r a b =
    subst (λ (n : List Node). drop (node_at n r).depth items ≡ []) (sym q) (f r (omega arith) (omega (arith, ap (length {A = Node}) q)))

pub ended_sane : (items : List Item) (lower : ℕ) (r₀ : Node) (md : Mode) (e : Diagram) → Ended items (Kept items lower r₀ md) e → Sane items lower r₀ md e
unfolding has_rows
ended_sane items lower r₀ md e (through k d z g p) =
    let i = stored_fits (has_rows d) d in
    record {
      finished = λ fm. last_finished (has_rows d) items lower r₀ k d refl z g (p.built fm);
      wired = ended_wired items (Kept items lower r₀ md) (λ k d p. p.wired) e (through k d z g p);
      sound = ended_sound items r₀ (Kept items lower r₀ md) (λ k d p. p.sound) e (through k d z g p);
      exact = stored_exact (has_rows d) md r₀.depth d p.exact;
      fits = omega (arith, i.0, ap (length {A = Node}) i.1, g.fits);
      ends = last_ends items d (store_last (has_rows d) d) i.0 i.1 (λ r a b. rw (g.now.deps r a b) z);
    }
ended_sane items lower r₀ md e (died k d z g p) =
    let i = empty_fits d in
    record {
      finished = λ fm. empty_finished items lower r₀ k d z g (p.built fm);
      wired = ended_wired items (Kept items lower r₀ md) (λ k d p. p.wired) e (died k d z g p);
      sound = ended_sound items r₀ (Kept items lower r₀ md) (λ k d p. p.sound) e (died k d z g p);
      exact = empty_exact md r₀.depth d p.exact;
      fits = omega (arith, i.0, ap (length {A = Node}) i.1, g.fits);
      ends = last_ends items d (store_empty d) i.0 i.1 (λ r a b. absurd (omega (arith, ltb-false d.start (length d.nodes) z)));
    }

-- Every run that is not refused leaves sane tables.
pub grown_sane : (items : List Item) (opts : Settings) (r : Record) → Holds (Sane items opts.lower (root_row r) opts.mode) (grown opts items r)
grown_sane items opts r =
    holds_map (λ e z. ended_sane items opts.lower (root_row r) opts.mode e z)
    (grown_keeps items opts (Kept items opts.lower (root_row r) opts.mode) (λ k d f g t w. step_kept items opts.lower (root_row r) opts.mode k d f g t w) r (root_kept items opts.lower opts.mode r))
