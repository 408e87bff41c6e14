-- What a squash leaves of the coming layer, in each mode: every arc into the layer has one into a row that is kept, unless the run is restricted.
use mathlib.Core.Path.{◌≡◌, refl, sym, ap, subst, ◌∙◌}
use mathlib.Core.Bool.{Bool, true, false}
use mathlib.Core.List.Memᴰ
use mathlib.Core.List.Permᴰ
use mathlib.Core.List.{List, [], ◌∷◌, ◌++◌, Memᴰ}
use mathlib.Core.Logic.{◌⊎◌, ⊎_elim, ◌≢◌}
use Prim.Native.Nat.{ℕ, suc, ◌-◌, ◌≤◌, ◌<◌, max}
use native.Mathlib.Decide.{ℕ_discrete}
use native.Mathlib.Omega.{arith}
use lib.Dec.{eqb, leb, ltb}
use lib.ListN.{length, length-append, get_or-append, drop, take, length-set, length-drop, take-append-drop}
use lib.Seq.{get_or-set_same, get_or-append_seam, set_out}
use borrow.Author.Tests.{eqb-true, leb-true, leb-false, ltb-true, ltb-false}
use Rattle.knapsack.proofs.Cases.{by_test}
use Rattle.diagram.specs.Node.{Node, Edge, no_node, node_at, edge_at, update, fresh, with_deleted, as_relaxed}
use Rattle.diagram.specs.Rule2.{ordered}
use Rattle.diagram.specs.Rule4.{handed, push_node}
use Rattle.diagram.specs.Rule5.{with_last, squash}
use Rattle.diagram.specs.Rule6.{sort_by, by_squash, delete_all, restrict, merged_capacity, merged_row, merge_all, twin_of, squashed, merge_into, relax, merge}
use Rattle.diagram.specs.Run.{Mode, exactly, restricted, relaxing, Settings, Run, going, stopped}
use Rattle.diagram.specs.Tables.{Diagram, Found, at, nowhere, with_nodes}
use Rattle.theorems.proofs.Bool.{and_true, and_right}
use Rattle.theorems.proofs.Holds.{Holds, held_inv, SquashHolds, settled, halts, squash_need_holds, squash_if_holds, squash_map}
use Rattle.theorems.proofs.Rows.{update_at}
use Rattle.theorems.proofs.Sort.{sort_perm, perm_mem, perm_apart, apart_parts, perm_length, in_layer, ordered_in, ordered_apart}
use Rattle.theorems.proofs.Arc.{Coming, Arc, val_handed}
use Rattle.theorems.proofs.Merge.{flag, MergeTrail, mhere, mstep, merging_trans, bare, Merged, merging_merged, Copied, Inside, merge_trail, merge_flags, merge_copies}

-- a relaxed or an exact run: no row goes without another that stands for it
abbrev pub Full : Mode → Type 0
Full md = md ≢ restricted

-- What a squash leaves of the coming layer of depth k, where rows l are to be expanded: stored rows and edges stay, each row that isn't flagged is in l,
-- and, unless the run is restricted, each arc into the layer has one into a row that isn't flagged.
pub record Settled (md : Mode) (k : ℕ) (d e : Diagram) (l : List ℕ) : Type 0 where
  pub begins : e.start ≡ d.start
  pub layers_are : e.layers ≡ d.layers
  pub old : (r : ℕ) → r < d.start → node_at e.nodes r ≡ node_at d.nodes r
  pub longer : length d.nodes ≤ length e.nodes
  pub more : length d.edges ≤ length e.edges
  pub edges_are : (i : ℕ) → i < length d.edges → edge_at e.edges i ≡ edge_at d.edges i
  pub deps : (r : ℕ) → d.start ≤ r → r < length e.nodes → (node_at e.nodes r).depth ≡ k
  pub within : (r : ℕ) → Memᴰ r l → (d.start ≤ r) × (r < length e.nodes)
  pub lives : (r : ℕ) → d.start ≤ r → r < length e.nodes → (node_at e.nodes r).deleted ≡ false → Memᴰ r l
  pub arcs : Full md → (s c capacity : ℕ) → s < d.start → Arc d s c capacity k d.start (length d.nodes) → Arc e s c capacity k d.start (length e.nodes)

-- the coming layer's rows parted in two lists
pub record Parted (d : Diagram) (kept rest : List ℕ) : Type 0 where
  pub covers : (r : ℕ) → d.start ≤ r → r < length d.nodes → Memᴰ r kept ⊎ Memᴰ r rest
  pub kept_in : (r : ℕ) → Memᴰ r kept → (d.start ≤ r) × (r < length d.nodes)
  pub rest_in : (r : ℕ) → Memᴰ r rest → (d.start ≤ r) × (r < length d.nodes)
  pub apart : (r : ℕ) → Memᴰ r kept → Memᴰ r rest → ⊥

pub parted : (d : Diagram) (before : ℕ → ℕ → Bool) (n : ℕ) → Parted d (take n (sort_by before (ordered d))) (drop n (sort_by before (ordered d)))
parted d before n =
    let p = sort_perm before (ordered d) in
    let o = sort_by before (ordered d) in
    let s = take-append-drop n o in
    let ins : (r : ℕ) → Memᴰ r (take n o ++ drop n o) → (d.start ≤ r) × (r < length d.nodes) = λ r m. ordered_in d r (perm_mem p (rw s at m)) in
    record {
      covers = λ r a b. Memᴰ.append_cases (take n o) (rw s (perm_mem (Permᴰ.symm p) (in_layer d r a b)));
      kept_in = λ r m. ins r (Memᴰ.append_left _ m);
      rest_in = λ r m. ins r (Memᴰ.append_right (take n o) m);
      apart = λ r a b. apart_parts (take n o) (drop n o) r (rw s (perm_apart (Permᴰ.symm p) (ordered_apart d))) a b;
    }

-- the largest capacity is one of theirs and is no less than any
merged_least : (ns : List Node) (r : ℕ) (rs : List ℕ) → Memᴰ r rs → (node_at ns r).capacity ≤ merged_capacity ns rs
unfolding merged_capacity
merged_least ns r rs (Memᴰ.head {x = q} {xs = qs} e) = rw e (omega arith)
merged_least ns r rs (Memᴰ.tail {x = q} {xs = qs} m) = omega (arith, merged_least ns r qs m)

record HasCap (ns : List Node) (rs : List ℕ) (c : ℕ) : Type 0 where
  row : ℕ
  mem : Memᴰ row rs
  capacity_is : (node_at ns row).capacity ≡ c

merged_is : (ns : List Node) (q : ℕ) (rs : List ℕ) → HasCap ns (q ∷ rs) (merged_capacity ns (q ∷ rs))
unfolding merged_capacity
merged_is ns q [] = record { row = q; mem = Memᴰ.head refl; capacity_is = omega arith }
merged_is ns q (p ∷ rs) =
    let i = merged_is ns p rs in
    by_test (λ _. HasCap ns (q ∷ p ∷ rs) (max (node_at ns q).capacity (max (node_at ns p).capacity (merged_capacity ns rs)))) (leb (max (node_at ns p).capacity (merged_capacity ns rs)) (node_at ns q).capacity)
    (λ e. record { row = q; mem = Memᴰ.head refl; capacity_is = omega (arith, leb-true) })
    (λ e. record { row = i.row; mem = Memᴰ.tail i.mem; capacity_is = omega (arith, leb-false, i.capacity_is) })

twin_at : (ns : List Node) (c : ℕ) (rs : List ℕ) (m : ℕ) → twin_of ns c rs ≡ at m → HasCap ns rs c
unfolding twin_of
twin_at ns c [] m e = let z : ◌≡◌ {A = ℕ} 0 1 = cc in absurd (omega arith)
twin_at ns c (r ∷ rs) m e =
    (by_test (λ b. elim b [ true ↦ at r | false ↦ twin_of ns c rs ] ≡ at m → HasCap ns (r ∷ rs) c) (eqb (node_at ns r).capacity c)
    (λ q f. record { row = r; mem = Memᴰ.head refl; capacity_is = eqb-true _ _ q })
    (λ q f. let i = twin_at ns c rs m f in record { row = i.row; mem = Memᴰ.tail i.mem; capacity_is = i.capacity_is })) e

pub bare_val : (a b : Node) → bare a ≡ bare b → a.value ≡ b.value
unfolding bare
bare_val a b e = ap (λ (n : Node). n.value) e

pub bare_cap : (a b : Node) → bare a ≡ bare b → a.capacity ≡ b.capacity
unfolding bare
bare_cap a b e = ap (λ (n : Node). n.capacity) e

pub bare_dep : (a b : Node) → bare a ≡ bare b → a.depth ≡ b.depth
unfolding bare
bare_dep a b e = ap (λ (n : Node). n.depth) e

pub merged_fields : (c dp : ℕ) → ((merged_row c dp).capacity ≡ c) × ((merged_row c dp).depth ≡ dp) × ((merged_row c dp).deleted ≡ false) × ((merged_row c dp).exact ≡ false) × ((merged_row c dp).cutset ≡ false) × ((merged_row c dp).relaxed ≡ true)
unfolding merged_row as_relaxed fresh
merged_fields c dp = (refl, refl, refl, refl, refl, refl)

-- ---- a merge into a new row: rest are merged, of capacity c at most; e is what the merge leaves
module _ (md : Mode) (k c dp : ℕ) (kept rest : List ℕ) (d : Diagram) (g : Coming k d) (sl : d.start ≤ length d.nodes) (pt : Parted d kept rest) (dpk : dp ≡ k)
    (most : (r : ℕ) → Memᴰ r rest → (node_at d.nodes r).capacity ≤ c) where
  abbrev d₀ : Diagram
  d₀ = push_node (merged_row c dp) d

  abbrev m₀ : ℕ
  m₀ = length d.nodes

  at_m : node_at d₀.nodes m₀ ≡ merged_row c dp
  unfolding push_node with_nodes
  at_m = get_or-append_seam d.nodes (merged_row c dp) [] no_node

  at_r : (r : ℕ) → r < length d.nodes → node_at d₀.nodes r ≡ node_at d.nodes r
  unfolding push_node with_nodes
  at_r r h = get_or-append d.nodes (merged_row c dp ∷ []) no_node r h

  long₀ : length d₀.nodes ≡ suc (length d.nodes)
  unfolding push_node with_nodes
  long₀ = simp length-append (omega arith)

  same₀ : (d₀.start ≡ d.start) × (d₀.layers ≡ d.layers) × (d₀.edges ≡ d.edges) × (d₀.last ≡ d.last)
  unfolding push_node with_nodes
  same₀ = (refl, refl, refl, refl)

  module _ (e : Diagram) (t : MergeTrail m₀ rest d₀ e) (fl : (r : ℕ) → Memᴰ r rest → (node_at e.nodes r).deleted ≡ true)
      (copies : (x s c : ℕ) → Memᴰ (edge_at d₀.edges x).to rest → x < length d₀.edges → (edge_at d₀.edges x).from ≡ s → (edge_at d₀.edges x).cost ≡ c → s < d₀.start → Copied m₀ s c (handed d₀.nodes s c) e) where
    abbrev M : Merged m₀ rest d₀ e
    M = merging_merged m₀ rest t

    row_is : (r : ℕ) → r < length d.nodes → ((node_at e.nodes r).capacity ≡ (node_at d.nodes r).capacity) × ((node_at e.nodes r).depth ≡ (node_at d.nodes r).depth) × ((node_at e.nodes r).value ≡ (node_at d.nodes r).value)
    row_is r h =
        let b = M.others r (omega arith) ∙ ap bare (at_r r h) in
        (bare_cap _ _ b, bare_dep _ _ b, bare_val _ _ b)

    old_is : (r : ℕ) → r < d.start → node_at e.nodes r ≡ node_at d.nodes r
    old_is r h = M.old r (omega (arith, same₀)) ∙ at_r r (omega arith)

    m_is : ((node_at e.nodes m₀).capacity ≡ c) × ((node_at e.nodes m₀).depth ≡ k) × ((node_at e.nodes m₀).deleted ≡ false)
    m_is =
        let f = merged_fields c dp in (
          M.mine.capacity_is ∙ ap (λ (n : Node). n.capacity) at_m ∙ f.0,
          M.mine.depth_is ∙ ap (λ (n : Node). n.depth) at_m ∙ f.1 ∙ dpk,
          M.mine.deleted_is ∙ ap (λ (n : Node). n.deleted) at_m ∙ f.2,
        )

    hand_is : (s c : ℕ) → s < d.start → (handed e.nodes s c ≡ handed d.nodes s c) × (handed d₀.nodes s c ≡ handed d.nodes s c)
    hand_is s c h = (
      val_handed s c d e (ap (λ (n : Node). n.value) (old_is s h)),
      val_handed s c d d₀ (ap (λ (n : Node). n.value) (at_r s (omega arith))),
    )

    arc_stays : (s c' cp' : ℕ) → s < d.start → (a : Arc d s c' cp' k d.start (length d.nodes)) → (node_at e.nodes (edge_at d.edges a.via).to).deleted ≡ false → Arc e s c' cp' k d.start (length e.nodes)
    arc_stays s c' cp' h a f =
        let y = (edge_at d.edges a.via).to in
        let q : edge_at e.edges a.via ≡ edge_at d.edges a.via = M.edges_are a.via (omega (arith, a.below, ap length same₀.2)) ∙ ap (λ (l : List Edge). edge_at l a.via) same₀.2 in
        let z = row_is y a.under in
        record {
          via = a.via;
          below = omega (arith, a.below, ap length same₀.2, M.more);
          from = rw q a.from;
          costs = rw q a.costs;
          above = rw q a.above;
          under = rw q (omega (arith, a.under, M.long, long₀));
          room = rw q (omega (arith, a.room, z.0));
          depth = rw q (z.1 ∙ a.depth);
          live = rw q f;
          worth = rw q (omega (arith, a.worth, z.2, (hand_is s c' h).0));
        }

    arc_moves : (s c' cp' : ℕ) → s < d.start → (a : Arc d s c' cp' k d.start (length d.nodes)) → Memᴰ (edge_at d.edges a.via).to rest → Arc e s c' cp' k d.start (length e.nodes)
    arc_moves s c' cp' h a i =
        let q : edge_at d₀.edges a.via ≡ edge_at d.edges a.via = ap (λ (l : List Edge). edge_at l a.via) same₀.2 in
        let x = copies a.via s c' (rw q i) (omega (arith, a.below, ap length same₀.2)) (rw q a.from) (rw q a.costs) (omega (arith, same₀)) in
        record {
          via = x.via;
          below = x.below;
          from = x.from;
          costs = x.costs;
          above = rw x.to sl;
          under = rw x.to (omega (arith, M.long, long₀));
          room = rw x.to (omega (arith, a.room, most _ i, m_is.0));
          depth = rw x.to m_is.1;
          live = rw x.to m_is.2;
          worth = rw x.to (omega (arith, x.worth, hand_is s c' h));
        }

    pub merged_settled : Settled md k d e (kept ++ (m₀ ∷ []))
    merged_settled =
        record {
          begins = M.begins ∙ same₀.0;
          layers_are = M.layers_are ∙ same₀.1;
          old = old_is;
          longer = omega (arith, M.long, long₀);
          more = omega (arith, ap length same₀.2, M.more);
          edges_are = λ i h. M.edges_are i (omega (arith, ap length same₀.2)) ∙ ap (λ (l : List Edge). edge_at l i) same₀.2;
          deps = λ r l h. elim (ℕ_discrete r m₀) [ yes q ↦ rw q m_is.1 | no q ↦ let b : r < length d.nodes = omega (arith, M.long, long₀) in (row_is r b).1 ∙ g.deps r l b ];
          within = λ r i. ⊎_elim (λ a. let z = pt.kept_in r a in omega (arith, M.long, long₀)) (λ b. let z = Memᴰ.eq_of_singleton b in omega (arith, M.long, long₀)) (Memᴰ.append_cases kept i);
          lives = λ r l h f. elim (ℕ_discrete r m₀) [
            | yes q ↦ Memᴰ.append_right kept (Memᴰ.head q)
            | no q ↦ ⊎_elim (λ a. Memᴰ.append_left _ a) (λ b. let w = fl r b in let z : ◌≡◌ {A = ℕ} 0 1 = cc in absurd (omega arith)) (pt.covers r l (omega (arith, M.long, long₀)))
          ];
          arcs = λ _ s c' cp' h a. by_test (λ b. (node_at e.nodes (edge_at d.edges a.via).to).deleted ≡ b → Arc e s c' cp' k d.start (length e.nodes)) (node_at e.nodes (edge_at d.edges a.via).to).deleted
              (λ _ w. ⊎_elim (λ y. let v = a.live in let u = ap (λ (n : Node). n.deleted) (at_r _ a.under) in let z : ◌≡◌ {A = ℕ} 0 1 = cc in absurd (omega arith)) (λ y. arc_moves s c' cp' h a y) (M.new _ w))
              (λ _ w. arc_stays s c' cp' h a w) refl;
        }

-- how a merge came about: rest, of depth k, were merged into a new row of capacity c
pub record Merging (k : ℕ) (d e : Diagram) : Type 0 where
  pub c : ℕ
  pub dp : ℕ
  pub rest : List ℕ
  pub dp_is : dp ≡ k
  pub rest_deps : (r : ℕ) → Memᴰ r rest → (r < length d.nodes) × ((node_at d.nodes r).depth ≡ k)
  pub trail : MergeTrail (length d.nodes) rest (push_node (merged_row c dp) d) e

-- the merge as it is called
open_run : (md : Mode) (k c dp : ℕ) (kept rest : List ℕ) (d : Diagram) → Coming k d → d.start ≤ length d.nodes → Parted d kept rest → dp ≡ k
    → ((r : ℕ) → Memᴰ r rest → (node_at d.nodes r).capacity ≤ c)
    → (run : Run) → Holds (MergeTrail (length d.nodes) rest (push_node (merged_row c dp) d)) run
    → ((r : ℕ) → Memᴰ r rest → Holds (λ e. (node_at e.nodes r).deleted ≡ true) run)
    → ((x s c' : ℕ) → Memᴰ (edge_at (push_node (merged_row c dp) d).edges x).to rest → x < length (push_node (merged_row c dp) d).edges → (edge_at (push_node (merged_row c dp) d).edges x).from ≡ s → (edge_at (push_node (merged_row c dp) d).edges x).cost ≡ c' → s < (push_node (merged_row c dp) d).start → Holds (Copied (length d.nodes) s c' (handed (push_node (merged_row c dp) d).nodes s c')) run)
    → SquashHolds (λ e l. Settled md k d e l × Merging k d e) (squashed run (λ e. e) (kept ++ (length d.nodes ∷ [])))
unfolding squashed
open_run md k c dp kept rest d g sl pt dk mo (going e) t fl copies =
    settled (
      merged_settled md k c dp kept rest d g sl pt dk mo e (held_inv t) (λ r i. held_inv (fl r i)) (λ x s c' i b u v o. held_inv (copies x s c' i b u v o)),
      record { c = c; dp = dp; rest = rest; dp_is = dk; rest_deps = λ r i. let z = pt.rest_in r i in (z.1, g.deps r z.0 z.1); trail = held_inv t },
    )
open_run md k c dp kept rest d g sl pt dk mo (stopped n e) t fl copies = halts

merge_settled : (md : Mode) (opts : Settings) (k c dp : ℕ) (kept rest : List ℕ) (d : Diagram) → Coming k d → d.start ≤ length d.nodes → Parted d kept rest → dp ≡ k
    → ((r : ℕ) → Memᴰ r rest → (node_at d.nodes r).capacity ≤ c)
    → SquashHolds (λ e l. Settled md k d e l × Merging k d e) (squashed (merge_all opts (length d.nodes) rest (push_node (merged_row c dp) d)) (λ e. e) (kept ++ (length d.nodes ∷ [])))
merge_settled md opts k c dp kept rest d g sl pt dk mo =
    let d₁ = push_node (merged_row c dp) d in
    let lg = long₀ md k c dp kept rest d g sl pt dk mo in
    let sm = same₀ md k c dp kept rest d g sl pt dk mo in
    let ins : Inside d₁ (length d.nodes) rest = λ r i. let z = pt.rest_in r i in (omega arith, omega arith, λ q. omega arith) in
    open_run md k c dp kept rest d g sl pt dk mo (merge_all opts (length d.nodes) rest d₁)
    (merge_trail opts (length d.nodes) rest rest d₁ (omega arith) (omega arith) ins (λ r i. i))
    (λ r i. merge_flags opts (length d.nodes) rest r rest i d₁ (omega arith) (omega arith) ins (λ r i. i))
    (λ x s c' i b u v o. merge_copies opts (length d.nodes) rest _ rest i x d₁ s c' refl (omega arith) (omega arith) ins (λ r i. i) b u v o)

-- the kept twin never occurs, as the capacities of a layer differ before its squash
pub no_twin : (k : ℕ) (kept : List ℕ) (q : ℕ) (qs : List ℕ) (d : Diagram) (m : ℕ) → Coming k d → Parted d kept (q ∷ qs) → twin_of d.nodes (merged_capacity d.nodes (q ∷ qs)) kept ≡ at m → ⊥
no_twin k kept q qs d m g pt e =
    let a = twin_at d.nodes (merged_capacity d.nodes (q ∷ qs)) kept m e in
    let b = merged_is d.nodes q qs in
    let x = pt.kept_in a.row a.mem in
    let y = pt.rest_in b.row b.mem in
    let s = g.caps a.row b.row x.0 x.1 y.0 y.1 (a.capacity_is ∙ sym b.capacity_is) in
    pt.apart b.row (subst (λ (z : ℕ). Memᴰ z kept) s a.mem) b.mem

into_settled : (f : Found) (md : Mode) (opts : Settings) (k : ℕ) (kept : List ℕ) (q : ℕ) (qs : List ℕ) (d : Diagram) → Coming k d → d.start ≤ length d.nodes → Parted d kept (q ∷ qs)
    → twin_of d.nodes (merged_capacity d.nodes (q ∷ qs)) kept ≡ f
    → SquashHolds (λ e l. Settled md k d e l × Merging k d e) (merge_into f opts (merged_capacity d.nodes (q ∷ qs)) kept (q ∷ qs) d)
unfolding merge_into
into_settled (at m) md opts k kept q qs d g sl pt e = absurd (no_twin k kept q qs d m g pt e)
into_settled nowhere md opts k kept q qs d g sl pt e =
    let z = pt.rest_in q (Memᴰ.head refl) in
    squash_need_holds _ _ _ _ (squash_need_holds _ _ _ _ (merge_settled md opts k (merged_capacity d.nodes (q ∷ qs)) (node_at d.nodes q).depth kept (q ∷ qs) d g sl pt (g.deps q z.0 z.1) (λ r i. merged_least d.nodes r (q ∷ qs) i)))

relax_parted : (md : Mode) (opts : Settings) (k : ℕ) (kept rest : List ℕ) (d : Diagram) → 0 < length rest → Coming k d → d.start ≤ length d.nodes → Parted d kept rest
    → SquashHolds (λ e l. Settled md k d e l × Merging k d e) (merge_into (twin_of d.nodes (merged_capacity d.nodes rest) kept) opts (merged_capacity d.nodes rest) kept rest d)
relax_parted md opts k kept [] d h g sl pt = absurd (omega arith)
relax_parted md opts k kept (q ∷ qs) d h g sl pt = into_settled _ md opts k kept q qs d g sl pt refl

-- ---- the last exact layer is named before a squash: nothing else changes

last_arc : (s c capacity k lo hi : ℕ) (d : Diagram) → Arc d s c capacity k lo hi → Arc (with_last d) s c capacity k lo hi
unfolding with_last handed
last_arc s c capacity k lo hi d a = record { via = a.via; below = a.below; from = a.from; costs = a.costs; above = a.above; under = a.under; room = a.room; depth = a.depth; live = a.live; worth = a.worth }

last_coming : (k : ℕ) (d : Diagram) → Coming k d → Coming k (with_last d)
unfolding with_last
last_coming k d g = record { deps = g.deps; lives = g.lives; caps = g.caps }

pub last_parted : (d : Diagram) (kept rest : List ℕ) → Parted d kept rest → Parted (with_last d) kept rest
unfolding with_last
last_parted d kept rest pt = record { covers = pt.covers; kept_in = pt.kept_in; rest_in = pt.rest_in; apart = pt.apart }

last_settled : (md : Mode) (k : ℕ) (d e : Diagram) (l : List ℕ) → Settled md k (with_last d) e l → Settled md k d e l
unfolding with_last
last_settled md k d e l z =
    record { begins = z.begins; layers_are = z.layers_are; old = z.old; longer = z.longer; more = z.more; edges_are = z.edges_are; deps = z.deps; within = z.within; lives = z.lives; arcs = λ fm s c capacity h a. z.arcs fm s c capacity h (last_arc s c capacity k _ _ d a) }

relax_settled : (md : Mode) (opts : Settings) (k : ℕ) (d : Diagram) → opts.width < length (ordered d) → Coming k d → d.start ≤ length d.nodes
    → SquashHolds (λ e l. Settled md k d e l × Merging k (with_last d) e) (relax opts (sort_by (by_squash d.nodes) (ordered d)) (with_last d))
unfolding relax merge with_last
relax_settled md opts k d h g sl =
    let o = sort_by (by_squash d.nodes) (ordered d) in
    let n = perm_length (sort_perm (by_squash d.nodes) (ordered d)) in
    squash_map (λ e l z. (last_settled md k d e l z.0, z.1))
    (relax_parted md opts k (take (opts.width - 1) o) (drop (opts.width - 1) o) (with_last d) (omega (arith, length-drop (opts.width - 1) o)) (last_coming k d g) sl (last_parted d _ _ (parted d (by_squash d.nodes) (opts.width - 1))))

-- ---- a restricted squash flags rows, and does nothing else

-- what each flag keeps is kept
pub delete_keeps : (P : Diagram → Type 0) → ((d : Diagram) (r : ℕ) → d.start ≤ r → r < length d.nodes → P d → P (with_nodes d (update (with_deleted true) d.nodes r))) → (rs : List ℕ) (d : Diagram) → ((r : ℕ) → Memᴰ r rs → (d.start ≤ r) × (r < length d.nodes)) → P d → P (with_nodes d (delete_all d.nodes rs))
unfolding delete_all with_nodes
delete_keeps P k [] d b p = p
delete_keeps P k (r ∷ rs) d b p =
    let z = b r (Memᴰ.head refl) in
    delete_keeps P k rs (with_nodes d (update (with_deleted true) d.nodes r)) (λ q m. let w = b q (Memᴰ.tail m) in (w.0, rw length-set w.1)) (k d r z.0 z.1 p)

delete_trail : (rest : List ℕ) (rs : List ℕ) (d : Diagram) → ((r : ℕ) → Memᴰ r rs → Memᴰ r rest) → ((r : ℕ) → Memᴰ r rest → (d.start ≤ r) × (r < length d.nodes)) → MergeTrail (length d.nodes) rest d (with_nodes d (delete_all d.nodes rs))
unfolding delete_all with_nodes
delete_trail rest [] d p b = mhere
delete_trail rest (r ∷ rs) d p b =
    let i = p r (Memᴰ.head refl) in
    let z = b r i in
    let ln = length-set d.nodes r (with_deleted true (node_at d.nodes r)) in
    let d₁ = with_nodes d (update (with_deleted true) d.nodes r) in
    let t = delete_trail rest rs d₁ (λ q m. p q (Memᴰ.tail m)) (λ q m. let w = b q m in (w.0, omega arith)) in
    merging_trans (mstep mhere (flag r i z.0 z.1 (λ e. omega arith))) (subst (λ (n : ℕ). MergeTrail n rest d₁ (with_nodes d₁ (delete_all d₁.nodes rs))) ln t)

delete_flags : (r : ℕ) (rs : List ℕ) → Memᴰ r rs → (ns : List Node) → r < length ns → (node_at (delete_all ns rs) r).deleted ≡ true
unfolding delete_all with_deleted
delete_flags r rs (Memᴰ.head {x = q} {xs = qs} e) ns h = stays_flagged qs (update (with_deleted true) ns q) (rw (e, get_or-set_same ns q (with_deleted true (node_at ns q)) no_node (rw (← e) h)))
  where
    stays_flagged : (rs : List ℕ) (ns : List Node) → (node_at ns r).deleted ≡ true → (node_at (delete_all ns rs) r).deleted ≡ true
    stays_flagged [] ns f = f
    stays_flagged (q ∷ qs) ns f =
        by_test (λ _. (node_at (delete_all (update (with_deleted true) ns q) qs) r).deleted ≡ true) (ltb q (length ns))
        (λ t. stays_flagged qs (update (with_deleted true) ns q) (update_at (λ n. n.deleted ≡ true) (with_deleted true) ns q r (ltb-true _ _ t) (λ _. refl) (λ _. f)))
        (λ t. stays_flagged qs (update (with_deleted true) ns q) (rw (set_out ns q (with_deleted true (node_at ns q)) (ltb-false _ _ t)) f))
delete_flags r rs (Memᴰ.tail {x = q} {xs = qs} m) ns h = delete_flags r qs m (update (with_deleted true) ns q) (rw length-set h)

restrict_settled : (opts : Settings) (k : ℕ) (kept rest : List ℕ) (d : Diagram) → Coming k d → Parted d kept rest → Settled restricted k d (with_nodes d (delete_all d.nodes rest)) kept
unfolding with_nodes
restrict_settled opts k kept rest d g pt =
    let t = delete_trail rest rest d (λ r m. m) pt.rest_in in
    let M = merging_merged (length d.nodes) rest t in
    record {
      begins = refl;
      layers_are = refl;
      old = M.old;
      longer = omega (arith, M.long);
      more = omega arith;
      edges_are = λ i h. refl;
      deps = λ r l h. let b : r < length d.nodes = omega (arith, M.long) in bare_dep _ _ (M.others r (λ e. omega arith)) ∙ g.deps r l b;
      within = λ r m. let z = pt.kept_in r m in (z.0, omega (arith, M.long));
      lives = λ r l h f. ⊎_elim (λ a. a) (λ b. let w = delete_flags r rest b d.nodes (pt.rest_in r b).1 in let z : ◌≡◌ {A = ℕ} 0 1 = cc in absurd (omega arith)) (pt.covers r l (omega (arith, M.long)));
      arcs = λ fm. absurd (fm refl);
    }

-- ---- every squash

pub stay_settled : (md : Mode) (k : ℕ) (d : Diagram) → Coming k d → Settled md k d d (ordered d)
stay_settled md k d g =
    record { begins = refl; layers_are = refl; old = λ r h. refl; longer = omega arith; more = omega arith; edges_are = λ i h. refl; deps = g.deps; within = ordered_in d; lives = λ r a b _. in_layer d r a b; arcs = λ _ s c capacity h a. a }

-- how a squash of d, of mode md, came to leave e: not at all, by a merge, or by flags. Nothing is merged while only the root layer is stored
pub data Way (md : Mode) (k : ℕ) (d : Diagram) : Diagram → Type 0 where
  untouched : Way md k d d
  merges : {e : Diagram} → md ≡ relaxing → 1 < length d.layers → Merging k (with_last d) e → Way md k d e
  deletes : (rest : List ℕ) → md ≡ restricted → ((r : ℕ) → Memᴰ r rest → (d.start ≤ r) × (r < length d.nodes)) → Way md k d (with_nodes (with_last d) (delete_all d.nodes rest))

-- Every squash, unless refused, leaves a settled layer.
pub squash_settled : (md : Mode) (opts : Settings) (k : ℕ) (d : Diagram) → Coming k d → d.start ≤ length d.nodes → SquashHolds (λ e l. Settled md k d e l × Way md k d e) (squash md opts (ordered d) d)
unfolding squash restrict with_last
squash_settled exactly opts k d g sl = settled (stay_settled exactly k d g, untouched)
squash_settled restricted opts k d g sl =
    let pt = parted d (by_squash d.nodes) opts.width in
    squash_if_holds _ _ _
    (λ t. settled (last_settled restricted k d _ _ (restrict_settled opts k _ _ (with_last d) (last_coming k d g) (last_parted d _ _ pt)), deletes _ refl pt.rest_in))
    (λ t. settled (stay_settled restricted k d g, untouched))
squash_settled relaxing opts k d g sl =
    squash_if_holds _ _ _
    (λ t. squash_map (λ e l z. (z.0, merges refl (ltb-true _ _ (and_right (ltb opts.width (length (ordered d))) _ t)) z.1)) (relax_settled relaxing opts k d (ltb-true _ _ (and_true _ _ t)) g sl))
    (λ t. settled (stay_settled relaxing k d g, untouched))
