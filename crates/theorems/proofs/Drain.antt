-- What a relaxed diagram ensures: its best exact value is x at least, or a drained record leads to x and its bound does not hide it.
use mathlib.Core.Path.{◌≡◌, refl, sym, ap, subst, ◌∙◌}
use mathlib.Core.Bool.{true, false, cond, ◌||◌}
use mathlib.Core.List.{List, ◌∷◌, Memᴰ}
use mathlib.Core.Logic.{◌⊎◌, ⊎_elim, inl, inr}
use Prim.Native.Nat.{ℕ, ◌+◌, ◌-◌, ◌≤◌, ◌<◌, min}
use native.Mathlib.Omega.{arith}
use lib.ListN.{length, drop}
use Rattle.words.specs.I64.{mid, top, sat_add}
use Rattle.knapsack.specs.Items.{Item}
use Rattle.knapsack.proofs.Cases.{by_test}
use Rattle.knapsack.proofs.FastBound.{fast_bound_at_least_best}
use Rattle.diagram.specs.After1.{terminals, best_of, best_node, exact_path, best_exact_node}
use Rattle.diagram.specs.After2.{never_squashed, is_exact}
use Rattle.diagram.specs.After4.{CutsetKind, last_exact_layer, frontier, layer_cutset, no_cutset, cutset_of, cutset_for}
use Rattle.diagram.specs.After5.{local_bounds}
use Rattle.diagram.specs.After6.{Outcome, outcome, drained_bound, drained_record, drain_rows, drain_for, drained}
use Rattle.diagram.specs.Node.{Node, node_at}
use Rattle.diagram.specs.Record.{Record}
use Rattle.diagram.specs.Run.{relaxing}
use Rattle.diagram.specs.Tables.{Range, LastExact, unsquashed, squashed_after, Diagram, Found, at, with_nodes, rows_of}
use Rattle.theorems.proofs.Bool.{or_true}
use Rattle.theorems.proofs.Rows.{range_in}
use Rattle.theorems.proofs.Move.{Noted}
use Rattle.theorems.proofs.Arc.{core_del}
use Rattle.theorems.proofs.Tower.{Finished}
use Rattle.theorems.proofs.Steps.{completion, potential, core_pot, Ends, finished_ends, worth_of}
use Rattle.theorems.proofs.Sound.{Sound}
use Rattle.theorems.proofs.Exactness.{LastLayer, Exactness, relaxing_is_full}
use Rattle.theorems.proofs.Local.{plain, bounds_dressed, local_bounds_lem}
use Rattle.theorems.proofs.Terminals.{Tops, best_tops, exact_tops, tops_less, terminal_mem, cond_tops}
use Rattle.theorems.proofs.Cutset.{Listing, layers_added, start_listing, all_added, CutRow, ExactEnd, frontier_lemma, last_layer_lemma}

layer_listing : (items : List Item) (r₀ : Node) (d : Diagram) → Sound items r₀ d → ((s : Range) → d.last ≡ squashed_after s → LastLayer d s) → d.start ≤ length d.nodes → (l : LastExact) → d.last ≡ l → Listing d.nodes (layer_cutset l (no_cutset d))
unfolding layer_cutset no_cutset
layer_listing items r₀ d w ll sl unsquashed e = start_listing d.nodes w.clean
layer_listing items r₀ d w ll sl (squashed_after s) e =
    let q = ll s e in
    (all_added d.nodes (rows_of s) _ (start_listing d.nodes w.clean) (λ r m. let z = range_in s r m in (omega (arith, q.done), q.exacts r (omega arith)))).listing

-- the cutset of either kind lists exact rows
pub cut_listing : (items : List Item) (r₀ : Node) (k : CutsetKind) (d : Diagram) → Sound items r₀ d → ((s : Range) → d.last ≡ squashed_after s → LastLayer d s) → d.start ≤ length d.nodes → Listing d.nodes (cutset_of k d)
unfolding cutset_of no_cutset
cut_listing items r₀ frontier d w ll sl = (layers_added d.nodes d.edges d.layers _ (start_listing d.nodes w.clean)).listing
cut_listing items r₀ last_exact_layer d w ll sl = layer_listing items r₀ d w ll sl d.last refl

-- a record that leads to x
pub record LeadsTo (items : List Item) (x : ℕ) (rs : List Record) : Type 0 where
  pub rec : Record
  pub is_in : Memᴰ rec rs
  pub worth : x ≤ worth_of items rec
  pub seen : x ≤ rec.bound

drain_mem : (pre : List ℕ) (d : Diagram) (bv : ℕ) (r : ℕ) (rs : List ℕ) → Memᴰ r rs → (node_at d.nodes r).marked ≡ true → Memᴰ (drained_record pre d bv r) (drain_rows pre d bv rs)
unfolding drain_rows
drain_mem pre d bv r rs (Memᴰ.head {x = q} {xs = qs} e) m = let m' : (node_at d.nodes q).marked ≡ true = rw (← e) m in rw m' (Memᴰ.head (ap (drained_record pre d bv) e))
drain_mem pre d bv r rs (Memᴰ.tail {x = q} {xs = qs} e) m =
    by_test (λ b. Memᴰ (drained_record pre d bv r) (cond b (drained_record pre d bv q ∷ drain_rows pre d bv qs) (drain_rows pre d bv qs))) (node_at d.nodes q).marked
    (λ _. Memᴰ.tail (drain_mem pre d bv r qs e m))
    (λ _. drain_mem pre d bv r qs e m)

pub plain_val : (a b : Node) → plain a ≡ plain b → (a.value ≡ b.value) × (a.capacity ≡ b.capacity) × (a.depth ≡ b.depth) × (a.fast ≡ b.fast)
unfolding plain
plain_val a b e = (ap (λ (n : Node). n.value) e, ap (λ (n : Node). n.capacity) e, ap (λ (n : Node). n.depth) e, ap (λ (n : Node). n.fast) e)

sat_ge : (x a b : ℕ) → x ≤ top → x + mid ≤ a + b → x ≤ sat_add a b
unfolding sat_add
sat_ge x a b h k = omega arith

min_three : (x a b c : ℕ) → x ≤ a → x ≤ b → x ≤ c → x ≤ min (min a b) c
min_three x a b c h k l = omega arith

-- the drained bound of a row that is worth x
drain_worth : (items : List Item) (pre : List ℕ) (d e : Diagram) (bv r x : ℕ) → plain (node_at e.nodes r) ≡ plain (node_at d.nodes r) → x ≤ top → x ≤ potential items (node_at d.nodes r) → Noted items (node_at d.nodes r) → mid + (x - (node_at d.nodes r).value) ≤ (node_at e.nodes r).bottom → x ≤ bv → (x ≤ worth_of items (drained_record pre e bv r)) × (x ≤ (drained_record pre e bv r).bound)
unfolding drained_record drained_bound worth_of completion
drain_worth items pre d e bv r x p ht hx n hb hv =
    let q = plain_val _ _ p in
    let b = fast_bound_at_least_best (drop (node_at d.nodes r).depth items) (node_at d.nodes r).capacity in
    (rw (q.0, q.1, q.2) hx, rw (q.0, q.3) (min_three x _ _ bv (sat_ge x _ _ ht (omega (arith, n))) (sat_ge x _ _ ht (omega arith)) hv))

-- a terminal is worth x
pub top_is : (d : Diagram) (x : ℕ) → Ends x d → Tops d.nodes x (best_node d)
unfolding best_node
top_is d x e = tops_less d.nodes _ x _ e.worth (best_tops d.nodes e.row (terminals d) (terminal_mem d e.row e.lo_is e.hi_is))

drained_at : (pre : List ℕ) (o : Outcome) (r : ℕ) → o.best ≡ at r → drained pre o ≡ drain_rows pre o.diagram (node_at o.diagram.nodes r).value o.cutset
unfolding drained drain_for
drained_at pre o r e = ap (λ (f : Found). drain_for f pre o) e

pub outcome_is : (k : CutsetKind) (d : Diagram) → ((outcome relaxing k d).best ≡ best_node d) × ((outcome relaxing k d).cutset ≡ (cutset_of k d).listed) × ((outcome relaxing k d).diagram.nodes ≡ local_bounds relaxing d (cutset_of k d).nodes) × ((outcome relaxing k d).best_exact ≡ cond (exact_path relaxing d) (best_node d) (best_of (λ n. n.exact) d.nodes (terminals d))) × ((outcome relaxing k d).diagram.edges ≡ d.edges)
unfolding outcome cutset_for with_nodes best_exact_node
outcome_is k d = (refl, refl, refl, refl, refl)

-- the rows of the outcome, apart from cutset flags, marks and bottom values, are those of the growth
pub outcome_plain : (k : CutsetKind) (d : Diagram) → Listing d.nodes (cutset_of k d) → (r : ℕ) → plain (node_at (outcome relaxing k d).diagram.nodes r) ≡ plain (node_at d.nodes r)
outcome_plain k d li r = ap (λ (n : List Node). plain (node_at n r)) (outcome_is k d).2 ∙ (bounds_dressed relaxing d (cutset_of k d).nodes).plain_is r ∙ li.plain_is r

tops_over : (k : CutsetKind) (d : Diagram) → Listing d.nodes (cutset_of k d) → (x : ℕ) (g : Found) → Tops d.nodes x g → Tops (outcome relaxing k d).diagram.nodes x g
tops_over k d li x g t = record { row = t.row; is_row = t.is_row; least = omega (arith, t.least, (plain_val _ _ (outcome_plain k d li t.row)).0) }

-- a squashed diagram; completions earn little enough that no bottom value saturates
module _ (items : List Item) (lower : ℕ) (r₀ : Node) (d : Diagram) (x : ℕ) (s : Range) (small : (n : Node) → completion items n ≤ top - mid) (hb : lower < x) (ht : x ≤ top) (f : Finished items lower r₀ d) (w : Sound items r₀ d)
    (ll : (s : Range) → d.last ≡ squashed_after s → LastLayer d s) (le : d.last ≡ squashed_after s) (hd : r₀.deleted ≡ false) (hx : x ≤ potential items r₀) (k : CutsetKind) (pre : List ℕ) where
  ends : Ends x d
  ends = finished_ends items lower r₀ d x f hd hb ht hx

  full : d.start < length d.nodes
  full = omega (arith, ends.lo_is, ends.hi_is)

  listing : Listing d.nodes (cutset_of k d)
  listing = cut_listing items r₀ k d w ll (omega (arith, full))

  rows_are : (r : ℕ) → plain (node_at (outcome relaxing k d).diagram.nodes r) ≡ plain (node_at d.nodes r)
  rows_are r = outcome_plain k d listing r

  row_leads : CutRow items d x (cutset_of k d).listed → LeadsTo items x (drained pre (outcome relaxing k d))
  row_leads c =
      let o = outcome relaxing k d in
      let oi = outcome_is k d in
      let t = top_is d x ends in
      let v = (node_at o.diagram.nodes t.row).value in
      let vq = (plain_val _ _ (rows_are t.row)).0 in
      let y = x - (node_at d.nodes c.row).value in
      let sh = local_bounds_lem items lower r₀ d (cutset_of k d).nodes s (omega (arith, hb, ht)) f le full (omega (arith, listing.long)) c.layer c.stored c.row y c.lo_is c.hi_is c.live (omega (arith, c.worth)) (omega (arith, hb)) in
      let sm = small (node_at d.nodes c.row) in
      let mk : (node_at o.diagram.nodes c.row).marked ≡ true = ap (λ (n : List Node). (node_at n c.row).marked) oi.2 ∙ sh.is_marked in
      let bt : (node_at o.diagram.nodes c.row).bottom ≡ (node_at (local_bounds relaxing d (cutset_of k d).nodes) c.row).bottom = ap (λ (n : List Node). (node_at n c.row).bottom) oi.2 in
      let dw = drain_worth items pre d o.diagram v c.row x (rows_are c.row) ht c.worth c.noted (omega (arith, sh.bottom, c.worth)) (omega (arith, t.least)) in
      record {
        rec = drained_record pre o.diagram v c.row;
        is_in = subst (λ (l : List Record). Memᴰ (drained_record pre o.diagram v c.row) l) (sym (drained_at pre o t.row (oi.0 ∙ t.is_row))) (drain_mem pre o.diagram v c.row o.cutset (subst (λ (l : List ℕ). Memᴰ c.row l) (sym oi.1) c.in_cut) mk);
        worth = dw.0;
        seen = dw.1;
      }

  exact_leads : ExactEnd d x → Tops (outcome relaxing k d).diagram.nodes x (outcome relaxing k d).best_exact
  exact_leads e =
      let q = tops_less d.nodes _ x _ e.worth (exact_tops d.nodes e.row (terminals d) (terminal_mem d e.row e.lo_is e.hi_is) e.exact) in
      tops_over k d listing x _ (rw (outcome_is k d).3 (cond_tops (exact_path relaxing d) d.nodes x _ _ (top_is d x ends) q))

  -- a squashed relaxed diagram: the best exact value is x at least, or a drained record leads to x
  pub outcome_leads : Tops (outcome relaxing k d).diagram.nodes x (outcome relaxing k d).best_exact ⊎ LeadsTo items x (drained pre (outcome relaxing k d))
  outcome_leads =
      let d0 : (node_at d.nodes 0).deleted ≡ false = core_del _ _ f.top ∙ hd in
      let p0 : x ≤ potential items (node_at d.nodes 0) = rw (core_pot items _ _ f.top) hx in
      go k refl d0 p0
    where
      go : (k' : CutsetKind) → k ≡ k' → (node_at d.nodes 0).deleted ≡ false → x ≤ potential items (node_at d.nodes 0) → Tops (outcome relaxing k d).diagram.nodes x (outcome relaxing k d).best_exact ⊎ LeadsTo items x (drained pre (outcome relaxing k d))
      go frontier e d0 p0 = ⊎_elim (λ c. inr (row_leads (subst (λ (z : CutsetKind). CutRow items d x (cutset_of z d).listed) (sym e) c))) (λ z. inl (exact_leads z)) (frontier_lemma items lower r₀ d x s hb ht f w (ll s le) full d0 p0)
      go last_exact_layer e d0 p0 = inr (row_leads (subst (λ (z : CutsetKind). CutRow items d x (cutset_of z d).listed) (sym e) (last_layer_lemma items lower r₀ d x s hb ht f w le (ll s le) full d0 p0)))

-- ---- an exact outcome

never_is : (l : LastExact) → never_squashed l ≡ true → l ≡ unsquashed
unfolding never_squashed
never_is unsquashed e = refl
never_is (squashed_after s) e = let z : ◌≡◌ {A = ℕ} 0 1 = cc in absurd (omega arith)

pub outcome_exact : (k : CutsetKind) (d : Diagram) → (outcome relaxing k d).exact ≡ (never_squashed d.last || exact_path relaxing d)
unfolding outcome is_exact
outcome_exact k d = refl

-- an exact outcome's best exact value is x at least, where a terminal's is
pub exact_ensures : (items : List Item) (r₀ : Node) (k : CutsetKind) (d : Diagram) (x : ℕ) → Sound items r₀ d → Exactness relaxing r₀.depth d → Ends x d → (outcome relaxing k d).exact ≡ true → Tops (outcome relaxing k d).diagram.nodes x (outcome relaxing k d).best_exact
exact_ensures items r₀ k d x w ex e q =
    let li = cut_listing items r₀ k d w (ex.last_layer relaxing_is_full) (omega (arith, e.lo_is, e.hi_is)) in
    let oi = outcome_is k d in
    let t = top_is d x e in
    tops_over k d li x _ (subst (λ (g : Found). Tops d.nodes x g) (sym oi.3)
    (⊎_elim
    (λ n. let u = never_is d.last n in cond_tops (exact_path relaxing d) d.nodes x _ _ t (tops_less d.nodes _ x _ e.worth (exact_tops d.nodes e.row (terminals d) (terminal_mem d e.row e.lo_is e.hi_is) (ex.before u e.row e.hi_is))))
    (λ n. rw n t)
    (or_true (never_squashed d.last) (exact_path relaxing d) (sym (outcome_exact k d) ∙ q))))
