-- With an item left, the best value of a run of any mode is above the lower bound: at the last item the fast bound is what the better decision gives.
use mathlib.Core.Path.{◌≡◌, sym, ap, subst, ◌∙◌}
use mathlib.Core.List.{List, [], ◌∷◌}
use Prim.Native.Nat.{ℕ, suc, ◌+◌, ◌≤◌, ◌<◌, ◌*◌}
use native.Mathlib.Omega.{arith}
use lib.ListN.{length, get_or, drop, length-drop}
use lib.Seq.{get_or-drop, drop-cons}
use borrow.Author.Tests.{ltb-false}
use Rattle.words.specs.I64.{top, sat_add}
use Rattle.knapsack.specs.FastBound.{fast_bound, total_profit}
use Rattle.knapsack.specs.Items.{Item, no_item}
use Rattle.knapsack.proofs.Best.{best_no_items}
use Rattle.knapsack.proofs.FastBound.{fast_bound_at_least_best, fast_bound_at_most_total, fast_bound_one_left}
use Rattle.diagram.specs.Node.{Node, node_at, edge_at}
use Rattle.diagram.specs.Record.{Record}
use Rattle.diagram.specs.Rule2.{store, has_rows, grown}
use Rattle.diagram.specs.Run.{Mode, Settings}
use Rattle.diagram.specs.Tables.{Diagram}
use Rattle.theorems.proofs.Holds.{Holds, holds_map}
use Rattle.theorems.proofs.Move.{trail_later}
use Rattle.theorems.proofs.Arc.{core_dep, outlook, Stepped}
use Rattle.theorems.proofs.Growth.{Step, store_is, step_ready, Ended, through, died, grown_keeps}
use Rattle.theorems.proofs.Steps.{completion, step_lemma, Ends}
use Rattle.theorems.proofs.Exactness.{stored_fits, empty_fits}

total_small : (is : List Item) → ((i : ℕ) → (get_or is i no_item).profit ≤ 1000000) → total_profit is ≤ 1000000 * length is
unfolding total_profit
total_small [] h = omega arith
total_small (i ∷ is) h = omega (arith, h 0, total_small is (λ k. h (suc k)))

-- completions earn little: no value saturates
pub completion_small : (items : List Item) → ((i : ℕ) → (get_or items i no_item).profit ≤ 1000000) → length items ≤ 64 → (n : Node) → completion items n ≤ 64000000
unfolding completion
completion_small items h l n =
    let is = drop n.depth items in
    omega (arith, fast_bound_at_least_best is n.capacity, fast_bound_at_most_total is n.capacity, total_small is (λ i. rw (get_or-drop n.depth items i no_item) (h (n.depth + i))), length-drop n.depth items)

drop_none : (items : List Item) (k : ℕ) → drop k items ≡ [] → length items ≤ k
drop_none items k e = omega (arith, length-drop k items, ap (length {A = Item}) e)

-- the last item
record LastItem (items : List Item) (k : ℕ) : Type 0 where
  item : Item
  is_last : drop k items ≡ item ∷ []

last_item : (items : List Item) (k : ℕ) → k < length items → drop (suc k) items ≡ [] → LastItem items k
last_item items k h e = record { item = get_or items k no_item; is_last = drop-cons items k no_item h ∙ ap (λ (l : List Item). get_or items k no_item ∷ l) e }

-- with one item left the fast bound is the best completion
one_left : (items : List Item) (n : Node) → LastItem items n.depth → completion items n ≡ fast_bound (drop n.depth items) n.capacity
unfolding completion
one_left items n l = rw l.is_last (sym (fast_bound_one_left l.item n.capacity))

outlook_sum : (items : List Item) (n : Node) (lower : ℕ) → lower < outlook items n → lower < n.value + fast_bound (drop n.depth items) n.capacity
unfolding outlook sat_add
outlook_sum items n lower h = omega arith

none_left : (items : List Item) (n : Node) → drop n.depth items ≡ [] → completion items n ≡ 0
unfolding completion
none_left items n e = rw e (best_no_items _)

above_worth : (items : List Item) (lower k : ℕ) (d : Diagram) (s lo hi : ℕ) → lower < top → (node_at d.nodes s).depth ≡ k → drop (suc k) items ≡ [] → Stepped items lower d s lo hi → lower < outlook items (node_at d.nodes s) → ((r : ℕ) → lo ≤ r → r < hi → (node_at d.nodes r).depth ≡ suc k) → d.start ≤ lo → hi ≤ length d.nodes → Ends (suc lower) d
above_worth items lower k d s lo hi ht dq e st seen deps hl hh =
    let n = node_at d.nodes s in
    let one = one_left items n (last_item items n.depth st.deep (rw dq e)) in
    let x = step_lemma items lower d s lo hi (completion items n) ht (omega (arith, outlook_sum items n lower seen)) (omega arith) st in
    let c = (edge_at d.edges x.via).to in
    let zero_left = none_left items (node_at d.nodes c) (rw (deps c x.above x.under) e) in
    record { row = c; lo_is = omega (arith, x.above); hi_is = omega (arith, x.under); worth = omega (arith, x.hands, x.gains, outlook_sum items n lower seen) }

step_above : (items : List Item) (lower : ℕ) (md : Mode) (k : ℕ) (d f : Diagram) → lower < top → Step items lower md k d f → drop (suc k) items ≡ [] → f.start < length f.nodes → Ends (suc lower) f
step_above items lower md k d f ht t e h =
    let c = t.after in
    let s = store_is c in
    let r = trail_later items t.layer.trail in
    let ln = ap (length {A = Node}) s.0 in
    let w = t.layer.made (omega (arith, r.begins, s.2)) in
    let g = step_ready items lower md k d f t in
    let v = t.squash.within w.row w.mem in
    let dq : (node_at f.nodes w.row).depth ≡ k = core_dep _ _ (r.old w.row (omega (arith, v.1, s.2))) ∙ ap (λ (n : List Node). (node_at n w.row).depth) s.0 ∙ t.squash.deps w.row v.0 v.1 in
    above_worth items lower k f w.row (store c).start (length f.nodes) ht dq e (t.layer.stepped w.row w.mem) w.seen (λ q a b. g.now.deps q (omega (arith, r.begins)) b) (omega (arith, r.begins)) (omega arith)

-- past the record's own layer
record Above (items : List Item) (lower d₀ k : ℕ) (d : Diagram) : Type 0 where
  above : d₀ < k → drop k items ≡ [] → d.start < length d.nodes → Ends (suc lower) d

ends_same : (x : ℕ) (d e : Diagram) → e.start ≡ d.start → e.nodes ≡ d.nodes → Ends x d → Ends x e
ends_same x d e p q w = record { row = w.row; lo_is = omega (arith, w.lo_is); hi_is = omega (arith, w.hi_is, ap (length {A = Node}) q); worth = subst (λ (n : List Node). x ≤ (node_at n w.row).value) (sym q) w.worth }

ended_above : (items : List Item) (lower d₀ : ℕ) (e : Diagram) → d₀ < length items → Ended items (Above items lower d₀) e → e.start < length e.nodes → Ends (suc lower) e
unfolding has_rows
ended_above items lower d₀ e hd (through k d z g p) h =
    let i = stored_fits (has_rows d) d in
    ends_same (suc lower) d _ i.0 i.1 (p.above (omega (arith, drop_none items k z)) z (omega (arith, i.0, ap (length {A = Node}) i.1)))
ended_above items lower d₀ e hd (died k d z g p) h =
    let i = empty_fits d in
    absurd (omega (arith, i.0, ap (length {A = Node}) i.1, ltb-false d.start (length d.nodes) z))

-- A finished run of a record with an item left, if it has a terminal at all, has one above the lower bound.
pub grown_above : (items : List Item) (opts : Settings) (r : Record) → opts.lower < top → r.depth < length items → Holds (λ e. e.start < length e.nodes → Ends (suc opts.lower) e) (grown opts items r)
grown_above items opts r ht hd =
    holds_map (λ e z. ended_above items opts.lower r.depth e hd z)
    (grown_keeps items opts (Above items opts.lower r.depth) (λ k d f g t w. record { above = λ _ z h. step_above items opts.lower opts.mode k d f ht t z h }) r (record { above = λ z. absurd (omega arith) }))
