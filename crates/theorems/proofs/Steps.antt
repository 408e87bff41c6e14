-- The step lemma: a row that is worth x above the lower bound has an edge to a row of the next layer that is; so a finished run has a terminal worth x.
use mathlib.Core.Path.{◌≡◌, refl, ap, ◌∙◌}
use mathlib.Core.Bool.{false}
use mathlib.Core.List.{List, ◌∷◌}
use mathlib.Core.Logic.{⊎_elim}
use Prim.Native.Nat.{ℕ, suc, ◌+◌, ◌-◌, ◌≤◌, ◌<◌, min}
use native.Mathlib.Omega.{arith}
use lib.ListN.{length, get_or, drop}
use lib.Seq.{drop-cons}
use Rattle.words.specs.I64.{top, sat_add}
use Rattle.knapsack.specs.Best.{best}
use Rattle.knapsack.specs.Items.{Item, no_item}
use Rattle.knapsack.proofs.Best.{best_no_items, best_skips_or_takes, best_grows}
use Rattle.knapsack.proofs.FastBound.{fast_bound_at_least_best}
use Rattle.diagram.specs.Node.{Node, node_at, edge_at, fresh}
use Rattle.diagram.specs.Record.{Record}
use Rattle.diagram.specs.Tables.{Range, Diagram, coming}
use Rattle.theorems.proofs.Move.{core}
use Rattle.theorems.proofs.Arc.{Arc, core_del, handed_is, outlook, Stepped}
use Rattle.theorems.proofs.Tower.{Tower, root, more, Finished, root_row}

-- the best completion of a row, with the items from its own depth on
unfoldable pub completion : List Item → Node → ℕ
completion items n = best (drop n.depth items) n.capacity

-- a row's potential: its value and its best completion
abbrev pub potential : List Item → Node → ℕ
potential items n = n.value + completion items n

-- an edge from row s to a row of the next layer that is not flagged and lets a completion of s earn y through it
pub record Next (items : List Item) (d : Diagram) (s lo hi y : ℕ) : Type 0 where
  pub via : ℕ
  pub below : via < length d.edges
  pub from : (edge_at d.edges via).from ≡ s
  pub above : lo ≤ (edge_at d.edges via).to
  pub under : (edge_at d.edges via).to < hi
  pub live : (node_at d.nodes (edge_at d.edges via).to).deleted ≡ false
  pub gains : y ≤ (edge_at d.edges via).cost + completion items (node_at d.nodes (edge_at d.edges via).to)
  pub hands : min top ((node_at d.nodes s).value + (edge_at d.edges via).cost) ≤ (node_at d.nodes (edge_at d.edges via).to).value

arc_next : (items : List Item) (d : Diagram) (s c capacity k lo hi y : ℕ) → y ≤ c + best (drop k items) capacity → Arc d s c capacity k lo hi → Next items d s lo hi y
unfolding completion
arc_next items d s c capacity k lo hi y hy a =
    let t = (edge_at d.edges a.via).to in
    let z = best_grows (drop k items) capacity (node_at d.nodes t).capacity a.room in
    let w = a.worth in
    let q = handed_is s c d in
    record {
      via = a.via;
      below = a.below;
      from = a.from;
      above = a.above;
      under = a.under;
      live = a.live;
      gains = rw (a.costs, a.depth) (omega arith);
      hands = rw a.costs (omega arith);
    }

seen_over : (items : List Item) (n : Node) (lower y : ℕ) → lower < top → lower < n.value + y → y ≤ completion items n → lower < outlook items n
unfolding completion outlook sat_add
seen_over items n lower y h k l = omega (arith, fast_bound_at_least_best (drop n.depth items) n.capacity)

more_is : (items : List Item) (n : Node) (l : List Item) → drop n.depth items ≡ l → completion items n ≡ best l n.capacity
unfolding completion
more_is items n l e = ap (λ (q : List Item). best q n.capacity) e

-- The step lemma: where the completion of an expanded row earns y, and its value and y beat the lower bound, an edge leads on.
pub step_lemma : (items : List Item) (lower : ℕ) (d : Diagram) (s lo hi y : ℕ) → lower < top → lower < (node_at d.nodes s).value + y → y ≤ completion items (node_at d.nodes s) → Stepped items lower d s lo hi → Next items d s lo hi y
step_lemma items lower d s lo hi y ht hb hy a =
    let n = node_at d.nodes s in
    let i = get_or items n.depth no_item in
    let is = drop (suc n.depth) items in
    let e : drop n.depth items ≡ i ∷ is = drop-cons items n.depth no_item a.deep in
    let v : lower < outlook items n = seen_over items n lower y ht hb hy in
    let m : completion items n ≡ best (i ∷ is) n.capacity = more_is items n _ e in
    ⊎_elim
    (λ q. arc_next items d s 0 _ _ lo hi y (omega arith) (a.skip v))
    (λ q. arc_next items d s i.profit _ _ lo hi y (omega arith) (a.take v i is e q.0))
    (best_skips_or_takes i is n.capacity)

-- the step lemma, said with potentials: x is above the lower bound and at most the potential of row s
pub next_pot : (items : List Item) (d : Diagram) (s lo hi x : ℕ) → x ≤ top → x ≤ potential items (node_at d.nodes s) → (n : Next items d s lo hi (x - (node_at d.nodes s).value)) → x ≤ potential items (node_at d.nodes (edge_at d.edges n.via).to)
next_pot items d s lo hi x ht hx n = omega (arith, n.gains, n.hands)

pub step_x : (items : List Item) (lower : ℕ) (d : Diagram) (s lo hi x : ℕ) → lower < x → x ≤ top → x ≤ potential items (node_at d.nodes s) → Stepped items lower d s lo hi → Next items d s lo hi (x - (node_at d.nodes s).value)
step_x items lower d s lo hi x hb ht hx a = step_lemma items lower d s lo hi (x - (node_at d.nodes s).value) (omega arith) (omega arith) (omega arith) a

-- ---- a row worth x in the lowest layer leaves one in the highest

pub record InRange (items : List Item) (d : Diagram) (L : Range) (x : ℕ) : Type 0 where
  pub row : ℕ
  pub lo_is : L.lo ≤ row
  pub hi_is : row < L.hi
  pub live : (node_at d.nodes row).deleted ≡ false
  pub worth : x ≤ potential items (node_at d.nodes row)

pub tower_has : (items : List Item) (lower : ℕ) (d : Diagram) (x : ℕ) → lower < x → x ≤ top → (node_at d.nodes 0).deleted ≡ false → x ≤ potential items (node_at d.nodes 0) → {L : Range} {ls : List Range} → Tower items lower d (L ∷ ls) → InRange items d L x
tower_has items lower d x hb ht hd hx (root a b) = record { row = 0; lo_is = omega arith; hi_is = b; live = hd; worth = hx }
tower_has items lower d x hb ht hd hx (more {U = U} {L = L} a b s t) =
    let h = tower_has items lower d x hb ht hd hx t in
    let n = step_x items lower d h.row U.lo U.hi x hb ht h.worth (s h.row h.lo_is h.hi_is h.live) in
    record { row = _; lo_is = n.above; hi_is = n.under; live = n.live; worth = next_pot items d h.row U.lo U.hi x ht h.worth n }

pub core_pot : (items : List Item) (a b : Node) → core a ≡ core b → potential items a ≡ potential items b
unfolding core completion
core_pot items a b e = ap (λ (n : Node). potential items n) e

-- a terminal of value x at least
pub record Ends (x : ℕ) (d : Diagram) : Type 0 where
  pub row : ℕ
  pub lo_is : d.start ≤ row
  pub hi_is : row < length d.nodes
  pub worth : x ≤ (node_at d.nodes row).value

-- a finished run that is relaxed or exact has a terminal of value x at least, for each x above the bound that the record can reach
pub finished_ends : (items : List Item) (lower : ℕ) (r₀ : Node) (d : Diagram) (x : ℕ) → Finished items lower r₀ d → r₀.deleted ≡ false → lower < x → x ≤ top → x ≤ potential items r₀ → Ends x d
unfolding coming completion
finished_ends items lower r₀ d x f hd hb ht hx =
    let h = tower_has items lower d x hb ht (core_del _ _ f.top ∙ hd) (rw (core_pot items _ _ f.top) hx) f.tower in
    let e = f.ends h.row h.lo_is h.hi_is in
    let z : best (drop (node_at d.nodes h.row).depth items) (node_at d.nodes h.row).capacity ≡ 0 = rw e (best_no_items _) in
    record { row = h.row; lo_is = h.lo_is; hi_is = h.hi_is; worth = omega (arith, h.worth) }

-- what a record is worth: its value and the best completion of its state
unfoldable pub worth_of : List Item → Record → ℕ
worth_of items r = r.value + best (drop r.depth items) r.capacity

pub root_worth : (items : List Item) (r : Record) → potential items (root_row r) ≡ worth_of items r
unfolding root_row fresh completion worth_of
root_worth items r = refl

pub root_lives : (r : Record) → (root_row r).deleted ≡ false
unfolding root_row fresh
root_lives r = refl
