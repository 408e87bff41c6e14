-- Take, if it fits, then skip: what the two calls mean for the diagram.
use mathlib.Core.Path.{◌≡◌, refl, sym, ap, ◌∙◌}
use mathlib.Core.Bool.{Bool, true, false}
use mathlib.Core.List.{List}
use Prim.Native.Nat.{ℕ, suc, ◌+◌, ◌-◌, ◌*◌, ◌<◌, ◌≤◌}
use native.Mathlib.Omega.{arith}
use lib.Dec.{leb}
use lib.ListN.{length, get_or}
use lib.Seq.{get_or-take}
use borrow.Author.Tests.{le-leb, lt-leb}
use Rattle.knapsack.specs.Items as Blocks
use Rattle.knapsack.specs.Items.{counted, takes, skips}
use Rattle.diagram.specs.Node.{Node, no_node, node_at}
use Rattle.diagram.specs.Tables.{Diagram}
use Rattle.diagram.specs.Run.{Settings, Run, going, stopped, and_then, only_if}
use Rattle.diagram.specs.Rule3.{branch_take, branch_both}
use Rattle.diagram.specs.Rule4.{branch_on}
use Rattle.branch.specs.declared.Counts.{Counts}
use Rattle.branch.specs.declared.Rooms.{Rooms}
use Rattle.branch.specs.State.{Said, Going, Stopped, Fit, counts_of, diagram_of, Stands, Held, Stepped, Branched}
use Rattle.branch.proofs.Branches.{Kept, branch_kept}
use Rattle.expand.specs.declared.Item.{Item}
use Rattle.expand.specs.State.{Taken, Both}

pub not_taken : (start : ℕ) (k : Counts) (rooms : Rooms) (n capacity : ℕ) (i : Item) (ns es : List ℕ) → Fit start k rooms → capacity < i.weight → Taken start k rooms n capacity i ns es (Going k) ns es
unfolding branch_take only_if
not_taken start k rooms n capacity i ns es fit h =
    record {
      fits = fit;
      does = λ s d old_n old_e item depth st held is deep.
          let f : leb (counted item.weight) capacity ≡ false = lt-leb (counted item.weight) capacity (omega (arith, is.weight_is)) in
          rw f (record { step_is = ap Going st.counts_are; held = held });
    }

pub taken : (start : ℕ) (k : Counts) (rooms : Rooms) (n capacity : ℕ) (i : Item) (ns es : List ℕ) (r : Said) (ns' es' : List ℕ) → i.weight ≤ capacity → Fit start k rooms → Branched start k rooms n (record { decision = 2 * i.depth + 1; cost = i.profit; capacity = capacity - i.weight; depth = i.depth + 1 }) ns es r ns' es' → Taken start k rooms n capacity i ns es r ns' es'
unfolding branch_take only_if takes
taken start k rooms n capacity i ns es r ns' es' h fit b =
    record {
      fits = b.fits fit;
      does = λ s d old_n old_e item depth st held is deep.
          let f : leb (counted item.weight) capacity ≡ true = le-leb (counted item.weight) capacity (omega (arith, is.weight_is)) in
          let e : i.depth + 1 ≡ suc (node_at d.nodes n).depth = omega (arith, is.depth_is, deep) in
          rw (f, ← is.depth_is, ← is.weight_is, ← is.profit_is) (b.does s d old_n old_e st held e);
    }

-- ---- one step after another

-- a finished row is as it was
pub kept_row : (d e : Diagram) → Kept d e → (r : ℕ) → r < d.start → node_at e.nodes r ≡ node_at d.nodes r
kept_row d e k r h =
    sym (get_or-take d.start e.nodes r no_node h) ∙ ap (λ (l : List Node). get_or l r no_node) k.front_is ∙ get_or-take d.start d.nodes r no_node h

-- a step that went on leaves a diagram on which the next one stands
stands_on : (s : Settings) (d e : Diagram) (old_n old_e : List ℕ) (start : ℕ) (k k' : Counts) (rooms : Rooms) → Stands s d old_n old_e start k rooms → Kept d e → k' ≡ counts_of e → Fit start k' rooms → Stands s e old_n old_e start k' rooms
stands_on s d e old_n old_e start k k' rooms st kept c fit =
    record {
      first_is = st.first_is ∙ sym kept.start_is;
      start_in = omega (arith, kept.start_is, st.first_is, fit.low, ap (λ (n : Counts). n.nodes) c);
      counts_are = c;
      node_room = st.node_room;
      edge_room = st.edge_room;
      old_nodes = st.old_nodes;
      old_edges = st.old_edges;
    }

-- a run that stopped stays stopped
pub stays_stopped : (run : Run) (f : Diagram → Run) (old_n old_e : List ℕ) (number : ℕ) (c : Counts) (ns es : List ℕ) → Stepped run old_n old_e (Stopped number c) ns es → Stepped (and_then run f) old_n old_e (Stopped number c) ns es
stays_stopped (going d) f old_n old_e number c ns es st = let w = st.step_is in absurd (cc)
stays_stopped (stopped n d) f old_n old_e number c ns es st = st

-- one that went on is followed by the next
pub goes_on : (run : Run) (f : Diagram → Run) (old_n old_e : List ℕ) (k' : Counts) (ns es : List ℕ) (r : Said) (ns' es' : List ℕ) → Stepped run old_n old_e (Going k') ns es → (k' ≡ counts_of (diagram_of run) → Held (diagram_of run) old_n old_e ns es → Stepped (f (diagram_of run)) old_n old_e r ns' es') → Stepped (and_then run f) old_n old_e r ns' es'
goes_on (going d) f old_n old_e k' ns es r ns' es' st next =
    let w = st.step_is in
    let q : k' ≡ counts_of d = cc in
    next q st.held
goes_on (stopped n d) f old_n old_e k' ns es r ns' es' st next = let w = st.step_is in absurd (cc)

pub take_kept : (s : Settings) (item : Blocks.Item) (k n capacity : ℕ) (d : Diagram) → d.start ≤ length d.nodes → Kept d (diagram_of (branch_take s item k n capacity d))
unfolding branch_take only_if
take_kept s item k n capacity d h = go (leb (counted item.weight) capacity)
  where
    go : (b : Bool) → Kept d (diagram_of (only_if b (branch_on s n (takes k) item.profit (capacity - counted item.weight) d) d))
    go true = branch_kept s n (takes k) item.profit (capacity - counted item.weight) d h
    go false = record { start_is = refl; front_is = refl; longer = omega arith }

pub both_stopped : (start : ℕ) (k : Counts) (rooms : Rooms) (n capacity : ℕ) (i : Item) (ns es ns₁ es₁ : List ℕ) (number : ℕ) (c : Counts) → Taken start k rooms n capacity i ns es (Stopped number c) ns₁ es₁ → Both start k rooms n capacity i ns es (Stopped number c) ns₁ es₁
unfolding branch_both
both_stopped start k rooms n capacity i ns es ns₁ es₁ number c did =
    record {
      fits = did.fits;
      does = λ s d old_n old_e item depth st held is h deep.
          stays_stopped (branch_take s item depth n capacity d) _ old_n old_e number c ns₁ es₁ (did.does s d old_n old_e item depth st held is deep);
    }

pub both_going : (start : ℕ) (k : Counts) (rooms : Rooms) (n capacity : ℕ) (i : Item) (ns es ns₁ es₁ : List ℕ) (start₁ : ℕ) (c : Counts) (rooms₁ : Rooms) (r : Said) (ns₂ es₂ : List ℕ) → start₁ ≡ start → rooms₁ ≡ rooms → Taken start k rooms n capacity i ns es (Going c) ns₁ es₁ → Branched start₁ c rooms₁ n (record { decision = 2 * i.depth; cost = 0; capacity = capacity; depth = i.depth + 1 }) ns₁ es₁ r ns₂ es₂ → Both start k rooms n capacity i ns es r ns₂ es₂
unfolding branch_both skips
both_going start k rooms n capacity i ns es ns₁ es₁ start₁ c rooms₁ r ns₂ es₂ a b did after =
    let next = rw (a, b) at after in
    record {
      fits = next.fits did.fits;
      does = λ s d old_n old_e item depth st held is h deep.
          let run = branch_take s item depth n capacity d in
          let kept = take_kept s item depth n capacity d st.start_in in
          goes_on run (λ x. branch_on s n (skips depth) 0 capacity x) old_n old_e c ns₁ es₁ r ns₂ es₂ (did.does s d old_n old_e item depth st held is deep)
          (λ q held₁.
          let on = stands_on s d (diagram_of run) old_n old_e start k c rooms st kept q did.fits in
          let same = kept_row d (diagram_of run) kept n (omega (arith, st.first_is)) in
          let z : i.depth + 1 ≡ suc (node_at (diagram_of run).nodes n).depth = omega (arith, is.depth_is, deep, ap (λ (x : Node). x.depth) same) in
          rw is.depth_is at (next.does s (diagram_of run) old_n old_e on held₁ z));
    }
