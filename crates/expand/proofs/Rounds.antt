-- A layer's expansion, node after node.
use mathlib.Core.Path.{◌≡◌, refl, sym, ap, ◌∙◌}
use mathlib.Core.Bool.{Bool, true, false}
use mathlib.Core.List.{List, [], ◌∷◌, ◌++◌}
use Prim.Native.Nat.{ℕ, suc, ◌+◌, ◌<◌, ◌≤◌}
use native.Mathlib.Omega.{arith}
use lib.Dec.{ltb}
use lib.ListN.{length, get_or, set, take, drop, length-set, take-append-drop, get_or-map}
use lib.Seq.{take-suc, take_all, map-set_same}
use Rattle.words.specs.I64.{mid}
use Rattle.knapsack.specs.Items as Blocks
use Rattle.knapsack.specs.Items.{skips}
use Rattle.knapsack.specs.FastBound.{fast_bound}
use Rattle.diagram.specs.Node.{Node, no_node, node_at, with_fast}
use Rattle.diagram.specs.Tables.{Diagram, with_nodes}
use Rattle.diagram.specs.Run.{Settings, Run, going, stopped, and_then, only_if}
use Rattle.diagram.specs.Rule3.{note_fast, reach, branch_take, branch_both, expand, expand_all}
use Rattle.diagram.specs.Rule4.{branch_on}
use Rattle.branch.specs.declared.Counts.{Counts}
use Rattle.branch.specs.declared.Rooms.{Rooms}
use Rattle.branch.specs.State.{Said, Going, Stopped, Fit, StillFit, counts_of, diagram_of, Stands, Stepped}
use Rattle.branch.proofs.Branches.{Kept, branch_kept}
use Rattle.order.specs.Below.{Below}
use Rattle.order.proofs.Below.{below_at}
use Rattle.expand.specs.State.{Expanded, Layer, AllExpanded}
use Rattle.expand.proofs.Decisions.{kept_row, take_kept, stays_stopped, goes_on}

-- ---- the definition, round by round

expand_append : (s : Settings) (left : List Blocks.Item) (i : Blocks.Item) (k : ℕ) (xs ys : List ℕ) (d : Diagram) → expand_all s left i k (xs ++ ys) d ≡ and_then (expand_all s left i k xs d) (λ e. expand_all s left i k ys e)
unfolding expand_all
expand_append s left i k [] ys d = refl
expand_append s left i k (x ∷ xs) ys d = go (expand s left i k d x) (λ e. expand_append s left i k xs ys e)
  where
    go : (run : Run) → ((e : Diagram) → expand_all s left i k (xs ++ ys) e ≡ and_then (expand_all s left i k xs e) (λ f. expand_all s left i k ys f)) → and_then run (λ e. expand_all s left i k (xs ++ ys) e) ≡ and_then (and_then run (λ e. expand_all s left i k xs e)) (λ f. expand_all s left i k ys f)
    go (going e) ih = ih e
    go (stopped n e) ih = refl

expand_one : (s : Settings) (left : List Blocks.Item) (i : Blocks.Item) (k x : ℕ) (d : Diagram) → expand_all s left i k (x ∷ []) d ≡ expand s left i k d x
unfolding expand_all
expand_one s left i k x d = go (expand s left i k d x)
  where
    go : (run : Run) → and_then run (λ e. going e) ≡ run
    go (going e) = refl
    go (stopped n e) = refl

-- ---- what expanding leaves alone: where the coming layer starts, and the depth of finished rows

pub record Steady (d e : Diagram) : Type 0 where
  pub start_is : e.start ≡ d.start
  pub depth_is : (r : ℕ) → r < d.start → (node_at e.nodes r).depth ≡ (node_at d.nodes r).depth
  pub longer : length d.nodes ≤ length e.nodes

steady_refl : (d : Diagram) → Steady d d
steady_refl d = record { start_is = refl; depth_is = λ r h. refl; longer = omega arith }

steady_trans : (d e f : Diagram) → Steady d e → Steady e f → Steady d f
steady_trans d e f a b =
    record {
      start_is = b.start_is ∙ a.start_is;
      depth_is = λ r h. b.depth_is r (omega (arith, a.start_is)) ∙ a.depth_is r h;
      longer = omega (arith, a.longer, b.longer);
    }

steady_kept : (d e : Diagram) → Kept d e → Steady d e
steady_kept d e k =
    record { start_is = k.start_is; depth_is = λ r h. ap (λ (n : Node). n.depth) (kept_row d e k r h); longer = k.longer }

steady_then : (d : Diagram) (run : Run) (f : Diagram → Run) → Steady d (diagram_of run) → ((e : Diagram) → Steady d e → Steady d (diagram_of (f e))) → Steady d (diagram_of (and_then run f))
steady_then d (going e) f a g = g e a
steady_then d (stopped n e) f a g = a

note_steady : (left : List Blocks.Item) (p : ℕ) (d : Diagram) → Steady d (note_fast left p d)
unfolding note_fast with_nodes with_fast
note_steady left p d =
    let y = with_fast (mid + fast_bound left (node_at d.nodes p).capacity) (node_at d.nodes p) in
    let depth : Node → ℕ = λ n. n.depth in
    let same = map-set_same depth d.nodes p y no_node refl in
    record {
      start_is = refl;
      depth_is = λ r h. sym (get_or-map depth (set d.nodes p y) r no_node) ∙ ap (λ (l : List ℕ). get_or l r 0) same ∙ get_or-map depth d.nodes r no_node;
      longer = omega (arith, length-set d.nodes p y);
    }

both_steady : (s : Settings) (i : Blocks.Item) (k p capacity : ℕ) (d : Diagram) → d.start ≤ length d.nodes → Steady d (diagram_of (branch_both s i k p capacity d))
unfolding branch_both
both_steady s i k p capacity d h =
    steady_then d (branch_take s i k p capacity d) (λ e. branch_on s p (skips k) 0 capacity e)
    (steady_kept d _ (take_kept s i k p capacity d h))
    (λ e a. steady_trans d e _ a (steady_kept e _ (branch_kept s p (skips k) 0 capacity e (omega (arith, a.start_is, a.longer)))))

expand_steady : (s : Settings) (left : List Blocks.Item) (i : Blocks.Item) (k : ℕ) (d : Diagram) (p : ℕ) → d.start ≤ length d.nodes → Steady d (diagram_of (expand s left i k d p))
unfolding expand only_if
expand_steady s left i k d p h = go (ltb s.lower (reach left p d.nodes))
  where
    noted : Steady d (note_fast left p d)
    noted = note_steady left p d

    go : (b : Bool) → Steady d (diagram_of (only_if b (branch_both s i k p (node_at d.nodes p).capacity (note_fast left p d)) (note_fast left p d)))
    go true = steady_trans d (note_fast left p d) _ noted (both_steady s i k p (node_at d.nodes p).capacity (note_fast left p d) (omega (arith, noted.start_is, noted.longer)))
    go false = noted

all_steady : (s : Settings) (left : List Blocks.Item) (i : Blocks.Item) (k : ℕ) (ps : List ℕ) (d : Diagram) → d.start ≤ length d.nodes → Steady d (diagram_of (expand_all s left i k ps d))
unfolding expand_all
all_steady s left i k [] d h = steady_refl d
all_steady s left i k (p ∷ ps) d h =
    steady_then d (expand s left i k d p) (λ e. expand_all s left i k ps e) (expand_steady s left i k d p h)
    (λ e a. steady_trans d e _ a (all_steady s left i k ps e (omega (arith, a.start_is, a.longer))))

-- the same function after a run
then_same : (run : Run) {f g : Diagram → Run} → ((e : Diagram) → f e ≡ g e) → and_then run f ≡ and_then run g
then_same (going e) h = h e
then_same (stopped n e) h = refl

stands_steady : (s : Settings) (d e : Diagram) (old_n old_e : List ℕ) (start : ℕ) (k k' : Counts) (rooms : Rooms) → Stands s d old_n old_e start k rooms → Steady d e → k' ≡ counts_of e → Fit start k' rooms → Stands s e old_n old_e start k' rooms
stands_steady s d e old_n old_e start k k' rooms st steady c fit =
    record {
      first_is = st.first_is ∙ sym steady.start_is;
      start_in = omega (arith, steady.start_is, st.first_is, fit.low, ap (λ (n : Counts). n.nodes) c);
      counts_are = c;
      node_room = st.node_room;
      edge_room = st.edge_room;
      old_nodes = st.old_nodes;
      old_edges = st.old_edges;
    }

-- ---- the code, round by round: the first i rows of the list are expanded

pub record Passed (weights profits rows : List ℕ) (start : ℕ) (k : Counts) (rooms : Rooms) (depth lower : ℕ) (ns₀ es₀ : List ℕ) (i : ℕ) (step : Said) (ns es : List ℕ) : Type 0 where
  pub fits : StillFit start rooms step
  pub did : (s : Settings) (d : Diagram) (old_n old_e : List ℕ) (item : Blocks.Item) (rest : List Blocks.Item) → Layer weights profits rows start k rooms depth lower ns₀ es₀ s d old_n old_e item rest → Stepped (expand_all s (item ∷ rest) item depth (take i rows) d) old_n old_e step ns es

pub passed_none : (weights profits rows : List ℕ) (start : ℕ) (k : Counts) (rooms : Rooms) (depth lower : ℕ) (ns es : List ℕ) → Fit start k rooms → Passed weights profits rows start k rooms depth lower ns es 0 (Going k) ns es
unfolding expand_all
passed_none weights profits rows start k rooms depth lower ns es fit =
    record { fits = fit; did = λ s d old_n old_e item rest l. record { step_is = ap Going l.stands.counts_are; held = l.held } }

module _ (weights profits rows : List ℕ) (start : ℕ) (k : Counts) (rooms : Rooms) (depth lower : ℕ) (ns₀ es₀ : List ℕ) where
  pub passed_one : (i start₁ : ℕ) (c : Counts) (rooms₁ : Rooms) (ns es : List ℕ) (r : Said) (ns' es' : List ℕ) → i < length rows → Below start rows → start₁ ≡ start → rooms₁ ≡ rooms → Passed weights profits rows start k rooms depth lower ns₀ es₀ i (Going c) ns es → Expanded weights profits start₁ c rooms₁ depth lower (get_or rows i 0) ns es r ns' es' → Passed weights profits rows start k rooms depth lower ns₀ es₀ (i + 1) r ns' es'
  passed_one i start₁ c rooms₁ ns es r ns' es' h low a b p after =
      let next = rw (a, b) at after in
      record {
        fits = next.fits;
        did = λ s d old_n old_e item rest l.
            let n = get_or rows i 0 in
            let run = expand_all s (item ∷ rest) item depth (take i rows) d in
            let steady = all_steady s (item ∷ rest) item depth (take i rows) d l.stands.start_in in
            let z : i + 1 ≡ suc i = omega arith in
            let in_start : n < start = below_at low i h in
            let whole : expand_all s (item ∷ rest) item depth (take (i + 1) rows) d ≡ and_then run (λ x. expand s (item ∷ rest) item depth x n) = rw (z, take-suc rows i 0 h, expand_append s (item ∷ rest) item depth (take i rows) (n ∷ []) d) (then_same run (λ x. expand_one s (item ∷ rest) item depth n x)) in
            rw whole
            (goes_on run (λ x. expand s (item ∷ rest) item depth x n) old_n old_e c ns es r ns' es' (p.did s d old_n old_e item rest l)
            (λ q held₁.
            next.does s (diagram_of run) old_n old_e item rest
            (stands_steady s d (diagram_of run) old_n old_e start k c rooms l.stands steady q p.fits)
            held₁ l.lower_is l.left in_start
            (steady.depth_is n (omega (arith, l.stands.first_is)) ∙ l.deep i h)));
      }

  -- each row is expanded
  pub passed_all : (i : ℕ) (step : Said) (ns es : List ℕ) → Passed weights profits rows start k rooms depth lower ns₀ es₀ i step ns es → length rows ≤ i → AllExpanded weights profits rows start k rooms depth lower ns₀ es₀ step ns es
  passed_all i step ns es p h =
      record { fits = p.fits; does = λ s d old_n old_e item rest l. rw (take_all i rows h) at (p.did s d old_n old_e item rest l) }

  -- one was refused, and the rows behind it don't count
  pub passed_stopped : (i number : ℕ) (c : Counts) (ns es : List ℕ) → Passed weights profits rows start k rooms depth lower ns₀ es₀ i (Stopped number c) ns es → AllExpanded weights profits rows start k rooms depth lower ns₀ es₀ (Stopped number c) ns es
  passed_stopped i number c ns es p =
      record {
        fits = p.fits;
        does = λ s d old_n old_e item rest l.
            let a = stays_stopped (expand_all s (item ∷ rest) item depth (take i rows) d) (λ x. expand_all s (item ∷ rest) item depth (drop i rows) x) old_n old_e number c ns es (p.did s d old_n old_e item rest l) in
            rw (← expand_append s (item ∷ rest) item depth (take i rows) (drop i rows) d, take-append-drop i rows) at a;
      }
