-- More room never changes a run that finished: the rooms are read in needs alone, and a met need stays met.
use mathlib.Core.Path.{◌≡◌, refl}
use mathlib.Core.Bool.{Bool, true, false}
use mathlib.Core.List.{List, [], ◌∷◌}
use Prim.Native.Nat.{ℕ, suc, ◌-◌, ◌≤◌}
use native.Mathlib.Omega.{arith}
use lib.Dec.{leb, ltb}
use lib.ListN.{length, get_or, drop}
use borrow.Author.Tests.{ltb-true, lt-ltb}
use Rattle.knapsack.specs.Items.{Item, counted, takes, skips}
use Rattle.diagram.specs.After4.{CutsetKind}
use Rattle.diagram.specs.After6.{Outcome, finished, finish, run}
use Rattle.diagram.specs.Node.{node_at, edge_at, update, with_deleted, as_relaxed}
use Rattle.diagram.specs.Record.{Record}
use Rattle.diagram.specs.Rule1.{blank, rooted}
use Rattle.diagram.specs.Rule2.{ordered, store, store_empty, has_rows, expand_squashed, layer_step, grow, grown}
use Rattle.diagram.specs.Rule3.{branch_take, branch_both, note_fast, reach, expand, expand_all}
use Rattle.diagram.specs.Rule4.{add_edge, lookup, push_node, new_child, branch_to, branch_on}
use Rattle.diagram.specs.Rule5.{with_last, squash_if, squash}
use Rattle.diagram.specs.Rule6.{Squashed, layer, halted, restrict, merged_row, copy_edges, merge_all, squashed, squash_need, merge_into, relax, merge}
use Rattle.diagram.specs.Run.{Mode, exactly, restricted, relaxing, Settings, Run, going, stopped, and_then, need, only_if}
use Rattle.diagram.specs.Tables.{Diagram, Found, at, nowhere, with_nodes, inbound}

-- the settings with other rooms
unfoldable pub with_rooms : Settings → ℕ → ℕ → Settings
with_rooms opts a b = record { mode = opts.mode; width = opts.width; lower = opts.lower; node_room = a; edge_room = b }

-- the second run is the first, where that one isn't refused
data Agrees : Run → Run → Type 0 where
  both : {d : Diagram} → Agrees (going d) (going d)
  refusal : {n : ℕ} {d : Diagram} {x : Run} → Agrees (stopped n d) x

then_agrees : {x y : Run} (f g : Diagram → Run) → Agrees x y → ((d : Diagram) → Agrees (f d) (g d)) → Agrees (and_then x f) (and_then y g)
then_agrees f g (both {d = d}) k = k d
then_agrees f g refusal k = refusal

need_agrees : (b c : Bool) (n : ℕ) (d : Diagram) {x y : Run} → (b ≡ true → c ≡ true) → Agrees x y → Agrees (need b n d x) (need c n d y)
unfolding need
need_agrees true true n d k a = a
need_agrees true false n d k a = let e = k refl in let z : ◌≡◌ {A = ℕ} 0 1 = cc in absurd (omega arith)
need_agrees false c n d k a = refusal

only_agrees : (b : Bool) (d : Diagram) {x y : Run} → Agrees x y → Agrees (only_if b x d) (only_if b y d)
unfolding only_if
only_agrees true d a = a
only_agrees false d a = both

below_room : (n a b : ℕ) → a ≤ b → ltb n a ≡ true → ltb n b ≡ true
below_room n a b h e = lt-ltb n b (omega (arith, ltb-true))

data SquashAgrees : Squashed → Squashed → Type 0 where
  same : {d : Diagram} {l : List ℕ} → SquashAgrees (layer d l) (layer d l)
  halting : {n : ℕ} {d : Diagram} {x : Squashed} → SquashAgrees (halted n d) x

squash_need_agrees : (b c : Bool) (n : ℕ) (d : Diagram) {x y : Squashed} → (b ≡ true → c ≡ true) → SquashAgrees x y → SquashAgrees (squash_need b n d x) (squash_need c n d y)
unfolding squash_need
squash_need_agrees true true n d k a = a
squash_need_agrees true false n d k a = let e = k refl in let z : ◌≡◌ {A = ℕ} 0 1 = cc in absurd (omega arith)
squash_need_agrees false c n d k a = halting

squash_if_agrees : (b : Bool) {x y : Squashed} (z : Squashed) → SquashAgrees x y → SquashAgrees z z → SquashAgrees (squash_if b x z) (squash_if b y z)
unfolding squash_if
squash_if_agrees true z a c = a
squash_if_agrees false z a c = c

squashed_agrees : {x y : Run} (f : Diagram → Diagram) (l : List ℕ) → Agrees x y → SquashAgrees (squashed x f l) (squashed y f l)
unfolding squashed
squashed_agrees f l both = same
squashed_agrees f l refusal = halting

refused_clash : (m : Mode) (kind : CutsetKind) (n : ℕ) (d : Diagram) (o : Outcome) → finish m kind (stopped n d) ≡ finished o → ⊥
unfolding finish
refused_clash m kind n d o e = let z : ◌≡◌ {A = ℕ} 0 1 = cc in omega arith

-- the settings opts, and the same with rooms a and b that are no smaller
module _ (opts : Settings) (a b : ℕ) (more-nodes : opts.node_room ≤ a) (more_edges : opts.edge_room ≤ b) where
  add_agrees : (p c decision cost : ℕ) (d : Diagram) → Agrees (add_edge opts p c decision cost d) (add_edge (with_rooms opts a b) p c decision cost d)
  unfolding add_edge with_rooms
  add_agrees p c decision cost d = need_agrees _ _ 12 d (below_room _ _ _ more_edges) both

  branch_to_agrees : (f : Found) (p decision cost capacity : ℕ) (d : Diagram) → Agrees (branch_to f opts p decision cost capacity d) (branch_to f (with_rooms opts a b) p decision cost capacity d)
  unfolding branch_to new_child with_rooms
  branch_to_agrees (at c) p decision cost capacity d = add_agrees p c decision cost d
  branch_to_agrees nowhere p decision cost capacity d =
      need_agrees _ _ 10 d (λ e. e) (need_agrees _ _ 11 d (below_room _ _ _ more-nodes) (need_agrees _ _ 12 d (below_room _ _ _ more_edges) both))

  branch_agrees : (p decision cost capacity : ℕ) (d : Diagram) → Agrees (branch_on opts p decision cost capacity d) (branch_on (with_rooms opts a b) p decision cost capacity d)
  unfolding branch_on
  branch_agrees p decision cost capacity d = branch_to_agrees (lookup capacity (drop d.start d.nodes) d.start) p decision cost capacity d

  both_agrees : (i : Item) (k p capacity : ℕ) (d : Diagram) → Agrees (branch_both opts i k p capacity d) (branch_both (with_rooms opts a b) i k p capacity d)
  unfolding branch_both branch_take
  both_agrees i k p capacity d = then_agrees _ _ (only_agrees (leb (counted i.weight) capacity) d (branch_agrees p (takes k) i.profit (capacity - counted i.weight) d)) (λ e. branch_agrees p (skips k) 0 capacity e)

  expand_agrees : (left : List Item) (i : Item) (k : ℕ) (d : Diagram) (p : ℕ) → Agrees (expand opts left i k d p) (expand (with_rooms opts a b) left i k d p)
  unfolding expand with_rooms
  expand_agrees left i k d p = only_agrees (ltb opts.lower (reach left p d.nodes)) (note_fast left p d) (both_agrees i k p (node_at d.nodes p).capacity (note_fast left p d))

  all_agrees : (left : List Item) (i : Item) (k : ℕ) (ps : List ℕ) (d : Diagram) → Agrees (expand_all opts left i k ps d) (expand_all (with_rooms opts a b) left i k ps d)
  unfolding expand_all
  all_agrees left i k [] d = both
  all_agrees left i k (p ∷ ps) d = then_agrees _ _ (expand_agrees left i k d p) (λ e. all_agrees left i k ps e)

  copy_agrees : (m : ℕ) (es : List ℕ) (d : Diagram) → Agrees (copy_edges opts m es d) (copy_edges (with_rooms opts a b) m es d)
  unfolding copy_edges
  copy_agrees m [] d = both
  copy_agrees m (e ∷ es) d = then_agrees _ _ (add_agrees (edge_at d.edges e).from m (edge_at d.edges e).decision (edge_at d.edges e).cost d) (λ d₁. copy_agrees m es d₁)

  merge_agrees : (m : ℕ) (rs : List ℕ) (d : Diagram) → Agrees (merge_all opts m rs d) (merge_all (with_rooms opts a b) m rs d)
  unfolding merge_all
  merge_agrees m [] d = both
  merge_agrees m (r ∷ rs) d = then_agrees _ _ (copy_agrees m (inbound d.edges r) (with_nodes d (update (with_deleted true) d.nodes r))) (λ d₁. merge_agrees m rs d₁)

  into_agrees : (f : Found) (capacity : ℕ) (kept rest : List ℕ) (d : Diagram) → SquashAgrees (merge_into f opts capacity kept rest d) (merge_into f (with_rooms opts a b) capacity kept rest d)
  unfolding merge_into with_rooms
  into_agrees (at m) capacity kept rest d = squashed_agrees _ _ (merge_agrees m rest (with_nodes d (update as_relaxed d.nodes m)))
  into_agrees nowhere capacity kept rest d =
      squash_need_agrees _ _ 10 d (λ e. e) (squash_need_agrees _ _ 11 d (below_room _ _ _ more-nodes) (squashed_agrees _ _ (merge_agrees (length d.nodes) rest (push_node (merged_row capacity (node_at d.nodes (get_or rest 0 0)).depth) d))))

  squash_agrees : (m : Mode) (rows : List ℕ) (d : Diagram) → SquashAgrees (squash m opts rows d) (squash m (with_rooms opts a b) rows d)
  unfolding squash restrict relax merge with_rooms
  squash_agrees exactly rows d = same
  squash_agrees restricted rows d = squash_if_agrees _ (layer d rows) same same
  squash_agrees relaxing rows d = squash_if_agrees _ (layer d rows) (into_agrees _ _ _ _ (with_last d)) same

  squashed_expands : {x y : Squashed} (left : List Item) (i : Item) (k : ℕ) → SquashAgrees x y → Agrees (expand_squashed x opts left i k) (expand_squashed y (with_rooms opts a b) left i k)
  unfolding expand_squashed
  squashed_expands left i k (same {d = d} {l = l}) = all_agrees left i k l (store d)
  squashed_expands left i k halting = refusal

  grow_agrees : (is : List Item) (k : ℕ) (d : Diagram) → Agrees (grow opts is k d) (grow (with_rooms opts a b) is k d)
  unfolding grow layer_step with_rooms
  grow_agrees [] k d = both
  grow_agrees (i ∷ is) k d =
      only_agrees (has_rows d) (store_empty d) (then_agrees _ _ (squashed_expands (i ∷ is) i k (squash_agrees opts.mode (ordered d) d)) (λ e. grow_agrees is (suc k) e))

  grown_agrees : (items : List Item) (r : Record) → Agrees (grown opts items r) (grown (with_rooms opts a b) items r)
  unfolding grown rooted with_rooms
  grown_agrees items r = then_agrees _ _ (need_agrees _ _ 11 blank (below_room _ _ _ more-nodes) both) (λ d. grow_agrees (drop r.depth items) r.depth d)

  pub run_more_room : (kind : CutsetKind) (items : List Item) (r : Record) (o : Outcome) → run opts kind items r ≡ finished o → run (with_rooms opts a b) kind items r ≡ finished o
  unfolding run with_rooms
  run_more_room kind items r o e = finish_agrees opts.mode (grown_agrees items r) e
    where
      finish_agrees : (m : Mode) {x y : Run} → Agrees x y → finish m kind x ≡ finished o → finish m kind y ≡ finished o
      finish_agrees m both e = e
      finish_agrees m refusal e = absurd (refused_clash m kind _ _ o e)
