-- A run's rows fit its rooms, whether it finished or stopped, and it stops with 10, 11 or 12 alone.
use mathlib.Core.Path.{◌≡◌, refl, ap, ◌∙◌}
use mathlib.Core.Bool.{Bool, true, false, not, cond, ◌&&◌}
use mathlib.Core.List.{List, [], ◌∷◌}
use Prim.Native.Nat.{ℕ, suc, ◌≤◌, ◌<◌}
use native.Mathlib.Omega.{arith}
use lib.ListN.{length, get_or, drop, length-append, length-set}
use borrow.Author.Tests.{ltb-true}
use Rattle.knapsack.specs.Items.{Item, takes, skips}
use Rattle.diagram.specs.After4.{CutsetKind, last_exact_layer, frontier, Cutset, list_row, list_rows, layer_cutset, frontier_edges, frontier_rows, frontier_layers, no_cutset, cutset_of, cutset_for}
use Rattle.diagram.specs.After6.{Outcome, outcome, Answer, refused, finished, finish, run}
use Rattle.diagram.specs.Node.{Node, Edge, node_at, edge_at, update, with_deleted, as_relaxed}
use Rattle.diagram.specs.Record.{Record}
use Rattle.diagram.specs.Rule1.{root_only, rooted}
use Rattle.diagram.specs.Rule2.{ordered, store, store_empty, store_last, has_rows, expand_squashed, layer_step, grow, grown}
use Rattle.diagram.specs.Rule3.{branch_take, branch_both, note_fast, expand, expand_all}
use Rattle.diagram.specs.Rule4.{push_edge, add_edge, lookup, push_node, child_of, new_child, branch_to, branch_on}
use Rattle.diagram.specs.Rule5.{with_last, squash_if, squash}
use Rattle.diagram.specs.Rule6.{Squashed, layer, halted, delete_all, restrict, copy_edges, merge_all, squashed, squash_need, keep_first, merge_into, relax, merge}
use Rattle.diagram.specs.Run.{Mode, exactly, restricted, relaxing, Settings, Run, going, stopped, and_then, need, only_if}
use Rattle.diagram.specs.Tables.{Range, LastExact, unsquashed, squashed_after, Diagram, Found, at, nowhere, with_nodes, rows_of, inbound}
use Rattle.theorems.proofs.Holds as Rest
use Rattle.theorems.proofs.Holds.{Holds, held, void, SquashHolds, settled}
use Rattle.theorems.proofs.Local.{bounds_dressed}

-- the numbers that a run can stop with
pub data Stop : ℕ → Type 0 where
  ten : Stop 10
  eleven : Stop 11
  twelve : Stop 12

-- tables that fit those rooms
pub record Fits (node_room edge_room : ℕ) (d : Diagram) : Type 0 where
  pub nodes_fit : length d.nodes ≤ node_room
  pub edges_fit : length d.edges ≤ edge_room

-- the tables of a run that goes on fit, and so do those of one that stopped
data Within (a b : ℕ) : Run → Type 0 where
  goes : {d : Diagram} → Fits a b d → Within a b (going d)
  stops : {n : ℕ} {d : Diagram} → Stop n → Fits a b d → Within a b (stopped n d)

then_within : {a b : ℕ} {x : Run} (f : Diagram → Run) → Within a b x → ((d : Diagram) → Fits a b d → Within a b (f d)) → Within a b (and_then x f)
then_within f (goes {d = d} p) k = k d p
then_within f (stops n p) k = stops n p

need_within : {a b : ℕ} (t : Bool) (n : ℕ) (d : Diagram) (x : Run) → Stop n → Fits a b d → (t ≡ true → Within a b x) → Within a b (need t n d x)
unfolding need
need_within true n d x s p k = k refl
need_within false n d x s p k = stops s p

only_within : {a b : ℕ} (t : Bool) (x : Run) (d : Diagram) → Within a b x → Fits a b d → Within a b (only_if t x d)
unfolding only_if
only_within true x d k p = k
only_within false x d k p = goes p

-- the same of what a squash leaves
data SquashWithin (a b : ℕ) : Squashed → Type 0 where
  leaves : {d : Diagram} {l : List ℕ} → Fits a b d → SquashWithin a b (layer d l)
  halts : {n : ℕ} {d : Diagram} → Stop n → Fits a b d → SquashWithin a b (halted n d)

squash_need_within : {a b : ℕ} (t : Bool) (n : ℕ) (d : Diagram) (x : Squashed) → Stop n → Fits a b d → (t ≡ true → SquashWithin a b x) → SquashWithin a b (squash_need t n d x)
unfolding squash_need
squash_need_within true n d x s p k = k refl
squash_need_within false n d x s p k = halts s p

squash_if_within : {a b : ℕ} (t : Bool) (x y : Squashed) → SquashWithin a b x → SquashWithin a b y → SquashWithin a b (squash_if t x y)
unfolding squash_if
squash_if_within true x y p q = p
squash_if_within false x y p q = q

squashed_within : {a b : ℕ} {x : Run} (f : Diagram → Diagram) (l : List ℕ) → ((d : Diagram) → Fits a b d → Fits a b (f d)) → Within a b x → SquashWithin a b (squashed x f l)
unfolding squashed
squashed_within f l k (goes {d = d} p) = leaves (k d p)
squashed_within f l k (stops n p) = halts n p

within_holds : {a b : ℕ} {x : Squashed} → SquashWithin a b x → SquashHolds (λ e _. Fits a b e) x
within_holds (leaves p) = settled p
within_holds (halts n p) = Rest.halts

-- ---- what is written

module _ (a b : ℕ) where
  rows_fit : (f : Node → Node) (d : Diagram) (r : ℕ) → Fits a b d → Fits a b (with_nodes d (update f d.nodes r))
  unfolding with_nodes
  rows_fit f d r p = record { nodes_fit = rw length-set p.nodes_fit; edges_fit = p.edges_fit }

  push_fits : (p c decision cost : ℕ) (d : Diagram) → length d.edges < b → Fits a b d → Fits a b (push_edge p c decision cost d)
  unfolding push_edge
  push_fits p c decision cost d h q = record { nodes_fit = rw length-set q.nodes_fit; edges_fit = simp length-append (omega arith) }

  node_fits : (n : Node) (d : Diagram) → length d.nodes < a → Fits a b d → Fits a b (push_node n d)
  unfolding push_node with_nodes
  node_fits n d h q = record { nodes_fit = simp length-append (omega arith); edges_fit = q.edges_fit }

  same_edges : (n : Node) (d : Diagram) → length (push_node n d).edges ≡ length d.edges
  unfolding push_node with_nodes
  same_edges n d = refl

  last_fits : (d : Diagram) → Fits a b d → Fits a b (with_last d)
  unfolding with_last
  last_fits d p = record { nodes_fit = p.nodes_fit; edges_fit = p.edges_fit }

  store_fits : (d : Diagram) → Fits a b d → Fits a b (store d)
  unfolding store
  store_fits d p = record { nodes_fit = p.nodes_fit; edges_fit = p.edges_fit }

  pub empty_fits : (d : Diagram) → Fits a b d → Fits a b (store_empty d)
  unfolding store_empty
  empty_fits d p = record { nodes_fit = p.nodes_fit; edges_fit = p.edges_fit }

  pub ended_fits : (t : Bool) (d : Diagram) → Fits a b d → Fits a b (store_last t d)
  unfolding store_last
  ended_fits true d p = record { nodes_fit = p.nodes_fit; edges_fit = p.edges_fit }
  ended_fits false d p = p

  delete_long : (ns : List Node) (rs : List ℕ) → length (delete_all ns rs) ≡ length ns
  unfolding delete_all
  delete_long ns [] = refl
  delete_long ns (r ∷ rs) = delete_long (update (with_deleted true) ns r) rs ∙ length-set ns r _

  delete_fits : (d : Diagram) (rs : List ℕ) → Fits a b d → Fits a b (with_nodes d (delete_all d.nodes rs))
  unfolding with_nodes
  delete_fits d rs p = record { nodes_fit = rw delete_long p.nodes_fit; edges_fit = p.edges_fit }

  note_fits : (left : List Item) (p : ℕ) (d : Diagram) → Fits a b d → Fits a b (note_fast left p d)
  unfolding note_fast with_nodes
  note_fits left p d q = record { nodes_fit = rw length-set q.nodes_fit; edges_fit = q.edges_fit }

  keep_fits : (r : ℕ) (d : Diagram) → Fits a b d → Fits a b (keep_first r d)
  unfolding keep_first
  keep_fits r d q = rows_fit (with_deleted false) d r q

-- ---- the run, of settings opts with their own rooms

module _ (opts : Settings) where
  abbrev Ok : Run → Type 0
  Ok = Within opts.node_room opts.edge_room

  abbrev Fit : Diagram → Type 0
  Fit = Fits opts.node_room opts.edge_room

  add_within : (p c decision cost : ℕ) (d : Diagram) → Fit d → Ok (add_edge opts p c decision cost d)
  unfolding add_edge
  add_within p c decision cost d q = need_within _ _ _ _ twelve q (λ t. goes (push_fits _ _ p c decision cost d (ltb-true _ _ t) q))

  branch_to_within : (f : Found) (p decision cost capacity : ℕ) (d : Diagram) → Fit d → Ok (branch_to f opts p decision cost capacity d)
  unfolding branch_to new_child
  branch_to_within (at c) p decision cost capacity d q = add_within p c decision cost d q
  branch_to_within nowhere p decision cost capacity d q =
      let n = child_of p cost capacity d.nodes in
      need_within _ _ _ _ ten q
      (λ _. need_within _ _ _ _ eleven q
      (λ t. need_within _ _ _ _ twelve q
      (λ u. goes (push_fits _ _ p (length d.nodes) decision cost (push_node n d) (omega (arith, same_edges opts.node_room opts.edge_room n d, ltb-true (length d.edges) opts.edge_room u)) (node_fits _ _ n d (ltb-true _ _ t) q)))))

  branch_within : (p decision cost capacity : ℕ) (d : Diagram) → Fit d → Ok (branch_on opts p decision cost capacity d)
  unfolding branch_on
  branch_within p decision cost capacity d q = branch_to_within (lookup capacity (drop d.start d.nodes) d.start) p decision cost capacity d q

  expand_within : (left : List Item) (i : Item) (k : ℕ) (d : Diagram) (p : ℕ) → Fit d → Ok (expand opts left i k d p)
  unfolding expand branch_both branch_take
  expand_within left i k d p q =
      let n = note_fits _ _ left p d q in
      only_within _ _ _ (then_within _ (only_within _ _ _ (branch_within p (takes k) i.profit _ (note_fast left p d) n) n) (λ e z. branch_within p (skips k) 0 _ e z)) n

  all_within : (left : List Item) (i : Item) (k : ℕ) (ps : List ℕ) (d : Diagram) → Fit d → Ok (expand_all opts left i k ps d)
  unfolding expand_all
  all_within left i k [] d q = goes q
  all_within left i k (p ∷ ps) d q = then_within _ (expand_within left i k d p q) (λ e z. all_within left i k ps e z)

  copy_within : (m : ℕ) (es : List ℕ) (d : Diagram) → Fit d → Ok (copy_edges opts m es d)
  unfolding copy_edges
  copy_within m [] d q = goes q
  copy_within m (e ∷ es) d q = then_within _ (add_within _ m _ _ d q) (λ f z. copy_within m es f z)

  merge_within : (m : ℕ) (rs : List ℕ) (d : Diagram) → Fit d → Ok (merge_all opts m rs d)
  unfolding merge_all
  merge_within m [] d q = goes q
  merge_within m (r ∷ rs) d q = then_within _ (copy_within m (inbound d.edges r) _ (rows_fit _ _ (with_deleted true) d r q)) (λ f z. merge_within m rs f z)

  into_within : (f : Found) (capacity : ℕ) (kept rest : List ℕ) (d : Diagram) → Fit d → SquashWithin opts.node_room opts.edge_room (merge_into f opts capacity kept rest d)
  unfolding merge_into
  into_within (at m) capacity kept rest d q = squashed_within _ _ (λ e z. keep_fits _ _ (get_or rest 0 0) e z) (merge_within m rest _ (rows_fit _ _ as_relaxed d m q))
  into_within nowhere capacity kept rest d q =
      squash_need_within _ _ _ _ ten q
      (λ _. squash_need_within _ _ _ _ eleven q
      (λ t. squashed_within _ _ (λ e z. z) (merge_within (length d.nodes) rest _ (node_fits _ _ _ d (ltb-true _ _ t) q))))

  squash_within : (m : Mode) (rows : List ℕ) (d : Diagram) → Fit d → SquashWithin opts.node_room opts.edge_room (squash m opts rows d)
  unfolding squash restrict relax merge
  squash_within exactly rows d q = leaves q
  squash_within restricted rows d q = squash_if_within _ _ _ (leaves (delete_fits _ _ (with_last d) _ (last_fits _ _ d q))) (leaves q)
  squash_within relaxing rows d q = squash_if_within _ _ _ (into_within _ _ _ _ (with_last d) (last_fits _ _ d q)) (leaves q)

  -- the two squashes by themselves
  pub restrict_fits : (rows : List ℕ) (d : Diagram) → Fit d → SquashHolds (λ e _. Fit e) (restrict opts rows d)
  unfolding restrict
  restrict_fits rows d q = settled (delete_fits _ _ d _ q)

  pub relax_fits : (rows : List ℕ) (d : Diagram) → Fit d → SquashHolds (λ e _. Fit e) (relax opts rows d)
  unfolding relax merge
  relax_fits rows d q = within_holds (into_within _ _ _ _ d q)

  expanded_within : (left : List Item) (i : Item) (k : ℕ) {x : Squashed} → SquashWithin opts.node_room opts.edge_room x → Ok (expand_squashed x opts left i k)
  unfolding expand_squashed
  expanded_within left i k (leaves {d = d} {l = l} q) = all_within left i k l (store d) (store_fits _ _ d q)
  expanded_within left i k (halts n q) = stops n q

  -- and a layer's whole step
  pub step_fits : (left : List Item) (i : Item) (k : ℕ) (d : Diagram) → Fit d → Holds Fit (layer_step opts left i k d)
  unfolding layer_step
  step_fits left i k d q = goes_holds (expanded_within left i k (squash_within opts.mode (ordered d) d q))
    where
      goes_holds : {x : Run} → Ok x → Holds Fit x
      goes_holds (goes p) = held p
      goes_holds (stops n p) = void

  grow_within : (is : List Item) (k : ℕ) (d : Diagram) → Fit d → Ok (grow opts is k d)
  unfolding grow layer_step
  grow_within [] k d q = goes (ended_fits _ _ (has_rows d) d q)
  grow_within (i ∷ is) k d q =
      only_within _ _ _ (then_within _ (expanded_within (i ∷ is) i k (squash_within opts.mode (ordered d) d q)) (λ e z. grow_within is (suc k) e z)) (empty_fits _ _ d q)

  pub root_fits : (r : Record) → 0 < opts.node_room → Fit (root_only r)
  unfolding root_only
  root_fits r h = record { nodes_fit = h; edges_fit = omega arith }

  grown_within : (items : List Item) (r : Record) → Ok (grown opts items r)
  unfolding grown rooted
  grown_within items r =
      then_within _ (need_within _ _ _ _ eleven (record { nodes_fit = omega arith; edges_fit = omega arith }) (λ t. goes (root_fits r (ltb-true _ _ t))))
      (λ d q. grow_within (drop r.depth items) r.depth d q)

-- ---- after the last layer no row is added

row_long : (r : ℕ) (c : Cutset) → length (list_row r c).nodes ≡ length c.nodes
unfolding list_row
row_long r c = length-set c.nodes r _

rows_long : (rs : List ℕ) (c : Cutset) → length (list_rows rs c).nodes ≡ length c.nodes
unfolding list_rows
rows_long [] c = refl
rows_long (r ∷ rs) c = rows_long rs (list_row r c) ∙ row_long r c

layer_long : (l : LastExact) (c : Cutset) → length (layer_cutset l c).nodes ≡ length c.nodes
unfolding layer_cutset
layer_long unsquashed c = refl
layer_long (squashed_after l) c = rows_long (rows_of l) c

if_long : (t : Bool) (x y : Cutset) (n : ℕ) → length x.nodes ≡ n → length y.nodes ≡ n → length (cond t x y).nodes ≡ n
if_long true x y n p q = p
if_long false x y n p q = q

edges_long : (es : List Edge) (l : List ℕ) (c : Cutset) → length (frontier_edges es l c).nodes ≡ length c.nodes
unfolding frontier_edges
edges_long es [] c = refl
edges_long es (e ∷ l) c = edges_long es l _ ∙ if_long ((node_at c.nodes (edge_at es e).from).exact && not (node_at c.nodes (edge_at es e).from).cutset) (list_row (edge_at es e).from c) c _ (row_long _ c) refl

front_long : (es : List Edge) (rs : List ℕ) (c : Cutset) → length (frontier_rows es rs c).nodes ≡ length c.nodes
unfolding frontier_rows
front_long es [] c = refl
front_long es (r ∷ rs) c = front_long es rs _ ∙ if_long (node_at c.nodes r).exact c (frontier_edges es (inbound es r) c) _ refl (edges_long es (inbound es r) c)

layers_long : (es : List Edge) (ls : List Range) (c : Cutset) → length (frontier_layers es ls c).nodes ≡ length c.nodes
unfolding frontier_layers
layers_long es [] c = refl
layers_long es (l ∷ ls) c = layers_long es ls _ ∙ front_long es (rows_of l) c

pub of_long : (k : CutsetKind) (d : Diagram) → length (cutset_of k d).nodes ≡ length d.nodes
unfolding cutset_of no_cutset
of_long last_exact_layer d = layer_long d.last (no_cutset d)
of_long frontier d = layers_long d.edges d.layers (no_cutset d)

cut_long : (m : Mode) (k : CutsetKind) (d : Diagram) → length (cutset_for m k d).nodes ≡ length d.nodes
unfolding cutset_for no_cutset
cut_long exactly k d = refl
cut_long restricted k d = refl
cut_long relaxing k d = of_long k d

-- The finished diagram has the rows that were grown: as many nodes, and the same edges.
pub outcome_long : (m : Mode) (k : CutsetKind) (d : Diagram) → (length (outcome m k d).diagram.nodes ≡ length d.nodes) × ((outcome m k d).diagram.edges ≡ d.edges)
unfolding outcome with_nodes
outcome_long m k d = ((bounds_dressed m d (cutset_for m k d).nodes).long ∙ cut_long m k d, refl)

pub outcome_fits : (a b : ℕ) (m : Mode) (k : CutsetKind) (d : Diagram) → Fits a b d → Fits a b (outcome m k d).diagram
outcome_fits a b m k d p =
    let l = outcome_long m k d in
    record { nodes_fit = omega (arith, l.0, p.nodes_fit); edges_fit = omega (arith, ap (length {A = Edge}) l.1, p.edges_fit) }

-- ---- whole runs

-- the tables of a run fit those rooms; where it was refused, the number is 10, 11 or 12
pub data FitRun (node_room edge_room : ℕ) : Answer → Type 0 where
  refusal : {n : ℕ} {d : Diagram} → Stop n → Fits node_room edge_room d → FitRun node_room edge_room (refused n d)
  outcome_is : {o : Outcome} → Fits node_room edge_room o.diagram → FitRun node_room edge_room (finished o)

finish_fits : (a b : ℕ) (m : Mode) (k : CutsetKind) {x : Run} → Within a b x → FitRun a b (finish m k x)
unfolding finish
finish_fits a b m k (goes {d = d} p) = outcome_is (outcome_fits a b m k d p)
finish_fits a b m k (stops n p) = refusal n p

-- In every run, finished or refused, the rows are no more than were lent; a run is refused with 10, 11 or 12 alone.
pub run_fits : (opts : Settings) (k : CutsetKind) (items : List Item) (r : Record) → FitRun opts.node_room opts.edge_room (run opts k items r)
unfolding run
run_fits opts k items r = finish_fits _ _ opts.mode k (grown_within opts items r)
