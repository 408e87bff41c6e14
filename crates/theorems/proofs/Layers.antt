-- The layers of a run, in every mode: whenever a layer comes, before its squash, its rows have different capacities, none is deleted, and all have its depth.
use mathlib.Core.Path.{◌≡◌, sym, subst, ◌∙◌}
use mathlib.Core.List.{List, [], ◌∷◌}
use Prim.Native.Nat.{ℕ, suc, ◌+◌, ◌-◌, ◌≤◌, ◌<◌}
use native.Mathlib.Omega.{arith}
use lib.ListN.{length, length-append, drop, take, length-set}
use borrow.Author.Tests.{ltb-true}
use Rattle.knapsack.specs.Items.{Item, takes, skips}
use Rattle.diagram.specs.Node.{Node, node_at}
use Rattle.diagram.specs.Record.{Record}
use Rattle.diagram.specs.Rule1.{root_only}
use Rattle.diagram.specs.Rule2.{ordered, store, expand_squashed, layer_step}
use Rattle.diagram.specs.Rule3.{branch_take, branch_both, note_fast, expand, expand_all}
use Rattle.diagram.specs.Rule4.{push_edge, add_edge, lookup, push_node, child_of, new_child, branch_to, branch_on}
use Rattle.diagram.specs.Rule5.{squash}
use Rattle.diagram.specs.Rule6.{sort_by, by_squash, Squashed, layer, halted, merged_capacity, twin_of}
use Rattle.diagram.specs.Run.{Settings, Run, going, layer_room}
use Rattle.diagram.specs.Tables.{Diagram, Found, at, nowhere, with_nodes}
use Rattle.theorems.proofs.Holds.{Holds, held, void, then_holds, need_holds, only_holds, held_inv}
use Rattle.theorems.proofs.Rows.{lookup_at, found_in, found_cap}
use Rattle.theorems.proofs.Sort.{ordered_length}
use Rattle.theorems.proofs.Arc.{Coming}
use Rattle.theorems.proofs.Squash.{Parted, parted, no_twin}
use Rattle.theorems.proofs.Growth.{Ready, Step, layer_steps, step_ready, root_ready}
use Rattle.theorems.proofs.Tower.{root_row}
use Rattle.theorems.proofs.Exactness.{Kept, step_kept, root_kept}

-- d: the tables of a run when the layer of depth k comes
pub data Comes (opts : Settings) (items : List Item) (r : Record) : ℕ → Diagram → Type 0 where
  first : Comes opts items r r.depth (root_only r)
  after : {k : ℕ} {d : Diagram} (i : Item) (is : List Item) (e : Diagram) → Comes opts items r k d → drop k items ≡ i ∷ is → layer_step opts (i ∷ is) i k d ≡ going e → Comes opts items r (suc k) e

step_taken : (opts : Settings) (items : List Item) (i : Item) (is : List Item) (k : ℕ) (d e : Diagram) → drop k items ≡ i ∷ is → Ready k d → layer_step opts (i ∷ is) i k d ≡ going e → Step items opts.lower opts.mode k d e
unfolding layer_step
step_taken opts items i is k d e q g s = held_inv (subst (λ (x : Run). Holds (Step items opts.lower opts.mode k d) x) s (layer_steps opts.mode items opts i is k d q g))

pub comes_ready : {opts : Settings} {items : List Item} {r : Record} {k : ℕ} {d : Diagram} → Comes opts items r k d → Ready k d
comes_ready {opts} {items} {r} first = root_ready r
comes_ready {opts} {items} {r} (after {k = k} {d = d} i is e c q s) = step_ready items opts.lower opts.mode k d e (step_taken opts items i is k d e q (comes_ready c) s)

-- the links, soundness and exactness hold there too, and the tower in relaxed and exact runs
pub comes_kept : {opts : Settings} {items : List Item} {r : Record} {k : ℕ} {d : Diagram} → Comes opts items r k d → Kept items opts.lower (root_row r) opts.mode k d
comes_kept {opts} {items} {r} first = root_kept items opts.lower opts.mode r
comes_kept {opts} {items} {r} (after {k = k} {d = d} i is e c q s) =
    let g = comes_ready c in
    step_kept items opts.lower (root_row r) opts.mode k d e g (step_taken opts items i is k d e q g s) (comes_kept c)

-- Before its squash a layer never has two rows of one capacity.
pub capacities_differ : {opts : Settings} {items : List Item} {r : Record} {k : ℕ} {d : Diagram} → Comes opts items r k d → (a b : ℕ) → d.start ≤ a → a < length d.nodes → d.start ≤ b → b < length d.nodes → (node_at d.nodes a).capacity ≡ (node_at d.nodes b).capacity → a ≡ b
capacities_differ c = (comes_ready c).now.caps

-- So, in the middle of an expansion too, the row that a lookup gives is the only one of that capacity.
pub lookup_only : (k : ℕ) (d : Diagram) → Coming k d → (capacity t : ℕ) → lookup capacity (drop d.start d.nodes) d.start ≡ at t → (q : ℕ) → d.start ≤ q → q < length d.nodes → (node_at d.nodes q).capacity ≡ capacity → q ≡ t
lookup_only k d g capacity t e q a b z =
    let l = lookup_at capacity (drop d.start d.nodes) d.start t e in
    g.caps q t a b (omega (arith, l.is_at)) (found_in capacity d t l) (z ∙ sym (found_cap capacity d t l))

-- No squash of a run finds a kept twin.
pub twin_never : {opts : Settings} {items : List Item} {r : Record} {k : ℕ} {d : Diagram} → Comes opts items r k d → (n : ℕ) (q m : ℕ) (qs : List ℕ) → drop n (sort_by (by_squash d.nodes) (ordered d)) ≡ q ∷ qs → twin_of d.nodes (merged_capacity d.nodes (q ∷ qs)) (take n (sort_by (by_squash d.nodes) (ordered d))) ≡ at m → ⊥
twin_never {opts} {items} {r} {k} {d} c n q m qs e t =
    no_twin k (take n (sort_by (by_squash d.nodes) (ordered d))) q qs d m (comes_ready c).now (subst (λ (l : List ℕ). Parted d (take n (sort_by (by_squash d.nodes) (ordered d))) l) e (parted d (by_squash d.nodes) n)) t

-- ---- a coming layer has 1,024 rows at most, in every mode

abbrev pub Fits1024 : Diagram → Type 0
Fits1024 d = length d.nodes ≤ d.start + layer_room

push_few : (p c decision cost : ℕ) (d : Diagram) → Fits1024 d → Fits1024 (push_edge p c decision cost d)
unfolding push_edge
push_few p c decision cost d h = rw length-set h

node_few : (n : Node) (d : Diagram) → length d.nodes - d.start < layer_room → Fits1024 (push_node n d)
unfolding push_node with_nodes
node_few n d h = simp length-append (omega arith)

note_few : (left : List Item) (p : ℕ) (d : Diagram) → Fits1024 d → Fits1024 (note_fast left p d)
unfolding note_fast with_nodes
note_few left p d h = rw length-set h

branch_to_few : (f : Found) (opts : Settings) (p decision cost capacity : ℕ) (d : Diagram) → Fits1024 d → Holds Fits1024 (branch_to f opts p decision cost capacity d)
unfolding branch_to add_edge new_child
branch_to_few (at c) opts p decision cost capacity d h = need_holds {P = Fits1024} _ _ _ _ (λ _. held (push_few p c decision cost d h))
branch_to_few nowhere opts p decision cost capacity d h =
    need_holds {P = Fits1024} _ _ _ _ (λ t. need_holds {P = Fits1024} _ _ _ _ (λ _. need_holds {P = Fits1024} _ _ _ _
    (λ _. held (push_few p (length d.nodes) decision cost (push_node (child_of p cost capacity d.nodes) d) (node_few _ d (ltb-true _ _ t))))))

branch_few : (opts : Settings) (p decision cost capacity : ℕ) (d : Diagram) → Fits1024 d → Holds Fits1024 (branch_on opts p decision cost capacity d)
unfolding branch_on
branch_few opts p decision cost capacity d h = branch_to_few (lookup capacity (drop d.start d.nodes) d.start) opts p decision cost capacity d h

pub expand_few : (opts : Settings) (left : List Item) (i : Item) (k : ℕ) (d : Diagram) (p : ℕ) → Fits1024 d → Holds Fits1024 (expand opts left i k d p)
unfolding expand branch_both branch_take
expand_few opts left i k d p h =
    let n = note_few left p d h in
    only_holds {P = Fits1024} _ _ _
    (λ _. then_holds {P = Fits1024} _ (only_holds {P = Fits1024} _ _ _ (λ _. branch_few opts p (takes k) i.profit _ (note_fast left p d) n) (λ _. n)) (λ e q. branch_few opts p (skips k) 0 _ e q))
    (λ _. n)

pub all_few : (opts : Settings) (left : List Item) (i : Item) (k : ℕ) (ps : List ℕ) (d : Diagram) → Fits1024 d → Holds Fits1024 (expand_all opts left i k ps d)
unfolding expand_all
all_few opts left i k [] d h = held h
all_few opts left i k (p ∷ ps) d h = then_holds {P = Fits1024} _ (expand_few opts left i k d p h) (λ e q. all_few opts left i k ps e q)

store_few : (d : Diagram) → Fits1024 (store d)
unfolding store
store_few d = omega arith

squashed_few : (opts : Settings) (left : List Item) (i : Item) (k : ℕ) (x : Squashed) → Holds Fits1024 (expand_squashed x opts left i k)
unfolding expand_squashed
squashed_few opts left i k (layer d l) = all_few opts left i k l (store d) (store_few d)
squashed_few opts left i k (halted n d) = void

root_few : (r : Record) → Fits1024 (root_only r)
unfolding root_only
root_few r = omega arith

step_few : (opts : Settings) (left : List Item) (i : Item) (k : ℕ) (d e : Diagram) → layer_step opts left i k d ≡ going e → Fits1024 e
unfolding layer_step
step_few opts left i k d e q = held_inv {P = Fits1024} (subst (λ (x : Run). Holds Fits1024 x) q (squashed_few opts left i k (squash opts.mode opts (ordered d) d)))

-- Whenever a layer comes it has 1,024 rows at most.
pub comes_few : {opts : Settings} {items : List Item} {r : Record} {k : ℕ} {d : Diagram} → Comes opts items r k d → length (ordered d) ≤ layer_room
comes_few {d = d} c = omega (arith, ordered_length d, few c)
  where
    few : {opts : Settings} {items : List Item} {r : Record} {k : ℕ} {d : Diagram} → Comes opts items r k d → Fits1024 d
    few {r = r} first = root_few r
    few {opts} {items} {r} (after {k = k} {d = d} i is e c q s) = step_few opts (i ∷ is) i k d e s
