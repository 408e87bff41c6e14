-- What a step of the growth leaves alone: an expansion and a squash keep the stored layers, the last exact layer and the coming layer's first row; and what therefore holds whenever a layer comes.
use mathlib.Core.Path.{◌≡◌, refl, ap, subst, ◌∙◌}
use mathlib.Core.List.{List, [], ◌∷◌}
use Prim.Native.Nat.{ℕ, suc, ◌+◌, ◌<◌}
use native.Mathlib.Omega.{arith}
use lib.ListN.{length}
use Rattle.knapsack.specs.Items.{Item, takes, skips}
use Rattle.diagram.specs.Node.{Node}
use Rattle.diagram.specs.Record.{Record}
use Rattle.diagram.specs.Rule1.{root_only}
use Rattle.diagram.specs.Rule2.{ordered, store, expand_squashed, layer_step}
use Rattle.diagram.specs.Rule3.{branch_take, branch_both, note_fast, expand, expand_all}
use Rattle.diagram.specs.Rule4.{push_edge, add_edge, push_node, new_child, branch_to, branch_on}
use Rattle.diagram.specs.Rule5.{with_last, squash}
use Rattle.diagram.specs.Rule6.{Squashed, restrict, copy_edges, merge_all, squashed, keep_first, merge_into, merge, relax}
use Rattle.diagram.specs.Run.{Mode, exactly, restricted, relaxing, Settings, Run}
use Rattle.diagram.specs.Tables.{Range, Diagram, Found, at, nowhere, with_nodes}
use Rattle.theorems.proofs.Holds.{Holds, held, void, then_holds, need_holds, only_holds, holds_map, held_inv, SquashHolds, settled, halts, squash_need_holds, squash_if_holds}
use Rattle.theorems.proofs.Links.{Wired}
use Rattle.theorems.proofs.Fits.{Fits, root_fits, step_fits}
use Rattle.theorems.proofs.Layers.{Comes, first, after, comes_kept}

-- e has d's stored layers, its last exact layer and its coming layer's first row
pub record Framed (d e : Diagram) : Type 0 where
  pub start_is : e.start ≡ d.start
  pub layers_are : e.layers ≡ d.layers
  pub last_is : e.last ≡ d.last

framed : (d : Diagram) → Framed d d
framed d = record { start_is = refl; layers_are = refl; last_is = refl }

then_framed : {d e f : Diagram} → Framed d e → Framed e f → Framed d f
then_framed a b = record { start_is = b.start_is ∙ a.start_is; layers_are = b.layers_are ∙ a.layers_are; last_is = b.last_is ∙ a.last_is }

-- ---- one step

rows_framed : (d : Diagram) (ns : List Node) → Framed d (with_nodes d ns)
unfolding with_nodes
rows_framed d ns = record { start_is = refl; layers_are = refl; last_is = refl }

push_framed : (p c decision cost : ℕ) (d : Diagram) → Framed d (push_edge p c decision cost d)
unfolding push_edge
push_framed p c decision cost d = record { start_is = refl; layers_are = refl; last_is = refl }

node_framed : (n : Node) (d : Diagram) → Framed d (push_node n d)
unfolding push_node
node_framed n d = rows_framed d _

-- ---- the expansion of a layer

branch_framed : (f : Found) (s : Settings) (p decision cost capacity : ℕ) (d : Diagram) → Holds (Framed d) (branch_to f s p decision cost capacity d)
unfolding branch_to add_edge new_child
branch_framed (at c) s p decision cost capacity d = need_holds {P = Framed d} _ _ _ _ (λ _. held (push_framed p c decision cost d))
branch_framed nowhere s p decision cost capacity d =
    need_holds {P = Framed d} _ _ _ _ (λ _. need_holds {P = Framed d} _ _ _ _ (λ _. need_holds {P = Framed d} _ _ _ _
    (λ _. held (then_framed (node_framed _ d) (push_framed p (length d.nodes) decision cost _)))))

onward : {d e : Diagram} {r : Run} → Framed d e → Holds (Framed e) r → Holds (Framed d) r
onward a h = holds_map (λ f b. then_framed a b) h

expand_one : (s : Settings) (left : List Item) (i : Item) (k : ℕ) (d : Diagram) (p : ℕ) → Holds (Framed d) (expand s left i k d p)
unfolding expand branch_both branch_take branch_on note_fast
expand_one s left i k d p =
    let n = rows_framed d _ in
    only_holds {P = Framed d} _ _ _
    (λ _. then_holds {P = Framed d} {Q = Framed d} _ (only_holds {P = Framed d} _ _ _ (λ _. onward n (branch_framed _ s p (takes k) i.profit _ _)) (λ _. n)) (λ e a. onward a (branch_framed _ s p (skips k) 0 _ e)))
    (λ _. n)

pub expand_framed : (s : Settings) (left : List Item) (i : Item) (k : ℕ) (ps : List ℕ) (d : Diagram) → Holds (Framed d) (expand_all s left i k ps d)
unfolding expand_all
expand_framed s left i k [] d = held (framed d)
expand_framed s left i k (p ∷ ps) d = then_holds {P = Framed d} {Q = Framed d} _ (expand_one s left i k d p) (λ e a. onward a (expand_framed s left i k ps e))

-- ---- the squash

pub restrict_framed : (s : Settings) (rows : List ℕ) (d : Diagram) → SquashHolds (λ e _. Framed d e) (restrict s rows d)
unfolding restrict
restrict_framed s rows d = settled (rows_framed d _)

copy_framed : (s : Settings) (m : ℕ) (es : List ℕ) (d : Diagram) → Holds (Framed d) (copy_edges s m es d)
unfolding copy_edges add_edge
copy_framed s m [] d = held (framed d)
copy_framed s m (e ∷ es) d = then_holds {P = Framed d} {Q = Framed d} _ (need_holds {P = Framed d} _ _ _ _ (λ _. held (push_framed _ m _ _ d))) (λ f a. onward a (copy_framed s m es f))

merge_framed : (s : Settings) (m : ℕ) (rs : List ℕ) (d : Diagram) → Holds (Framed d) (merge_all s m rs d)
unfolding merge_all
merge_framed s m [] d = held (framed d)
merge_framed s m (r ∷ rs) d = then_holds {P = Framed d} {Q = Framed d} _ (onward (rows_framed d _) (copy_framed s m _ _)) (λ f a. onward a (merge_framed s m rs f))

squashed_framed : (d : Diagram) (run : Run) (f : Diagram → Diagram) (rows : List ℕ) → Holds (Framed d) run → ((e : Diagram) → Framed e (f e)) → SquashHolds (λ e _. Framed d e) (squashed run f rows)
unfolding squashed
squashed_framed d run f rows (held {d = e} a) k = settled (then_framed a (k e))
squashed_framed d run f rows void k = halts

into_framed : (t : Found) (s : Settings) (capacity : ℕ) (kept rest : List ℕ) (d : Diagram) → SquashHolds (λ e _. Framed d e) (merge_into t s capacity kept rest d)
unfolding merge_into keep_first
into_framed (at m) s capacity kept rest d = squashed_framed d _ _ _ (onward (rows_framed d _) (merge_framed s m rest _)) (λ e. rows_framed e _)
into_framed nowhere s capacity kept rest d =
    squash_need_holds {P = λ e _. Framed d e} _ _ _ _ (squash_need_holds {P = λ e _. Framed d e} _ _ _ _ (squashed_framed d _ _ _ (onward (node_framed _ d) (merge_framed s _ rest _)) (λ e. framed e)))

pub relax_framed : (s : Settings) (rows : List ℕ) (d : Diagram) → SquashHolds (λ e _. Framed d e) (relax s rows d)
unfolding relax merge
relax_framed s rows d = into_framed _ s _ _ _ d

-- a squash keeps the stored layers, whether it is needed or not
last_layers : (d : Diagram) → (with_last d).layers ≡ d.layers
unfolding with_last
last_layers d = refl

layers_kept : (d : Diagram) {x : Squashed} → SquashHolds (λ e _. Framed (with_last d) e) x → SquashHolds (λ e _. e.layers ≡ d.layers) x
layers_kept d (settled a) = settled (a.layers_are ∙ last_layers d)
layers_kept d halts = halts

squash_layers : (m : Mode) (s : Settings) (rows : List ℕ) (d : Diagram) → SquashHolds (λ e _. e.layers ≡ d.layers) (squash m s rows d)
unfolding squash
squash_layers exactly s rows d = settled refl
squash_layers restricted s rows d = squash_if_holds {P = λ e _. e.layers ≡ d.layers} _ _ _ (λ _. layers_kept d (restrict_framed s _ (with_last d))) (λ _. settled refl)
squash_layers relaxing s rows d = squash_if_holds {P = λ e _. e.layers ≡ d.layers} _ _ _ (λ _. layers_kept d (relax_framed s _ (with_last d))) (λ _. settled refl)

-- ---- whenever a layer comes

pub comes_wired : {opts : Settings} {items : List Item} {r : Record} {k : ℕ} {d : Diagram} → Comes opts items r k d → Wired d
comes_wired c = (comes_kept c).wired

pub comes_fits : {opts : Settings} {items : List Item} {r : Record} {k : ℕ} {d : Diagram} → 0 < opts.node_room → Comes opts items r k d → Fits opts.node_room opts.edge_room d
comes_fits {opts} {items} {r} h first = root_fits opts r h
comes_fits {opts} {items} {r} h (after {k = k} {d = d} i is e c q s) =
    held_inv (subst (λ (x : Run). Holds (Fits opts.node_room opts.edge_room) x) s (step_fits opts (i ∷ is) i k d (comes_fits h c)))

-- one layer more is stored
abbrev OneMore : Diagram → Diagram → Type 0
OneMore d e = length e.layers ≡ suc (length d.layers)

store_more : (d e : Diagram) → e.layers ≡ d.layers → OneMore d (store e)
unfolding store
store_more d e h = ap (λ (ls : List Range). suc (length ls)) h

step_more : (s : Settings) (left : List Item) (i : Item) (k : ℕ) (d : Diagram) (x : Squashed) → SquashHolds (λ e _. e.layers ≡ d.layers) x → Holds (OneMore d) (expand_squashed x s left i k)
unfolding expand_squashed
step_more s left i k d x (settled {d = e} {l = l} h) = holds_map (λ f a. ap (length {A = Range}) a.layers_are ∙ store_more d e h) (expand_framed s left i k l (store e))
step_more s left i k d x halts = void

layer_more : (s : Settings) (left : List Item) (i : Item) (k : ℕ) (d : Diagram) → Holds (OneMore d) (layer_step s left i k d)
unfolding layer_step
layer_more s left i k d = step_more s left i k d (squash s.mode s (ordered d) d) (squash_layers s.mode s (ordered d) d)

root_stored : (r : Record) → length (root_only r).layers ≡ 0
unfolding root_only
root_stored r = refl

-- as many layers are stored as items are decided
pub comes_stored : {opts : Settings} {items : List Item} {r : Record} {k : ℕ} {d : Diagram} → Comes opts items r k d → length d.layers + r.depth ≡ k
comes_stored {opts} {items} {r} first = omega (arith, root_stored r)
comes_stored {opts} {items} {r} (after {k = k} {d = d} i is e c q s) =
    let h : OneMore d e = held_inv (subst (λ (x : Run). Holds (OneMore d) x) s (layer_more opts (i ∷ is) i k d)) in
    omega (arith, comes_stored c)
