-- The best exact node's path is an achieved one, in every mode: from an exact terminal, or from a best node that the walk up accepts.
use mathlib.Core.Path.{◌≡◌, refl, sym, ap, subst, ◌∙◌}
use mathlib.Core.Bool.{true, false, cond}
use mathlib.Core.List.{List, ◌∷◌}
use Prim.Native.Nat.{ℕ, zero, suc, ◌≤◌, ◌<◌}
use native.Mathlib.Omega.{arith}
use lib.ListN.{length}
use Rattle.words.specs.I64.{top}
use Rattle.knapsack.specs.Items.{Item}
use Rattle.knapsack.proofs.Cases.{by_test}
use Rattle.diagram.specs.After1.{terminals, best_of, best_node, parent_by, walk_up, exact_path, best_exact_node}
use Rattle.diagram.specs.Node.{Node, node_at, edge_at}
use Rattle.diagram.specs.Run.{Mode, exactly, restricted, relaxing}
use Rattle.diagram.specs.Tables.{Diagram, Found, at}
use Rattle.theorems.proofs.Links.{Wired, best_parent_smaller}
use Rattle.theorems.proofs.Sound.{Sound}
use Rattle.theorems.proofs.Exactness.{AllExact}
use Rattle.theorems.proofs.Terminals.{best_of_is, terminal_in, best_terminal}
use Rattle.theorems.proofs.Path.{choice_byte, PathUp, up_from, path_root, path_via, up_more, path_up, exact_deep}

-- ---- the walk up

walk_next : (f : ℕ) (d : Diagram) (y e : ℕ) → (node_at d.nodes y).exact ≡ false → (node_at d.nodes y).relaxed ≡ false → (node_at d.nodes y).best ≡ suc e → walk_up (suc f) d.nodes d.edges (at y) ≡ walk_up f d.nodes d.edges (at (edge_at d.edges e).from)
unfolding walk_up parent_by
walk_next f d y e x r b = rw (x, r, b)

walk_stops : (f : ℕ) (d : Diagram) (y : ℕ) → (node_at d.nodes y).exact ≡ false → (node_at d.nodes y).relaxed ≡ true → walk_up (suc f) d.nodes d.edges (at y) ≡ false
unfolding walk_up
walk_stops f d y x r = rw (x, r)

walk_none : (d : Diagram) (y : ℕ) → walk_up 0 d.nodes d.edges (at y) ≡ true → ⊥
unfolding walk_up
walk_none d y e = let z : ◌≡◌ {A = ℕ} 0 1 = cc in omega arith

-- where the walk succeeds the path up from the row is an achieved one
pub walk_up_lem : (items : List Item) (d : Diagram) (r₀ : Node) → Sound items r₀ d → r₀.best ≡ 0 → r₀.value ≤ top → r₀.exact ≡ true → (f g y : ℕ) → y ≤ g → y < length d.nodes → walk_up f d.nodes d.edges (at y) ≡ true → PathUp items r₀ (node_at d.nodes y) (up_from g d y)
walk_up_lem items d r₀ w b₀ h₀ x₀ zero g y lg ln t = absurd (walk_none d y t)
walk_up_lem items d r₀ w b₀ h₀ x₀ (suc f) zero zero lg ln t = path_up items d r₀ w b₀ h₀ zero zero lg ln (w.root.exact_is ∙ x₀)
walk_up_lem items d r₀ w b₀ h₀ x₀ (suc f) zero (suc y) lg ln t = absurd (omega arith)
walk_up_lem items d r₀ w b₀ h₀ x₀ (suc f) (suc g) zero lg ln t = path_up items d r₀ w b₀ h₀ (suc g) zero lg ln (w.root.exact_is ∙ x₀)
walk_up_lem items d r₀ w b₀ h₀ x₀ (suc f) (suc g) (suc y) lg ln t =
    by_test (λ b. (node_at d.nodes (suc y)).exact ≡ b → PathUp items r₀ (node_at d.nodes (suc y)) (up_from (suc g) d (suc y))) (node_at d.nodes (suc y)).exact
    (λ _ x. path_up items d r₀ w b₀ h₀ (suc g) (suc y) lg ln x)
    (λ _ x. by_test (λ b. (node_at d.nodes (suc y)).relaxed ≡ b → PathUp items r₀ (node_at d.nodes (suc y)) (up_from (suc g) d (suc y))) (node_at d.nodes (suc y)).relaxed
    (λ _ r. let s = walk_stops f d (suc y) x r in let z : ◌≡◌ {A = ℕ} 0 1 = cc in absurd (omega arith))
    (λ _ r. let v = w.traced (suc y) ln (omega arith) r in
    let s = (edge_at d.edges v.by).from in
    let u = walk_up_lem items d r₀ w b₀ h₀ x₀ f g s (omega (arith, v.before)) (omega (arith, v.before)) (sym (walk_next f d (suc y) v.by x r v.best_is) ∙ t) in
    rw (path_via g d (suc y) v.by v.best_is) (up_more items r₀ (node_at d.nodes s) (node_at d.nodes (suc y)) _ _ (up_from g d s) v.depth v.value v.choice u)) refl) refl

walk_deep : (items : List Item) (d : Diagram) (r₀ : Node) → Sound items r₀ d → r₀.depth ≤ length items → (f y : ℕ) → y < length d.nodes → walk_up (suc f) d.nodes d.edges (at y) ≡ true → (node_at d.nodes y).depth ≤ length items
walk_deep items d r₀ w h f zero ln t = omega (arith, w.root.depth_is)
walk_deep items d r₀ w h f (suc y) ln t =
    by_test (λ b. (node_at d.nodes (suc y)).exact ≡ b → (node_at d.nodes (suc y)).depth ≤ length items) (node_at d.nodes (suc y)).exact
    (λ _ x. exact_deep items d r₀ w h (suc y) ln x)
    (λ _ x. by_test (λ b. (node_at d.nodes (suc y)).relaxed ≡ b → (node_at d.nodes (suc y)).depth ≤ length items) (node_at d.nodes (suc y)).relaxed
    (λ _ r. let s = walk_stops f d (suc y) x r in let z : ◌≡◌ {A = ℕ} 0 1 = cc in absurd (omega arith))
    (λ _ r. let v = w.traced (suc y) ln (omega arith) r in omega (arith, v.depth, (choice_byte items _ _ _ _ v.choice).deep)) refl) refl

-- ---- achieved terminals

-- row r is a terminal, and its path leads from the record to it by legal decisions
pub record Achieved (items : List Item) (r₀ : Node) (d : Diagram) (r : ℕ) : Type 0 where
  pub inside : (d.start ≤ r) × (r < length d.nodes)
  pub deep : (node_at d.nodes r).depth ≤ length items
  pub up : PathUp items r₀ (node_at d.nodes r) (up_from (length d.nodes) d r)

-- the walk from the best node, of a relaxed run
exact_path_is : (m : Mode) (d : Diagram) (r : ℕ) → exact_path m d ≡ true → best_node d ≡ at r → walk_up (suc (length d.nodes)) d.nodes d.edges (at r) ≡ true
unfolding exact_path
exact_path_is exactly d r x e = let z : ◌≡◌ {A = ℕ} 0 1 = cc in absurd (omega arith)
exact_path_is restricted d r x e = let z : ◌≡◌ {A = ℕ} 0 1 = cc in absurd (omega arith)
exact_path_is relaxing d r x e = subst (λ (f : Found). walk_up (suc (length d.nodes)) d.nodes d.edges f ≡ true) e x

exact_achieved : (items : List Item) (r₀ : Node) (d : Diagram) (r : ℕ) → Sound items r₀ d → r₀.best ≡ 0 → r₀.value ≤ top → r₀.depth ≤ length items → d.start ≤ r → r < length d.nodes → (node_at d.nodes r).exact ≡ true → Achieved items r₀ d r
exact_achieved items r₀ d r w b₀ h₀ dp lo hi x = record { inside = (lo, hi); deep = exact_deep items d r₀ w dp r hi x; up = path_up items d r₀ w b₀ h₀ (length d.nodes) r (omega arith) hi x }

-- The best exact node of a run of any mode is achieved.
pub best_achieved : (items : List Item) (m : Mode) (r₀ : Node) (d : Diagram) (r : ℕ) → Sound items r₀ d → r₀.best ≡ 0 → r₀.value ≤ top → r₀.exact ≡ true → r₀.depth ≤ length items → best_exact_node m d ≡ at r → Achieved items r₀ d r
unfolding best_exact_node
best_achieved items m r₀ d r w b₀ h₀ x₀ dp e =
    (by_test (λ b. exact_path m d ≡ b → cond b (best_node d) (best_of (λ n. n.exact) d.nodes (terminals d)) ≡ at r → Achieved items r₀ d r) (exact_path m d)
    (λ _ x z. let q = best_terminal d r z in
    let t = exact_path_is m d r x z in
    record { inside = q; deep = walk_deep items d r₀ w dp (length d.nodes) r q.1 t; up = walk_up_lem items d r₀ w b₀ h₀ x₀ (suc (length d.nodes)) (length d.nodes) r (omega (arith, q.1)) q.1 t })
    (λ _ x z. let p = best_of_is (λ n. n.exact) d.nodes (terminals d) r z in
    let q = terminal_in d r p.mem in
    exact_achieved items r₀ d r w b₀ h₀ dp q.0 q.1 p.kind))
    refl e

-- In a run that is not relaxed, or was not squashed, the best node itself is achieved: all rows are exact there.
pub all_achieved : (items : List Item) (r₀ : Node) (d : Diagram) (r : ℕ) → Sound items r₀ d → AllExact d → r₀.best ≡ 0 → r₀.value ≤ top → r₀.depth ≤ length items → d.start ≤ r → r < length d.nodes → Achieved items r₀ d r
all_achieved items r₀ d r w a b₀ h₀ dp lo hi = exact_achieved items r₀ d r w b₀ h₀ dp lo hi (a r hi)

-- ---- in wired tables, of any mode, more steps than rows above change nothing: a parent's row is the smaller one

no_best : (d : Diagram) → Wired d → (y : ℕ) → y ≡ 0 → y < length d.nodes → (node_at d.nodes y).best ≡ 0
no_best d w y z h = by_best (node_at d.nodes y).best refl
  where
    by_best : (b : ℕ) → (node_at d.nodes y).best ≡ b → b ≡ 0
    by_best zero e = refl
    by_best (suc b) e = absurd (omega (arith, (best_parent_smaller d w y b h e).1))

path_step : (d : Diagram) → Wired d → (f g y : ℕ) → y < length d.nodes → ((q : ℕ) → q < y → up_from f d q ≡ up_from g d q) → up_from (suc f) d y ≡ up_from (suc g) d y
path_step d w f g y h ih = by_best (node_at d.nodes y).best refl
  where
    by_best : (b : ℕ) → (node_at d.nodes y).best ≡ b → up_from (suc f) d y ≡ up_from (suc g) d y
    by_best zero e = path_root (suc f) d y e ∙ sym (path_root (suc g) d y e)
    by_best (suc b) e =
        path_via f d y b e ∙ ap (λ (l : List ℕ). (edge_at d.edges b).decision ∷ l) (ih (edge_at d.edges b).from (best_parent_smaller d w y b h e).1) ∙ sym (path_via g d y b e)

-- The path up from row y: y steps are enough.
pub path_enough : (d : Diagram) → Wired d → (f g y : ℕ) → y ≤ f → y ≤ g → y < length d.nodes → up_from f d y ≡ up_from g d y
path_enough d w zero g y lf lg h = let z = no_best d w y (omega arith) h in path_root zero d y z ∙ sym (path_root g d y z)
path_enough d w (suc f) zero y lf lg h = let z = no_best d w y (omega arith) h in path_root (suc f) d y z ∙ sym (path_root zero d y z)
path_enough d w (suc f) (suc g) y lf lg h = path_step d w f g y h (λ q l. path_enough d w f g q (omega arith) (omega arith) (omega arith))
