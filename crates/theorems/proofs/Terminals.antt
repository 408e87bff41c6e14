-- The best terminal: it is a terminal of the kind asked for, and its value is at least that of each.
use mathlib.Core.Path.{◌≡◌, refl}
use mathlib.Core.Bool.{Bool, true, false, cond, ◌&&◌}
use mathlib.Core.List.{List, [], ◌∷◌, Memᴰ}
use mathlib.Core.Logic.{◌⊎◌, ⊎_elim, inl, inr}
use Prim.Native.Nat.{ℕ, ◌≤◌, ◌<◌}
use native.Mathlib.Nat.{le_trans}
use native.Mathlib.Omega.{arith}
use lib.Dec.{eqb, leb, ltb}
use lib.ListN.{length}
use borrow.Author.Tests.{eqb-true, ltb-true, ltb-false}
use Rattle.knapsack.proofs.Cases.{by_test}
use Rattle.diagram.specs.After1.{terminals, better, best_of, best_node}
use Rattle.diagram.specs.Node.{Node, node_at}
use Rattle.diagram.specs.Rule6.{by_squash}
use Rattle.diagram.specs.Tables.{Diagram, Found, at, nowhere, coming}
use Rattle.theorems.proofs.Bool.{or_false, or_true, and_true}
use Rattle.theorems.proofs.Rows.{range_mem, range_in}

-- the best terminal is worth at least each of them
pub record Tops (ns : List Node) (v : ℕ) (f : Found) : Type 0 where
  pub row : ℕ
  pub is_row : f ≡ at row
  pub least : v ≤ (node_at ns row).value

pub ahead : (ns : List Node) (r q : ℕ) → by_squash ns r q ≡ true → (node_at ns q).value ≤ (node_at ns r).value
unfolding by_squash
ahead ns r q e =
    let v = (node_at ns q).value in
    let w = (node_at ns r).value in
    let t = leb (node_at ns q).capacity (node_at ns r).capacity in
    ⊎_elim (λ a. omega (arith, ltb-true)) (λ b. omega (arith, eqb-true v w (and_true (eqb v w) t b))) (or_true (ltb v w) (eqb v w && t) e)

pub behind : (ns : List Node) (r q : ℕ) → by_squash ns r q ≡ false → (node_at ns r).value ≤ (node_at ns q).value
unfolding by_squash
behind ns r q e = ltb-false _ _ (or_false _ _ e)

pub better_new : (ns : List Node) (r : ℕ) (f : Found) → Tops ns (node_at ns r).value (better ns r f)
unfolding better
better_new ns r nowhere = record { row = r; is_row = refl; least = omega arith }
better_new ns r (at q) =
    by_test (λ b. Tops ns (node_at ns r).value (cond b (at r) (at q))) (by_squash ns r q)
    (λ e. record { row = r; is_row = refl; least = omega arith })
    (λ e. record { row = q; is_row = refl; least = behind ns r q e })

pub better_old : (ns : List Node) (r v : ℕ) (f : Found) → Tops ns v f → Tops ns v (better ns r f)
unfolding better
better_old ns r v nowhere t = let z : ◌≡◌ {A = ℕ} 0 1 = cc t.is_row in absurd (omega arith)
better_old ns r v (at q) t =
    let e : t.row ≡ q = cc t.is_row in
    let h : v ≤ (node_at ns q).value = rw e at t.least in
    by_test (λ b. Tops ns v (cond b (at r) (at q))) (by_squash ns r q)
    (λ e. record { row = r; is_row = refl; least = le_trans h (ahead ns r q e) })
    (λ e. record { row = q; is_row = refl; least = h })

pub best_tops : (ns : List Node) (r : ℕ) (rs : List ℕ) → Memᴰ r rs → Tops ns (node_at ns r).value (best_of (λ n. true) ns rs)
unfolding best_of
best_tops ns r rs (Memᴰ.head {x = q} {xs = rest} e) = rw e (better_new ns q (best_of (λ n. true) ns rest))
best_tops ns r rs (Memᴰ.tail {x = q} {xs = rest} m) = better_old ns q (node_at ns r).value (best_of (λ n. true) ns rest) (best_tops ns r rest m)

pub exact_tops : (ns : List Node) (r : ℕ) (rs : List ℕ) → Memᴰ r rs → (node_at ns r).exact ≡ true → Tops ns (node_at ns r).value (best_of (λ n. n.exact) ns rs)
unfolding best_of
exact_tops ns r rs (Memᴰ.head {x = q} {xs = rest} e) x = let x' : (node_at ns q).exact ≡ true = rw (← e) x in rw (x', e) (better_new ns q (best_of (λ n. n.exact) ns rest))
exact_tops ns r rs (Memᴰ.tail {x = q} {xs = rest} m) x =
    by_test (λ b. Tops ns (node_at ns r).value (cond b (better ns q (best_of (λ n. n.exact) ns rest)) (best_of (λ n. n.exact) ns rest))) (node_at ns q).exact
    (λ _. better_old ns q (node_at ns r).value (best_of (λ n. n.exact) ns rest) (exact_tops ns r rest m x))
    (λ _. exact_tops ns r rest m x)

pub tops_less : (ns : List Node) (v w : ℕ) (f : Found) → w ≤ v → Tops ns v f → Tops ns w f
tops_less ns v w f h t = record { row = t.row; is_row = t.is_row; least = omega (arith, t.least) }

-- the best node is one of the rows, and of the kind asked for
pub record Picks (f : Node → Bool) (ns : List Node) (rs : List ℕ) (r : ℕ) : Type 0 where
  pub mem : Memᴰ r rs
  pub kind : f (node_at ns r) ≡ true

better_is : (ns : List Node) (q : ℕ) (g : Found) (r : ℕ) → better ns q g ≡ at r → (r ≡ q) ⊎ (g ≡ at r)
unfolding better
better_is ns q nowhere r e = inl (cc)
better_is ns q (at p) r e =
    (by_test (λ b. cond b (at q) (at p) ≡ at r → (r ≡ q) ⊎ (at p ≡ at r)) (by_squash ns q p) (λ _ z. inl (cc)) (λ _ z. inr z)) e

pub best_of_is : (f : Node → Bool) (ns : List Node) (rs : List ℕ) (r : ℕ) → best_of f ns rs ≡ at r → Picks f ns rs r
unfolding best_of
best_of_is f ns [] r e = let z : ◌≡◌ {A = ℕ} 0 1 = cc in absurd (omega arith)
best_of_is f ns (q ∷ rs) r e =
    (by_test (λ b. f (node_at ns q) ≡ b → cond b (better ns q (best_of f ns rs)) (best_of f ns rs) ≡ at r → Picks f ns (q ∷ rs) r) (f (node_at ns q))
    (λ _ x z. ⊎_elim (λ y. record { mem = Memᴰ.head y; kind = rw y x }) (λ y. later (best_of_is f ns rs r y)) (better_is ns q (best_of f ns rs) r z))
    (λ _ x z. later (best_of_is f ns rs r z))) refl e
  where
    later : Picks f ns rs r → Picks f ns (q ∷ rs) r
    later p = record { mem = Memᴰ.tail p.mem; kind = p.kind }

-- the terminals are the rows of the coming layer

pub terminal_mem : (d : Diagram) (r : ℕ) → d.start ≤ r → r < length d.nodes → Memᴰ r (terminals d)
unfolding terminals coming
terminal_mem d r a b = range_mem (coming d) r a b

pub terminal_in : (d : Diagram) (r : ℕ) → Memᴰ r (terminals d) → (d.start ≤ r) × (r < length d.nodes)
unfolding terminals coming
terminal_in d r m = range_in (coming d) r m

pub cond_tops : (b : Bool) (ns : List Node) (x : ℕ) (f g : Found) → Tops ns x f → Tops ns x g → Tops ns x (cond b f g)
cond_tops true ns x f g a c = a
cond_tops false ns x f g a c = c

-- the best node is a terminal
pub best_terminal : (d : Diagram) (r : ℕ) → best_node d ≡ at r → (d.start ≤ r) × (r < length d.nodes)
unfolding best_node
best_terminal d r e = terminal_in d r (best_of_is (λ n. true) d.nodes (terminals d) r e).mem
