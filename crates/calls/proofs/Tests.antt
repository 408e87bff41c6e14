-- A test decides a statement: it is true exactly where the statement holds; and the tests that the refusals are made of.
use mathlib.Core.Path.{◌≡◌, refl, sym, ap, ◌∙◌}
use mathlib.Core.Logic.{◌⊎◌, inl, inr, ⊎_elim, ◌≢◌, ◌↔◌}
use mathlib.Core.Bool.{Bool, true, false, not, ◌&&◌, ◌||◌}
use mathlib.Core.List.Memᴰ
use mathlib.Core.List.{List, [], ◌∷◌, Memᴰ}
use Prim.Native.Nat.{ℕ, zero, suc, ◌<◌}
use native.Mathlib.Omega.{arith}
use native.Mathlib.Decide.{ℕ_discrete}
use lib.Dec.{ltb, eqb}
use lib.IntN.{ℤ, pos, negsuc}
use borrow.Author.Tests.{ltb-true, lt-ltb, eqb-true, eq-eqb}
use Rattle.calls.specs.Rows.{namings}
use Rattle.calls.specs.Refusals.{some_above, each_once, is_natural}

abbrev pub Decides : Bool → Type 0 → Type 0
Decides b P = (b ≡ true) ↔ P

true≢false : {P : Type 0} → true ≡ false → P
true≢false e = let z : ◌≡◌ {A = ℕ} 0 1 = cc in absurd (omega arith)

pub by_less : (a b : ℕ) → Decides (ltb a b) (a < b)
by_less a b = (ltb-true a b, lt-ltb a b)

pub by_equal : (a b : ℕ) → Decides (eqb a b) (a ≡ b)
by_equal a b = (eqb-true a b, eq-eqb a b)

-- the other answer of a test decides the contrary
pub by_not : (b : Bool) {P : Type 0} → Decides b P → Decides (not b) (P → ⊥)
by_not true d = (λ e. true≢false (sym e), λ h. absurd (h (d.0 refl)))
by_not false d = (λ e p. true≢false (sym (d.1 p)), λ h. refl)

pub by_or : (b c : Bool) {P Q : Type 0} → Decides b P → Decides c Q → Decides (b || c) (P ⊎ Q)
by_or true c d e = (λ z. inl (d.0 refl), λ z. refl)
by_or false c d e = (λ z. inr (e.0 z), λ z. ⊎_elim (λ p. true≢false (sym (d.1 p))) (λ q. e.1 q) z)

-- 4 and 5: some number of the list is above the limit
abbrev Above : ℕ → List ℕ → Type 0
Above limit xs = (x : ℕ) × Memᴰ x xs × (limit < x)

above_cons : (limit y : ℕ) (ys : List ℕ) → ((limit < y) ⊎ Above limit ys) ↔ Above limit (y ∷ ys)
above_cons limit y ys = (⊎_elim (λ h. (y, Memᴰ.head refl, h)) (λ z. (z.0, Memᴰ.tail z.1, z.2)), λ z. of z.0 z.1 z.2)
  where
    of : (x : ℕ) → Memᴰ x (y ∷ ys) → limit < x → (limit < y) ⊎ Above limit ys
    of x (Memᴰ.head e) h = inl (rw e at h)
    of x (Memᴰ.tail m) h = inr (x, m, h)

-- a decided statement may be put in other words
pub by_iff : {b : Bool} {P Q : Type 0} → P ↔ Q → Decides b P → Decides b Q
by_iff i d = (λ e. i.0 (d.0 e), λ q. d.1 (i.1 q))

pub by_some_above : (limit : ℕ) (xs : List ℕ) → Decides (some_above limit xs) (Above limit xs)
unfolding some_above
by_some_above limit [] = (λ e. true≢false (sym e), λ z. absurd (Memᴰ.not-nil z.1))
by_some_above limit (y ∷ ys) =
    by_iff (above_cons limit y ys) (by_or (ltb limit y) (some_above limit ys) (by_less limit y) (by_some_above limit ys))

-- 8: some item below d is not named exactly once
abbrev Missed : ℕ → List ℕ → Type 0
Missed d path = (e : ℕ) × (e < d) × (namings e path ≢ 1)

missed_suc : (d : ℕ) (path : List ℕ) → ((namings d path ≢ 1) ⊎ Missed d path) ↔ Missed (suc d) path
missed_suc d path = (
  ⊎_elim (λ h. (d, omega arith, h)) (λ z. (z.0, omega (arith, z.1), z.2)),
  λ z. elim (ℕ_discrete z.0 d) [ yes q ↦ inl (λ e. z.2 (ap (λ (i : ℕ). namings i path) q ∙ e)) | no q ↦ inr (z.0, omega (arith, z.1), z.2) ],
)

not_and : (b c : Bool) → not (b && c) ≡ (not b || not c)
not_and true c = refl
not_and false c = refl

pub by_each_once : (d : ℕ) (path : List ℕ) → Decides (not (each_once d path)) (Missed d path)
unfolding each_once
by_each_once zero path = (λ e. true≢false (sym e), λ z. absurd (omega (arith, z.1)))
by_each_once (suc d) path =
    rw (not_and (eqb (namings d path) 1) (each_once d path))
    (by_iff (missed_suc d path) (by_or (not (eqb (namings d path) 1)) (not (each_once d path)) (by_not (eqb (namings d path) 1) (by_equal (namings d path) 1)) (by_each_once d path)))

-- 9: an i64 is that natural number
pub by_natural : (z : ℤ) (n : ℕ) → Decides (is_natural z n) (pos n ≡ z)
unfolding is_natural
by_natural (pos m) n = by_iff (λ e. ap pos (sym e), λ e. cc) (by_equal m n)
by_natural (negsuc m) n = (λ e. true≢false (sym e), λ e. let z : ◌≡◌ {A = ℕ} 0 1 = cc in absurd (omega arith))
