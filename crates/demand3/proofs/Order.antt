-- The order of i64 numbers, as far as best values and bounds need it.
use mathlib.Core.Path.{◌≡◌, refl, ap}
use mathlib.Core.Bool.{Bool, true, false, not}
use mathlib.Core.Logic.{◌⊎◌, inl, inr, ⊎_elim}
use Prim.Native.Nat.{ℕ}
use native.Mathlib.Omega.{arith}
use lib.Dec.{T, leb→le, le→leb, ltb→lt}
use lib.IntN.{ℤ, pos, negsuc}
use lib.Signed.{◌≤ℤ◌, ◌<ℤ◌, lt_z, lt_z_no, <ℤ-≤ℤ_trans, clash_ℤ}
use Rattle.demand2.proofs.Numbers.{true_test, test_true}

-- ---- the test, as it came out

pub below_if : (a b : ℤ) → lt_z a b ≡ true → a <ℤ b
below_if a b e = record { lt = true_test (lt_z a b) e }

pub at_most_if : (a b : ℤ) → lt_z a b ≡ false → b ≤ℤ a
at_most_if a b e = lt_z_no (passed (lt_z a b) e)
  where
    passed : (t : Bool) → t ≡ false → T (not t)
    passed true q = let z : ◌≡◌ {A = ℕ} 0 1 = cc in absurd (omega arith)
    passed false q = tt

pub test_below : (a b : ℤ) → a <ℤ b → lt_z a b ≡ true
test_below a b h = test_true (lt_z a b) h.lt

pub test_at_most : (a b : ℤ) → b ≤ℤ a → lt_z a b ≡ false
test_at_most a b h = came (lt_z a b) refl
  where
    came : (t : Bool) → lt_z a b ≡ t → lt_z a b ≡ false
    came true q = clash_ℤ (below_if a b q) h
    came false q = q

-- ---- laws

pub below_or_not : (a b : ℤ) → (a <ℤ b) ⊎ (b ≤ℤ a)
below_or_not a b = came (lt_z a b) refl
  where
    came : (t : Bool) → lt_z a b ≡ t → (a <ℤ b) ⊎ (b ≤ℤ a)
    came true q = inl (below_if a b q)
    came false q = inr (at_most_if a b q)

pub not_below : (a b : ℤ) → ¬ (a <ℤ b) → b ≤ℤ a
not_below a b h = ⊎_elim (λ l. absurd (h l)) (λ l. l) (below_or_not a b)

pub at_most_of_below : (a b : ℤ) → a <ℤ b → a ≤ℤ b
at_most_of_below (pos a) (pos b) h = record { le = le→leb a b (let l = ltb→lt a b h.lt in omega arith) }
at_most_of_below (pos a) (negsuc b) h = absurd h.lt
at_most_of_below (negsuc a) (pos b) h = record { le = tt }
at_most_of_below (negsuc a) (negsuc b) h = record { le = le→leb b a (let l = ltb→lt b a h.lt in omega arith) }

pub at_most_trans : (a b c : ℤ) → a ≤ℤ b → b ≤ℤ c → a ≤ℤ c
at_most_trans a b c h k = not_below c a (λ l. clash_ℤ (<ℤ-≤ℤ_trans l h) k)

pub at_most_below : (a b c : ℤ) → a ≤ℤ b → b <ℤ c → a <ℤ c
at_most_below a b c h k = ⊎_elim (λ l. l) (λ l. clash_ℤ k (at_most_trans c a b l h)) (below_or_not a c)

pub same_both : (a b : ℤ) → a ≤ℤ b → b ≤ℤ a → a ≡ b
same_both (pos a) (pos b) h k = let e : a ≡ b = omega (arith, leb→le a b h.le, leb→le b a k.le) in ap pos e
same_both (pos a) (negsuc b) h k = absurd h.le
same_both (negsuc a) (pos b) h k = absurd k.le
same_both (negsuc a) (negsuc b) h k = let e : a ≡ b = omega (arith, leb→le b a h.le, leb→le a b k.le) in ap negsuc e
