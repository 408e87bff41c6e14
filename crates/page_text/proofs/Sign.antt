-- An i64 as the natural number that it is, 0 where it is below 0.
use Prim.Native.Nat.{ℕ, zero, suc}
use mathlib.Core.Path.{◌≡◌, refl, ap, ◌∙◌}
use mathlib.Core.Bool.{Bool, cond}
use native.Mathlib.Omega.{arith}
use lib.IntN.{ℤ, pos, negsuc, nat_abs}
use borrow.Author.Tests.{lt-ltb}
use mir.Syntax.{w64}
use mir.Val.{SFits, to_z, of_z}
use mir.ValLaws.{to_z-of_z}
use Rattle.std.specs.Int.{int_max}
use Rattle.jobs.specs.Page.{natural}

natural_max : (z : ℤ) → nat_abs (int_max z (pos 0)) ≡ natural z
unfolding natural
natural_max (pos zero) = refl
natural_max (pos (suc n)) = ap (λ (b : Bool). nat_abs (cond b (pos (suc n)) (pos 0))) (lt-ltb 0 (suc n) (omega arith))
natural_max (negsuc n) = refl

-- the larger of an i64 and 0, read as an i64
pub natural_is : (z m : ℤ) → SFits w64 z → SFits w64 m → m ≡ int_max (to_z w64 (of_z w64 z)) (pos 0) → nat_abs (to_z w64 (of_z w64 m)) ≡ natural z
natural_is z m fits fits' e =
    ap nat_abs (to_z-of_z w64 m fits') ∙ ap nat_abs e ∙ ap (λ (x : ℤ). nat_abs (int_max x (pos 0))) (to_z-of_z w64 z fits) ∙ natural_max z

-- what a function gives of an i64 that was handed to it
pub value_is : (z : ℤ) → SFits w64 z → {v : ℕ} → v ≡ natural (to_z w64 (of_z w64 z)) → v ≡ natural z
value_is z h e = e ∙ ap natural (to_z-of_z w64 z h)
