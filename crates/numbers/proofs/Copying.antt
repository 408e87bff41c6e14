-- The digits of a number as what was copied into a buffer, from a place on.
use Rattle.std.proofs.Common.{ℕ, ◌≡◌, ◌+◌, ◌-◌, ◌≤◌, List, length, refl, ap, ◌∙◌, arith}
use borrow.Rule.Slice.PartMut.{put_mid}
use Rattle.std.proofs.lemmas.List.{drop-drop}
use Rattle.numbers.specs.Decimal.{decimal}
use Rattle.numbers.specs.Written.{Written}

-- where the digits of n, k of them, were copied
pub written : (n at k : ℕ) (before text : List ℕ) → text ≡ decimal n → k ≡ length text → k ≤ 20 → Written n at before (at + k) (put_mid at (at + k - at) before text)
written n at k before text e count short =
    let z : at + k - at ≡ k = omega arith in
    record {
      digits_stand = rw (e, z, drop-drop) refl;
      behind = ap (λ m. at + m) (count ∙ ap length e);
      few = omega arith;
    }
