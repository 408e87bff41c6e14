-- The code's i64 beside its word: what the casts of `word` and `number` give, by cases on the sign.
use Prim.Native.Nat.{ℕ, suc, ◌+◌, ◌-◌, ◌%◌, ◌^◌, ◌<◌, ◌≤◌}
use mathlib.Core.Path.{◌≡◌, ap, ◌∙◌}
use mathlib.Core.Logic.{by_cases}
use native.Mathlib.Decide.{dec_le}
use native.Mathlib.Omega.{arith}
use lib.IntN.{ℤ, pos, negsuc}
use mir.Syntax.{w64}
use mir.Val.{SFits, to_z, of_z}
use mir.ValLaws.{to_z_pos, to_z-neg}
use Rattle.words.specs.I64.{mid, top, word, number}
use Rattle.words.proofs.Laws.{sub_below, sub_from}

-- 2 ^ 63 more than an i64, in 64 bits
pub word_wraps : (z : ℤ) → SFits w64 z → (mid + of_z w64 z) % 2 ^ 64 ≡ word z
unfolding word
word_wraps (pos n) h = let l : n < mid = h.sfits in omega arith
word_wraps (negsuc n) h = let l : n < mid = h.sfits in omega arith

-- a word from 2 ^ 63 on, and one below it, with 2 ^ 63 more in 64 bits
number_natural : (w : ℕ) → w ≤ top → mid ≤ w → to_z w64 ((mid + w) % 2 ^ 64) ≡ number w
unfolding number
number_natural w f h =
    let l : w - mid < mid = omega arith in
    let e : (mid + w) % 2 ^ 64 ≡ w - mid = omega arith in
    ap (to_z w64) e ∙ to_z_pos w64 (w - mid) l ∙ rw (sub_from w mid (omega arith))

number_negative : (w : ℕ) → w < mid → to_z w64 ((mid + w) % 2 ^ 64) ≡ number w
unfolding number
number_negative w h =
    let l : mid - 1 - w < mid = omega arith in
    let e : (mid + w) % 2 ^ 64 ≡ suc top - suc (mid - 1 - w) = omega arith in
    let d : mid - 1 - w ≡ mid - suc w = omega arith in
    ap (to_z w64) e ∙ to_z-neg w64 (mid - 1 - w) l ∙ ap negsuc d ∙ rw (sub_below w mid h)

pub number_wraps : (w : ℕ) → w ≤ top → to_z w64 ((mid + w) % 2 ^ 64) ≡ number w
number_wraps w f = by_cases (dec_le mid w) (λ h. number_natural w f h) (λ h. number_negative w (omega arith))
