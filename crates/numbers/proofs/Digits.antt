-- The digits that the kit's `io` writes are those of our definition.
use mathlib.Core.Path.{◌≡◌, sym, ap, subst, ◌∙◌}
use mathlib.Core.List.{List, [], ◌∷◌, ◌++◌}
use Prim.Native.Nat.{ℕ, zero, suc, ◌+◌, ◌-◌, ◌/◌, ◌%◌, ◌^◌, ◌<◌, ◌≤◌}
use native.Mathlib.Omega.{arith}
use native.Mathlib.Nat.{one-le-pow, pow-le-pow_right}
use native.Mathlib.Decide.{dec_le}
use borrow.Author.Tests.{lt-ltb, le-ltb}
use Rattle.io.specs.Digits.{last_digits, hex_digit_ascii, IsDigitCount}
use Rattle.numbers.specs.Decimal.{digits_in, decimal}

glyph_is : (d : ℕ) → d < 10 → hex_digit_ascii d ≡ 48 + d
glyph_is d h = rw (lt-ltb d 10 h)

-- Two digits or more: the number is 10 at least, and without its last digit it has one digit less.
least : (k n : ℕ) → IsDigitCount 10 1 n (suc (suc k)) → 10 ^ suc k ≤ n
least k n few =
    let last : suc (suc k) - 1 ≡ suc k = omega arith in
    let two : 1 < suc (suc k) = omega arith in
    subst (λ (m : ℕ). 10 ^ m ≤ n) last (few.2 two)

fewer : (k n : ℕ) → IsDigitCount 10 1 n (suc (suc k)) → IsDigitCount 10 1 (n / 10) (suc k)
fewer k n few =
    let top : n < 10 ^ suc (suc k) = few.1 in
    let low : 10 ^ suc k ≤ n = least k n few in
    (omega arith, omega arith, (λ more. let last : suc k - 1 ≡ k = omega arith in subst (λ (m : ℕ). 10 ^ m ≤ n / 10) (sym last) (omega arith)))

ap_two : {a b : List ℕ} {x y : ℕ} → a ≡ b → x ≡ y → a ++ (x ∷ []) ≡ b ++ (y ∷ [])
ap_two p q = cc

module _ (f : ℕ) (before : (k n : ℕ) → IsDigitCount 10 1 n k → k ≤ f → last_digits 10 k n ≡ digits_in f n) where
  step : (k n : ℕ) → IsDigitCount 10 1 n k → k ≤ suc f → last_digits 10 k n ≡ digits_in (suc f) n
  unfolding digits_in
  step zero n few h = absurd (omega arith)
  step (suc zero) n few h =
      let small : n < 10 = omega arith in
      let same : n % 10 ≡ n = omega arith in
      rw (lt-ltb n 10 small) (ap (λ (d : ℕ). d ∷ []) (glyph_is (n % 10) (omega arith) ∙ ap (λ (d : ℕ). 48 + d) same))
  step (suc (suc k)) n few h =
      let low : 10 ^ suc k ≤ n = least k n few in
      let some : 1 ≤ 10 ^ k = one-le-pow k 10 (omega arith) in
      let large : 10 ≤ n = omega arith in
      let shorter : suc k ≤ f = omega arith in
      rw (le-ltb n 10 large) (ap_two (before (suc k) (n / 10) (fewer k n few) shorter) (glyph_is (n % 10) (omega arith)))

pub digits_are : (f k n : ℕ) → IsDigitCount 10 1 n k → k ≤ f → last_digits 10 k n ≡ digits_in f n
digits_are zero k n few h = absurd (omega arith)
digits_are (suc f) k n few h = step f (λ k n few h. digits_are f k n few h) k n few h

-- A u64 has no more than 20 digits.
pub at_most_twenty : (k n : ℕ) → IsDigitCount 10 1 n k → n < 18446744073709551616 → k ≤ 20
at_most_twenty k n few h =
    elim (dec_le k 20) [
      | yes short ↦ short
      | no long ↦
          let twenty : 20 ≤ k - 1 = omega arith in
          let more : 1 < k = omega arith in
          let low : 10 ^ (k - 1) ≤ n = few.2 more in
          let high : 10 ^ 20 ≤ 10 ^ (k - 1) = pow-le-pow_right (omega arith) twenty in
          absurd (omega arith)
    ]

-- the digits, as many as there are
pub decimal_is : (k n : ℕ) → IsDigitCount 10 1 n k → n < 18446744073709551616 → last_digits 10 k n ≡ decimal n
unfolding decimal
decimal_is k n few h = digits_are 20 k n few (at_most_twenty k n few h)
