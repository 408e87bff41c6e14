-- What is written is read back: the digits of every u64 stand for it.
use mathlib.Core.Path.{◌≡◌, refl, ap, ◌∙◌}
use mathlib.Core.List.{List, [], ◌∷◌, ◌++◌}
use mathlib.Core.Option.{some}
use Prim.Native.Nat.{ℕ, zero, suc, ◌+◌, ◌/◌, ◌%◌, ◌^◌, ◌<◌, ◌≤◌}
use native.Mathlib.Omega.{arith}
use native.Mathlib.Decide.{dec_le}
use borrow.Author.Tests.{lt-ltb, le-ltb}
use Rattle.numbers.specs.Decimal.{digits_in, decimal, and_then, push_all, number_of}
use Rattle.numbers.proofs.Pushing.{push_digit, push_two}

-- the last digit, behind the number that was read before it
push_last : (n : ℕ) → n < 18446744073709551616 → push_all ((48 + n % 10) ∷ []) (some (n / 10)) ≡ some n
unfolding push_all and_then
push_last n h =
    push_digit (n / 10) (48 + n % 10) (omega arith) (omega arith) (omega arith) ∙ ap some (omega arith)

module _ (f : ℕ) (before : (n : ℕ) → n < 10 ^ f → n < 18446744073709551616 → push_all (digits_in f n) (some 0) ≡ some n) where
  one : (n : ℕ) → n < 10 → push_all (digits_in (suc f) n) (some 0) ≡ some n
  unfolding digits_in push_all and_then
  one n small = rw (lt-ltb n 10 small) (push_digit 0 (48 + n) (omega arith) (omega arith) (omega arith) ∙ ap some (omega arith))

  several : (n : ℕ) → n < 10 ^ suc f → n < 18446744073709551616 → 10 ≤ n → push_all (digits_in (suc f) n) (some 0) ≡ some n
  unfolding digits_in
  several n short h large =
      rw (le-ltb n 10 large, push_two (digits_in f (n / 10)) ((48 + n % 10) ∷ []) (some 0), before (n / 10) (omega arith) (omega arith)) (push_last n h)

push_digits : (f n : ℕ) → n < 10 ^ f → n < 18446744073709551616 → push_all (digits_in f n) (some 0) ≡ some n
unfolding digits_in push_all
push_digits zero n short h = ap some (omega arith)
push_digits (suc f) n short h =
    elim (dec_le 10 n) [
      | yes large ↦ several f (λ n short h. push_digits f n short h) n short h large
      | no small ↦ one f (λ n short h. push_digits f n short h) n (omega arith)
    ]

digits_nonempty : (f n : ℕ) → number_of (digits_in (suc f) n) ≡ push_all (digits_in (suc f) n) (some 0)
unfolding digits_in number_of
digits_nonempty f n =
    elim (dec_le 10 n) [
      | yes large ↦ rw (le-ltb n 10 large) (behind (digits_in f (n / 10)) (48 + n % 10))
      | no small ↦ let few : n < 10 = omega arith in rw (lt-ltb n 10 few)
    ]
  where
    behind : (a : List ℕ) (b : ℕ) → number_of (a ++ (b ∷ [])) ≡ push_all (a ++ (b ∷ [])) (some 0)
    behind [] b = refl
    behind (x ∷ a) b = refl

-- every u64
pub read_back : (n : ℕ) → n < 18446744073709551616 → number_of (decimal n) ≡ some n
unfolding decimal
read_back n h = digits_nonempty 19 n ∙ push_digits 20 n (omega arith) h
