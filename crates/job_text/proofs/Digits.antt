-- A number's digits: one more of them behind a number that has no leading zero, in the definition of the digits.
use mathlib.Core.Path.{◌≡◌, sym, ap, ◌∙◌}
use mathlib.Core.List.{List, [], ◌∷◌, ◌++◌}
use Prim.Native.Nat.{ℕ, zero, suc, ◌+◌, ◌*◌, ◌/◌, ◌%◌, ◌^◌, ◌<◌, ◌≤◌}
use native.Mathlib.Omega.{arith}
use native.Mathlib.Decide.{dec_le}
use borrow.Author.Tests.{lt-ltb, le-ltb}
use Rattle.numbers.specs.Decimal.{digits_in, decimal}

pub opened : (k n : ℕ) → 10 ≤ n → digits_in (suc k) n ≡ digits_in k (n / 10) ++ ((48 + n % 10) ∷ [])
unfolding digits_in
opened k n large = rw (le-ltb n 10 large)

-- Room for one digit more changes nothing.
roomy_one : (k n : ℕ) → n < 10 → digits_in (suc k) n ≡ digits_in (suc (suc k)) n
unfolding digits_in
roomy_one k n few = rw (lt-ltb n 10 few)

roomy_more : (k n : ℕ) → 10 ≤ n → digits_in k (n / 10) ≡ digits_in (suc k) (n / 10) → digits_in (suc k) n ≡ digits_in (suc (suc k)) n
roomy_more k n large before = opened k n large ∙ (ap (λ (l : List ℕ). l ++ ((48 + n % 10) ∷ [])) before ∙ sym (opened (suc k) n large))

roomier : (k n : ℕ) → n < 10 ^ suc k → digits_in (suc k) n ≡ digits_in (suc (suc k)) n
roomier zero n h = roomy_one 0 n (omega arith)
roomier (suc k) n h =
    elim (dec_le 10 n) [
      | yes large ↦ roomy_more (suc k) n large (roomier k (n / 10) (omega arith))
      | no small ↦ roomy_one (suc k) n (omega arith)
    ]

pub one_digit : (d : ℕ) → d < 10 → decimal d ≡ (48 + d) ∷ []
unfolding decimal digits_in
one_digit d h = rw (lt-ltb d 10 h)

-- a digit behind a number that is not 0
last_digit : (n d : ℕ) → d < 10 → 0 < n → digits_in 20 (n * 10 + d) ≡ digits_in 19 n ++ ((48 + d) ∷ [])
last_digit n d small some =
    let large : 10 ≤ n * 10 + d = omega arith in
    let front : (n * 10 + d) / 10 ≡ n = omega arith in
    let back : (n * 10 + d) % 10 ≡ d = omega arith in
    opened 19 (n * 10 + d) large ∙ (ap (λ (m : ℕ). digits_in 19 m ++ ((48 + (n * 10 + d) % 10) ∷ [])) front ∙ ap (λ (m : ℕ). digits_in 19 n ++ ((48 + m) ∷ [])) back)

pub digit_more : (n d : ℕ) → d < 10 → 0 < n → n < 100000000 → decimal (n * 10 + d) ≡ decimal n ++ ((48 + d) ∷ [])
unfolding decimal
digit_more n d small some few =
    last_digit n d small some ∙ ap (λ (l : List ℕ). l ++ ((48 + d) ∷ [])) (roomier 18 n (omega arith))
