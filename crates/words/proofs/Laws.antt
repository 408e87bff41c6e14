-- The laws of i64 numbers in words: word and number are inverse, words are ordered as their numbers are, and `sat_add` is the saturating sum.
use Prim.Native.Nat.{ℕ, suc, ◌+◌, ◌-◌, ◌^◌, ◌≤◌, ◌<◌, min, max}
use mathlib.Core.Path.{◌≡◌, refl, sym, ap, ◌∙◌}
use mathlib.Core.Logic.{by_cases}
use native.Mathlib.Decide.{dec_le, dec_lt}
use native.Mathlib.Omega.{arith}
use lib.Dec.{leb, ltb, leb→le, le→leb}
use lib.IntN.{ℤ, pos, negsuc, sub_ℕ, ◌+ℤ◌}
use lib.Signed.{mag, le_z, lt_z}
use borrow.Author.Tests.{lt-ltb, le-ltb, le-leb, lt-leb}
use Rattle.words.specs.I64.{mid, top, InI64, word, number, clamp, sat_add}

-- ---- i64 as one bound in ℕ: n < 2 ^ 63, both for n and for -(n + 1)

pub magnitude_of_i64 : (z : ℤ) → InI64 z → mag z < mid
magnitude_of_i64 (pos n) h = omega (arith, leb→le n (2 ^ 63 - 1) h.high.le)
magnitude_of_i64 (negsuc n) h = omega (arith, leb→le n (2 ^ 63 - 1) h.low.le)

pub i64_of_magnitude : (z : ℤ) → mag z < mid → InI64 z
i64_of_magnitude (pos n) h =
    record { low = record { le = tt }; high = record { le = le→leb n (2 ^ 63 - 1) (omega arith) } }
i64_of_magnitude (negsuc n) h =
    record { low = record { le = le→leb n (2 ^ 63 - 1) (omega arith) }; high = record { le = tt } }

-- ---- the word of a number

pub word_natural : (n : ℕ) → word (pos n) ≡ mid + n
unfolding word
word_natural n = refl

pub word_bound : (z : ℤ) → InI64 z → word z ≤ top
unfolding word
word_bound (pos n) h = omega (arith, magnitude_of_i64 (pos n) h)
word_bound (negsuc n) h = omega arith

pub word_injective : (a b : ℤ) → InI64 a → InI64 b → word a ≡ word b → a ≡ b
unfolding word
word_injective (pos m) (pos n) ha hb e = let q : m ≡ n = omega arith in ap pos q
word_injective (pos m) (negsuc n) ha hb e = absurd (omega arith)
word_injective (negsuc m) (pos n) ha hb e = absurd (omega arith)
word_injective (negsuc m) (negsuc n) ha hb e =
    let q : m ≡ n = omega (arith, magnitude_of_i64 (negsuc m) ha, magnitude_of_i64 (negsuc n) hb) in ap negsuc q

-- ---- a difference of two naturals: its word and its size

pub sub_below : (a b : ℕ) → a < b → sub_ℕ a b ≡ negsuc (b - suc a)
sub_below a b h = rw (lt-ltb a b h)

pub sub_from : (a b : ℕ) → ¬ (a < b) → sub_ℕ a b ≡ pos (a - b)
sub_from a b h = rw (le-ltb a b (omega arith))

word_sub : (a b : ℕ) → word (sub_ℕ a b) ≡ mid + a - b
unfolding word
word_sub a b =
    by_cases (dec_lt a b) (λ h. rw (sub_below a b h) (omega arith)) (λ h. rw (sub_from a b h) (omega arith))

mag_sub : (a b : ℕ) → mag (sub_ℕ a b) ≡ max (b - suc a) (a - b)
mag_sub a b =
    by_cases (dec_lt a b) (λ h. rw (sub_below a b h) (omega arith)) (λ h. rw (sub_from a b h) (omega arith))

-- ---- the number of a word

pub number_in : (w : ℕ) → w ≤ top → InI64 (number w)
unfolding number
number_in w h = i64_of_magnitude (number w) (rw mag_sub (omega arith))

pub word_number : (w : ℕ) → w ≤ top → word (number w) ≡ w
unfolding number
word_number w h = rw word_sub (omega arith)

pub number_word : (z : ℤ) → InI64 z → number (word z) ≡ z
number_word z h =
    let b = word_bound z h in
    word_injective (number (word z)) z (number_in (word z) b) h (word_number (word z) b)

-- ---- the order

same_leb : (a b c d : ℕ) → (a ≤ b → c ≤ d) → (b < a → d < c) → leb a b ≡ leb c d
same_leb a b c d f g =
    by_cases (dec_le a b)
    (λ h. le-leb a b h ∙ sym (le-leb c d (f h)))
    (λ h. lt-leb a b (omega arith) ∙ sym (lt-leb c d (g (omega arith))))

pub word_le : (a b : ℤ) → InI64 a → InI64 b → le_z a b ≡ leb (word a) (word b)
unfolding word
word_le (pos m) (pos n) ha hb = same_leb m n (mid + m) (mid + n) (omega arith) (omega arith)
word_le (pos m) (negsuc n) ha hb = sym (lt-leb (mid + m) (mid - suc n) (omega arith))
word_le (negsuc m) (pos n) ha hb = sym (le-leb (mid - suc m) (mid + n) (omega arith))
word_le (negsuc m) (negsuc n) ha hb =
    let p = magnitude_of_i64 (negsuc m) ha in
    let q = magnitude_of_i64 (negsuc n) hb in
    same_leb n m (mid - suc m) (mid - suc n) (omega arith) (omega arith)

pub word_lt : (a b : ℤ) → InI64 a → InI64 b → lt_z a b ≡ ltb (word a) (word b)
unfolding word
word_lt (pos m) (pos n) ha hb = same_leb (suc m) n (suc (mid + m)) (mid + n) (omega arith) (omega arith)
word_lt (pos m) (negsuc n) ha hb = sym (le-ltb (mid + m) (mid - suc n) (omega arith))
word_lt (negsuc m) (pos n) ha hb = sym (lt-ltb (mid - suc m) (mid + n) (omega arith))
word_lt (negsuc m) (negsuc n) ha hb =
    let p = magnitude_of_i64 (negsuc m) ha in
    let q = magnitude_of_i64 (negsuc n) hb in
    same_leb (suc n) m (suc (mid - suc m)) (mid - suc n) (omega arith) (omega arith)

-- ---- the saturating sum

word_sum : (a b : ℤ) → InI64 a → InI64 b → word (a +ℤ b) ≡ word a + word b - mid
unfolding word
word_sum (pos m) (pos n) ha hb = omega arith
word_sum (pos m) (negsuc n) ha hb = omega (arith, word_sub m (suc n), magnitude_of_i64 (negsuc n) hb)
word_sum (negsuc m) (pos n) ha hb = omega (arith, word_sub n (suc m), magnitude_of_i64 (negsuc m) ha)
word_sum (negsuc m) (negsuc n) ha hb =
    omega (arith, magnitude_of_i64 (negsuc m) ha, magnitude_of_i64 (negsuc n) hb)

word_clamp : (z : ℤ) → word (clamp z) ≡ min top (word z)
unfolding word clamp
word_clamp (pos n) =
    by_cases (dec_lt (2 ^ 63 - 1) n)
    (λ h. rw (lt-ltb (2 ^ 63 - 1) n h) (omega arith))
    (λ h. rw (le-ltb (2 ^ 63 - 1) n (omega arith)) (omega arith))
word_clamp (negsuc n) =
    by_cases (dec_lt (2 ^ 63 - 1) n)
    (λ h. rw (lt-ltb (2 ^ 63 - 1) n h) (omega arith))
    (λ h. rw (le-ltb (2 ^ 63 - 1) n (omega arith)) (omega arith))

pub sat_add_clamps : (a b : ℤ) → InI64 a → InI64 b → sat_add (word a) (word b) ≡ word (clamp (a +ℤ b))
unfolding sat_add
sat_add_clamps a b ha hb = omega (arith, word_sum a b ha hb, word_clamp (a +ℤ b))

-- a natural number added to a word stops at the top alone
pub sat_add_natural : (v n : ℕ) → sat_add v (mid + n) ≡ min top (v + n)
unfolding sat_add
sat_add_natural v n = omega arith
