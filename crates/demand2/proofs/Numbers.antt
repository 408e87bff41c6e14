-- i64 numbers and their words, as the statements need them: the order of numbers is the order of words, and a natural number's word is it above `mid`.
use mathlib.Core.Path.{◌≡◌, refl, sym, ◌∙◌}
use mathlib.Core.Bool.{Bool, true, false}
use mathlib.Core.Logic.{by_cases}
use Prim.Native.Nat.{ℕ, suc, ◌+◌, ◌-◌, ◌≤◌, ◌<◌}
use native.Mathlib.Decide.{dec_lt}
use native.Mathlib.Omega.{arith}
use lib.Dec.{T, leb→le, le→leb, ltb→lt}
use lib.IntN.{ℤ, pos, negsuc, sub_ℕ}
use lib.Signed.{◌≤ℤ◌, ◌<ℤ◌}
use borrow.Author.Tests.{lt-ltb, le-ltb, leb-true, ltb-true}
use Rattle.words.specs.I64.{mid, InI64, word, number}
use Rattle.words.proofs.Laws.{magnitude_of_i64, i64_of_magnitude, word_natural, word_lt, word_le, number_word}

-- a difference of naturals, where the first is smaller and where it isn't
sub_below : (a b : ℕ) → a < b → sub_ℕ a b ≡ negsuc (b - suc a)
sub_below a b h = rw (lt-ltb a b h)

sub_from : (a b : ℕ) → b ≤ a → sub_ℕ a b ≡ pos (a - b)
sub_from a b h = rw (le-ltb a b h)

pub number_natural : (n : ℕ) → number (mid + n) ≡ pos n
unfolding number
number_natural n = let e : mid + n - mid ≡ n = omega arith in rw (sub_from (mid + n) mid (omega arith), e)

-- and only that word stands for it
pub natural_word : (w n : ℕ) → number w ≡ pos n → w ≡ mid + n
unfolding number
natural_word w n e =
    by_cases (dec_lt w mid)
    (λ h. let q : negsuc (mid - suc w) ≡ pos n = sym (sub_below w mid h) ∙ e in let z : ◌≡◌ {A = ℕ} 0 1 = cc in absurd (omega arith))
    (λ h. let q : pos (w - mid) ≡ pos n = sym (sub_from w mid (omega arith)) ∙ e in let z : w - mid ≡ n = cc in omega arith)

pub number_rises : (v w : ℕ) → v ≤ w → number v ≤ℤ number w
unfolding number
number_rises v w h =
    by_cases (dec_lt v mid)
    (λ a. by_cases (dec_lt w mid)
    (λ b. rw (sub_below v mid a, sub_below w mid b) (record { le = le→leb (mid - suc w) (mid - suc v) (omega arith) }))
    (λ b. rw (sub_below v mid a, sub_from w mid (omega arith)) (record { le = tt })))
    (λ a. rw (sub_from v mid (omega arith), sub_from w mid (omega arith)) (record { le = le→leb (v - mid) (w - mid) (omega arith) }))

-- a test as a type, and as an equation
pub test_true : (b : Bool) → T b → b ≡ true
test_true true t = refl
test_true false t = absurd t

pub true_test : (b : Bool) → b ≡ true → T b
true_test true e = tt
true_test false e = let z : ◌≡◌ {A = ℕ} 0 1 = cc in absurd (omega arith)

pub below_word : (a b : ℤ) → InI64 a → InI64 b → a <ℤ b → word a < word b
below_word a b ha hb h = ltb-true (word a) (word b) (sym (word_lt a b ha hb) ∙ test_true _ h.lt)

pub at_most_word : (a b : ℤ) → InI64 a → InI64 b → a ≤ℤ b → word a ≤ word b
at_most_word a b ha hb h = leb-true (word a) (word b) (sym (word_le a b ha hb) ∙ test_true _ h.le)

pub natural_at_most : (m n : ℕ) → pos m ≤ℤ pos n → m ≤ n
natural_at_most m n h = leb→le m n h.le

pub at_most_natural : (m n : ℕ) → m ≤ n → pos m ≤ℤ pos n
at_most_natural m n h = record { le = le→leb m n h }

pub natural_is_i64 : (n : ℕ) → n < mid → InI64 (pos n)
natural_is_i64 n h = i64_of_magnitude (pos n) h

-- a number above an i64 and at most a natural number of i64 is an i64
pub between_is_i64 : (a z : ℤ) (n : ℕ) → InI64 a → n < mid → a <ℤ z → z ≤ℤ pos n → InI64 z
between_is_i64 a (pos m) n ha hn h k = i64_of_magnitude (pos m) (omega (arith, natural_at_most m n k))
between_is_i64 (pos a) (negsuc m) n ha hn h k = absurd h.lt
between_is_i64 (negsuc a) (negsuc m) n ha hn h k = i64_of_magnitude (negsuc m) (omega (arith, ltb→lt m a h.lt, magnitude_of_i64 (negsuc a) ha))

-- a word that is at least a number's word stands for at least that number
pub number_at_least : (z : ℤ) (w : ℕ) → InI64 z → word z ≤ w → z ≤ℤ number w
number_at_least z w hz h = rw (number_word z hz) at (number_rises (word z) w h)

-- an i64 below a natural number, and at least one: the words
pub below_natural : (z : ℤ) (n : ℕ) → InI64 z → n < mid → z <ℤ pos n → word z < mid + n
below_natural z n hz hn h = rw (word_natural n) at (below_word z (pos n) hz (natural_is_i64 n hn) h)

pub natural_below : (z : ℤ) (n : ℕ) → InI64 z → n < mid → pos n ≤ℤ z → mid + n ≤ word z
natural_below z n hz hn h = rw (word_natural n) at (at_most_word (pos n) z (natural_is_i64 n hn) hz h)
