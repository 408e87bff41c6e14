-- When one byte more gives a number, and when not; a text read in two parts.
use mathlib.Core.Path.{◌≡◌, refl, sym, ap, ◌∙◌}
use mathlib.Core.Bool.{Bool, true, false, cond, ◌&&◌}
use mathlib.Core.List.{List, [], ◌∷◌, ◌++◌}
use mathlib.Core.Option.{Option, none, some}
use Prim.Native.Nat.{ℕ, ◌+◌, ◌-◌, ◌*◌, ◌<◌, ◌≤◌}
use native.Mathlib.Omega.{arith}
use native.Mathlib.Numerals.{add-one}
use lib.ListN.{length, drop, get_or, drop_of_length-le}
use lib.Seq.{drop-cons}
use borrow.Author.Tests.{lt-ltb, le-ltb, le-leb, lt-leb}
use Rattle.std.specs.Prelude as Code
use Rattle.std.specs.Prelude.{Some, None}
use Rattle.std.specs.Option.{SomeIff}
use Rattle.numbers.specs.Read.{read_of}
use Rattle.numbers.specs.Decimal.{is_digit, pushed, and_then, push_all, number_of}

pub push_digit : (v b : ℕ) → 48 ≤ b → b ≤ 57 → v * 10 + (b - 48) < 18446744073709551616 → pushed v b ≡ some (v * 10 + (b - 48))
unfolding pushed is_digit
push_digit v b low high fits = rw (le-leb 48 b low, le-leb b 57 high, lt-ltb (v * 10 + (b - 48)) 18446744073709551616 fits)

pub push_below : (v b : ℕ) → b < 48 → pushed v b ≡ none
unfolding pushed is_digit
push_below v b low = rw (lt-leb 48 b low)

pub push_above : (v b : ℕ) → 57 < b → pushed v b ≡ none
unfolding pushed is_digit
push_above v b high = let low : 48 ≤ b = omega arith in rw (le-leb 48 b low, lt-leb b 57 high)

and_false : (t : Bool) (n : ℕ) → cond (t && false) (some n) none ≡ none
and_false true n = refl
and_false false n = refl

pub push_large : (v b : ℕ) → 18446744073709551616 ≤ v * 10 + (b - 48) → pushed v b ≡ none
unfolding pushed is_digit
push_large v b large = rw (le-ltb (v * 10 + (b - 48)) 18446744073709551616 large) (and_false (is_digit b) (v * 10 + (b - 48)))

-- the digit behind the digits of v, as the code adds it to ten times v
pub push_more : (v b d m : ℕ) (r : Code.Option ℕ) → 48 ≤ b → b ≤ 57 → d ≡ b - 48 → m ≡ v * 10 → SomeIff r (m + d < 18446744073709551616) (m + d) → read_of r ≡ pushed v b
push_more v b d m (Some x) low high e f h =
    let z : x ≡ v * 10 + (b - 48) = omega (arith, h.1) in
    ap some z ∙ sym (push_digit v b low high (omega (arith, h.0)))
push_more v b d m None low high e f h = sym (push_large v b (omega arith))

pub push_two : (a b : List ℕ) (read : Option ℕ) → push_all (a ++ b) read ≡ push_all b (push_all a read)
unfolding push_all
push_two [] b read = refl
push_two (x ∷ a) b read = push_two a b (and_then read x)

pub push_none : (a : List ℕ) → push_all a none ≡ none
unfolding push_all and_then
push_none [] = refl
push_none (x ∷ a) = push_none a

-- A reading byte after byte: where it starts, a turn, and where it ends.
pub number_empty : (t : List ℕ) → length t ≡ 0 → number_of t ≡ none
unfolding number_of
number_empty [] e = refl
number_empty (b ∷ t) e = absurd (omega arith)

pub number_whole : (t : List ℕ) → (length t ≡ 0 → ⊥) → push_all t (some 0) ≡ number_of t
unfolding number_of
number_whole [] some-there = absurd (some-there refl)
number_whole (b ∷ t) some-there = refl

pub push_turn : (t : List ℕ) (i v : ℕ) → i < length t → push_all (drop i t) (some v) ≡ push_all (drop (i + 1) t) (pushed v (get_or t i 0))
unfolding push_all and_then
push_turn t i v h = rw (add-one, drop-cons t i 0)

pub push_done : (t : List ℕ) (i v : ℕ) → length t ≤ i → push_all (drop i t) (some v) ≡ some v
unfolding push_all
push_done t i v h = rw drop_of_length-le

-- The same with what a turn's byte gave: a number, with which the reading goes on, or none.
pub read_on : (t : List ℕ) (i v w : ℕ) → i < length t → pushed v (get_or t i 0) ≡ some w → push_all (drop i t) (some v) ≡ number_of t → push_all (drop (i + 1) t) (some w) ≡ number_of t
read_on t i v w h e whole = ap (push_all (drop (i + 1) t)) (sym e) ∙ (sym (push_turn t i v h) ∙ whole)

pub read_no : (t : List ℕ) (i v : ℕ) → i < length t → pushed v (get_or t i 0) ≡ none → push_all (drop i t) (some v) ≡ number_of t → none ≡ number_of t
read_no t i v h e whole = sym (ap (push_all (drop (i + 1) t)) e ∙ push_none (drop (i + 1) t)) ∙ (sym (push_turn t i v h) ∙ whole)
