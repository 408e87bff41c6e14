-- The branches of the reader's functions, each as a fact on the definition that it is to meet.
use mathlib.Core.Path.{◌≡◌, ap}
use mathlib.Core.Bool.{true, false}
use mathlib.Core.List.{List}
use Prim.Native.Nat.{ℕ, ◌+◌, ◌-◌, ◌*◌, ◌<◌, ◌≤◌}
use native.Mathlib.Omega.{arith}
use lib.ListN.{length, get_or}
use borrow.Author.Tests.{lt-ltb, le-ltb, le-leb, lt-leb, eq-eqb, ne_eqb}
use Rattle.numbers.specs.Decimal.{is_digit}
use Rattle.jobs.specs.Text.{nine_digits}
use Rattle.job_text.specs.declared.Part.{Part}
use Rattle.job_text.specs.declared.Part.TheVariants.{Lel, Frontier}
use Rattle.job_text.specs.declared.Place.{Place}
use Rattle.job_text.specs.Machine.{place, faulted, spelled_of, grown, pushed_of, closed_of, counted_of, chosen_of}

-- a word's letter
pub spelled_past : (p : Place) (b : ℕ) (w : List ℕ) (then : Part) → length w ≤ p.at → faulted ≡ spelled_of p b w then
unfolding spelled_of
spelled_past p b w then h = rw (le-ltb p.at (length w) h)

pub spelled_wrong : (p : Place) (b : ℕ) (w : List ℕ) (then : Part) → p.at < length w → (get_or w p.at 0 ≡ b → ⊥) → faulted ≡ spelled_of p b w then
unfolding spelled_of
spelled_wrong p b w then h differs = rw (lt-ltb p.at (length w) h, ne_eqb (get_or w p.at 0) b differs)

pub spelled_on : (p : Place) (b : ℕ) (w : List ℕ) (then : Part) → p.at < length w → get_or w p.at 0 ≡ b → p.at + 1 < length w → place p.part (p.at + 1) p.number ≡ spelled_of p b w then
unfolding spelled_of
spelled_on p b w then h same more =
    rw (lt-ltb p.at (length w) h, eq-eqb (get_or w p.at 0) b same, lt-ltb (p.at + 1) (length w) more)

pub spelled_out : (p : Place) (b : ℕ) (w : List ℕ) (then : Part) → p.at < length w → get_or w p.at 0 ≡ b → length w ≤ p.at + 1 → place then 0 p.number ≡ spelled_of p b w then
unfolding spelled_of
spelled_out p b w then h same last =
    rw (lt-ltb p.at (length w) h, eq-eqb (get_or w p.at 0) b same, le-ltb (p.at + 1) (length w) last)

-- a number's digit
digit_below : (b : ℕ) → b < 48 → is_digit b ≡ false
unfolding is_digit
digit_below b h = rw (lt-leb 48 b h)

digit_above : (b : ℕ) → 57 < b → is_digit b ≡ false
unfolding is_digit
digit_above b h = let low : 48 ≤ b = omega arith in rw (le-leb 48 b low, lt-leb b 57 h)

pub is_digit_lem : (b : ℕ) → 48 ≤ b → b ≤ 57 → is_digit b ≡ true
unfolding is_digit
is_digit_lem b low high = rw (le-leb 48 b low, le-leb b 57 high)

pub pushed_below : (p : Place) (b : ℕ) → b < 48 → faulted ≡ pushed_of p b
unfolding pushed_of
pushed_below p b h = rw (digit_below b h)

pub pushed_above : (p : Place) (b : ℕ) → 57 < b → faulted ≡ pushed_of p b
unfolding pushed_of
pushed_above p b h = rw (digit_above b h)

pub pushed_first : (p : Place) (b d : ℕ) → 48 ≤ b → b ≤ 57 → d ≡ b - 48 → p.at ≡ 0 → place p.part 1 d ≡ pushed_of p b
unfolding pushed_of grown
pushed_first p b d low high e none = rw (is_digit_lem b low high, eq-eqb p.at 0 none) (ap (place p.part 1) e)

pub pushed_leading : (p : Place) (b : ℕ) → 48 ≤ b → b ≤ 57 → (p.at ≡ 0 → ⊥) → p.number ≡ 0 → faulted ≡ pushed_of p b
unfolding pushed_of grown
pushed_leading p b low high some zero = rw (is_digit_lem b low high, ne_eqb p.at 0 some, eq-eqb p.number 0 zero)

pub pushed_tenth : (p : Place) (b : ℕ) → 48 ≤ b → b ≤ 57 → (p.at ≡ 0 → ⊥) → (p.number ≡ 0 → ⊥) → 100000000 ≤ p.number → faulted ≡ pushed_of p b
unfolding pushed_of grown
pushed_tenth p b low high some large most =
    let over : nine_digits ≤ p.number * 10 + (b - 48) = omega arith in
    rw (is_digit_lem b low high, ne_eqb p.at 0 some, ne_eqb p.number 0 large, le-ltb (p.number * 10 + (b - 48)) nine_digits over)

pub pushed_more : (p : Place) (b d : ℕ) → 48 ≤ b → b ≤ 57 → d ≡ b - 48 → (p.at ≡ 0 → ⊥) → (p.number ≡ 0 → ⊥) → p.number < 100000000 → place p.part 1 (p.number * 10 + d) ≡ pushed_of p b
unfolding pushed_of grown
pushed_more p b d low high e some large few =
    let fits : p.number * 10 + (b - 48) < nine_digits = omega arith in
    rw (is_digit_lem b low high, ne_eqb p.at 0 some, ne_eqb p.number 0 large, lt-ltb (p.number * 10 + (b - 48)) nine_digits fits) (ap (λ x. place p.part 1 (p.number * 10 + x)) e)

-- a number's end
pub closed_empty : (p : Place) (then : Part) → p.at ≡ 0 → faulted ≡ closed_of p then
unfolding closed_of
closed_empty p then none = rw (eq-eqb p.at 0 none)

pub closed_some : (p : Place) (then : Part) → (p.at ≡ 0 → ⊥) → place then 0 p.number ≡ closed_of p then
unfolding closed_of
closed_some p then some = rw (ne_eqb p.at 0 some)

pub counted_end : (p : Place) (b e : ℕ) (then : Part) → b ≡ e → closed_of p then ≡ counted_of p b e then
unfolding counted_of
counted_end p b e then same = rw (eq-eqb b e same)

pub counted_digit : (p : Place) (b e : ℕ) (then : Part) → (b ≡ e → ⊥) → pushed_of p b ≡ counted_of p b e then
unfolding counted_of
counted_digit p b e then other = rw (ne_eqb b e other)

-- a cutset's first letter
pub chosen_lel : (p : Place) (b : ℕ) → b ≡ 108 → place Lel 1 p.number ≡ chosen_of p b
unfolding chosen_of
chosen_lel p b same = rw (eq-eqb b 108 same)

pub chosen_frontier : (p : Place) (b : ℕ) → (b ≡ 108 → ⊥) → b ≡ 102 → place Frontier 1 p.number ≡ chosen_of p b
unfolding chosen_of
chosen_frontier p b other same = rw (ne_eqb b 108 other, eq-eqb b 102 same)

pub chosen_none : (p : Place) (b : ℕ) → (b ≡ 108 → ⊥) → (b ≡ 102 → ⊥) → faulted ≡ chosen_of p b
unfolding chosen_of
chosen_none p b other wrong = rw (ne_eqb b 108 other, ne_eqb b 102 wrong)
