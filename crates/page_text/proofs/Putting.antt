-- Texts put into a buffer: one, two in turn, a text and a byte; and what stands in a buffer of zeros then.
use mathlib.Core.Path.{◌≡◌, refl, sym, ap, ◌∙◌}
use mathlib.Core.List.{List, [], ◌∷◌, ◌++◌, append_assoc}
use Prim.Native.Nat.{ℕ, zero, suc, ◌+◌, ◌-◌, ◌≤◌, ◌<◌}
use native.Mathlib.Omega.{arith}
use native.Mathlib.Numerals.{add-one}
use lib.ListN.{length, replicate, set, take, drop, length-append, length-take, length-drop, take-append-drop}
use lib.Seq.{take_at, drop_at, drop-drop, set_split}
use Rattle.numbers.specs.Decimal.{decimal}
use Rattle.numbers.specs.Written.{Written}
use Rattle.page_text.specs.Put.{Put}
use Rattle.page_text.specs.Says.{Says}

module _ {s b m : List ℕ} {at r : ℕ} (p : Put s at b r m) where
  front_length : length (take at b ++ s) ≡ r
  front_length = simp (length-append, length-take) (omega (arith, p.behind, p.fits))

  split_there : m ≡ (take at b ++ s) ++ drop r b
  split_there = p.stands ∙ sym (append_assoc (take at b) s (drop r b))

  -- what stands before the place behind the text, and what from there on
  pub front_put : take r m ≡ take at b ++ s
  front_put = ap (take r) split_there ∙ take_at (take at b ++ s) (drop r b) r front_length

  pub back_put : drop r m ≡ drop r b
  back_put = ap (drop r) split_there ∙ drop_at (take at b ++ s) (drop r b) r front_length

  pub further_back : (k : ℕ) → drop (r + k) m ≡ drop (r + k) b
  further_back k = sym (drop-drop k r m) ∙ (ap (drop k) back_put ∙ drop-drop k r b)

  pub length_put : length m ≡ length b
  length_put =
      ap length split_there ∙ simp (length-append, length-take, length-drop) (omega (arith, p.behind, p.fits))

-- two texts, the second from the place behind the first on
pub put_two : {s t b m a : List ℕ} {at r q : ℕ} → Put s at b r m → Put t r m q a → Put (s ++ t) at b q a
put_two {s} {t} {b} {m} {a} {at} {r} {q} first second =
    record {
      stands = second.stands ∙ (ap (λ l. l ++ (t ++ drop q m)) (front_put first) ∙ (ap (λ n. (take at b ++ s) ++ (t ++ drop n m)) second.behind ∙ (ap (λ l. (take at b ++ s) ++ (t ++ l)) (further_back first (length t)) ∙ (ap (λ n. (take at b ++ s) ++ (t ++ drop n b)) (sym second.behind) ∙ simp append_assoc))));
      behind = omega (arith, first.behind, second.behind, length-append s t);
      fits = omega (arith, second.fits, length_put first);
    }

-- one byte
pub put_byte : (b : List ℕ) (at v : ℕ) → at < length b → Put (v ∷ []) at b (at + 1) (set b at v)
put_byte b at v h = record { stands = set_split b at v h ∙ rw add-one; behind = refl; fits = omega arith }

-- a text and then a byte
pub put_ended : {s b m : List ℕ} {at r : ℕ} (v : ℕ) → Put s at b r m → r < length m → Put (s ++ (v ∷ [])) at b (r + 1) (set m r v)
put_ended {s} {b} {m} {at} {r} v p h = put_two p (put_byte m r v h)

-- the digits that stand at the front of an array of their own
pub digits_front : {n k : ℕ} {b a : List ℕ} → Written n 0 b k a → take k a ≡ decimal n
digits_front {n} {k} {b} w =
    let many : length (decimal n) ≡ k = omega (arith, w.behind) in
    ap (take k) w.digits_stand ∙ take_at (decimal n) (drop k b) k many

-- nothing
pub put_nothing : (b : List ℕ) (at : ℕ) → at ≤ length b → Put [] at b at b
put_nothing b at h = record { stands = sym (take-append-drop at b); behind = omega arith; fits = h }

drop_zeros : (n r : ℕ) → drop {A = ℕ} r (replicate n 0) ≡ replicate (n - r) 0
drop_zeros n zero = let all : n - 0 ≡ n = omega arith in rw all
drop_zeros zero (suc r) = let none : 0 - suc r ≡ 0 = omega arith in rw none
drop_zeros (suc n) (suc r) = let less : suc n - suc r ≡ n - r = omega arith in rw less (drop_zeros n r)

-- a text at the front of an array of zeros
pub put_says : {t a : List ℕ} {r : ℕ} (most : ℕ) → Put t 0 (replicate 671 0) r a → r ≤ most → Says t most (record { bytes = a; count = r })
put_says {t} {a} {r} most p h =
    record { text_is = front_put p; counted = omega (arith, p.behind); rest_zero = back_put p ∙ drop_zeros 671 r; short = h }
