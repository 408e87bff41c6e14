-- Laws of a table of rows of one width, for any kind of row: a word read, a row replaced, a row appended, the part from a row on.
use mathlib.Core.Path.{◌≡◌, refl, sym, ap, ◌∙◌}
use mathlib.Core.List.{List, [], ◌∷◌, ◌++◌, append_assoc, append-nil}
use Prim.Native.Nat.{ℕ, zero, suc, ◌+◌, ◌*◌, ◌<◌, ◌≤◌}
use native.Mathlib.Nat.{suc-mul, zero-mul, mul-le-mul_right, le_of_suc-le-suc, not-suc-le-zero}
use native.Mathlib.Omega.{arith}
use lib.ListN.{length, get_or, set, take, drop, length-append, length-drop, length-set, take-append-drop, get_or-append}
use lib.Seq.{get_or-append-add, take_at, drop_at, drop-drop, take-append-add, drop-append-add, length-take-le, sets, sets-eq}
use Rattle.layout.specs.Table.{words_of, over}

regroup : (a b c d : List ℕ) → a ++ b ++ c ++ d ≡ a ++ (b ++ c ++ d)
regroup a b c d = simp append_assoc

drops : (a m old : List ℕ) (n k : ℕ) → length a ≡ n → length m ≡ k → drop (n + k) (a ++ drop (length a) old) ≡ drop (length (a ++ m)) old
drops a m old n k p q =
    rw (← p, ← q, drop-append-add a (drop (length a) old) (length m), drop-drop (length m) (length a) old, length-append a m)

-- a row behind others: of those is asked only that together they have as many words as rows of width w, so that this serves records too, whose width comes from their paths
module _ {R : Type 0} (encode : R → List ℕ) where
  pub words_join : (rs ts : List R) → words_of encode (rs ++ ts) ≡ words_of encode rs ++ words_of encode ts
  unfolding words_of
  words_join [] ts = refl
  words_join (r ∷ rs) ts = rw (words_join rs ts, append_assoc)

  pub row_behind : (w : ℕ) (rs : List R) (old : List ℕ) (m : R) → length (words_of encode rs) ≡ length rs * w → length (encode m) ≡ w → take (length rs * w) (over (words_of encode rs) old) ++ encode m ++ drop (length rs * w + w) (over (words_of encode rs) old) ≡ over (words_of encode (rs ++ (m ∷ []))) old
  unfolding over words_of
  row_behind w rs old m all one =
      let W = words_of encode rs in
      let d : drop (length rs * w + w) (W ++ drop (length W) old) ≡ drop (length (W ++ encode m)) old = drops W (encode m) old (length rs * w) w all one in
      rw (take_at W (drop (length W) old) (length rs * w) all, d, words_join rs (m ∷ []), append-nil (encode m))

  pub stored_behind : (w : ℕ) (rs : List R) (old : List ℕ) (m : R) → length (words_of encode rs) ≡ length rs * w → length (encode m) ≡ w → suc (length rs) * w ≤ length old → sets (over (words_of encode rs) old) (length rs * w) (encode m) ≡ over (words_of encode (rs ++ (m ∷ []))) old
  unfolding over
  stored_behind w rs old m all one h =
      let l : length rs * w + w ≤ length (over (words_of encode rs) old) = simp (length-append, length-drop, all) (omega (arith, suc-mul (length rs) w)) in
      sets-eq (encode m) (over (words_of encode rs) old) (length rs * w) (rw one l)
      ∙ rw one (row_behind w rs old m all one)

module _ {R : Type 0} (encode : R → List ℕ) (w : ℕ) (fixed : (r : R) → length (encode r) ≡ w) where
  pub length_words : (rs : List R) → length (words_of encode rs) ≡ length rs * w
  unfolding words_of
  length_words [] = sym (zero-mul w)
  length_words (r ∷ rs) = simp (length-append, suc-mul) (omega (arith, fixed r, length_words rs))

  -- word k of row r
  pub word_at : (none : R) (rs : List R) (rest : List ℕ) (r k : ℕ) → r < length rs → k < w → get_or (words_of encode rs ++ rest) (r * w + k) 0 ≡ get_or (encode (get_or rs r none)) k 0
  unfolding words_of
  word_at none [] rest r k h l = absurd (not-suc-le-zero h)
  word_at none (x ∷ rs) rest zero k h l =
      let z : zero * w + k ≡ k = omega (arith, zero-mul w) in
      let e : k < length (encode x) = omega (arith, fixed x) in
      rw (z, append_assoc) (get_or-append (encode x) (words_of encode rs ++ rest) 0 k e)
  word_at none (x ∷ rs) rest (suc r) k h l =
      let z : suc r * w + k ≡ length (encode x) + (r * w + k) = omega (arith, suc-mul r w, fixed x) in
      rw (z, append_assoc) (get_or-append-add (encode x) (words_of encode rs ++ rest) (r * w + k) 0 ∙ word_at none rs rest r k (le_of_suc-le-suc h) l)

  -- a row replaced
  replaced_in : (rs : List R) (rest : List ℕ) (r : ℕ) (m : R) → r < length rs → take (r * w) (words_of encode rs ++ rest) ++ encode m ++ drop (r * w + w) (words_of encode rs ++ rest) ≡ words_of encode (set rs r m) ++ rest
  unfolding words_of
  replaced_in [] rest r m h = absurd (not-suc-le-zero h)
  replaced_in (x ∷ rs) rest zero m h =
      let z : zero * w ≡ zero = zero-mul w in
      let y : zero + w ≡ w = omega arith in
      rw (z, y, append_assoc (encode x) (words_of encode rs) rest, drop_at (encode x) (words_of encode rs ++ rest) w (fixed x)) (sym (append_assoc (encode m) (words_of encode rs) rest))
  replaced_in (x ∷ rs) rest (suc r) m h =
      let z : suc r * w ≡ length (encode x) + r * w = omega (arith, suc-mul r w, fixed x) in
      let y : length (encode x) + r * w + w ≡ length (encode x) + (r * w + w) = omega arith in
      rw (z, y, append_assoc (encode x) (words_of encode rs) rest, take-append-add (encode x) (words_of encode rs ++ rest) (r * w), drop-append-add (encode x) (words_of encode rs ++ rest) (r * w + w))
      (regroup (encode x) (take (r * w) (words_of encode rs ++ rest)) (encode m) (drop (r * w + w) (words_of encode rs ++ rest)) ∙ ap (λ (l : List ℕ). encode x ++ l) (replaced_in rs rest r m (le_of_suc-le-suc h)) ∙ sym (append_assoc (encode x) (words_of encode (set rs r m)) rest))

  pub row_replaced : (rs : List R) (old : List ℕ) (r : ℕ) (m : R) → r < length rs → take (r * w) (over (words_of encode rs) old) ++ encode m ++ drop (r * w + w) (over (words_of encode rs) old) ≡ over (words_of encode (set rs r m)) old
  unfolding over
  row_replaced rs old r m h =
      let e : length (words_of encode (set rs r m)) ≡ length (words_of encode rs) = length_words (set rs r m) ∙ ap (λ (k : ℕ). k * w) (length-set rs r m) ∙ sym (length_words rs) in
      rw e (replaced_in rs (drop (length (words_of encode rs)) old) r m h)

  row_fits : (rs : List R) (old : List ℕ) (r : ℕ) → r < length rs → r * w + w ≤ length (over (words_of encode rs) old)
  unfolding over
  row_fits rs old r h = simp (length-append, length_words rs) (omega (arith, suc-mul r w, mul-le-mul_right w h))

  -- a row replaced, and one appended, by its words stored one by one
  pub stored_replaced : (rs : List R) (old : List ℕ) (r : ℕ) (m : R) → r < length rs → sets (over (words_of encode rs) old) (r * w) (encode m) ≡ over (words_of encode (set rs r m)) old
  stored_replaced rs old r m h =
      sets-eq (encode m) (over (words_of encode rs) old) (r * w) (rw fixed (row_fits rs old r h))
      ∙ rw fixed (row_replaced rs old r m h)

  pub stored_appended : (rs : List R) (old : List ℕ) (m : R) → suc (length rs) * w ≤ length old → sets (over (words_of encode rs) old) (length rs * w) (encode m) ≡ over (words_of encode (rs ++ (m ∷ []))) old
  stored_appended rs old m h = stored_behind encode w rs old m (length_words rs) (fixed m) h

  -- the part of a table from row k on is a table of the rows from k on; and put back behind the first k rows it gives the table again
  pub part_from : (rs : List R) (old : List ℕ) (k : ℕ) → k ≤ length rs → drop (k * w) (over (words_of encode rs) old) ≡ over (words_of encode (drop k rs)) (drop (k * w) old)
  unfolding over
  part_from rs old k h =
      let A = words_of encode (take k rs) in
      let B = words_of encode (drop k rs) in
      let s : words_of encode rs ≡ A ++ B = ap (words_of encode) (sym (take-append-drop k rs)) ∙ words_join encode (take k rs) (drop k rs) in
      let l : length A ≡ k * w = length_words (take k rs) ∙ ap (λ (n : ℕ). n * w) (length-take-le k rs h) in
      rw (s, append_assoc A B, drop_at A (B ++ drop (length (A ++ B)) old) (k * w) l, length-append A B, l, drop-drop (length B) (k * w) old)

  pub part_back : (rs ts : List R) (old : List ℕ) (k : ℕ) → k ≤ length rs → take (k * w) (over (words_of encode rs) old) ++ over (words_of encode ts) (drop (k * w) old) ≡ over (words_of encode (take k rs ++ ts)) old
  unfolding over
  part_back rs ts old k h =
      let A = words_of encode (take k rs) in
      let B = words_of encode (drop k rs) in
      let T = words_of encode ts in
      let s : words_of encode rs ≡ A ++ B = ap (words_of encode) (sym (take-append-drop k rs)) ∙ words_join encode (take k rs) (drop k rs) in
      let l : length A ≡ k * w = length_words (take k rs) ∙ ap (λ (n : ℕ). n * w) (length-take-le k rs h) in
      rw (s, append_assoc A B, take_at A (B ++ drop (length (A ++ B)) old) (k * w) l, words_join encode (take k rs) ts, length-append A T, l, ← drop-drop (length T) (k * w) old)
      (sym (append_assoc A T (drop (length T) (drop (k * w) old))))
