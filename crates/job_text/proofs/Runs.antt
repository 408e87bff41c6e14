-- The machine over a job's text: it ends with the job that the text is of.
use mathlib.Core.Path.{◌≡◌, refl, sym, ap, ◌∙◌}
use mathlib.Core.List.{List, [], ◌∷◌, ◌++◌}
use Prim.Native.Nat.{ℕ, zero, suc, ◌+◌, ◌*◌, ◌/◌, ◌%◌, ◌^◌, ◌<◌, ◌≤◌}
use native.Mathlib.Omega.{arith}
use native.Mathlib.Decide.{dec_le}
use borrow.Author.Tests.{lt-ltb}
use Rattle.knapsack.specs.Items.{Item}
use Rattle.numbers.specs.Decimal.{digits_in, decimal}
use Rattle.jobs.specs.Text.{nine_digits}
use Rattle.job_text.specs.declared.Part.{Part}
use Rattle.job_text.specs.declared.Part.TheVariants.{CapWord, Page, WidthWord, Width, CutWord, Choice, Lel, Frontier, ItemWord, Weight, Profit, Fault}
use Rattle.job_text.specs.declared.Place.{Place}
use Rattle.job_text.specs.declared.Head.{Head}
use Rattle.job_text.specs.Machine.{place, pushed_of, counted_of, next_from, next_of, head_of, is_item_word, ends_item, State, state, moved_to, step_of, run_from}
use Rattle.job_text.proofs.Branches.{pushed_first, pushed_more, counted_digit}
use Rattle.job_text.proofs.Digits.{opened}

pub run_two : (a b : List ℕ) (s : State) → run_from (a ++ b) s ≡ run_from b (run_from a s)
unfolding run_from
run_two [] b s = refl
run_two (x ∷ a) b s = run_two a b (step_of s x)

pub one : (s : State) (b : ℕ) → run_from (b ∷ []) s ≡ step_of s b
unfolding run_from
one s b = refl

-- The parts that are numbers, each with the byte that ends it and the part that follows.
pub data Counts : Part → ℕ → Part → Type 0 where
  page : Counts Page 10 WidthWord
  wide : Counts Width 10 CutWord
  weight : Counts Weight 9 Profit
  profit : Counts Profit 10 ItemWord

pub step_to : (s : State) (b : ℕ) (p : Place) → next_of s.place b ≡ p → step_of s b ≡ moved_to s p (head_of s.place.part p.number s.head)
unfolding step_of
step_to s b p e = ap (λ (q : Place). moved_to s q (head_of s.place.part q.number s.head)) e

row_of : {part then : Part} {end : ℕ} → Counts part end then → (p : Place) (b : ℕ) → next_from part p b ≡ counted_of p b end then
unfolding next_from
row_of page p b = refl
row_of wide p b = refl
row_of weight p b = refl
row_of profit p b = refl

-- The machine at a place of a part.
abbrev pub at : Part → ℕ → ℕ → Head → List Item → State
at part k n h is = state (place part k n) h is

ends_late : {part then : Part} {end : ℕ} → Counts part end then → end < 48
ends_late page = omega arith
ends_late wide = omega arith
ends_late weight = omega arith
ends_late profit = omega arith

-- A digit leaves the items alone.
digit_moves : {part then : Part} {end : ℕ} → Counts part end then → (k m n : ℕ) (h : Head) (is : List Item) → moved_to (at part k m h is) (place part 1 n) (head_of part n h) ≡ at part 1 n (head_of part n h) is
unfolding moved_to ends_item is_item_word
digit_moves page k m n h is = refl
digit_moves wide k m n h is = refl
digit_moves weight k m n h is = refl
digit_moves profit k m n h is = refl

digit_next : {part then : Part} {end : ℕ} → Counts part end then → (k m n b : ℕ) → 48 ≤ b → pushed_of (place part k m) b ≡ place part 1 n → next_of (place part k m) b ≡ place part 1 n
unfolding next_of
digit_next {part} {then} {end} c k m n b low e =
    let late : end < 48 = ends_late c in
    row_of c (place part k m) b ∙ (sym (counted_digit (place part k m) b end then (λ same. omega arith)) ∙ e)

digit_step : {part then : Part} {end : ℕ} → Counts part end then → (k m n b : ℕ) (h : Head) (is : List Item) → 48 ≤ b → pushed_of (place part k m) b ≡ place part 1 n → step_of (at part k m h is) b ≡ at part 1 n (head_of part n h) is
digit_step {part} c k m n b h is low e =
    step_to (at part k m h is) b (place part 1 n) (digit_next c k m n b low e) ∙ digit_moves c k m n h is

head_twice : (part : Part) (m n : ℕ) (h : Head) → head_of part n (head_of part m h) ≡ head_of part n h
unfolding head_of
head_twice CapWord m n h = refl
head_twice Page m n h = refl
head_twice WidthWord m n h = refl
head_twice Width m n h = refl
head_twice CutWord m n h = refl
head_twice Choice m n h = refl
head_twice Lel m n h = refl
head_twice Frontier m n h = refl
head_twice ItemWord m n h = refl
head_twice Weight m n h = refl
head_twice Profit m n h = refl
head_twice Fault m n h = refl

-- The digits of a number, of nine at most.
module _ {part then : Part} {end : ℕ} (c : Counts part end then) (m : ℕ) (h : Head) (is : List Item) where
  one_run : (k n : ℕ) → n < 10 → run_from (digits_in (suc k) n) (at part 0 m h is) ≡ at part 1 n (head_of part n h) is
  unfolding run_from digits_in
  one_run k n few =
      rw (lt-ltb n 10 few) (digit_step c 0 m n (48 + n) h is (omega arith) (sym (pushed_first (place part 0 m) (48 + n) n (omega arith) (omega arith) (omega arith) refl)))

  last_push : (n : ℕ) → 10 ≤ n → n < nine_digits → pushed_of (place part 1 (n / 10)) (48 + n % 10) ≡ place part 1 n
  last_push n large small =
      let whole : n / 10 * 10 + n % 10 ≡ n = omega arith in
      sym (pushed_more (place part 1 (n / 10)) (48 + n % 10) (n % 10) (omega arith) (omega arith) (omega arith) (λ e. omega arith) (λ e. omega arith) (omega arith)) ∙ ap (place part 1) whole

  last_step : (n : ℕ) → 10 ≤ n → n < nine_digits → step_of (at part 1 (n / 10) (head_of part (n / 10) h) is) (48 + n % 10) ≡ at part 1 n (head_of part n h) is
  last_step n large small =
      digit_step c 1 (n / 10) n (48 + n % 10) (head_of part (n / 10) h) is (omega arith) (last_push n large small) ∙ ap (λ (g : Head). at part 1 n g is) (head_twice part (n / 10) n h)

  snoc_run : (l : List ℕ) (b : ℕ) → run_from (l ++ (b ∷ [])) (at part 0 m h is) ≡ step_of (run_from l (at part 0 m h is)) b
  snoc_run l b = run_two l (b ∷ []) (at part 0 m h is) ∙ one (run_from l (at part 0 m h is)) b

  more_run : (k n : ℕ) → 10 ≤ n → n < nine_digits → run_from (digits_in k (n / 10)) (at part 0 m h is) ≡ at part 1 (n / 10) (head_of part (n / 10) h) is → run_from (digits_in (suc k) n) (at part 0 m h is) ≡ at part 1 n (head_of part n h) is
  more_run k n large small before =
      ap (λ (l : List ℕ). run_from l (at part 0 m h is)) (opened k n large) ∙ (snoc_run (digits_in k (n / 10)) (48 + n % 10) ∙ (ap (λ (s : State). step_of s (48 + n % 10)) before ∙ last_step n large small))

  digits_run : (k n : ℕ) → n < 10 ^ suc k → n < nine_digits → run_from (digits_in (suc k) n) (at part 0 m h is) ≡ at part 1 n (head_of part n h) is
  digits_run zero n short small = one_run 0 n (omega arith)
  digits_run (suc k) n short small =
      elim (dec_le 10 n) [
        | yes large ↦ more_run (suc k) n large small (digits_run k (n / 10) (omega arith) (omega arith))
        | no few ↦ one_run (suc k) n (omega arith)
      ]

  number_run : (n : ℕ) → n < nine_digits → run_from (decimal n) (at part 0 m h is) ≡ at part 1 n (head_of part n h) is
  unfolding decimal
  number_run n small = digits_run 19 n (omega arith) small

  -- a number, its end and what follows
  pub number_then : (n : ℕ) → n < nine_digits → (rest : List ℕ) → run_from (decimal n ++ (end ∷ rest)) (at part 0 m h is) ≡ run_from rest (step_of (at part 1 n (head_of part n h) is) end)
  unfolding run_from
  number_then n small rest =
      run_two (decimal n) (end ∷ rest) (at part 0 m h is) ∙ ap (run_from (end ∷ rest)) (number_run n small)
