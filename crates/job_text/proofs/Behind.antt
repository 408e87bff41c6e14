-- Each byte that is no fault puts itself behind the text so far, part by part.
use mathlib.Core.Path.{◌≡◌, refl, sym, ap, subst, ◌∙◌}
use mathlib.Core.Bool.{false, cond}
use mathlib.Core.List.{List, [], ◌∷◌, ◌++◌, append_assoc}
use Prim.Native.Nat.{ℕ, ◌+◌, ◌-◌, ◌*◌, ◌<◌, ◌≤◌}
use native.Mathlib.Omega.{arith}
use native.Mathlib.Numerals.{add-one}
use lib.ListN.{length, take, get_or}
use lib.Seq.{take-suc, take_all}
use borrow.Author.Tests.{eq-eqb, ne_eqb}
use Rattle.knapsack.specs.Items.{Item}
use Rattle.numbers.specs.Decimal.{decimal}
use Rattle.jobs.specs.Text.{nine_digits}
use Rattle.job_text.specs.declared.Part.{Part}
use Rattle.job_text.specs.declared.Part.TheVariants.{CapWord, Page, WidthWord, Width, CutWord, Choice, Lel, Frontier, ItemWord, Weight, Profit, Fault}
use Rattle.job_text.specs.declared.Place.{Place}
use Rattle.job_text.specs.declared.Head.{Head}
use Rattle.job_text.specs.Machine.{place, faulted, spelled_of, counted_of, next_from, next_of, head_of, ends_item, State, state, moved_to, step_of}
use Rattle.job_text.proofs.Digits.{one_digit, digit_more}
use Rattle.job_text.proofs.Runs.{at, step_to}
use Rattle.job_text.proofs.SoFar.{front, digits_at, inside, so_far, Spelling, spelling, Pushing, Counting, counting}
use Rattle.job_text.proofs.SoFar.Spelling.{wrong, on, out}

-- In front of the items there is none.
abbrev pub Calm : Part → List Item → Type 0
Calm CapWord is = is ≡ []
Calm Page is = is ≡ []
Calm WidthWord is = is ≡ []
Calm Width is = is ≡ []
Calm CutWord is = is ≡ []
Calm Choice is = is ≡ []
Calm Lel is = is ≡ []
Calm Frontier is = is ≡ []
Calm ItemWord is = Unit {0}
Calm Weight is = Unit {0}
Calm Profit is = Unit {0}
Calm Fault is = Unit {0}

-- What a byte does to the text so far, to the items and to the number.
pub record Behind (s : State) (b : ℕ) (after : State) : Type 0 where
  pub text : (after.place.part ≡ Fault → ⊥) → so_far after ≡ so_far s ++ (b ∷ [])
  pub calm : Calm after.place.part after.items
  pub small : s.place.number < nine_digits → after.place.number < nine_digits

pub behind_fault : (s : State) (b : ℕ) (h : Head) (is : List Item) → Behind s b (state faulted h is)
behind_fault s b h is = record { text = λ fine. absurd (fine refl); calm = tt; small = λ few. omega arith }

-- a word's letters
letters : (w : List ℕ) (k b : ℕ) → k < length w → get_or w k 0 ≡ b → take (k + 1) w ≡ take k w ++ (b ∷ [])
letters w k b h same = rw (add-one k) (take-suc w k 0 h ∙ ap (λ (x : ℕ). take k w ++ (x ∷ [])) same)

last_letter : (w : List ℕ) (k b : ℕ) → k < length w → get_or w k 0 ≡ b → length w ≤ k + 1 → take k w ++ (b ∷ []) ≡ w
last_letter w k b h same last = sym (letters w k b h same) ∙ take_all (k + 1) w last

module _
    (part then : Part)
    (w : List ℕ)
    (row : (p : Place) (b : ℕ) → next_from part p b ≡ spelled_of p b w then)
    (mid : (k n : ℕ) → inside part k n ≡ take k w)
    (stay : (n : ℕ) (h : Head) (is : List Item) → front part (head_of part n h) is ≡ front part h is)
    (still : (to : Part) → ends_item part to ≡ false)
    (pass : (is : List Item) → Calm part is → Calm then is)
    (next : (n : ℕ) (h : Head) (is : List Item) → Calm part is → front then (head_of part n h) is ++ inside then 0 n ≡ front part h is ++ w)
    (k n b : ℕ)
    (h : Head)
    (is : List Item)
    (calm : Calm part is)
  where
    word_to : (q : Place) → spelled_of (place part k n) b w then ≡ q → step_of (at part k n h is) b ≡ state q (head_of part q.number h) is
    unfolding next_of moved_to
    word_to q e =
        step_to (at part k n h is) b q (row (place part k n) b ∙ e) ∙ rw (still q.part)

    word_on : k < length w → get_or w k 0 ≡ b → Behind (at part k n h is) b (at part (k + 1) n (head_of part n h) is)
    unfolding so_far
    word_on inner same =
        record {
          text = λ fine.
              ap (λ (f : List ℕ). f ++ inside part (k + 1) n) (stay n h is) ∙ (ap (λ (m : List ℕ). front part h is ++ m) (mid (k + 1) n ∙ (letters w k b inner same ∙ ap (λ (m : List ℕ). m ++ (b ∷ [])) (sym (mid k n)))) ∙ sym (append_assoc (front part h is) (inside part k n) (b ∷ [])));
          calm = calm;
          small = λ few. few;
        }

    word_out : k < length w → get_or w k 0 ≡ b → length w ≤ k + 1 → Behind (at part k n h is) b (at then 0 n (head_of part n h) is)
    unfolding so_far
    word_out inner same last =
        record {
          text = λ fine.
              next n h is calm ∙ (ap (λ (m : List ℕ). front part h is ++ m) (sym (last_letter w k b inner same last) ∙ ap (λ (m : List ℕ). m ++ (b ∷ [])) (sym (mid k n))) ∙ sym (append_assoc (front part h is) (inside part k n) (b ∷ [])));
          calm = pass is calm;
          small = λ few. few;
        }

    word_from : Spelling (place part k n) b w then (spelled_of (place part k n) b w then) → Behind (at part k n h is) b (step_of (at part k n h is) b)
    word_from (wrong e) =
        subst (λ (s : State). Behind (at part k n h is) b s) (sym (word_to faulted e)) (behind_fault (at part k n h is) b (head_of part 0 h) is)
    word_from (on inner same e) =
        subst (λ (s : State). Behind (at part k n h is) b s) (sym (word_to (place part (k + 1) n) e)) (word_on inner same)
    word_from (out inner same last e) =
        subst (λ (s : State). Behind (at part k n h is) b s) (sym (word_to (place then 0 n) e)) (word_out inner same last)

    pub word_behind : Behind (at part k n h is) b (step_of (at part k n h is) b)
    word_behind = word_from (spelling (place part k n) b w then)

-- a number's digits
no_digits : (k n : ℕ) → k ≡ 0 → digits_at k n ≡ []
unfolding digits_at
no_digits k n e = rw (eq-eqb k 0 e)

some_digits : (k n : ℕ) → (k ≡ 0 → ⊥) → digits_at k n ≡ decimal n
unfolding digits_at
some_digits k n e = rw (ne_eqb k 0 e)

first_digit : (k n b : ℕ) → 48 ≤ b → b ≤ 57 → k ≡ 0 → digits_at 1 (b - 48) ≡ digits_at k n ++ (b ∷ [])
first_digit k n b low high none =
    let byte : 48 + (b - 48) ≡ b = omega arith in
    some_digits 1 (b - 48) (λ e. omega arith) ∙ (one_digit (b - 48) (omega arith) ∙ (ap (λ (x : ℕ). x ∷ []) byte ∙ ap (λ (l : List ℕ). l ++ (b ∷ [])) (sym (no_digits k n none))))

next_digit : (k n b : ℕ) → 48 ≤ b → b ≤ 57 → (k ≡ 0 → ⊥) → 0 < n → n < 100000000 → digits_at 1 (n * 10 + (b - 48)) ≡ digits_at k n ++ (b ∷ [])
next_digit k n b low high some large few =
    let byte : 48 + (b - 48) ≡ b = omega arith in
    some_digits 1 (n * 10 + (b - 48)) (λ e. omega arith) ∙ (digit_more n (b - 48) (omega arith) large few ∙ (ap (λ (x : ℕ). decimal n ++ (x ∷ [])) byte ∙ ap (λ (l : List ℕ). l ++ (b ∷ [])) (sym (some_digits k n some))))

-- the items behind a byte that leads to a part
abbrev items_at : Part → Part → ℕ → Head → List Item → List Item
items_at part to n h is = cond (ends_item part to) (is ++ (record { weight = h.weight; profit = n } ∷ [])) is

module _
    (part then : Part)
    (end : ℕ)
    (row : (p : Place) (b : ℕ) → next_from part p b ≡ counted_of p b end then)
    (mid : (k n : ℕ) → inside part k n ≡ digits_at k n)
    (stay : (n : ℕ) (h : Head) (is : List Item) → front part (head_of part n h) is ≡ front part h is)
    (still : ends_item part part ≡ false)
    (pass : (is : List Item) → Calm part is → (more : List Item) → Calm then (cond (ends_item part then) more is))
    (next : (n : ℕ) (h : Head) (is : List Item) → front then (head_of part n h) (items_at part then n (head_of part n h) is) ++ inside then 0 n ≡ front part h is ++ (decimal n ++ (end ∷ [])))
    (k n b : ℕ)
    (h : Head)
    (is : List Item)
    (calm : Calm part is)
  where
    number_to : (q : Place) → counted_of (place part k n) b end then ≡ q → step_of (at part k n h is) b ≡ state q (head_of part q.number h) (items_at part q.part q.number (head_of part q.number h) is)
    unfolding next_of moved_to
    number_to q e = step_to (at part k n h is) b q (row (place part k n) b ∙ e)

    number_stays : (m : ℕ) → counted_of (place part k n) b end then ≡ place part 1 m → step_of (at part k n h is) b ≡ at part 1 m (head_of part m h) is
    number_stays m e = number_to (place part 1 m) e ∙ rw still

    number_on : (m : ℕ) → m < nine_digits → digits_at 1 m ≡ digits_at k n ++ (b ∷ []) → Behind (at part k n h is) b (at part 1 m (head_of part m h) is)
    unfolding so_far
    number_on m few digits =
        record {
          text = λ fine.
              ap (λ (f : List ℕ). f ++ inside part 1 m) (stay m h is) ∙ (ap (λ (x : List ℕ). front part h is ++ x) (mid 1 m ∙ (digits ∙ ap (λ (x : List ℕ). x ++ (b ∷ [])) (sym (mid k n)))) ∙ sym (append_assoc (front part h is) (inside part k n) (b ∷ [])));
          calm = calm;
          small = λ before. few;
        }

    number_out : b ≡ end → (k ≡ 0 → ⊥) → Behind (at part k n h is) b (at then 0 n (head_of part n h) (items_at part then n (head_of part n h) is))
    unfolding so_far
    number_out same some =
        record {
          text = λ fine.
              next n h is ∙ (ap (λ (x : List ℕ). front part h is ++ x) (ap (λ (x : ℕ). decimal n ++ (x ∷ [])) (sym same) ∙ ap (λ (x : List ℕ). x ++ (b ∷ [])) (sym (some_digits k n some) ∙ sym (mid k n))) ∙ sym (append_assoc (front part h is) (inside part k n) (b ∷ [])));
          calm = pass is calm _;
          small = λ few. few;
        }

    digit_from : Pushing (place part k n) b (counted_of (place part k n) b end then) → Behind (at part k n h is) b (step_of (at part k n h is) b)
    digit_from (Pushing.wrong e) =
        subst (λ (s : State). Behind (at part k n h is) b s) (sym (number_to faulted e)) (behind_fault (at part k n h is) b (head_of part 0 h) _)
    digit_from (Pushing.first low high none e) =
        subst (λ (s : State). Behind (at part k n h is) b s) (sym (number_stays (b - 48) e)) (number_on (b - 48) (omega arith) (first_digit k n b low high none))
    digit_from (Pushing.more low high some large few e) =
        subst (λ (s : State). Behind (at part k n h is) b s) (sym (number_stays (n * 10 + (b - 48)) e)) (number_on (n * 10 + (b - 48)) (omega arith) (next_digit k n b low high some large few))

    number_from : Counting (place part k n) b end then (counted_of (place part k n) b end then) → Behind (at part k n h is) b (step_of (at part k n h is) b)
    number_from (Counting.wrong e) =
        subst (λ (s : State). Behind (at part k n h is) b s) (sym (number_to faulted e)) (behind_fault (at part k n h is) b (head_of part 0 h) _)
    number_from (Counting.digit p) = digit_from p
    number_from (Counting.close same some e) =
        subst (λ (s : State). Behind (at part k n h is) b s) (sym (number_to (place then 0 n) e)) (number_out same some)

    pub number_behind : Behind (at part k n h is) b (step_of (at part k n h is) b)
    number_behind = number_from (counting (place part k n) b end then)
