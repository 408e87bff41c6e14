-- The grammar's table, row by row: from each part a byte leads on as `Behind` says.
use mathlib.Core.Path.{◌≡◌, refl, sym, ap, subst, ◌∙◌}
use mathlib.Core.List.{List, [], ◌∷◌, ◌++◌, append_assoc, append-nil}
use Prim.Native.Nat.{ℕ}
use native.Mathlib.Decide.{ℕ_discrete}
use Rattle.knapsack.specs.Items.{Item}
use Rattle.numbers.specs.Decimal.{decimal}
use Rattle.jobs.specs.Text.{cap, width, cut, lel, frontier_word, item, LF, TAB, line, line3, cut_name, items_text, text_of}
use Rattle.job_text.specs.declared.Part.{Part}
use Rattle.job_text.specs.declared.Part.TheVariants.{CapWord, Page, WidthWord, Width, CutWord, Choice, Lel, Frontier, ItemWord, Weight, Profit, Fault}
use Rattle.job_text.specs.declared.Place.{Place}
use Rattle.job_text.specs.declared.Head.{Head}
use Rattle.job_text.specs.Machine.{place, faulted, chosen_of, next_from, next_of, head_of, is_item_word, ends_item, State, state, moved_to, step_of}
use Rattle.job_text.proofs.Branches.{chosen_lel, chosen_frontier, chosen_none}
use Rattle.job_text.proofs.Runs.{at, step_to}
use Rattle.job_text.proofs.SoFar.{job_of, two_lines, front, digits_at, inside, so_far}
use Rattle.job_text.proofs.Behind.{Calm, Behind, behind_fault, word_behind, number_behind}

-- the statement of a part's row
abbrev Row : Part → Type 0
Row part =
    (k n b : ℕ) (h : Head) (is : List Item) → Calm part is → Behind (at part k n h is) b (step_of (at part k n h is) b)

cap_row : Row CapWord
unfolding next_from front inside digits_at head_of ends_item
cap_row =
    word_behind CapWord Page (cap ++ (TAB ∷ [])) (λ p b. refl) (λ k n. refl) (λ n h is. refl) (λ to. refl) (λ is c. c) (λ n h is c. refl)

page_row : Row Page
unfolding next_from front inside digits_at head_of ends_item line
page_row =
    number_behind Page WidthWord LF (λ p b. refl) (λ k n. refl) (λ n h is. refl) refl (λ is c more. c) (λ n h is. append-nil (line cap (decimal n)))

width_word_row : Row WidthWord
unfolding next_from front inside digits_at head_of ends_item
width_word_row =
    word_behind WidthWord Width (width ++ (TAB ∷ [])) (λ p b. refl) (λ k n. refl) (λ n h is. refl) (λ to. refl) (λ is c. c) (λ n h is c. append-nil (line cap (decimal h.page) ++ (width ++ (TAB ∷ []))))

width_row : Row Width
unfolding next_from front inside digits_at head_of ends_item line
width_row =
    number_behind Width CutWord LF (λ p b. refl) (λ k n. refl) (λ n h is. refl) refl (λ is c more. c) (λ n h is. append-nil (line cap (decimal h.page) ++ line width (decimal n)) ∙ sym (append_assoc (line cap (decimal h.page)) (width ++ (TAB ∷ [])) (decimal n ++ (LF ∷ []))))

cut_row : Row CutWord
unfolding next_from front inside digits_at head_of ends_item
cut_row =
    word_behind CutWord Choice (cut ++ (TAB ∷ [])) (λ p b. refl) (λ k n. refl) (λ n h is. refl) (λ to. refl) (λ is c. c) (λ n h is c. append-nil (two_lines h ++ (cut ++ (TAB ∷ []))))

-- the third line's end, where no item was read
no_items : (is : List Item) → is ≡ [] → items_text is ≡ []
unfolding items_text
no_items is none = rw none

third_line : (h : Head) (name : List ℕ) (is : List Item) → is ≡ [] → two_lines h ++ line cut name ++ items_text is ++ [] ≡ two_lines h ++ (cut ++ (TAB ∷ [])) ++ (name ++ (LF ∷ []))
unfolding line
third_line h name is none =
    append-nil (two_lines h ++ line cut name ++ items_text is) ∙ (ap (λ (t : List ℕ). two_lines h ++ line cut name ++ t) (no_items is none) ∙ (append-nil (two_lines h ++ line cut name) ∙ sym (append_assoc (two_lines h) (cut ++ (TAB ∷ [])) (name ++ (LF ∷ [])))))

lel_row : Row Lel
unfolding next_from front inside head_of ends_item text_of cut_name
lel_row =
    word_behind Lel ItemWord (lel ++ (LF ∷ [])) (λ p b. refl) (λ k n. refl) (λ n h is. refl) (λ to. refl) (λ is c. tt) (λ n h is c. third_line h lel is c)

frontier_row : Row Frontier
unfolding next_from front inside head_of ends_item text_of cut_name
frontier_row =
    word_behind Frontier ItemWord (frontier_word ++ (LF ∷ [])) (λ p b. refl) (λ k n. refl) (λ n h is. refl) (λ to. refl) (λ is c. tt) (λ n h is c. third_line h frontier_word is c)

item_row : Row ItemWord
unfolding next_from front inside digits_at head_of ends_item
item_row =
    word_behind ItemWord Weight (item ++ (TAB ∷ [])) (λ p b. refl) (λ k n. refl) (λ n h is. refl) (λ to. refl) (λ is c. tt) (λ n h is c. append-nil (text_of (job_of h is) ++ (item ++ (TAB ∷ []))))

weight_row : Row Weight
unfolding next_from front inside digits_at head_of ends_item
weight_row =
    number_behind Weight Profit TAB (λ p b. refl) (λ k n. refl) (λ n h is. refl) refl (λ is c more. tt) (λ n h is. append-nil (text_of (job_of h is) ++ (item ++ (TAB ∷ decimal n ++ (TAB ∷ [])))) ∙ sym (append_assoc (text_of (job_of h is)) (item ++ (TAB ∷ [])) (decimal n ++ (TAB ∷ []))))

-- one item more
items_more : (is : List Item) (i : Item) → items_text (is ++ (i ∷ [])) ≡ items_text is ++ line3 item (decimal i.weight) (decimal i.profit)
unfolding items_text
items_more [] i = append-nil (line3 item (decimal i.weight) (decimal i.profit))
items_more (j ∷ is) i =
    ap (λ (t : List ℕ). line3 item (decimal j.weight) (decimal j.profit) ++ t) (items_more is i) ∙ sym (append_assoc (line3 item (decimal j.weight) (decimal j.profit)) (items_text is) (line3 item (decimal i.weight) (decimal i.profit)))

item_line_lem : (w n : ℕ) → line3 item (decimal w) (decimal n) ≡ item ++ (TAB ∷ decimal w ++ (TAB ∷ [])) ++ (decimal n ++ (LF ∷ []))
unfolding line3
item_line_lem w n = simp append_assoc

text_more : (h : Head) (is : List Item) (n : ℕ) → text_of (job_of h (is ++ (record { weight = h.weight; profit = n } ∷ []))) ≡ text_of (job_of h is) ++ line3 item (decimal h.weight) (decimal n)
unfolding text_of
text_more h is n = rw (items_more is (record { weight = h.weight; profit = n })) (simp append_assoc)

profit_row : Row Profit
unfolding next_from front inside digits_at head_of ends_item is_item_word
profit_row =
    number_behind Profit ItemWord LF (λ p b. refl) (λ k n. refl) (λ n h is. refl) refl (λ is c more. tt) (λ n h is. append-nil (text_of (job_of h (is ++ (record { weight = h.weight; profit = n } ∷ [])))) ∙ (text_more h is n ∙ (ap (λ (t : List ℕ). text_of (job_of h is) ++ t) (item_line_lem h.weight n) ∙ sym (append_assoc (text_of (job_of h is)) (item ++ (TAB ∷ decimal h.weight ++ (TAB ∷ []))) (decimal n ++ (LF ∷ []))))))

-- the cutset's first letter
module _ (k n b : ℕ) (h : Head) (is : List Item) (c : is ≡ []) where
  choice_to : (q : Place) → chosen_of (place Choice k n) b ≡ q → step_of (at Choice k n h is) b ≡ state q h is
  unfolding next_of next_from moved_to head_of ends_item
  choice_to q e = step_to (at Choice k n h is) b q e

  choice_lel : b ≡ 108 → Behind (at Choice k n h is) b (at Lel 1 n h is)
  unfolding so_far front inside
  choice_lel same =
      record {
        text = λ fine. rw (same, append-nil (two_lines h ++ (cut ++ (TAB ∷ []))));
        calm = c;
        small = λ few. few;
      }

  choice_frontier : b ≡ 102 → Behind (at Choice k n h is) b (at Frontier 1 n h is)
  unfolding so_far front inside
  choice_frontier same =
      record {
        text = λ fine. rw (same, append-nil (two_lines h ++ (cut ++ (TAB ∷ []))));
        calm = c;
        small = λ few. few;
      }

  choice_row : Behind (at Choice k n h is) b (step_of (at Choice k n h is) b)
  choice_row =
      elim (ℕ_discrete b 108) [
        | yes l ↦ subst (λ (s : State). Behind (at Choice k n h is) b s) (sym (choice_to (place Lel 1 n) (sym (chosen_lel (place Choice k n) b l)))) (choice_lel l)
        | no other ↦
            elim (ℕ_discrete b 102) [
              | yes f ↦ subst (λ (s : State). Behind (at Choice k n h is) b s) (sym (choice_to (place Frontier 1 n) (sym (chosen_frontier (place Choice k n) b other f)))) (choice_frontier f)
              | no neither ↦ subst (λ (s : State). Behind (at Choice k n h is) b s) (sym (choice_to faulted (sym (chosen_none (place Choice k n) b other neither)))) (behind_fault (at Choice k n h is) b h is)
            ]
      ]

fault_row : Row Fault
unfolding step_of next_of next_from moved_to head_of ends_item
fault_row k n b h is c = record { text = λ fine. absurd (fine refl); calm = tt; small = λ few. few }

pub row : (part : Part) → Row part
row CapWord = cap_row
row Page = page_row
row WidthWord = width_word_row
row Width = width_row
row CutWord = cut_row
row Choice = choice_row
row Lel = lel_row
row Frontier = frontier_row
row ItemWord = item_row
row Weight = weight_row
row Profit = profit_row
row Fault = fault_row
