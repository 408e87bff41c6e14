-- The machine over a job's lines: at its text's end it holds the job.
use mathlib.Core.Path.{◌≡◌, refl, sym, ap, subst, ◌∙◌}
use mathlib.Core.List.{List, [], ◌∷◌, ◌++◌, append_assoc, append-nil}
use Prim.Native.Nat.{ℕ, ◌<◌}
use Rattle.knapsack.specs.Items.{Item}
use Rattle.diagram.specs.After4.{CutsetKind, last_exact_layer, frontier}
use Rattle.numbers.specs.Decimal.{decimal}
use Rattle.jobs.specs.Text.{Job, cap, width, cut, item, LF, TAB, line, line3, cut_name, items_text, text_of, nine_digits, SmallItems, IsText}
use Rattle.cutset.specs.declared.Kind.{Kind}
use Rattle.job_text.specs.declared.Part.TheVariants.{CapWord, Page, WidthWord, Width, CutWord, ItemWord, Weight, Profit}
use Rattle.job_text.specs.declared.Head.{Head}
use Rattle.job_text.specs.Machine.{spelled_of, closed_of, counted_of, chosen_of, next_from, next_of, head_of, is_item_word, ends_item, State, begun, moved_to, step_of, run_from, run_of}
use Rattle.job_text.specs.Reads.{kind_from}
use Rattle.job_text.proofs.Runs.{run_two, page, wide, weight, profit, at, number_then}

-- the head of a job, with the weight of an item
abbrev pub head_with : ℕ → ℕ → Kind → ℕ → Head
head_with c w k x = record { page = c; width = w; kind = k; weight = x }

-- the words of the lines, read letter by letter
cap_word : (m : ℕ) (h : Head) (is : List Item) (rest : List ℕ) → run_from (cap ++ (TAB ∷ rest)) (at CapWord 0 m h is) ≡ run_from rest (at Page 0 m h is)
unfolding run_from step_of moved_to next_of next_from spelled_of head_of ends_item
cap_word m h is rest = refl

width_word : (m : ℕ) (h : Head) (is : List Item) (rest : List ℕ) → run_from (width ++ (TAB ∷ rest)) (at WidthWord 0 m h is) ≡ run_from rest (at Width 0 m h is)
unfolding run_from step_of moved_to next_of next_from spelled_of head_of ends_item
width_word m h is rest = refl

item_word : (m : ℕ) (h : Head) (is : List Item) (rest : List ℕ) → run_from (item ++ (TAB ∷ rest)) (at ItemWord 0 m h is) ≡ run_from rest (at Weight 0 m h is)
unfolding run_from step_of moved_to next_of next_from spelled_of head_of ends_item
item_word m h is rest = refl

cut_line : (m c w x : ℕ) (k : Kind) (is : List Item) (name : CutsetKind) → run_from (line cut (cut_name name)) (at CutWord 0 m (head_with c w k x) is) ≡ at ItemWord 0 m (head_with c w (kind_from name) x) is
unfolding run_from step_of moved_to next_of next_from spelled_of chosen_of head_of ends_item line cut_name
cut_line m c w x k is last_exact_layer = refl
cut_line m c w x k is frontier = refl

-- the ends of numbers
page_ends : (n c w x : ℕ) (k : Kind) (is : List Item) → step_of (at Page 1 n (head_of Page n (head_with c w k x)) is) LF ≡ at WidthWord 0 n (head_with n w k x) is
unfolding step_of moved_to next_of next_from counted_of closed_of head_of ends_item
page_ends n c w x k is = refl

width_ends : (n c w x : ℕ) (k : Kind) (is : List Item) → step_of (at Width 1 n (head_of Width n (head_with c w k x)) is) LF ≡ at CutWord 0 n (head_with c n k x) is
unfolding step_of moved_to next_of next_from counted_of closed_of head_of ends_item
width_ends n c w x k is = refl

weight_ends : (n c w x : ℕ) (k : Kind) (is : List Item) → step_of (at Weight 1 n (head_of Weight n (head_with c w k x)) is) TAB ≡ at Profit 0 n (head_with c w k n) is
unfolding step_of moved_to next_of next_from counted_of closed_of head_of ends_item
weight_ends n c w x k is = refl

profit_ends : (n c w x : ℕ) (k : Kind) (is : List Item) → step_of (at Profit 1 n (head_of Profit n (head_with c w k x)) is) LF ≡ at ItemWord 0 n (head_with c w k x) (is ++ (record { weight = x; profit = n } ∷ []))
unfolding step_of moved_to next_of next_from counted_of closed_of head_of ends_item is_item_word
profit_ends n c w x k is = refl

-- whole lines
split_line : (name value rest : List ℕ) → line name value ++ rest ≡ name ++ (TAB ∷ (value ++ (LF ∷ rest)))
unfolding line
split_line name value rest = simp append_assoc

page_line : (n : ℕ) → n < nine_digits → (m c w x : ℕ) (k : Kind) (is : List Item) (rest : List ℕ) → run_from (line cap (decimal n) ++ rest) (at CapWord 0 m (head_with c w k x) is) ≡ run_from rest (at WidthWord 0 n (head_with n w k x) is)
page_line n small m c w x k is rest =
    ap (λ (t : List ℕ). run_from t (at CapWord 0 m (head_with c w k x) is)) (split_line cap (decimal n) rest) ∙ (cap_word m (head_with c w k x) is (decimal n ++ (LF ∷ rest)) ∙ (number_then page m (head_with c w k x) is n small rest ∙ ap (run_from rest) (page_ends n c w x k is)))

width_line : (n : ℕ) → n < nine_digits → (m c w x : ℕ) (k : Kind) (is : List Item) (rest : List ℕ) → run_from (line width (decimal n) ++ rest) (at WidthWord 0 m (head_with c w k x) is) ≡ run_from rest (at CutWord 0 n (head_with c n k x) is)
width_line n small m c w x k is rest =
    ap (λ (t : List ℕ). run_from t (at WidthWord 0 m (head_with c w k x) is)) (split_line width (decimal n) rest) ∙ (width_word m (head_with c w k x) is (decimal n ++ (LF ∷ rest)) ∙ (number_then wide m (head_with c w k x) is n small rest ∙ ap (run_from rest) (width_ends n c w x k is)))

split_line3 : (name value more rest : List ℕ) → line3 name value more ++ rest ≡ name ++ (TAB ∷ (value ++ (TAB ∷ (more ++ (LF ∷ rest)))))
unfolding line3
split_line3 name value more rest = simp append_assoc

item_line_lem : (i : Item) → i.weight < nine_digits → i.profit < nine_digits → (m c w x : ℕ) (k : Kind) (is : List Item) (rest : List ℕ) → run_from (line3 item (decimal i.weight) (decimal i.profit) ++ rest) (at ItemWord 0 m (head_with c w k x) is) ≡ run_from rest (at ItemWord 0 i.profit (head_with c w k i.weight) (is ++ (i ∷ [])))
item_line_lem i light cheap m c w x k is rest =
    let more : List ℕ = decimal i.profit ++ (LF ∷ rest) in
    ap (λ (t : List ℕ). run_from t (at ItemWord 0 m (head_with c w k x) is)) (split_line3 item (decimal i.weight) (decimal i.profit) rest) ∙ (item_word m (head_with c w k x) is (decimal i.weight ++ (TAB ∷ more)) ∙ (number_then weight m (head_with c w k x) is i.weight light more ∙ (ap (run_from more) (weight_ends i.weight c w x k is) ∙ (number_then profit i.weight (head_with c w k i.weight) is i.profit cheap rest ∙ ap (run_from rest) (profit_ends i.profit c w i.weight k is)))))

-- A state behind a whole text: what it holds of the job.
pub record Whole (s : State) (c w : ℕ) (k : Kind) (is : List Item) : Type 0 where
  pub part_is : s.place.part ≡ ItemWord
  pub at_start : s.place.at ≡ 0
  pub page_is : s.head.page ≡ c
  pub width_is : s.head.width ≡ w
  pub kind_is : s.head.kind ≡ k
  pub items_are : s.items ≡ is

items_run : (js : List Item) → SmallItems js → (m c w x : ℕ) (k : Kind) (is : List Item) → Whole (run_from (items_text js) (at ItemWord 0 m (head_with c w k x) is)) c w k (is ++ js)
unfolding items_text run_from
items_run [] small m c w x k is =
    record { part_is = refl; at_start = refl; page_is = refl; width_is = refl; kind_is = refl; items_are = sym (append-nil is) }
items_run (j ∷ js) small m c w x k is =
    let rest : Whole (run_from (items_text js) (at ItemWord 0 j.profit (head_with c w k j.weight) (is ++ (j ∷ [])))) c w k (is ++ (j ∷ []) ++ js) = items_run js small.1.1 j.profit c w j.weight k (is ++ (j ∷ [])) in
    subst (λ (s : State). Whole s c w k (is ++ (j ∷ js))) (sym (item_line_lem j small.0 small.1.0 m c w x k is (items_text js))) (subst (λ (l : List Item). Whole (run_from (items_text js) (at ItemWord 0 j.profit (head_with c w k j.weight) (is ++ (j ∷ [])))) c w k l) (append_assoc is (j ∷ []) js) rest)

-- the text without its items
split_text : (j : Job) → text_of j ≡ line cap (decimal j.page) ++ (line width (decimal j.width) ++ (line cut (cut_name j.kind) ++ items_text j.items))
unfolding text_of
split_text j = simp append_assoc

pub lines_run : (j : Job) → j.page < nine_digits → j.width < nine_digits → run_of (text_of j) ≡ run_from (items_text j.items) (at ItemWord 0 j.width (head_with j.page j.width (kind_from j.kind) 0) [])
unfolding run_of
lines_run j page_small width_small =
    let items : List ℕ = items_text j.items in
    ap (λ (t : List ℕ). run_from t begun) (split_text j) ∙ (page_line j.page page_small 0 0 0 0 _ [] (line width (decimal j.width) ++ (line cut (cut_name j.kind) ++ items)) ∙ (width_line j.width width_small j.page j.page 0 0 _ [] (line cut (cut_name j.kind) ++ items) ∙ (run_two (line cut (cut_name j.kind)) items (at CutWord 0 j.width (head_with j.page j.width _ 0) []) ∙ ap (run_from items) (cut_line j.width j.page j.width 0 _ [] j.kind))))

-- A job's text leads to the job.
pub text_run : (t : List ℕ) (j : Job) → IsText t j → Whole (run_of t) j.page j.width (kind_from j.kind) j.items
text_run t j is-text =
    subst (λ (s : State). Whole s j.page j.width (kind_from j.kind) j.items) (sym (ap run_of is-text.text_is ∙ lines_run j is-text.page_small is-text.width_small)) (items_run j.items is-text.items_small j.width j.page j.width 0 (kind_from j.kind) [])
