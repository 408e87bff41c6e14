-- The text behind which the machine stands, told from its state: each byte that is no fault puts itself behind that text.
use mathlib.Core.Path.{◌≡◌, refl, sym, subst, ◌∙◌}
use mathlib.Core.Bool.{cond}
use mathlib.Core.List.{List, [], ◌∷◌, ◌++◌}
use Prim.Native.Nat.{ℕ, ◌+◌, ◌-◌, ◌*◌, ◌<◌, ◌≤◌}
use native.Mathlib.Omega.{arith}
use native.Mathlib.Decide.{dec_le, ℕ_discrete}
use lib.Dec.{eqb}
use lib.ListN.{length, take, get_or}
use Rattle.knapsack.specs.Items.{Item}
use Rattle.numbers.specs.Decimal.{decimal}
use Rattle.jobs.specs.Text.{Job, cap, width, cut, lel, frontier_word, item, LF, TAB, line, text_of}
use Rattle.cutset.specs.Whole.{kind_of}
use Rattle.job_text.specs.declared.Part.{Part}
use Rattle.job_text.specs.declared.Part.TheVariants.{CapWord, Page, WidthWord, Width, CutWord, Choice, Lel, Frontier, ItemWord, Weight, Profit, Fault}
use Rattle.job_text.specs.declared.Place.{Place}
use Rattle.job_text.specs.declared.Head.{Head}
use Rattle.job_text.specs.Machine.{place, faulted, spelled_of, pushed_of, counted_of, State}
use Rattle.job_text.proofs.Branches.{spelled_past, spelled_wrong, spelled_on, spelled_out, pushed_below, pushed_above, pushed_first, pushed_leading, pushed_tenth, pushed_more, closed_empty, closed_some, counted_end, counted_digit}

-- the job as far as it was read
abbrev pub job_of : Head → List Item → Job
job_of h is = record { page = h.page; width = h.width; kind = kind_of h.kind; items = is }

-- the lines of the page and of the width
abbrev pub two_lines : Head → List ℕ
two_lines h = line cap (decimal h.page) ++ line width (decimal h.width)

-- what stands in front of a part
unfoldable pub front : Part → Head → List Item → List ℕ
front CapWord h is = []
front Page h is = cap ++ (TAB ∷ [])
front WidthWord h is = line cap (decimal h.page)
front Width h is = line cap (decimal h.page) ++ (width ++ (TAB ∷ []))
front CutWord h is = two_lines h
front Choice h is = two_lines h ++ (cut ++ (TAB ∷ []))
front Lel h is = two_lines h ++ (cut ++ (TAB ∷ []))
front Frontier h is = two_lines h ++ (cut ++ (TAB ∷ []))
front ItemWord h is = text_of (job_of h is)
front Weight h is = text_of (job_of h is) ++ (item ++ (TAB ∷ []))
front Profit h is = text_of (job_of h is) ++ (item ++ (TAB ∷ decimal h.weight ++ (TAB ∷ [])))
front Fault h is = []

-- the digits that were read of a number
unfoldable pub digits_at : ℕ → ℕ → List ℕ
digits_at k n = cond (eqb k 0) [] (decimal n)

-- what was read of a part
unfoldable pub inside : Part → ℕ → ℕ → List ℕ
inside CapWord k n = take k (cap ++ (TAB ∷ []))
inside Page k n = digits_at k n
inside WidthWord k n = take k (width ++ (TAB ∷ []))
inside Width k n = digits_at k n
inside CutWord k n = take k (cut ++ (TAB ∷ []))
inside Choice k n = []
inside Lel k n = take k (lel ++ (LF ∷ []))
inside Frontier k n = take k (frontier_word ++ (LF ∷ []))
inside ItemWord k n = take k (item ++ (TAB ∷ []))
inside Weight k n = digits_at k n
inside Profit k n = digits_at k n
inside Fault k n = []

unfoldable pub so_far : State → List ℕ
so_far s = front s.place.part s.head s.items ++ inside s.place.part s.place.at s.place.number

-- The ways on from a place, as equations.
pub data Spelling (p : Place) (b : ℕ) (w : List ℕ) (then : Part) (q : Place) : Type 0 where
  wrong : q ≡ faulted → Spelling p b w then q
  on : p.at < length w → get_or w p.at 0 ≡ b → q ≡ place p.part (p.at + 1) p.number → Spelling p b w then q
  out : p.at < length w → get_or w p.at 0 ≡ b → length w ≤ p.at + 1 → q ≡ place then 0 p.number → Spelling p b w then q

pub spelling : (p : Place) (b : ℕ) (w : List ℕ) (then : Part) → Spelling p b w then (spelled_of p b w then)
spelling p b w then =
    elim (dec_le (length w) p.at) [
      | yes past ↦ wrong (sym (spelled_past p b w then past))
      | no inner ↦
          elim (ℕ_discrete (get_or w p.at 0) b) [
            | no other ↦ wrong (sym (spelled_wrong p b w then (omega arith) other))
            | yes same ↦
                elim (dec_le (length w) (p.at + 1)) [
                  | yes last ↦ out (omega arith) same last (sym (spelled_out p b w then (omega arith) same last))
                  | no more ↦ on (omega arith) same (sym (spelled_on p b w then (omega arith) same (omega arith)))
                ]
          ]
    ]

pub data Pushing (p : Place) (b : ℕ) (q : Place) : Type 0 where
  wrong : q ≡ faulted → Pushing p b q
  first : 48 ≤ b → b ≤ 57 → p.at ≡ 0 → q ≡ place p.part 1 (b - 48) → Pushing p b q
  more : 48 ≤ b → b ≤ 57 → (p.at ≡ 0 → ⊥) → 0 < p.number → p.number < 100000000 → q ≡ place p.part 1 (p.number * 10 + (b - 48)) → Pushing p b q

pushing_digit : (p : Place) (b : ℕ) → 48 ≤ b → b ≤ 57 → Pushing p b (pushed_of p b)
pushing_digit p b low high =
    elim (ℕ_discrete p.at 0) [
      | yes none ↦ first low high none (sym (pushed_first p b (b - 48) low high refl none))
      | no some ↦
          elim (ℕ_discrete p.number 0) [
            | yes leading ↦ wrong (sym (pushed_leading p b low high some leading))
            | no large ↦
                elim (dec_le 100000000 p.number) [
                  | yes full ↦ wrong (sym (pushed_tenth p b low high some large full))
                  | no room ↦ more low high some (omega arith) (omega arith) (sym (pushed_more p b (b - 48) low high refl some large (omega arith)))
                ]
          ]
    ]

pushing : (p : Place) (b : ℕ) → Pushing p b (pushed_of p b)
pushing p b =
    elim (dec_le 48 b) [
      | no below ↦ wrong (sym (pushed_below p b (omega arith)))
      | yes low ↦
          elim (dec_le b 57) [
            | no above ↦ wrong (sym (pushed_above p b (omega arith)))
            | yes high ↦ pushing_digit p b low high
          ]
    ]

pub data Counting (p : Place) (b end : ℕ) (then : Part) (q : Place) : Type 0 where
  wrong : q ≡ faulted → Counting p b end then q
  digit : Pushing p b q → Counting p b end then q
  close : b ≡ end → (p.at ≡ 0 → ⊥) → q ≡ place then 0 p.number → Counting p b end then q

pub counting : (p : Place) (b end : ℕ) (then : Part) → Counting p b end then (counted_of p b end then)
counting p b end then =
    elim (ℕ_discrete b end) [
      | no other ↦ digit (subst (λ (q : Place). Pushing p b q) (counted_digit p b end then other) (pushing p b))
      | yes same ↦
          elim (ℕ_discrete p.at 0) [
            | yes none ↦ wrong (sym (counted_end p b end then same) ∙ sym (closed_empty p then none))
            | no some ↦ close same some (sym (counted_end p b end then same) ∙ sym (closed_some p then some))
          ]
    ]
