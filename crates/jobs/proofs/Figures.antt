-- Case R and the figures beside it, computed from the definitions.
use mathlib.Core.Path.{refl, sym, subst}
use mathlib.Core.List.Memᴰ
use mathlib.Core.List.{List, [], ◌∷◌, Memᴰ}
use mathlib.Core.Logic.{⊎_elim}
use Prim.Native.Nat.{◌<◌, ◌≤◌}
use native.Mathlib.Omega.{arith}
use Rattle.searches.proofs.Computing.{computing}
use Rattle.jobs.specs.Figures.{CaseR, TextLimits, LargestFirst, CaseRLeaves}
use Rattle.jobs.specs.Text.{line, line3, cut_name, items_text, text_of, SmallItems}
use Rattle.jobs.specs.Run.{problem_of, largest_from, largest, asked_for, picking, unless_refused, started_on, run_of, run}
use Rattle.jobs.specs.Left.{unless_last, picking_leaves, started_leaves, run_leaves}
use Rattle.jobs.specs.Page.{taken, item_lines, natural, page_of, refusal_of, answer_of}
use Rattle.numbers.specs.Decimal.{digits_in, decimal}
use Rattle.knapsack.specs.Items.{Item, takes}

pub case_r_right : CaseR
unfolding computing line line3 cut_name items_text text_of problem_of largest_from largest asked_for picking unless_refused started_on run_of run taken item_lines natural page_of refusal_of answer_of digits_in decimal takes
case_r_right = (refl, refl, (refl, refl))

abbrev NineDigits : Item → Type 0
NineDigits i = (i.weight ≤ 999999999) × (i.profit ≤ 999999999)

items_in_limits : (is : List Item) → SmallItems is → (i : Item) → Memᴰ i is → NineDigits i
items_in_limits [] small i m = absurd (Memᴰ.not-nil m)
items_in_limits (x ∷ is) small i m =
    let light : x.weight < 1000000000 = small.0 in
    let cheap : x.profit < 1000000000 = small.1.0 in
    ⊎_elim (λ e. subst NineDigits (sym e) (omega arith, omega arith)) (λ k. items_in_limits is small.1.1 i k) (Memᴰ.cases_cons m)

pub text_limits : TextLimits
unfolding line line3 cut_name items_text text_of digits_in decimal
text_limits = (
  refl,
  (λ t e short. record { text_is = e; page_small = omega arith; width_small = omega arith; items_small = (omega arith, (omega arith, tt)); short = short }),
  (λ t j is. let page : j.page < 1000000000 = is.page_small in let width : j.width < 1000000000 = is.width_small in (omega arith, omega arith)),
  (λ t j is. items_in_limits j.items is.items_small),
  (λ t j is. is.short),
)

pub largest_first : LargestFirst
unfolding largest_from largest
largest_first = (refl, refl, refl, refl, refl, refl, refl)

pub case_r_leaves : CaseRLeaves
unfolding computing problem_of largest_from largest asked_for unless_last picking_leaves started_leaves run_leaves takes
case_r_leaves = (refl, refl, refl, refl, refl, refl, refl, refl)
