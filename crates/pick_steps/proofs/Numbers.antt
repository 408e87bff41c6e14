-- A pick's numbers in two parts: 1 to 6 and 14 before the record is read, then the record's.
use mathlib.Core.Path.{◌≡◌, sym, ap, ◌∙◌}
use mathlib.Core.List.{[], ◌∷◌, ◌++◌, append_assoc}
use mathlib.Core.Option.{none, some}
use Prim.Native.Nat.{ℕ}
use Rattle.calls.specs.Asked.{Problem, Given}
use Rattle.calls.specs.Refusals.{first_of, problem_checks, record_checks}
use Rattle.searches.specs.Search.{Search}
use Rattle.searches.specs.Pick.{pick_check}
use Rattle.search.specs.Refused.{pick_first}
use Rattle.refusals.proofs.Accepted.{first_before, first_behind}
use Rattle.search.proofs.Firsts.{none_before, within_limits}
use Rattle.pick_steps.specs.Steps.{numbers_of}

module _ (p : Problem) (s : Search) (place places : ℕ) (g : Given) where
  parts : numbers_of p s place places g ≡ first_of ((problem_checks p ++ (pick_check s place places ∷ [])) ++ record_checks p g)
  parts = ap first_of (sym (append_assoc (problem_checks p) (pick_check s place places ∷ []) (record_checks p g)))

  pub numbers_first : (n : ℕ) → pick_first p s place places ≡ some n → numbers_of p s place places g ≡ some n
  unfolding pick_first
  numbers_first n e = parts ∙ first_before _ (record_checks p g) n e

  pub numbers_then : pick_first p s place places ≡ none → numbers_of p s place places g ≡ first_of (record_checks p g)
  unfolding pick_first
  numbers_then e = parts ∙ first_behind _ (record_checks p g) e

  pub first_none : numbers_of p s place places g ≡ none → pick_first p s place places ≡ none
  unfolding pick_first
  first_none e = none_before _ (record_checks p g) (sym parts ∙ e)

-- the goals of `checked`
pub ruleset number_rules = (numbers_first, numbers_then, within_limits)
