-- Which number start and pick give, from what the code has tested on its way, and what an accepted pick has passed.
use mathlib.Core.Path.{◌≡◌, refl, sym, ap, ◌∙◌}
use mathlib.Core.Logic.{◌≢◌}
use mathlib.Core.Bool.{Bool, true, false, not, ◌||◌}
use mathlib.Core.List.{List, [], ◌∷◌, ◌++◌, append_assoc}
use mathlib.Core.Option.{Option, none, some}
use Prim.Native.Nat.{ℕ, ◌<◌, ◌≤◌}
use native.Mathlib.Omega.{arith}
use lib.Dec.{ltb, eqb}
use lib.ListN.{length}
use borrow.Author.Tests.{eq-eqb, ne_eqb, ltb-true, ltb-false, eqb-false, not-false}
use Rattle.knapsack.specs.Limits.{InLimits}
use Rattle.calls.specs.Asked.{Problem}
use Rattle.calls.specs.Refusals.{Check, first_of, problem_checks, record_checks}
use Rattle.refusals.specs.Passed.{Passed}
use Rattle.refusals.proofs.Accepted.{or_false, passed, first_before, first_behind}
use Rattle.searches.specs.Places.{Place}
use Rattle.searches.specs.Search.{Search, most_picks}
use Rattle.searches.specs.Start.{start_refusal}
use Rattle.searches.specs.Pick.{Asked, pick_check, pick_refusal, picked_from}
use Rattle.search.specs.Refused.{pick_first}

applies_here : (n : ℕ) (b : Bool) (cs : List Check) → b ≡ true → some n ≡ first_of (record { number = n; applies = b } ∷ cs)
unfolding first_of
applies_here n true cs e = refl
applies_here n false cs e = let z : ◌≡◌ {A = ℕ} 0 1 = cc in absurd (omega arith)

applies_not : (n : ℕ) (b : Bool) → b ≡ false → none ≡ first_of (record { number = n; applies = b } ∷ [])
unfolding first_of
applies_not n true e = let z : ◌≡◌ {A = ℕ} 0 1 = cc in absurd (omega arith)
applies_not n false e = refl

-- ---- start: 1 to 6, then 13

pub start_before : (p : Problem) (places n : ℕ) → first_of (problem_checks p) ≡ some n → some n ≡ start_refusal p places
unfolding start_refusal
start_before p places n e = sym (first_before (problem_checks p) _ n e)

pub start_no_place : (p : Problem) (places : ℕ) → first_of (problem_checks p) ≡ none → places ≡ 0 → some 13 ≡ start_refusal p places
unfolding start_refusal
start_no_place p places e z = applies_here 13 _ [] (eq-eqb places 0 z) ∙ sym (first_behind (problem_checks p) _ e)

pub start_accepted : (p : Problem) (places : ℕ) → first_of (problem_checks p) ≡ none → places ≢ 0 → none ≡ start_refusal p places
unfolding start_refusal
start_accepted p places e z = applies_not 13 _ (ne_eqb places 0 z) ∙ sym (first_behind (problem_checks p) _ e)

-- ---- pick: 1 to 6, then 14

pub pick_before : (p : Problem) (s : Search) (place places n : ℕ) → first_of (problem_checks p) ≡ some n → some n ≡ pick_first p s place places
unfolding pick_first
pick_before p s place places n e = sym (first_before (problem_checks p) _ n e)

module _ (p : Problem) (s : Search) (place places : ℕ) (e : first_of (problem_checks p) ≡ none) where
  pub unpickable_14 : (pick_check s place places).applies ≡ true → some 14 ≡ pick_first p s place places
  unfolding pick_first pick_check
  unpickable_14 h = applies_here 14 _ [] h ∙ sym (first_behind (problem_checks p) _ e)

  pub pick_passes : (pick_check s place places).applies ≡ false → none ≡ pick_first p s place places
  unfolding pick_first pick_check
  pick_passes h = applies_not 14 _ h ∙ sym (first_behind (problem_checks p) _ e)

-- ---- the two parts of a pick's refusals are the whole: 1 to 6, 14, 7 to 9

parts : (q : Asked) (s : Search) (list : List Place) → pick_refusal q s list ≡ first_of ((problem_checks q.problem ++ (pick_check s q.place (length list) ∷ [])) ++ record_checks q.problem (picked_from list q.place))
unfolding pick_refusal
parts q s list = ap first_of (sym (append_assoc (problem_checks q.problem) (pick_check s q.place (length list) ∷ []) (record_checks q.problem (picked_from list q.place))))

pub refused_first : (q : Asked) (s : Search) (list : List Place) (n : ℕ) → pick_first q.problem s q.place (length list) ≡ some n → pick_refusal q s list ≡ some n
unfolding pick_first
refused_first q s list n e = parts q s list ∙ first_before _ (record_checks q.problem (picked_from list q.place)) n e

pub then_record : (q : Asked) (s : Search) (list : List Place) → pick_first q.problem s q.place (length list) ≡ none → pick_refusal q s list ≡ first_of (record_checks q.problem (picked_from list q.place))
unfolding pick_first
then_record q s list e = parts q s list ∙ first_behind _ (record_checks q.problem (picked_from list q.place)) e

-- ---- what has passed where 1 to 6 and 14 don't apply

pub none_before : (cs ds : List Check) → first_of (cs ++ ds) ≡ none → first_of cs ≡ none
none_before cs ds e = go (first_of cs) refl
  where
    go : (x : Option ℕ) → first_of cs ≡ x → first_of cs ≡ none
    go none h = h
    go (some n) h = let q : some n ≡ none = sym (first_before cs ds n h) ∙ e in let z : ◌≡◌ {A = ℕ} 0 1 = cc in absurd (omega arith)

none_here : (n : ℕ) (b : Bool) → first_of (record { number = n; applies = b } ∷ []) ≡ none → b ≡ false
unfolding first_of
none_here n true e = let z : ◌≡◌ {A = ℕ} 0 1 = cc in absurd (omega arith)
none_here n false e = refl

pub record Allowed (p : Problem) (s : Search) (place places : ℕ) : Type 0 where
  pub passed : Passed p
  pub below : place < s.opened
  pub room : s.opened ≤ places
  pub countable : s.picks ≢ most_picks

pub allowed : (p : Problem) (s : Search) (place places : ℕ) → pick_first p s place places ≡ none → Allowed p s place places
unfolding pick_first pick_check
allowed p s place places e =
    let b : first_of (problem_checks p) ≡ none = none_before (problem_checks p) _ e in
    let t : (not (ltb place s.opened) || (ltb places s.opened || eqb s.picks most_picks)) ≡ false = none_here 14 _ (sym (first_behind (problem_checks p) _ b) ∙ e) in
    let t1 = or_false _ _ t in
    let t2 = or_false _ _ t1.1 in
    record {
      passed = passed p b;
      below = ltb-true _ _ (not-false _ t1.0);
      room = ltb-false _ _ t2.0;
      countable = eqb-false _ _ t2.1;
    }

pub within_limits : (p : Problem) (s : Search) (place places : ℕ) → none ≡ pick_first p s place places → InLimits p.weights p.profits
within_limits p s place places e = (allowed p s place places (sym e)).passed.limits

-- the goals of `pick_verdict`
pub ruleset pick_rules = (pick_before, unpickable_14, pick_passes)
