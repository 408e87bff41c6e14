-- What follows where refusals 1 to 6 pass: the limits that the code counts on, and that 7 to 9 decide a compile.
use Prim.Native.Nat.{ℕ, ◌≤◌}
use mathlib.Core.Path.{◌≡◌, refl, sym, ◌∙◌}
use mathlib.Core.Bool.{Bool, true, false, ◌||◌}
use mathlib.Core.List.{List, [], ◌∷◌, ◌++◌}
use mathlib.Core.Option.{Option, none, some}
use native.Mathlib.Omega.{arith}
use lib.Dec.{ltb, eqb}
use lib.ListN.{length}
use borrow.Author.Tests.{ltb-false, eqb-true, eqb-false, not-false}
use Rattle.knapsack.proofs.Cases.{by_test}
use Rattle.calls.specs.Asked.{Problem, Given}
use Rattle.knapsack.specs.Limits.{InLimits}
use Rattle.calls.specs.Refusals.{Check, first_of, some_above, problem_checks, record_checks, compile_refusal}
use Rattle.refusals.specs.Passed.{Passed}
use Rattle.refusals.proofs.Lists.{all_in_limit}

-- where none applies, the first check doesn't, and none of the others does
none_here : (n : ℕ) (b : Bool) (cs : List Check) → first_of (record { number = n; applies = b } ∷ cs) ≡ none → (b ≡ false) × (first_of cs ≡ none)
unfolding first_of
none_here n true cs e = absurd cc
none_here n false cs e = (refl, e)

pub or_false : (a b : Bool) → (a || b) ≡ false → (a ≡ false) × (b ≡ false)
or_false true b e = absurd cc
or_false false b e = (refl, e)

-- where 1, 2, 4 and 5 don't apply, the items are within the limits
pub in_limits : (weights profits : List ℕ) → length weights ≡ length profits → length weights ≤ 64 → some_above 65535 weights ≡ false → some_above 1000000 profits ≡ false → InLimits weights profits
in_limits weights profits p f l c =
    record { paired = p; few = f; light = all_in_limit 65535 weights l; cheap = all_in_limit 1000000 profits c }

pub passed : (p : Problem) → first_of (problem_checks p) ≡ none → Passed p
unfolding problem_checks
passed p e =
    let c1 = none_here _ _ _ e in
    let c2 = none_here _ _ _ c1.1 in
    let c3 = none_here _ _ _ c2.1 in
    let c4 = none_here _ _ _ c3.1 in
    let c5 = none_here _ _ _ c4.1 in
    let c6 : (eqb p.width 0 ≡ false) × (ltb 256 p.width ≡ false) = or_false _ _ (none_here _ _ _ c5.1).0 in
    record {
      limits = in_limits p.weights p.profits (eqb-true _ _ (not-false _ c1.0)) (ltb-false _ _ c2.0) c4.0 c5.0;
      page = ltb-false _ _ c3.0;
      some_width = omega (arith, eqb-false p.width 0 c6.0);
      width = ltb-false _ _ c6.1;
    }

-- the first of two lists that applies is that of the one before, or of the other where that has none
pub first_before : (cs ds : List Check) (n : ℕ) → first_of cs ≡ some n → first_of (cs ++ ds) ≡ some n
unfolding first_of
first_before [] ds n = λ e. absurd cc
first_before (c ∷ cs) ds n =
    by_test (λ t. (elim t [ true ↦ some c.number | false ↦ first_of cs ]) ≡ some n → (elim t [ true ↦ some c.number | false ↦ first_of (cs ++ ds) ]) ≡ some n) c.applies
    (λ t e. e)
    (λ t e. first_before cs ds n e)

pub first_behind : (cs ds : List Check) → first_of cs ≡ none → first_of (cs ++ ds) ≡ first_of ds
unfolding first_of
first_behind [] ds = λ e. refl
first_behind (c ∷ cs) ds =
    by_test (λ t. (elim t [ true ↦ some c.number | false ↦ first_of cs ]) ≡ none → (elim t [ true ↦ some c.number | false ↦ first_of (cs ++ ds) ]) ≡ first_of ds) c.applies
    (λ t e. absurd cc)
    (λ t e. first_behind cs ds e)

pub compile_before : (p : Problem) (g : Given) (n : ℕ) → first_of (problem_checks p) ≡ some n → some n ≡ compile_refusal p g
unfolding compile_refusal
compile_before p g n e = sym (first_before (problem_checks p) (record_checks p g) n e)

pub compile_behind : (p : Problem) (g : Given) (r : Option ℕ) → first_of (problem_checks p) ≡ none → r ≡ first_of (record_checks p g) → r ≡ compile_refusal p g
unfolding compile_refusal
compile_behind p g r e h = h ∙ sym (first_behind (problem_checks p) (record_checks p g) e)

-- a compile that is not refused has passed 1 to 6
pub compile_passed : (p : Problem) (g : Given) → compile_refusal p g ≡ none → Passed p
compile_passed p g e = go (first_of (problem_checks p)) refl
  where
    go : (x : Option ℕ) → first_of (problem_checks p) ≡ x → Passed p
    go none h = passed p h
    go (some n) h = let q : some n ≡ none = compile_before p g n h ∙ e in absurd cc
