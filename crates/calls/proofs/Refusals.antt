-- Compile's refusals are document 01's table: a number is given exactly if its row is the first that applies, and none exactly if none does.
use mathlib.Core.Path.{◌≡◌, refl, subst}
use mathlib.Core.Bool.{Bool, true, false, not}
use mathlib.Core.List.{List, [], ◌∷◌, ◌++◌}
use mathlib.Core.Option.{none, some}
use Prim.Native.Nat.{ℕ, ◌+◌}
use native.Mathlib.Omega.{arith}
use lib.Dec.{ltb, eqb}
use lib.ListN.{length}
use Rattle.calls.specs.Asked.{Problem, Given, items_of}
use Rattle.calls.specs.Rows.{taken_weight, taken_profit}
use Rattle.calls.specs.Table.{Row, row, problem_rows, record_rows, First, here, later, Clear, end, past}
use Rattle.calls.specs.Refusals.{Check, first_of, is_natural, problem_checks, record_checks, compile_refusal}
use Rattle.calls.proofs.Tests.{Decides, by_less, by_equal, by_not, by_or, by_some_above, by_each_once, by_natural}

-- The checks are the rows: the same numbers in the same order, each test deciding what its row says.
pub data Checked : List Check → List Row → Type 1 where
  done : Checked [] []
  next : {n : ℕ} {b : Bool} {P : Type 0} {cs : List Check} {rs : List Row} → Decides b P → Checked cs rs → Checked (record { number = n; applies = b } ∷ cs) (row n P ∷ rs)

pub checked_append : {cs ds : List Check} {rs ts : List Row} → Checked cs rs → Checked ds ts → Checked (cs ++ ds) (rs ++ ts)
checked_append done e = e
checked_append (next d c) e = next d (checked_append c e)

-- 'the first that applies is given'
pub given_first : {cs : List Check} {rs : List Row} → Checked cs rs → (n : ℕ) → first_of cs ≡ some n → First rs n
unfolding first_of
given_first done n e = let z : ◌≡◌ {A = ℕ} 0 1 = cc in absurd (omega arith)
given_first (next {n = m} {b = true} {P = P} {rs = rs} d c) n e =
    let q : m ≡ n = cc in
    let h : First (row m P ∷ rs) m = here (d.0 refl) in
    subst (λ (k : ℕ). First (row m P ∷ rs) k) q h
given_first (next {b = false} {P = P} d c) n e = later (λ (p : P). let z : ◌≡◌ {A = ℕ} 0 1 = cc (d.1 p) in absurd (omega arith)) (given_first c n e)

-- 'never otherwise'
pub first_given : {cs : List Check} {rs : List Row} → Checked cs rs → {n : ℕ} → First rs n → first_of cs ≡ some n
unfolding first_of
first_given done {n = n} x4 = elim x4 [ ]
first_given (next {b = true} d c) (here p) = refl
first_given (next {b = false} d c) (here p) = let z : ◌≡◌ {A = ℕ} 0 1 = cc (d.1 p) in absurd (omega arith)
first_given (next {b = true} d c) (later q f) = absurd (q (d.0 refl))
first_given (next {b = false} d c) (later q f) = first_given c f

pub none_clear : {cs : List Check} {rs : List Row} → Checked cs rs → first_of cs ≡ none → Clear rs
unfolding first_of
none_clear done e = end
none_clear (next {b = true} d c) e = let z : ◌≡◌ {A = ℕ} 0 1 = cc in absurd (omega arith)
none_clear (next {b = false} {P = P} d c) e = past (λ (p : P). let z : ◌≡◌ {A = ℕ} 0 1 = cc (d.1 p) in absurd (omega arith)) (none_clear c e)

pub clear_none : {cs : List Check} {rs : List Row} → Checked cs rs → Clear rs → first_of cs ≡ none
unfolding first_of
clear_none done e = refl
clear_none (next {b = true} d c) (past q r) = absurd (q (d.0 refl))
clear_none (next {b = false} d c) (past q r) = clear_none c r

-- Rows 1 to 6, and 7 to 9: each test is equivalent to what its row says.
pub problem_checked : (p : Problem) → Checked (problem_checks p) (problem_rows p)
unfolding problem_checks
problem_checked p =
    next (by_not (eqb (length p.weights) (length p.profits)) (by_equal (length p.weights) (length p.profits)))
    (next (by_less 64 (length p.weights))
    (next (by_less 65535 p.page)
    (next (by_some_above 65535 p.weights)
    (next (by_some_above 1000000 p.profits)
    (next (by_or (eqb p.width 0) (ltb 256 p.width) (by_equal p.width 0) (by_less 256 p.width)) done)))))

pub record_checked : (p : Problem) (r : Given) → Checked (record_checks p r) (record_rows p r)
unfolding record_checks
record_checked p r =
    next (by_or (ltb (length p.weights) r.depth) (not (eqb (length r.path) r.depth)) (by_less (length p.weights) r.depth) (by_not (eqb (length r.path) r.depth) (by_equal (length r.path) r.depth)))
    (next (by_each_once r.depth r.path)
    (next (by_or (not (eqb (weighs + r.capacity) p.page)) (not (is_natural r.value earns)) (by_not (eqb (weighs + r.capacity) p.page) (by_equal (weighs + r.capacity) p.page)) (by_not (is_natural r.value earns) (by_natural r.value earns))) done))
  where
    weighs : ℕ
    weighs = taken_weight (items_of p.weights p.profits) r.path

    earns : ℕ
    earns = taken_profit (items_of p.weights p.profits) r.path

-- Compile's refusals 1 to 9, whole.
pub compile_checked : (p : Problem) (r : Given) → Checked (problem_checks p ++ record_checks p r) (problem_rows p ++ record_rows p r)
compile_checked p r = checked_append (problem_checked p) (record_checked p r)

pub refused_exactly : (p : Problem) (r : Given) (n : ℕ) → (compile_refusal p r ≡ some n → First (problem_rows p ++ record_rows p r) n) × (First (problem_rows p ++ record_rows p r) n → compile_refusal p r ≡ some n)
unfolding compile_refusal
refused_exactly p r n = (given_first (compile_checked p r) n, λ f. first_given (compile_checked p r) f)

pub accepted_exactly : (p : Problem) (r : Given) → (compile_refusal p r ≡ none → Clear (problem_rows p ++ record_rows p r)) × (Clear (problem_rows p ++ record_rows p r) → compile_refusal p r ≡ none)
unfolding compile_refusal
accepted_exactly p r = (none_clear (compile_checked p r), clear_none (compile_checked p r))
