-- 'Checked in this order; the first that applies is given, never otherwise': the rows as tests, and the first that applies.
use Rattle.std.specs.Prelude.{Bool, true, false, not, ◌&&◌, ◌||◌, List, [], ◌∷◌, ◌++◌, ℕ, zero, suc, ◌+◌, ltb, eqb, ℤ, pos, negsuc, length}
use Rattle.std.proofs.Math.Option.{Option, none, some}
use Rattle.calls.specs.Asked.{Problem, Given, items_of}
use Rattle.calls.specs.Rows.{namings, taken_weight, taken_profit}

-- a row's number, and whether it applies
pub record Check : Type 0 where
  pub number : ℕ
  pub applies : Bool

unfoldable pub first_of : List Check → Option ℕ
first_of [] = none
first_of (c ∷ cs) = elim c.applies [ true ↦ some c.number | false ↦ first_of cs ]

-- whether some number of the list is above the limit
unfoldable pub some_above : ℕ → List ℕ → Bool
some_above limit [] = false
some_above limit (x ∷ xs) = ltb limit x || some_above limit xs

-- whether each item below d is named exactly once
unfoldable pub each_once : ℕ → List ℕ → Bool
each_once zero path = true
each_once (suc d) path = eqb (namings d path) 1 && each_once d path

-- whether an i64 is that natural number
unfoldable pub is_natural : ℤ → ℕ → Bool
is_natural (pos m) n = eqb m n
is_natural (negsuc m) n = false

-- rows 1 to 6
unfoldable pub problem_checks : Problem → List Check
problem_checks p =
    record { number = 1; applies = not (eqb (length p.weights) (length p.profits)) }
    ∷ record { number = 2; applies = ltb 64 (length p.weights) }
    ∷ record { number = 3; applies = ltb 65535 p.page }
    ∷ record { number = 4; applies = some_above 65535 p.weights }
    ∷ record { number = 5; applies = some_above 1000000 p.profits }
    ∷ record { number = 6; applies = eqb p.width 0 || ltb 256 p.width }
    ∷ []

-- rows 7 to 9
unfoldable pub record_checks : Problem → Given → List Check
record_checks p r =
    record { number = 7; applies = ltb (length p.weights) r.depth || not (eqb (length r.path) r.depth) }
    ∷ record { number = 8; applies = not (each_once r.depth r.path) }
    ∷ record {
      number = 9;
      applies =
          not (eqb (taken_weight (items_of p.weights p.profits) r.path + r.capacity) p.page)
          || not (is_natural r.value (taken_profit (items_of p.weights p.profits) r.path));
    }
    ∷ []

-- compile: 1 to 6, then 7 to 9
unfoldable pub compile_refusal : Problem → Given → Option ℕ
compile_refusal p r = first_of (problem_checks p ++ record_checks p r)
