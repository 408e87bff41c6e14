-- 'Figures to check by hand': the starred cases, each with all that document 01's row gives and besides the whole drained list, the
-- best exact value, both counts and both paths.
use Rattle.std.specs.Prelude.{◌≡◌, true, false, List, [], ◌∷◌, map, pos}
use Rattle.std.proofs.Math.Option.{none, some}
use Rattle.knapsack.specs.Items.{Item}
use Rattle.diagram.specs.Run.{exactly, restricted, relaxing}
use Rattle.diagram.specs.After4.{last_exact_layer, frontier}
use Rattle.diagram.specs.Figures.{ShownRecord, shown, answer, Case, case, shown_of, lowest, item}

-- 'T is the three items of case R, capacity 2.'
abbrev T : List Item
T = item 1 4 ∷ item 1 3 ∷ item 1 2 ∷ []

abbrev B : List Item
B = item 3 5 ∷ []

abbrev F : List Item
F = item 2 3 ∷ item 2 3 ∷ []

-- H's two records, and M's first
abbrev H₁ : ShownRecord
H₁ = shown 1 (pos 4) (pos 9) 1 (1 ∷ [])

abbrev H₂ : ShownRecord
H₂ = shown 2 (pos 0) (pos 5) 1 (0 ∷ [])

abbrev M₁ : ShownRecord
M₁ = shown 1 (pos 4) (pos 7) 1 (1 ∷ [])

unfoldable pub cases : List Case
cases =
    -- A
    case exactly 1 last_exact_layer (pos 10) [] 0 (answer true (some (pos 0)) [] (some (pos 0)) [] 1 0 [])
    -- B
    ∷ case exactly 1 last_exact_layer lowest B 3 (answer true (some (pos 5)) (1 ∷ []) (some (pos 5)) (1 ∷ []) 3 2 [])
    -- E
    ∷ case exactly 1 last_exact_layer (pos 5) B 3 (answer true none [] none [] 1 0 [])
    -- F
    ∷ case exactly 1 last_exact_layer lowest F 2 (answer true (some (pos 3)) (2 ∷ 1 ∷ []) (some (pos 3)) (2 ∷ 1 ∷ []) 5 5 [])
    -- H
    ∷ case relaxing 1 last_exact_layer lowest T 2 (answer false (some (pos 9)) (5 ∷ 3 ∷ 1 ∷ []) none [] 9 12 (H₁ ∷ H₂ ∷ []))
    -- I
    ∷ case relaxing 1 frontier lowest T 2 (answer false (some (pos 9)) (5 ∷ 3 ∷ 1 ∷ []) none [] 9 12 (H₂ ∷ H₁ ∷ []))
    -- J
    ∷ case restricted 1 last_exact_layer lowest T 2 (answer false (some (pos 7)) (4 ∷ 3 ∷ 1 ∷ []) (some (pos 7)) (4 ∷ 3 ∷ 1 ∷ []) 6 5 [])
    -- K
    ∷ case relaxing 1 last_exact_layer (pos 9) T 2 (answer true none [] none [] 1 0 [])
    -- L
    ∷ case relaxing 1 last_exact_layer (pos 8) T 2 (answer false (some (pos 9)) (5 ∷ 3 ∷ 1 ∷ []) none [] 8 8 (H₁ ∷ []))
    -- M
    ∷ case relaxing 2 last_exact_layer lowest T 2 (answer true (some (pos 7)) (4 ∷ 3 ∷ 1 ∷ []) (some (pos 7)) (4 ∷ 3 ∷ 1 ∷ []) 10 12 (M₁ ∷ H₂ ∷ []))
    ∷ []

-- the table statement
abbrev pub Starred : Type 0
Starred = map (λ c. shown_of c.given) cases ≡ map (λ c. c.figures) cases
