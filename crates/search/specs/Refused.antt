-- A pick's refusals in two parts: those that are known before the record is read, then the record's.
use Rattle.std.specs.Prelude.{[], ◌∷◌, ◌++◌, ℕ}
use Rattle.std.proofs.Math.Option.{Option}
use Rattle.calls.specs.Asked.{Problem}
use Rattle.calls.specs.Refusals.{first_of, problem_checks}
use Rattle.searches.specs.Search.{Search}
use Rattle.searches.specs.Pick.{pick_check}

-- 1 to 6, then 14
unfoldable pub pick_first : Problem → Search → ℕ → ℕ → Option ℕ
pick_first p s place places = first_of (problem_checks p ++ (pick_check s place places ∷ []))
