-- The checks of start and pick are document 01's rows: the same numbers in the same order, each test deciding what its row says.
use mathlib.Core.Bool.{not, ◌||◌}
use mathlib.Core.List.{List, [], ◌∷◌, ◌++◌}
use lib.Dec.{ltb, eqb}
use lib.ListN.{length}
use Rattle.calls.specs.Asked.{Problem}
use Rattle.calls.specs.Refusals.{problem_checks, record_checks}
use Rattle.calls.proofs.Tests.{by_less, by_equal, by_not, by_or}
use Rattle.calls.proofs.Refusals.{Checked, done, next, checked_append, problem_checked, record_checked}
use Rattle.searches.specs.Places.{Place}
use Rattle.searches.specs.Search.{Search, most_picks}
use Rattle.searches.specs.Pick.{Asked, pick_check, picked_from}
use Rattle.searches.specs.Rows.{start_rows, check_rows}

pub start_checked : (p : Problem) (list : List Place) → Checked (problem_checks p ++ (record { number = 13; applies = eqb (length list) 0 } ∷ [])) (start_rows p list)
start_checked p list = checked_append (problem_checked p) (next (by_equal (length list) 0) done)

pub pick_checked : (q : Asked) (s : Search) (list : List Place) → Checked (problem_checks q.problem ++ (pick_check s q.place (length list) ∷ record_checks q.problem (picked_from list q.place))) (check_rows q s list)
unfolding pick_check
pick_checked q s list =
    checked_append (problem_checked q.problem)
    (next
    (by_or (not (ltb q.place s.opened)) (ltb (length list) s.opened || eqb s.picks most_picks) (by_not (ltb q.place s.opened) (by_less q.place s.opened))
    (by_or (ltb (length list) s.opened) (eqb s.picks most_picks) (by_less (length list) s.opened) (by_equal s.picks most_picks)))
    (record_checked q.problem (picked_from list q.place)))
