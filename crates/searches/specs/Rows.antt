-- 'Refusal numbers' of start and pick: what each row of document 01's table says of them, and the rows in the order in which they are checked.
use Rattle.std.specs.Prelude.{◌≡◌, List, [], ◌∷◌, ◌++◌, map, ◌⊎◌, ℕ, ◌<◌, length, ◌<ℤ◌}
use Rattle.diagram.specs.After6.{Outcome, drained, finished}
use Rattle.calls.specs.Asked.{Problem}
use Rattle.calls.specs.Compile.{Request, rooms_of, Compiled, compiled_of, run_of}
use Rattle.calls.specs.RunRows.{Row10, Row11, Row12, Row13}
use Rattle.calls.specs.Table.{Row, row, problem_rows, record_rows}
use Rattle.searches.specs.Places.{Place, place_of}
use Rattle.searches.specs.Search.{Search, most_picks, open_in, without}
use Rattle.searches.specs.Pick.{Asked, Held, picked_from, request_for, better, appended}

-- ---- start

-- 'A start checks 1 to 6, then 13': 'a start finds no place for the root'
abbrev pub start_rows : Problem → List Place → List Row
start_rows p list = problem_rows p ++ (row 13 (length list ≡ 0) ∷ [])

-- ---- pick, before anything is written

-- 14 'the pick is not below the open count, the open count is above the lent list's length, or accepted picks stand at the u64 maximum'
abbrev pub Row14 : Search → ℕ → ℕ → Type 0
Row14 s place places = ((place < s.opened) → ⊥) ⊎ ((places < s.opened) ⊎ (s.picks ≡ most_picks))

-- 1 to 6, 14, then 7 to 9 of the picked record
abbrev pub check_rows : Asked → Search → List Place → List Row
check_rows q s list = problem_rows q.problem ++ (row 14 (Row14 s q.place (length list)) ∷ record_rows q.problem (picked_from list q.place))

-- ---- pick, where the record is compiled

-- the compile that a pick asks for
abbrev pub request_of : Asked → Search → Held → Request
request_of q s h = request_for q s (picked_from h.list q.place)

-- 'If its bound is at most the best value, that is all': else there is a run
abbrev pub Runs : Asked → Search → Held → Type 0
Runs q s h = s.best <ℤ (picked_from h.list q.place).bound

-- the open records after the pick: the others, and those that its answer and its drained records append
abbrev pub open_after : Asked → Search → List Place → Compiled → List Place → List Place
open_after q s list c records = without q.place (open_in s list) ++ appended c.exact (better c.best_exact c.exact_path s).best records

-- 13 'the open list after the pick would outgrow its room'
abbrev pub Outgrows : Asked → Search → Held → Type 0
Outgrows q s h =
    (o : Outcome) × (run_of (request_of q s h) (rooms_of h.lent) ≡ finished o)
    × (length h.list < length (open_after q s h.list (compiled_of (request_of q s h).given.path o) (map place_of (drained (request_of q s h).given.path o))))

-- 10 to 13 of that run
abbrev pub PickRow10 : Asked → Search → Held → Type 0
PickRow10 q s h = Runs q s h × Row10 (request_of q s h) (rooms_of h.lent)

abbrev pub PickRow11 : Asked → Search → Held → Type 0
PickRow11 q s h = Runs q s h × Row11 (request_of q s h) (rooms_of h.lent)

abbrev pub PickRow12 : Asked → Search → Held → Type 0
PickRow12 q s h = Runs q s h × Row12 (request_of q s h) (rooms_of h.lent)

abbrev pub PickRow13 : Asked → Search → Held → Type 0
PickRow13 q s h = Runs q s h × (Row13 (request_of q s h) (rooms_of h.lent) ⊎ Outgrows q s h)

abbrev pub pick_run_rows : Asked → Search → Held → List Row
pick_run_rows q s h = row 10 (PickRow10 q s h) ∷ row 11 (PickRow11 q s h) ∷ row 12 (PickRow12 q s h) ∷ row 13 (PickRow13 q s h) ∷ []

-- the whole of it: '15 only for job text'
abbrev pub pick_rows : Asked → Search → Held → List Row
pick_rows q s h = check_rows q s h.list ++ pick_run_rows q s h
