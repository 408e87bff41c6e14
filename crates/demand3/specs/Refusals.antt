-- Start and pick refuse by document 01's table, for every input: 'each number is given exactly when the table says'.
use Rattle.std.specs.Prelude.{◌≡◌, List, ◌⊎◌, ℕ, ◌≤◌, ℤ}
use Rattle.calls.specs.Asked.{Problem}
use Rattle.calls.specs.Table.{First, Clear}
use Rattle.searches.specs.Places.{Place}
use Rattle.searches.specs.Search.{Search}
use Rattle.searches.specs.Start.{refused, started, start}
use Rattle.searches.specs.Pick.{Asked, Held, refused_by, accepted, pick}
use Rattle.searches.specs.Rows.{start_rows, pick_rows}

-- ---- start

-- It answers with number n exactly if that is the number of the first row, of 1 to 6 and 13, that applies.
abbrev pub StartRefusedExactly : Type 1
StartRefusedExactly =
    (p : Problem) (bound : ℤ) (list : List Place) (n : ℕ) →
    ((start p bound list).answer ≡ refused n → First (start_rows p list) n) × (First (start_rows p list) n → (start p bound list).answer ≡ refused n)

-- It gives a search exactly if no row applies.
abbrev pub StartedExactly : Type 1
StartedExactly =
    (p : Problem) (bound : ℤ) (list : List Place) →
    ((s : Search) → (start p bound list).answer ≡ started s → Clear (start_rows p list)) × (Clear (start_rows p list) → (s : Search) × ((start p bound list).answer ≡ started s))

-- So it refuses with 1 to 6 and 13 alone.
abbrev pub StartNumbers : Type 0
StartNumbers = (p : Problem) (bound : ℤ) (list : List Place) (n : ℕ) → (start p bound list).answer ≡ refused n → ((1 ≤ n) × (n ≤ 6)) ⊎ (n ≡ 13)

-- ---- pick

-- It answers with number n exactly if that is the number of the first row, of 1 to 6, 14, 7 to 9 and 10 to 13, that applies.
abbrev pub PickRefusedExactly : Type 1
PickRefusedExactly =
    (q : Asked) (s : Search) (h : Held) (n : ℕ) →
    ((pick q s h).answer ≡ refused_by n → First (pick_rows q s h) n) × (First (pick_rows q s h) n → (pick q s h).answer ≡ refused_by n)

-- It is accepted exactly if no row applies.
abbrev pub AcceptedExactly : Type 1
AcceptedExactly =
    (q : Asked) (s : Search) (h : Held) →
    ((pick q s h).answer ≡ accepted → Clear (pick_rows q s h)) × (Clear (pick_rows q s h) → (pick q s h).answer ≡ accepted)

-- So it refuses with 1 to 14 alone: '15 only for job text'.
abbrev pub PickNumbers : Type 0
PickNumbers = (q : Asked) (s : Search) (h : Held) (n : ℕ) → (pick q s h).answer ≡ refused_by n → (1 ≤ n) × (n ≤ 14)
