-- Document 01's table of refusals as far as a compile can meet it, 1 to 13: numbers with what each row says, and what 'the first that applies' means.
use Rattle.std.specs.Prelude.{List, [], ◌∷◌, ◌++◌, ℕ}
use Rattle.calls.specs.Asked.{Problem, Given}
use Rattle.calls.specs.Rows.{Row1, Row2, Row3, Row4, Row5, Row6, Row7, Row8, Row9}
use Rattle.calls.specs.Compile.{Request, Rooms}
use Rattle.calls.specs.RunRows.{Row10, Row11, Row12, Row13}

-- 'No.' and 'Given exactly if'
pub record Row : Type 1 where
  pub number : ℕ
  pub says : Type 0

abbrev pub row : ℕ → Type 0 → Row
row number says = record { number = number; says = says }

abbrev pub problem_rows : Problem → List Row
problem_rows p = row 1 (Row1 p) ∷ row 2 (Row2 p) ∷ row 3 (Row3 p) ∷ row 4 (Row4 p) ∷ row 5 (Row5 p) ∷ row 6 (Row6 p) ∷ []

abbrev pub record_rows : Problem → Given → List Row
record_rows p r = row 7 (Row7 p r) ∷ row 8 (Row8 p r) ∷ row 9 (Row9 p r) ∷ []

abbrev pub run_rows : Request → Rooms → List Row
run_rows q m = row 10 (Row10 q m) ∷ row 11 (Row11 q m) ∷ row 12 (Row12 q m) ∷ row 13 (Row13 q m) ∷ []

-- the whole of it: '14 is only for picks; 15 only for job text'
abbrev pub compile_rows : Request → Rooms → List Row
compile_rows q m = (problem_rows q.problem ++ record_rows q.problem q.given) ++ run_rows q m

-- 'Checked in this order; the first that applies is given': number n is that of the first row that applies
pub data First : List Row → ℕ → Type 1 where
  here : {r : Row} {rs : List Row} → r.says → First (r ∷ rs) r.number
  later : {r : Row} {rs : List Row} {n : ℕ} → ¬ r.says → First rs n → First (r ∷ rs) n

-- no row applies
pub data Clear : List Row → Type 1 where
  end : Clear []
  past : {r : Row} {rs : List Row} → ¬ r.says → Clear rs → Clear (r ∷ rs)
