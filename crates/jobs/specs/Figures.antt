-- 'Case R, whole', and the refusals that a job's run can meet, from a job to its answer's bytes, and to what is left in lists and tables; the limits of job text; which record is picked.
use Rattle.std.specs.Prelude.{◌≡◌, ℕ, ◌≤◌, pos, negsuc, length, replicate}
use mathlib.Core.List.{List, [], ◌∷◌, ◌++◌, Memᴰ}
use Rattle.knapsack.specs.Items.{Item}
use Rattle.diagram.specs.After4.{last_exact_layer, frontier}
use Rattle.calls.specs.Compile.{Lent}
use Rattle.searches.specs.Places.{Place}
use Rattle.searches.specs.Pick.{Held}
use Rattle.jobs.specs.Text.{Job, text_of, IsText}
use Rattle.jobs.specs.Run.{largest, run}
use Rattle.jobs.specs.Left.{left_by}
use Rattle.jobs.specs.Page.{answer_of}

-- 'for items (1,4) (1,3) (1,2), capacity 2, width 1, `lel`'
abbrev block : ℕ → ℕ → Item
block w p = record { weight = w; profit = p }

abbrev R : Job
R = record { page = 2; width = 1; kind = last_exact_layer; items = block 1 4 ∷ block 1 3 ∷ block 1 2 ∷ [] }

abbrev old : Place
old = record { capacity = 9; value = pos 9; bound = pos 9; depth = 9; bytes = replicate 64 9 }

-- tables and a scratch list of so many words
abbrev lend : ℕ → ℕ → ℕ → Lent
lend nodes edges scratch = record { nodes = replicate nodes 7; edges = replicate edges 7; records = replicate scratch 7 }

abbrev answer : Job → Lent → ℕ → List ℕ
answer j l places = answer_of 3 (run j l (replicate places old))

abbrev pub CaseR : Type 0
CaseR =
    -- Case R: its text
    (text_of R ≡ 99 ∷ 97 ∷ 112 ∷ 9 ∷ 50 ∷ 10 ∷ 119 ∷ 105 ∷ 100 ∷ 116 ∷ 104 ∷ 9 ∷ 49 ∷ 10 ∷ 99 ∷ 117 ∷ 116 ∷ 9 ∷ 108 ∷ 101 ∷ 108 ∷ 10 ∷ 105 ∷ 116 ∷ 101 ∷ 109 ∷ 9 ∷ 49 ∷ 9 ∷ 52 ∷ 10 ∷ 105 ∷ 116 ∷ 101 ∷ 109 ∷ 9 ∷ 49 ∷ 9 ∷ 51 ∷ 10 ∷ 105 ∷ 116 ∷ 101 ∷ 109 ∷ 9 ∷ 49 ∷ 9 ∷ 50 ∷ 10 ∷ [])
    -- Case R: best 7, items 0 and 1, picks 3
    × (answer R (lend 72 60 136) 2 ≡ 98 ∷ 101 ∷ 115 ∷ 116 ∷ 9 ∷ 55 ∷ 10 ∷ 105 ∷ 116 ∷ 101 ∷ 109 ∷ 9 ∷ 48 ∷ 9 ∷ 49 ∷ 10 ∷ 105 ∷ 116 ∷ 101 ∷ 109 ∷ 9 ∷ 49 ∷ 9 ∷ 49 ∷ 10 ∷ 105 ∷ 116 ∷ 101 ∷ 109 ∷ 9 ∷ 50 ∷ 9 ∷ 48 ∷ 10 ∷ 112 ∷ 105 ∷ 99 ∷ 107 ∷ 115 ∷ 9 ∷ 51 ∷ 10 ∷ [])
    -- Case R: a word of the scratch list short, and no place for the root
    × ((answer R (lend 72 60 135) 2 ≡ 114 ∷ 101 ∷ 102 ∷ 117 ∷ 115 ∷ 101 ∷ 100 ∷ 9 ∷ 49 ∷ 51 ∷ 10 ∷ []) × (answer R (lend 72 60 136) 0 ≡ 114 ∷ 101 ∷ 102 ∷ 117 ∷ 115 ∷ 101 ∷ 100 ∷ 9 ∷ 49 ∷ 51 ∷ 10 ∷ []))

-- a job of one item with the frontier
abbrev asked : ℕ → ℕ → ℕ → ℕ → Job
asked page width weight profit = record { page = page; width = width; kind = frontier; items = block weight profit ∷ [] }

-- The text of such a job, and the limits of the grammar: 'one to nine digits', 'Text above 65,535 bytes is outside too'.
abbrev pub TextLimits : Type 0
TextLimits =
    -- the text: cap 0, width 10, cut frontier, item 7 90
    (text_of (asked 0 10 7 90) ≡ 99 ∷ 97 ∷ 112 ∷ 9 ∷ 48 ∷ 10 ∷ 119 ∷ 105 ∷ 100 ∷ 116 ∷ 104 ∷ 9 ∷ 49 ∷ 48 ∷ 10 ∷ 99 ∷ 117 ∷ 116 ∷ 9 ∷ 102 ∷ 114 ∷ 111 ∷ 110 ∷ 116 ∷ 105 ∷ 101 ∷ 114 ∷ 10 ∷ 105 ∷ 116 ∷ 101 ∷ 109 ∷ 9 ∷ 55 ∷ 9 ∷ 57 ∷ 48 ∷ 10 ∷ [])
    -- the largest number in each field is inside
    × ((t : List ℕ) → t ≡ text_of (asked 999999999 999999999 999999999 999999999) → length t ≤ 65535 → IsText t (asked 999999999 999999999 999999999 999999999))
    -- and no larger one is
    × ((t : List ℕ) (j : Job) → IsText t j → (j.page ≤ 999999999) × (j.width ≤ 999999999))
    × ((t : List ℕ) (j : Job) → IsText t j → (i : Item) → Memᴰ i j.items → (i.weight ≤ 999999999) × (i.profit ≤ 999999999))
    × ((t : List ℕ) (j : Job) → IsText t j → length t ≤ 65535)

abbrev place : ℕ → ℕ → ℕ → ℕ → List ℕ → Place
place capacity value bound depth bytes = record { capacity = capacity; value = pos value; bound = pos bound; depth = depth; bytes = bytes }

-- a record of that value and bound, below 0: n is -1 - n
abbrev below : ℕ → Place
below n = record { capacity = 1; value = pos 0; bound = negsuc n; depth = 0; bytes = [] }

-- 'picks the largest bound, lowest place on a tie', whatever the values are
abbrev pub LargestFirst : Type 0
LargestFirst =
    -- the first, the second and the last of three
    (largest (place 1 0 5 0 [] ∷ place 1 9 4 0 [] ∷ place 1 9 3 0 [] ∷ []) ≡ 0)
    × (largest (place 1 9 3 0 [] ∷ place 1 0 5 0 [] ∷ place 1 9 4 0 [] ∷ []) ≡ 1)
    × (largest (place 1 9 3 0 [] ∷ place 1 9 4 0 [] ∷ place 1 0 5 0 [] ∷ []) ≡ 2)
    × (largest (place 1 9 4 0 [] ∷ place 1 9 3 0 [] ∷ place 1 0 5 0 [] ∷ []) ≡ 2)
    -- on a tie the lower place
    × (largest (place 1 0 5 0 [] ∷ place 1 9 5 0 [] ∷ place 1 9 3 0 [] ∷ []) ≡ 0)
    × (largest (place 1 9 3 0 [] ∷ place 1 0 5 0 [] ∷ place 1 9 5 0 [] ∷ []) ≡ 1)
    -- bounds below 0
    × (largest (below 4 ∷ below 2 ∷ below 3 ∷ []) ≡ 1)

abbrev lent_for : Lent → ℕ → Held
lent_for l places = record { list = replicate places old; lent = l }

abbrev leaves : Job → Lent → ℕ → Held
leaves j l places = (left_by j (lent_for l places)).held

-- What the runs of case R leave. Its third pick drops a record, its second one writes over the first five rows of each table.
abbrev pub CaseRLeaves : Type 0
CaseRLeaves =
    -- Case R: the list; the scratch list; the edge table and the node table
    ((leaves R (lend 72 60 136) 2).list ≡ place 2 0 5 1 (replicate 64 0) ∷ place 2 0 5 1 (replicate 64 0) ∷ [])
    × ((leaves R (lend 72 60 136) 2).lent.records ≡ (1 ∷ 9223372036854775812 ∷ 9223372036854775817 ∷ 1 ∷ 1 ∷ replicate 63 0) ++ (2 ∷ 9223372036854775808 ∷ 9223372036854775813 ∷ 1 ∷ replicate 64 0))
    × ((leaves R (lend 72 60 136) 2).lent.edges ≡ 0 ∷ 1 ∷ 3 ∷ 3 ∷ 0 ∷ 0 ∷ 2 ∷ 2 ∷ 0 ∷ 0 ∷ 2 ∷ 3 ∷ 5 ∷ 2 ∷ 0 ∷ 2 ∷ 4 ∷ 4 ∷ 0 ∷ 0 ∷ 1 ∷ 3 ∷ 4 ∷ 0 ∷ 3 ∷ 1 ∷ 3 ∷ 2 ∷ 0 ∷ 3 ∷ 1 ∷ 6 ∷ 3 ∷ 3 ∷ 0 ∷ 1 ∷ 6 ∷ 2 ∷ 0 ∷ 7 ∷ 2 ∷ 6 ∷ 3 ∷ 3 ∷ 8 ∷ 2 ∷ 6 ∷ 2 ∷ 0 ∷ 9 ∷ 6 ∷ 7 ∷ 5 ∷ 2 ∷ 0 ∷ 6 ∷ 8 ∷ 4 ∷ 0 ∷ 0 ∷ [])
    × ((leaves R (lend 72 60 136) 2).lent.nodes ≡ 1 ∷ 1 ∷ 9223372036854775812 ∷ 0 ∷ 0 ∷ 0 ∷ 9223372036854775813 ∷ 1 ∷ 0 ∷ 2 ∷ 9223372036854775815 ∷ 0 ∷ 1 ∷ 1 ∷ 9223372036854775808 ∷ 1 ∷ 1 ∷ 2 ∷ 9223372036854775812 ∷ 0 ∷ 2 ∷ 2 ∷ 9223372036854775810 ∷ 1 ∷ 0 ∷ 3 ∷ 9223372036854775815 ∷ 0 ∷ 5 ∷ 5 ∷ 18446744073709551615 ∷ 1 ∷ 1 ∷ 3 ∷ 9223372036854775812 ∷ 0 ∷ 4 ∷ 4 ∷ 18446744073709551615 ∷ 1 ∷ 0 ∷ 2 ∷ 9223372036854775815 ∷ 0 ∷ 5 ∷ 5 ∷ 18446744073709551615 ∷ 17 ∷ 2 ∷ 2 ∷ 9223372036854775815 ∷ 9223372036854775810 ∷ 7 ∷ 10 ∷ 9223372036854775810 ∷ 6 ∷ 1 ∷ 3 ∷ 9223372036854775817 ∷ 9223372036854775808 ∷ 11 ∷ 11 ∷ 18446744073709551615 ∷ 4 ∷ 2 ∷ 3 ∷ 9223372036854775815 ∷ 9223372036854775808 ∷ 12 ∷ 12 ∷ 18446744073709551615 ∷ 4 ∷ [])
    -- a word of the scratch list short: the list keeps the root, the scratch list what it held, the edge table holds the finished diagram
    × ((leaves R (lend 72 60 135) 2).list ≡ place 2 0 9223372036854775807 0 (replicate 64 0) ∷ old ∷ [])
    × ((leaves R (lend 72 60 135) 2).lent.records ≡ replicate 135 7)
    × ((leaves R (lend 72 60 135) 2).lent.edges ≡ 0 ∷ 1 ∷ 1 ∷ 4 ∷ 0 ∷ 0 ∷ 2 ∷ 0 ∷ 0 ∷ 0 ∷ 2 ∷ 3 ∷ 3 ∷ 3 ∷ 0 ∷ 2 ∷ 4 ∷ 2 ∷ 0 ∷ 0 ∷ 1 ∷ 5 ∷ 3 ∷ 3 ∷ 0 ∷ 1 ∷ 3 ∷ 2 ∷ 0 ∷ 3 ∷ 1 ∷ 6 ∷ 3 ∷ 3 ∷ 0 ∷ 1 ∷ 6 ∷ 2 ∷ 0 ∷ 7 ∷ 2 ∷ 6 ∷ 3 ∷ 3 ∷ 8 ∷ 2 ∷ 6 ∷ 2 ∷ 0 ∷ 9 ∷ 6 ∷ 7 ∷ 5 ∷ 2 ∷ 0 ∷ 6 ∷ 8 ∷ 4 ∷ 0 ∷ 0 ∷ [])
    -- no place for the root: all is as it was
    × (leaves R (lend 72 60 136) 0 ≡ lent_for (lend 72 60 136) 0)
