-- Case N, 'search of H, picks 0 0 0', 'path 1 4 3, value 7', pick by pick, and the refusals of start and pick, as whole calls.
use Rattle.std.specs.Prelude.{◌≡◌, Bool, true, false, List, [], ◌∷◌, ◌++◌, ℕ, ℤ, pos, replicate}
use Rattle.words.specs.I64.{i64_min, i64_max}
use Rattle.diagram.specs.After4.{last_exact_layer}
use Rattle.calls.specs.Asked.{Problem}
use Rattle.calls.specs.Compile.{Lent}
use Rattle.searches.specs.Places.{Place}
use Rattle.searches.specs.Search.{Search}
use Rattle.searches.specs.Start as Start
use Rattle.searches.specs.Start.{start, started}
use Rattle.searches.specs.Pick as Pick
use Rattle.searches.specs.Pick.{Held, Picked, refused_by, accepted, pick}

-- 'T is the three items of case R, capacity 2.'
abbrev T : ℕ → Problem
T width = record { weights = 1 ∷ 1 ∷ 1 ∷ []; profits = 4 ∷ 3 ∷ 2 ∷ []; page = 2; width = width }

-- a place with a path of some bytes
abbrev place : ℕ → ℤ → ℤ → ℕ → List ℕ → Place
place capacity value bound depth bytes = record { capacity = capacity; value = value; bound = bound; depth = depth; bytes = bytes }

-- what a place held before anyone wrote it
abbrev old : ℕ → Place
old n = place n (pos n) (pos n) n (replicate 64 n)

abbrev root : Place
root = place 2 (pos 0) i64_max 0 (replicate 64 0)

-- H's two records
abbrev H₁ : Place
H₁ = place 1 (pos 4) (pos 9) 1 (1 ∷ replicate 63 0)

abbrev H₂ : Place
H₂ = place 2 (pos 0) (pos 5) 1 (0 ∷ replicate 63 0)

-- the same as the scratch list has them, 68 words each: value 4 and bound 9, value 0 and bound 5, as words
abbrev drained₁ : List ℕ
drained₁ = 1 ∷ 9223372036854775812 ∷ 9223372036854775817 ∷ 1 ∷ 1 ∷ replicate 63 0

abbrev drained₂ : List ℕ
drained₂ = 2 ∷ 9223372036854775808 ∷ 9223372036854775813 ∷ 1 ∷ 0 ∷ replicate 63 0

abbrev search : ℤ → Bool → List ℕ → ℕ → ℕ → Search
search best held path opened picks = record { best = best; held = held; path = path; opened = opened; picks = picks }

abbrev nothing : List ℕ
nothing = replicate 64 0

-- 1 4 3: item 0 taken, item 2 not, item 1 taken
abbrev path_n : List ℕ
path_n = 1 ∷ 4 ∷ 3 ∷ replicate 61 0

-- tables of H's rows, and a scratch list
abbrev lend : List ℕ → Lent
lend scratch = record { nodes = replicate 72 0; edges = replicate 60 0; records = scratch }

abbrev held : List Place → List ℕ → Held
held list scratch = record { list = list; lent = lend scratch }

-- what is seen of a pick: its answer, the search, the list and the scratch list
pub record Seen : Type 0 where
  pub answer : Picked
  pub search : Search
  pub list : List Place
  pub scratch : List ℕ

unfoldable pub seen : Pick.After → Seen
seen a = record { answer = a.answer; search = a.search; list = a.held.list; scratch = a.held.lent.records }

abbrev see : Picked → Search → List Place → List ℕ → Seen
see answer search list scratch = record { answer = answer; search = search; list = list; scratch = scratch }

-- a pick of place 0 at width 1
abbrev first : Search → List Place → List ℕ → Seen
first s list scratch = seen (pick (record { problem = T 1; kind = last_exact_layer; place = 0 }) s (held list scratch))

abbrev at : ℕ → ℕ → Search → List Place → List ℕ → Seen
at width n s list scratch = seen (pick (record { problem = T width; kind = last_exact_layer; place = n }) s (held list scratch))

-- a scratch list of one place, of two and of three, before anyone wrote it
abbrev one : List ℕ
one = replicate 68 8

abbrev two : List ℕ
two = one ++ replicate 68 9

abbrev three : List ℕ
three = two ++ replicate 68 10

-- the searches of case N: begun, after the first pick, the second and the third
abbrev s₀ : Search
s₀ = search i64_min false nothing 1 0

abbrev s₁ : Search
s₁ = search i64_min false nothing 2 1

abbrev s₂ : Search
s₂ = search (pos 7) true path_n 1 2

abbrev s₃ : Search
s₃ = search (pos 7) true path_n 0 3

-- start: with a place, without one; with a width that is refused
abbrev pub Starts : Type 0
Starts =
    (start (T 1) i64_min (old 5 ∷ old 6 ∷ []) ≡ record { answer = started s₀; list = root ∷ old 6 ∷ [] })
    × (start (T 1) i64_min [] ≡ record { answer = Start.refused 13; list = [] })
    × (start (T 0) i64_min [] ≡ record { answer = Start.refused 6; list = [] })

-- Case N: H's diagram drains two records; the second pick finds 7, and nothing that it drains is above it; the third drops a record.
abbrev pub CaseN : Type 0
CaseN =
    (first s₀ (root ∷ old 6 ∷ old 7 ∷ []) two ≡ see accepted s₁ (H₁ ∷ H₂ ∷ old 7 ∷ []) (drained₁ ++ drained₂))
    × (first s₁ (H₁ ∷ H₂ ∷ old 7 ∷ []) two ≡ see accepted s₂ (H₂ ∷ H₂ ∷ old 7 ∷ []) two)
    × (first s₂ (H₂ ∷ H₂ ∷ old 7 ∷ []) two ≡ see accepted s₃ (H₂ ∷ H₂ ∷ old 7 ∷ []) two)

-- refused picks: 14 in its three ways, before 7 and after 6; 13 from the scratch list, whose words behind the last whole record are no place, and from the open list
abbrev pub Refusals : Type 0
Refusals =
    (at 1 1 s₀ (root ∷ []) [] ≡ see (refused_by 14) s₀ (root ∷ []) [])
    × (at 1 0 s₁ (H₁ ∷ []) [] ≡ see (refused_by 14) s₁ (H₁ ∷ []) [])
    × (at 1 0 (search i64_min false nothing 1 18446744073709551615) (old 9 ∷ []) [] ≡ see (refused_by 14) (search i64_min false nothing 1 18446744073709551615) (old 9 ∷ []) [])
    × (at 0 1 s₀ (root ∷ []) [] ≡ see (refused_by 6) s₀ (root ∷ []) [])
    × (at 1 0 s₀ (old 9 ∷ []) [] ≡ see (refused_by 7) s₀ (old 9 ∷ []) [])
    × (first s₀ (root ∷ old 6 ∷ []) (one ++ replicate 67 9) ≡ see (refused_by 13) s₀ (root ∷ old 6 ∷ []) (one ++ replicate 67 9))
    × (first s₀ (root ∷ []) three ≡ see (refused_by 13) s₀ (root ∷ []) (drained₁ ++ drained₂ ++ replicate 68 10))

-- items (1,1) (1,2) (1,2), capacity 2, width 2: the root's compile finds 3 exactly and drains two records, with bounds 3 and 4
abbrev U : Problem
U = record { weights = 1 ∷ 1 ∷ 1 ∷ []; profits = 1 ∷ 2 ∷ 2 ∷ []; page = 2; width = 2 }

abbrev U₁ : Place
U₁ = place 1 (pos 1) (pos 3) 1 (1 ∷ replicate 63 0)

abbrev U₂ : Place
U₂ = place 2 (pos 0) (pos 4) 1 (0 ∷ replicate 63 0)

abbrev drained_u : List ℕ
drained_u = (1 ∷ 9223372036854775809 ∷ 9223372036854775811 ∷ 1 ∷ 1 ∷ replicate 63 0) ++ (2 ∷ 9223372036854775808 ∷ 9223372036854775812 ∷ 1 ∷ 0 ∷ replicate 63 0)

abbrev root_u : Search → List Place → List ℕ → Seen
root_u s list scratch =
    seen (pick (record { problem = U; kind = last_exact_layer; place = 0 }) s (record { list = list; lent = record { nodes = replicate 80 0; edges = replicate 60 0; records = scratch } }))

-- slips: a drained record is not appended where its bound equals the best value that the same pick found; the middle one of three goes, the last one moves down, and what it left stays; the bound alone says whether a record is compiled, not its value
abbrev pub Slips : Type 0
Slips =
    (root_u s₀ (root ∷ old 6 ∷ old 7 ∷ []) (two ++ 7 ∷ []) ≡ see accepted (search (pos 3) true (4 ∷ 3 ∷ 1 ∷ replicate 61 0) 1 1) (U₂ ∷ old 6 ∷ old 7 ∷ []) (drained_u ++ 7 ∷ []))
    × (at 1 1 (search (pos 5) false nothing 3 4) (H₁ ∷ H₂ ∷ U₁ ∷ old 7 ∷ []) one ≡ see accepted (search (pos 5) false nothing 2 5) (H₁ ∷ U₁ ∷ U₁ ∷ old 7 ∷ []) one)
    × (first (search (pos 5) false nothing 1 1) (H₁ ∷ []) two ≡ see accepted (search (pos 7) true path_n 0 2) (H₁ ∷ []) two)
