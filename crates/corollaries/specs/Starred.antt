-- 'The starred cases are proved together as one table statement': what a call of `compile` answers and drains for each of them, in tables with the rows that it needs or more.
use Rattle.std.specs.Prelude.{◌≡◌, Option, Some, None, Ok, Bool, true, false, ℕ, ◌≤◌, ℤ, pos, replicate}
use mathlib.Core.List.{List, [], ◌∷◌, ◌++◌, Memᴰ}
use Rattle.words.specs.I64.{i64_min, i64_max}
use Rattle.diagram.specs.Tables.{Range}
use Rattle.layout.specs.Table.{over}
use Rattle.calls.specs.Compile.{Rooms, rooms_of}
use Rattle.layers.specs.Stored.{range, layers_from}
use Rattle.cutset.specs.declared.Kind.{Kind}
use Rattle.cutset.specs.declared.Kind.TheVariants.{LastExactLayer, Frontier}
use Rattle.grow.specs.declared.Mode.{Mode}
use Rattle.grow.specs.declared.Mode.TheVariants.{Exact, Restricted, Relaxed}
use Rattle.compile.specs.declared.Request.{Request}
use Rattle.compile.specs.declared.Compiled.{Compiled}
use Rattle.compile.specs.Asked.{request_of}
use Rattle.corollaries.specs.Called.{Called, asked}

-- a case: the items, what is asked, the whole rows and records that it needs, what is answered, and the words of the drained records
pub record Case : Type 0 where
  pub weights : List ℕ
  pub profits : List ℕ
  pub request : Request
  pub rooms : Rooms
  pub answer : Compiled
  pub records : List ℕ

-- 'Bound i64 minimum, root record, unless said.'
abbrev ask : ℕ → ℕ → Mode → Kind → ℤ → Request
ask page width mode kind lower =
    record { page = page; width = width; mode = mode; kind = kind; lower = lower; capacity = page; value = pos 0; bound = i64_max; depth = 0 }

abbrev room : ℕ → ℕ → ℕ → Rooms
room nodes edges records = record { nodes = nodes; edges = edges; records = records }

-- a path's 64 places without a byte
abbrev no_bytes : List ℕ
no_bytes = replicate 64 0

-- exactness, best value and path, best exact value and path, node count, edge count, drained count, layers
abbrev answers : Bool → Option ℤ → List ℕ → Option ℤ → List ℕ → ℕ → ℕ → ℕ → List Range → Compiled
answers exact best path best_exact exact_path nodes edges drained layers =
    record {
      exact = exact;
      best = best;
      path = path;
      best_exact = best_exact;
      exact_path = exact_path;
      nodes = nodes;
      edges = edges;
      drained = drained;
      layers = layers_from layers;
    }

abbrev case : List ℕ → List ℕ → Request → Rooms → Compiled → List ℕ → Case
case weights profits request rooms answer records =
    record { weights = weights; profits = profits; request = request; rooms = rooms; answer = answer; records = records }

-- 'T is the three items of case R, capacity 2.'
abbrev case_t : ℕ → Mode → Kind → ℤ → Rooms → Compiled → List ℕ → Case
case_t width mode kind lower rooms answer records = case (1 ∷ 1 ∷ 1 ∷ []) (4 ∷ 3 ∷ 2 ∷ []) (ask 2 width mode kind lower) rooms answer records

-- a record's words: capacity, value and bound (the number and 2 ^ 63), depth, and a path of one byte in its 64 places
abbrev words : ℕ → ℕ → ℕ → ℕ → List ℕ
words capacity value bound byte = capacity ∷ value ∷ bound ∷ 1 ∷ byte ∷ replicate 63 0

-- (capacity 1, value 4, bound 9, path 1), (2, 0, 5, path 0), and M's first
abbrev H₁ : List ℕ
H₁ = words 1 9223372036854775812 9223372036854775817 1

abbrev H₂ : List ℕ
H₂ = words 2 9223372036854775808 9223372036854775813 0

abbrev M₁ : List ℕ
M₁ = words 1 9223372036854775812 9223372036854775815 1

unfoldable pub cases : List Case
cases =
    -- A
    case [] [] (ask 0 1 Exact LastExactLayer (pos 10)) (room 1 0 0)
    (answers true (Some (pos 0)) no_bytes (Some (pos 0)) no_bytes 1 0 0 (range 0 1 ∷ [])) []
    -- B
    ∷ case (3 ∷ []) (5 ∷ []) (ask 3 1 Exact LastExactLayer i64_min) (room 3 2 0)
    (answers true (Some (pos 5)) (1 ∷ replicate 63 0) (Some (pos 5)) (1 ∷ replicate 63 0) 3 2 0 (range 0 1 ∷ range 1 3 ∷ [])) []
    -- E
    ∷ case (3 ∷ []) (5 ∷ []) (ask 3 1 Exact LastExactLayer (pos 5)) (room 1 0 0)
    (answers true None no_bytes None no_bytes 1 0 0 (range 0 1 ∷ [])) []
    -- F
    ∷ case (2 ∷ 2 ∷ []) (3 ∷ 3 ∷ []) (ask 2 1 Exact LastExactLayer i64_min) (room 5 5 0)
    (answers true (Some (pos 3)) (2 ∷ 1 ∷ replicate 62 0) (Some (pos 3)) (2 ∷ 1 ∷ replicate 62 0) 5 5 0 (range 0 1 ∷ range 1 3 ∷ range 3 5 ∷ [])) []
    -- H
    ∷ case_t 1 Relaxed LastExactLayer i64_min (room 9 12 2)
    (answers false (Some (pos 9)) (5 ∷ 3 ∷ 1 ∷ replicate 61 0) None no_bytes 9 12 2 (range 0 1 ∷ range 1 3 ∷ range 3 7 ∷ range 7 9 ∷ [])) (H₁ ++ H₂)
    -- I
    ∷ case_t 1 Relaxed Frontier i64_min (room 9 12 2)
    (answers false (Some (pos 9)) (5 ∷ 3 ∷ 1 ∷ replicate 61 0) None no_bytes 9 12 2 (range 0 1 ∷ range 1 3 ∷ range 3 7 ∷ range 7 9 ∷ [])) (H₂ ++ H₁)
    -- J
    ∷ case_t 1 Restricted LastExactLayer i64_min (room 6 5 0)
    (answers false (Some (pos 7)) (4 ∷ 3 ∷ 1 ∷ replicate 61 0) (Some (pos 7)) (4 ∷ 3 ∷ 1 ∷ replicate 61 0) 6 5 0 (range 0 1 ∷ range 1 3 ∷ range 3 5 ∷ range 5 6 ∷ [])) []
    -- K
    ∷ case_t 1 Relaxed LastExactLayer (pos 9) (room 1 0 0)
    (answers true None no_bytes None no_bytes 1 0 0 (range 0 1 ∷ range 0 0 ∷ [])) []
    -- L
    ∷ case_t 1 Relaxed LastExactLayer (pos 8) (room 8 8 1)
    (answers false (Some (pos 9)) (5 ∷ 3 ∷ 1 ∷ replicate 61 0) None no_bytes 8 8 1 (range 0 1 ∷ range 1 3 ∷ range 3 6 ∷ range 6 8 ∷ [])) H₁
    -- M
    ∷ case_t 2 Relaxed LastExactLayer i64_min (room 10 12 2)
    (answers true (Some (pos 7)) (4 ∷ 3 ∷ 1 ∷ replicate 61 0) (Some (pos 7)) (4 ∷ 3 ∷ 1 ∷ replicate 61 0) 10 12 2 (range 0 1 ∷ range 1 3 ∷ range 3 7 ∷ range 7 10 ∷ [])) (M₁ ++ H₂)
    ∷ []

-- the call asks what the case asks, and is lent the rows that the case needs, or more
pub record Asks (c : Called) (k : Case) : Type 0 where
  pub asked_is : asked c ≡ request_of k.weights k.profits k.request []
  pub nodes : k.rooms.nodes ≤ (rooms_of c.before).nodes
  pub edges : k.rooms.edges ≤ (rooms_of c.before).edges
  pub records : k.rooms.records ≤ (rooms_of c.before).records

-- it answers what the case answers, and its records stand over what was in the list
pub record Gives (c : Called) (k : Case) : Type 0 where
  pub answer : c.answer ≡ Ok k.answer
  pub records : c.after.records ≡ over k.records c.before.records

-- the table statement
abbrev pub Starred : Type 0
Starred = (k : Case) → Memᴰ k cases → (c : Called) → Asks c k → Gives c k
