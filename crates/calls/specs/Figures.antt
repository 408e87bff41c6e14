-- Figures of `compile`: whole calls, with lent tables of odd lengths that hold old contents; and each of refusals 1 to 9 at its limit.
use Rattle.std.specs.Prelude.{◌≡◌, Bool, true, false, List, [], ◌∷◌, ◌++◌, map, ℕ, zero, suc, ℤ, pos, negsuc, replicate}
use Rattle.std.proofs.Math.Option.{Option, none, some}
use Rattle.words.specs.I64.{i64_min, i64_max}
use Rattle.diagram.specs.Tables.{Range}
use Rattle.diagram.specs.Run.{Mode, exactly, restricted, relaxing}
use Rattle.diagram.specs.After4.{CutsetKind, last_exact_layer, frontier}
use Rattle.calls.specs.Asked.{Given}
use Rattle.calls.specs.Compile.{Request, Lent, Answer, refused, compiled, After, compile}

abbrev lowest : ℤ
lowest = i64_min

abbrev highest : ℤ
highest = i64_max

abbrev range : ℕ → ℕ → Range
range lo hi = record { lo = lo; hi = hi }

-- a record as it is handed in: capacity left, value, bound, depth, path
abbrev given : ℕ → ℤ → ℤ → ℕ → List ℕ → Given
given capacity value bound depth path = record { capacity = capacity; value = value; bound = bound; depth = depth; path = path }

-- the root record of a page
abbrev root : ℕ → Given
root page = given page (pos 0) highest 0 []

-- what is asked: weights, profits, page capacity, width, mode, cutset kind, lower bound, record
abbrev ask : List ℕ → List ℕ → ℕ → ℕ → Mode → CutsetKind → ℤ → Given → Request
ask weights profits page width mode kind lower start =
    record {
      problem = record { weights = weights; profits = profits; page = page; width = width };
      mode = mode;
      kind = kind;
      lower = lower;
      given = start;
    }

-- T, 'the three items of case R, capacity 2'
abbrev ask_t : ℕ → Mode → CutsetKind → ℤ → Given → Request
ask_t width mode kind lower start = ask (1 ∷ 1 ∷ 1 ∷ []) (4 ∷ 3 ∷ 2 ∷ []) 2 width mode kind lower start

-- old contents: n words that count on from the first
unfoldable pub old : ℕ → ℕ → List ℕ
old first zero = []
old first (suc n) = first ∷ old (suc first) n

abbrev lend : List ℕ → List ℕ → List ℕ → Lent
lend nodes edges records = record { nodes = nodes; edges = edges; records = records }

-- the words of 0, 2, 4, 5, 7 and 9, that is 2 ^ 63 more; of i64 minimum; of i64 maximum
abbrev w0 : ℕ
w0 = 9223372036854775808

abbrev w2 : ℕ
w2 = 9223372036854775810

abbrev w4 : ℕ
w4 = 9223372036854775812

abbrev w5 : ℕ
w5 = 9223372036854775813

abbrev w7 : ℕ
w7 = 9223372036854775815

abbrev w9 : ℕ
w9 = 9223372036854775817

abbrev least : ℕ
least = 0

abbrev most : ℕ
most = 18446744073709551615

-- a node row: capacity, depth, value, bottom, best edge, newest edge, fast bound, the flags' sum (exact 1, relaxed 2, marked 4, cutset 8, deleted 16)
abbrev node_row : ℕ → ℕ → ℕ → ℕ → ℕ → ℕ → ℕ → ℕ → List ℕ
node_row capacity depth value bottom best newest fast flags =
    capacity ∷ depth ∷ value ∷ bottom ∷ best ∷ newest ∷ fast ∷ flags ∷ []

-- an edge row: from, to, decision, cost, next
abbrev edge_row : ℕ → ℕ → ℕ → ℕ → ℕ → List ℕ
edge_row from to decision cost next = from ∷ to ∷ decision ∷ cost ∷ next ∷ []

-- a record's words: capacity, value, bound, depth, the path's 64 places
abbrev record_row : ℕ → ℕ → ℕ → ℕ → List ℕ → List ℕ
record_row capacity value bound depth places = capacity ∷ value ∷ bound ∷ depth ∷ places

-- an accepted answer: exactness, best value and path, best exact value and path, node count, edge count, drained count, layers
abbrev accepted : Bool → Option ℤ → List ℕ → Option ℤ → List ℕ → ℕ → ℕ → ℕ → List Range → Answer
accepted exact best path best_exact exact_path node_count edge_count drained_count layers =
    compiled (record {
      exact = exact;
      best = best;
      path = path;
      best_exact = best_exact;
      exact_path = exact_path;
      node_count = node_count;
      edge_count = edge_count;
      drained_count = drained_count;
      layers = layers;
    })

-- the rows of case H
abbrev nodes_h : List ℕ
nodes_h =
    node_row 2 0 w0 w9 0 0 w9 5
    ++ node_row 1 1 w4 w5 1 1 w5 13
    ++ node_row 2 1 w0 w5 2 2 w5 13
    ++ node_row 1 2 w4 least 6 6 most 17
    ++ node_row 2 2 w0 least 4 4 most 17
    ++ node_row 0 2 w7 least 5 5 most 17
    ++ node_row 2 2 w7 w2 7 10 w2 6
    ++ node_row 1 3 w9 w0 11 11 most 4
    ++ node_row 2 3 w7 w0 12 12 most 4

abbrev edges_h : List ℕ
edges_h =
    edge_row 0 1 1 4 0
    ++ edge_row 0 2 0 0 0
    ++ edge_row 2 3 3 3 0
    ++ edge_row 2 4 2 0 0
    ++ edge_row 1 5 3 3 0
    ++ edge_row 1 3 2 0 3
    ++ edge_row 1 6 3 3 0
    ++ edge_row 1 6 2 0 7
    ++ edge_row 2 6 3 3 8
    ++ edge_row 2 6 2 0 9
    ++ edge_row 6 7 5 2 0
    ++ edge_row 6 8 4 0 0

abbrev answer_h : Answer
answer_h =
    accepted false (some (pos 9)) (5 ∷ 3 ∷ 1 ∷ replicate 61 0) none (replicate 64 0) 9 12 2 (range 0 1 ∷ range 1 3 ∷ range 3 7 ∷ range 7 9 ∷ [])

-- a call, and what is then answered and lent
pub record Call : Type 0 where
  pub asked : Request
  pub lent : Lent
  pub after : After

abbrev call : Request → Lent → Answer → Lent → Call
call asked lent answer left = record { asked = asked; lent = lent; after = record { answer = answer; lent = left } }

unfoldable pub calls : List Call
calls =
    -- H: nine node rows, twelve edge rows and two records stand over what was there; the words behind them stay
    call (ask_t 1 relaxing last_exact_layer lowest (root 2))
    (lend (old 101 75) (old 201 63) (old 301 141))
    answer_h
    (lend (nodes_h ++ old 173 3) (edges_h ++ old 261 3) (record_row 1 w4 w9 1 (1 ∷ replicate 63 0) ++ record_row 2 w0 w5 1 (0 ∷ replicate 63 0) ++ old 437 5))
    -- I: the cutset kind is asked
    ∷ call (ask_t 1 relaxing frontier lowest (root 2))
    (lend (old 101 75) (old 201 63) (old 301 141))
    answer_h
    (lend (nodes_h ++ old 173 3) (edges_h ++ old 261 3) (record_row 2 w0 w5 1 (0 ∷ replicate 63 0) ++ record_row 1 w4 w9 1 (1 ∷ replicate 63 0) ++ old 437 5))
    -- 13: H with room for one record, and 67 words more: the tables hold the finished diagram, the list stays
    ∷ call (ask_t 1 relaxing last_exact_layer lowest (root 2))
    (lend (old 101 75) (old 201 63) (old 301 135))
    (refused 13)
    (lend (nodes_h ++ old 173 3) (edges_h ++ old 261 3) (old 301 135))
    -- 11: H with two node rows, and 7 words more: what was written before stays
    ∷ call (ask_t 1 relaxing last_exact_layer lowest (root 2))
    (lend (old 101 23) (old 201 63) (old 301 3))
    (refused 11)
    (lend (node_row 2 0 w0 least 0 0 w9 1 ++ node_row 1 1 w4 least 1 1 most 1 ++ old 117 7) (edge_row 0 1 1 4 0 ++ old 206 58) (old 301 3))
    -- 11: H with no whole node row: nothing is written
    ∷ call (ask_t 1 relaxing last_exact_layer lowest (root 2)) (lend (old 101 7) (old 201 6) []) (refused 11) (lend (old 101 7) (old 201 6) [])
    -- 12: H with one edge row, and 4 words more
    ∷ call (ask_t 1 relaxing last_exact_layer lowest (root 2))
    (lend (old 101 75) (old 201 9) (old 301 3))
    (refused 12)
    (lend (node_row 2 0 w0 least 0 0 w9 1 ++ node_row 1 1 w4 least 1 1 most 1 ++ old 117 59) (edge_row 0 1 1 4 0 ++ old 206 4) (old 301 3))
    -- L: just the rows and the one record that it needs are lent; two rows are listed, one record is drained
    ∷ call (ask_t 1 relaxing last_exact_layer (pos 8) (root 2))
    (lend (old 101 64) (old 201 40) (old 301 68))
    (accepted false (some (pos 9)) (5 ∷ 3 ∷ 1 ∷ replicate 61 0) none (replicate 64 0) 8 8 1 (range 0 1 ∷ range 1 3 ∷ range 3 6 ∷ range 6 8 ∷ []))
    (lend
    (node_row 2 0 w0 w9 0 0 w9 5
    ++ node_row 1 1 w4 w5 1 1 w5 13
    ++ node_row 2 1 w0 least 2 2 w5 9
    ++ node_row 0 2 w7 least 3 3 most 17
    ++ node_row 1 2 w4 least 4 4 most 17
    ++ node_row 1 2 w7 w2 5 6 w2 6
    ++ node_row 0 3 w9 w0 7 7 most 4
    ++ node_row 1 3 w7 w0 8 8 most 4)
    (edge_row 0 1 1 4 0 ++ edge_row 0 2 0 0 0 ++ edge_row 1 3 3 3 0 ++ edge_row 1 4 2 0 0 ++ edge_row 1 5 3 3 0 ++ edge_row 1 5 2 0 5 ++ edge_row 5 6 5 2 0 ++ edge_row 5 7 4 0 0)
    (record_row 1 w4 w9 1 (1 ∷ replicate 63 0)))
    -- T restricted, width 2: mode and width are asked
    ∷ call (ask_t 2 restricted last_exact_layer lowest (root 2))
    (lend (old 101 66) (old 201 47) (old 301 2))
    (accepted false (some (pos 7)) (4 ∷ 3 ∷ 1 ∷ replicate 61 0) (some (pos 7)) (4 ∷ 3 ∷ 1 ∷ replicate 61 0) 8 9 0 (range 0 1 ∷ range 1 3 ∷ range 3 6 ∷ range 6 8 ∷ []))
    (lend
    (node_row 2 0 w0 least 0 0 w9 1
    ++ node_row 1 1 w4 least 1 1 w5 1
    ++ node_row 2 1 w0 least 2 2 w5 1
    ++ node_row 1 2 w4 least 6 6 w2 1
    ++ node_row 2 2 w0 least 4 4 most 17
    ++ node_row 0 2 w7 least 5 5 w0 1
    ++ node_row 0 3 w7 least 7 8 most 1
    ++ node_row 1 3 w4 least 9 9 most 1
    ++ old 165 2)
    (edge_row 0 1 1 4 0 ++ edge_row 0 2 0 0 0 ++ edge_row 2 3 3 3 0 ++ edge_row 2 4 2 0 0 ++ edge_row 1 5 3 3 0 ++ edge_row 1 3 2 0 3 ++ edge_row 5 6 4 0 0 ++ edge_row 3 6 5 2 7 ++ edge_row 3 7 4 0 0 ++ old 246 2)
    (old 301 2))
    -- K: the lower bound is asked; without a value the path's places are 0
    ∷ call (ask_t 1 relaxing last_exact_layer (pos 9) (root 2))
    (lend (old 101 15) (old 201 4) [])
    (accepted true none (replicate 64 0) none (replicate 64 0) 1 0 0 (range 0 1 ∷ range 0 0 ∷ []))
    (lend (node_row 2 0 w0 least 0 0 w9 1 ++ old 109 7) (old 201 4) [])
    -- T from H's first record: its capacity, value, depth and path are the root's; its bound isn't read
    ∷ call (ask_t 1 relaxing last_exact_layer lowest (given 1 (pos 4) (pos 9) 1 (1 ∷ [])))
    (lend (old 101 41) (old 201 29) [])
    (accepted true (some (pos 7)) (1 ∷ 4 ∷ 3 ∷ replicate 61 0) (some (pos 7)) (1 ∷ 4 ∷ 3 ∷ replicate 61 0) 5 5 0 (range 0 1 ∷ range 1 3 ∷ range 3 5 ∷ []))
    (lend
    (node_row 1 1 w4 least 0 0 w5 1
    ++ node_row 0 2 w7 least 1 1 w0 1
    ++ node_row 1 2 w4 least 2 2 w2 1
    ++ node_row 0 3 w7 least 5 5 most 1
    ++ node_row 1 3 w4 least 4 4 most 1
    ++ old 141 1)
    (edge_row 0 1 3 3 0 ++ edge_row 0 2 2 0 0 ++ edge_row 2 3 5 2 0 ++ edge_row 2 4 4 0 0 ++ edge_row 1 3 4 0 3 ++ old 226 4)
    [])
    ∷ []

-- Refusals 1 to 9: three node rows, two edge rows and one record are lent, with some words more; nothing of them is written.
abbrev lent_few : Lent
lent_few = lend (old 101 29) (old 201 13) (old 301 70)

-- exact mode, from the root; and from a record
abbrev from_root : List ℕ → List ℕ → ℕ → ℕ → Request
from_root weights profits page width = ask weights profits page width exactly last_exact_layer lowest (root page)

abbrev from_record : List ℕ → List ℕ → ℕ → ℕ → Given → Request
from_record weights profits page width start = ask weights profits page width exactly last_exact_layer lowest start

-- n items without weight and profit, of which nothing is above the lower bound
abbrev empties : ℕ → Request
empties n = ask (replicate n 0) (replicate n 0) 0 1 exactly last_exact_layer (pos 0) (root 0)

-- what passes
unfoldable pub passing : List Request
passing =
    -- 3 to 6: capacity and weight 65,535, profit 1,000,000, width 256; and width 1
    from_root (65535 ∷ []) (1000000 ∷ []) 65535 256
    ∷ from_root (65535 ∷ []) (1000000 ∷ []) 65535 1
    -- 2: 64 items
    ∷ empties 64
    -- 7 to 9: a record as deep as there are items, whose path names each item once, in any order; its sums are right
    ∷ from_record (3 ∷ 5 ∷ []) (7 ∷ 11 ∷ []) 9 1 (given 4 (pos 11) (pos 0) 2 (3 ∷ 0 ∷ []))
    ∷ from_record (3 ∷ 5 ∷ []) (7 ∷ 11 ∷ []) 9 1 (given 1 (pos 18) (pos 0) 2 (1 ∷ 3 ∷ []))
    ∷ from_record (3 ∷ 5 ∷ []) (7 ∷ 11 ∷ []) 9 1 (given 9 (pos 0) (pos 0) 1 (0 ∷ []))
    ∷ []

-- what is refused, and the number
pub record Refused : Type 0 where
  pub asked : Request
  pub number : ℕ

abbrev refuses : ℕ → Request → Refused
refuses number asked = record { asked = asked; number = number }

unfoldable pub refusing : List Refused
refusing =
    -- 1: a weight more, a profit more
    refuses 1 (from_root (1 ∷ 1 ∷ []) (1 ∷ []) 1 1)
    ∷ refuses 1 (from_root (1 ∷ []) (1 ∷ 1 ∷ []) 1 1)
    -- 2: 65 items
    ∷ refuses 2 (empties 65)
    -- 3, 4, 5: one above the limit
    ∷ refuses 3 (from_root (65535 ∷ []) (1000000 ∷ []) 65536 256)
    ∷ refuses 4 (from_root (1 ∷ 65536 ∷ []) (1 ∷ 1 ∷ []) 65535 256)
    ∷ refuses 5 (from_root (1 ∷ 1 ∷ []) (1 ∷ 1000001 ∷ []) 65535 256)
    -- 6: width 0 and 257, in any mode
    ∷ refuses 6 (ask (1 ∷ []) (1 ∷ []) 1 0 exactly last_exact_layer lowest (root 1))
    ∷ refuses 6 (ask (1 ∷ []) (1 ∷ []) 1 257 exactly last_exact_layer lowest (root 1))
    ∷ refuses 6 (ask (1 ∷ []) (1 ∷ []) 1 0 restricted last_exact_layer lowest (root 1))
    ∷ refuses 6 (ask (1 ∷ []) (1 ∷ []) 1 257 restricted last_exact_layer lowest (root 1))
    ∷ refuses 6 (ask (1 ∷ []) (1 ∷ []) 1 0 relaxing last_exact_layer lowest (root 1))
    ∷ refuses 6 (ask (1 ∷ []) (1 ∷ []) 1 257 relaxing last_exact_layer lowest (root 1))
    -- 7: one deeper than there are items; a byte less and a byte more than the depth
    ∷ refuses 7 (from_record (3 ∷ 5 ∷ []) (7 ∷ 11 ∷ []) 9 1 (given 4 (pos 11) (pos 0) 3 (3 ∷ 0 ∷ 4 ∷ [])))
    ∷ refuses 7 (from_record (3 ∷ 5 ∷ []) (7 ∷ 11 ∷ []) 9 1 (given 4 (pos 11) (pos 0) 2 (3 ∷ [])))
    ∷ refuses 7 (from_record (3 ∷ 5 ∷ []) (7 ∷ 11 ∷ []) 9 1 (given 4 (pos 11) (pos 0) 1 (3 ∷ 0 ∷ [])))
    -- 8: an item twice and another never; an item that isn't below the depth; bytes of no item
    ∷ refuses 8 (from_record (3 ∷ 5 ∷ []) (7 ∷ 11 ∷ []) 9 1 (given 6 (pos 7) (pos 0) 2 (0 ∷ 1 ∷ [])))
    ∷ refuses 8 (from_record (3 ∷ 5 ∷ []) (7 ∷ 11 ∷ []) 9 1 (given 4 (pos 11) (pos 0) 1 (3 ∷ [])))
    ∷ refuses 8 (from_record (3 ∷ 5 ∷ []) (7 ∷ 11 ∷ []) 9 1 (given 4 (pos 11) (pos 0) 2 (3 ∷ 200 ∷ [])))
    -- 9: a unit of capacity less and more; a unit of value less and more; a value below 0
    ∷ refuses 9 (from_record (3 ∷ 5 ∷ []) (7 ∷ 11 ∷ []) 9 1 (given 3 (pos 11) (pos 0) 2 (3 ∷ 0 ∷ [])))
    ∷ refuses 9 (from_record (3 ∷ 5 ∷ []) (7 ∷ 11 ∷ []) 9 1 (given 5 (pos 11) (pos 0) 2 (3 ∷ 0 ∷ [])))
    ∷ refuses 9 (from_record (3 ∷ 5 ∷ []) (7 ∷ 11 ∷ []) 9 1 (given 4 (pos 10) (pos 0) 2 (3 ∷ 0 ∷ [])))
    ∷ refuses 9 (from_record (3 ∷ 5 ∷ []) (7 ∷ 11 ∷ []) 9 1 (given 4 (pos 12) (pos 0) 2 (3 ∷ 0 ∷ [])))
    ∷ refuses 9 (from_record (3 ∷ 5 ∷ []) (7 ∷ 11 ∷ []) 9 1 (given 9 (negsuc 0) (pos 0) 1 (0 ∷ [])))
    -- the first that applies: in each of these every later row applies too
    ∷ refuses 1 (from_record (replicate 65 65536) (replicate 64 1000001) 65536 0 (given 0 (pos 1) (pos 0) 66 []))
    ∷ refuses 2 (from_record (replicate 65 65536) (replicate 65 1000001) 65536 0 (given 0 (pos 1) (pos 0) 66 []))
    ∷ refuses 3 (from_record (65536 ∷ []) (1000001 ∷ []) 65536 0 (given 0 (pos 1) (pos 0) 66 []))
    ∷ refuses 4 (from_record (65536 ∷ []) (1000001 ∷ []) 65535 0 (given 0 (pos 1) (pos 0) 66 []))
    ∷ refuses 5 (from_record (65535 ∷ []) (1000001 ∷ []) 65535 0 (given 0 (pos 1) (pos 0) 66 []))
    ∷ refuses 6 (from_record (65535 ∷ []) (1000000 ∷ []) 65535 0 (given 0 (pos 1) (pos 0) 66 []))
    ∷ refuses 7 (from_record (65535 ∷ []) (1000000 ∷ []) 65535 1 (given 0 (pos 1) (pos 0) 66 []))
    ∷ refuses 8 (from_record (65535 ∷ []) (1000000 ∷ []) 65535 1 (given 0 (pos 1) (pos 0) 1 (2 ∷ [])))
    ∷ refuses 9 (from_record (65535 ∷ []) (1000000 ∷ []) 65535 1 (given 0 (pos 1) (pos 0) 1 (0 ∷ [])))
    ∷ []

-- whether an answer is a compiled diagram
unfoldable pub is_compiled : Answer → Bool
is_compiled (refused n) = false
is_compiled (compiled c) = true

-- the three statements
abbrev pub Calls : Type 0
Calls = map (λ c. compile c.asked c.lent) calls ≡ map (λ c. c.after) calls

abbrev pub Passing : Type 0
Passing = map (λ q. is_compiled (compile q lent_few).answer) passing ≡ map (λ q. true) passing

abbrev pub Refusing : Type 0
Refusing =
    map (λ c. compile c.asked lent_few) refusing ≡ map {B = After} (λ c. record { answer = refused c.number; lent = lent_few }) refusing
