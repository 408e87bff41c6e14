-- What the statements of demand 3 speak of: the largest count of picks, an open record that leads to the optimum, a held selection, rooms that always are enough.
use Rattle.std.specs.Prelude.{Bool, ℕ, zero, suc, ◌+◌, ◌*◌, ◌≤◌, ◌<◌, max, ℤ, pos, length, ◌≤ℤ◌, cond}
use mathlib.Core.List.{List, [], Memᴰ}
use Rattle.std.specs.Int.Signed.{lt_z}
use Rattle.words.specs.I64.{i64_max}
use Rattle.calls.specs.Asked.{Problem, Given}
use Rattle.calls.specs.Compile.{rooms_of}
use Rattle.demand2.specs.Records.{Completes, earns, Achieved}
use Rattle.searches.specs.Places.{Place, given_at}
use Rattle.searches.specs.Search.{Search}
use Rattle.searches.specs.Trace.{Blocks, problem_at, Attempt}

-- the block problem of a search; where the width doesn't matter it is 1
abbrev pub problem_of : Blocks → Problem
problem_of b = problem_at b 1

abbrev pub item_count : Blocks → ℕ
item_count b = length b.weights

-- '1 + C + C² + … + Cⁿ'
unfoldable pub geometric : ℕ → ℕ → ℕ
geometric c zero = 1
geometric c (suc n) = 1 + c * geometric c n

abbrev pub larger : ℤ → ℤ → ℤ
larger x y = cond (lt_z x y) y x

-- the record that a search starts from
abbrev pub root_given : Blocks → Given
root_given b = record { capacity = b.page; value = pos 0; bound = i64_max; depth = 0; path = [] }

-- an open record that leads to a selection of value x: some selection that fits and keeps its path earns x at least, and so does its bound
pub record Leads (b : Blocks) (ps : List Place) (x : ℤ) : Type 0 where
  pub place : Place
  pub is_open : Memᴰ place ps
  pub bound : x ≤ℤ place.bound
  pub selection : List Bool
  pub completes : Completes (problem_of b) (given_at place) selection
  pub earned : x ≤ℤ earns (problem_of b) selection

-- the path is a selection that fits the page: it names every item once, and earns v
abbrev pub IsSelection : Blocks → List ℕ → ℤ → Type 0
IsSelection b path v = Achieved (problem_of b) (root_given b) path v

-- rows that a relaxed run of n items never outgrows: the root's and, an item, a layer of twice the kept nodes with one merged node; four edges an item and kept node
abbrev pub nodes_for : ℕ → ℕ → ℕ
nodes_for width n = 1 + n * (2 * max width 2 + 1)

abbrev pub edges_for : ℕ → ℕ → ℕ
edges_for width n = n * (4 * max width 2)

-- an attempt at an open record with a width that passes, tables and a scratch list that are enough, and a list with room for what may be appended
pub record Roomy (b : Blocks) (s : Search) (a : Attempt) : Type 0 where
  pub some_width : 1 ≤ a.width
  pub width : a.width ≤ 256
  pub place : a.place < s.opened
  pub nodes : nodes_for a.width (item_count b) ≤ (rooms_of a.held.lent).nodes
  pub edges : edges_for a.width (item_count b) ≤ (rooms_of a.held.lent).edges
  pub scratch : nodes_for a.width (item_count b) ≤ (rooms_of a.held.lent).records
  pub list : s.opened + (rooms_of a.held.lent).records ≤ length a.held.list
