-- What the statements of demand 2 speak of: accepted input, selections that keep a record's path, a record's optimum, a path that is a selection, a finished compile.
use Rattle.std.specs.Prelude.{◌≡◌, Bool, false, ℕ, ◌<◌, ℤ, pos, length, get_or, take, drop, ◌≤ℤ◌}
use mathlib.Core.List.{List, ◌++◌, Memᴰ, map}
use Rattle.words.specs.I64.{InI64, number}
use Rattle.knapsack.specs.Items.{item_of, is_take}
use Rattle.knapsack.specs.Knapsack.{SelectionFits, profit_of}
use Rattle.diagram.specs.Record.{Record}
use Rattle.diagram.specs.After6.{Outcome, finished, drained}
use Rattle.calls.specs.Asked.{Problem, Given}
pub use Rattle.calls.specs.Asked.{items_in}
use Rattle.calls.specs.Rows.{Row1, Row2, Row3, Row4, Row5, Row6, Row7, Row8, Row9, namings}
use Rattle.calls.specs.Compile.{Request, Rooms, Compiled, compiled_of, run_of}

-- how many items there are
abbrev pub item_count : Problem → ℕ
item_count p = length p.weights

-- Refusals 1 to 6 don't apply: weights and profits alike in number, at most 64 items, the limits of capacity, weights and profits, width 1 to 256.
pub record Allowed (p : Problem) : Type 0 where
  pub passes1 : ¬ Row1 p
  pub passes2 : ¬ Row2 p
  pub passes3 : ¬ Row3 p
  pub passes4 : ¬ Row4 p
  pub passes5 : ¬ Row5 p
  pub passes6 : ¬ Row6 p

-- A valid record: refusals 7 to 9 don't apply.
pub record Valid (p : Problem) (g : Given) : Type 0 where
  pub passes7 : ¬ Row7 p g
  pub passes8 : ¬ Row8 p g
  pub passes9 : ¬ Row9 p g

-- A selection keeps a path: each byte of the path says of the item that it names what the selection says.
abbrev pub Keeps : List ℕ → List Bool → Type 0
Keeps path selection = (byte : ℕ) → Memᴰ byte path → get_or selection (item_of byte) false ≡ is_take byte

-- 'every selection that fits, keeps its record's path': such a selection
pub record Completes (p : Problem) (g : Given) (selection : List Bool) : Type 0 where
  pub fits : SelectionFits (items_in p) p.page selection
  pub keeps : Keeps g.path selection

-- what a selection earns
abbrev pub earns : Problem → List Bool → ℤ
earns p selection = pos (profit_of (items_in p) selection)

-- The record's optimum: some selection that fits the page and keeps the record's path earns x, and none earns more.
pub record RecordOptimum (p : Problem) (g : Given) (x : ℤ) : Type 0 where
  pub selection : List Bool
  pub completes : Completes p g selection
  pub earned : earns p selection ≡ x
  pub most : (other : List Bool) → Completes p g other → earns p other ≤ℤ x

-- A path of an answer has 64 places; its decisions stand in the first ones, one an item.
abbrev pub decisions : Problem → List ℕ → List ℕ
decisions p path = take (item_count p) path

-- Value v is achieved by the path: it names every item once, and the selection that its bytes say fits the page, keeps the record's path and earns v.
pub record Achieved (p : Problem) (g : Given) (path : List ℕ) (v : ℤ) : Type 0 where
  pub selection : List Bool
  pub names_each_once : (d : ℕ) → d < item_count p → namings d (decisions p path) ≡ 1
  pub says : Keeps (decisions p path) selection
  pub completes : Completes p g selection
  pub earned : earns p selection ≡ v

-- A drained record as it is handed to the next call: its words as i64 numbers.
unfoldable pub given_of : Record → Given
given_of r = record { capacity = r.capacity; value = number r.value; bound = number r.bound; depth = r.depth; path = r.path }

-- A finished compile: the problem passes 1 to 6, the record is valid, the lower bound is any i64, the run finishes in some room, and is seen to answer a and to drain the
-- records rs.
pub record Finished (q : Request) (a : Compiled) (rs : List Given) : Type 0 where
  pub allowed : Allowed q.problem
  pub valid : Valid q.problem q.given
  pub lower_is_i64 : InI64 q.lower
  pub rooms : Rooms
  pub outcome : Outcome
  pub runs : run_of q rooms ≡ finished outcome
  pub answers : a ≡ compiled_of q.given.path outcome
  pub drains : rs ≡ map given_of (drained q.given.path outcome)

-- the same words written over two tables, from their starts on, with the rest of each as it was
pub record SameWords (before after before' after' : List ℕ) : Type 0 where
  pub words : List ℕ
  pub one : after ≡ words ++ drop (length words) before
  pub other : after' ≡ words ++ drop (length words) before'
