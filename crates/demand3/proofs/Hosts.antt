-- SomeHostKeeps: a host that picks place 0 and lends new tables, a new scratch list and its list with as many places more.
use mathlib.Core.Path.{◌≡◌}
use mathlib.Core.List.{◌++◌}
use Prim.Native.Nat.{ℕ, ◌*◌}
use native.Mathlib.Omega.{arith}
use lib.ListN.{replicate, length-append, length-replicate}
use lib.Seq.{take-append-le}
use Rattle.diagram.specs.After4.{last_exact_layer}
use Rattle.layout.specs.Rows.{node_words, edge_words}
use Rattle.layout.specs.Records.{record_words}
use Rattle.searches.specs.Places.{no_place}
use Rattle.calls.specs.Compile.{Lent, rooms_of}
use Rattle.searches.specs.Search.{open_in}
use Rattle.demand3.specs.Searches.{item_count, nodes_for, edges_for}
use Rattle.demand3.specs.Statements.{Strategy, SomeHostKeeps}

-- so many node rows and scratch places, so many edge rows
abbrev lent_of : ℕ → ℕ → Lent
lent_of nodes edges = record { nodes = replicate (nodes * node_words) 0; edges = replicate (edges * edge_words) 0; records = replicate (nodes * record_words) 0 }

abbrev host_of : ℕ → ℕ → ℕ → Strategy
host_of width nodes edges s list = record { width = width; kind = last_exact_layer; place = 0; held = record { list = list ++ replicate nodes no_place; lent = lent_of nodes edges } }

lent_rooms : (nodes edges : ℕ) → ((rooms_of (lent_of nodes edges)).nodes ≡ nodes) × ((rooms_of (lent_of nodes edges)).edges ≡ edges) × ((rooms_of (lent_of nodes edges)).records ≡ nodes)
unfolding rooms_of
lent_rooms nodes edges = (
  omega (arith, length-replicate {A = ℕ} (nodes * node_words) 0),
  omega (arith, length-replicate {A = ℕ} (edges * edge_words) 0),
  omega (arith, length-replicate {A = ℕ} (nodes * record_words) 0),
)

pub some_host_keeps : SomeHostKeeps
unfolding open_in
some_host_keeps b width one most =
    let n = nodes_for width (item_count b) in
    let e = edges_for width (item_count b) in
    let rooms = lent_rooms n e in
    let places = length-replicate n no_place in (
      host_of width n e,
      record {
        as_left = λ s list h. take-append-le s.opened list (replicate n no_place) h;
        scratch = λ s list. omega (arith, rooms);
        roomy = λ s list h some.
            record { some_width = one; width = most; place = some; nodes = omega (arith, rooms); edges = omega (arith, rooms); scratch = omega (arith, rooms); list = omega (arith, rooms, length-append list (replicate n no_place)) };
      },
    )
