-- How records stand in a flat list of words: a fixed count to a record, the path one byte to a word.
use Rattle.std.specs.Prelude.{List, [], ◌∷◌, ℕ, ◌≤◌, length, get_or, take, drop}
use Rattle.diagram.specs.Record.{Record, path_room, padded}
use Rattle.layout.specs.Table.{words_of}

-- Capacity, value, bound, depth (value and bound are i64, as words), then the path's 64 places: 'places past it are written 0'.
abbrev pub record_words : ℕ
record_words = 68

abbrev pub capacity_place : ℕ
capacity_place = 0

abbrev pub value_place : ℕ
value_place = 1

abbrev pub bound_place : ℕ
bound_place = 2

abbrev pub depth_place : ℕ
depth_place = 3

abbrev pub path_place : ℕ
path_place = 4

unfoldable pub encode_record : Record → List ℕ
encode_record r = r.capacity ∷ r.value ∷ r.bound ∷ r.depth ∷ padded r.path

unfoldable pub decode_record : List ℕ → Record
decode_record ws =
    record {
      capacity = get_or ws capacity_place 0;
      value = get_or ws value_place 0;
      bound = get_or ws bound_place 0;
      depth = get_or ws depth_place 0;
      path = take (get_or ws depth_place 0) (drop path_place ws);
    }

unfoldable pub record_table : List Record → List ℕ
record_table rs = words_of encode_record rs

-- each record's path has room
abbrev pub Roomy : List Record → Type 0
Roomy [] = Unit {0}
Roomy (r ∷ rs) = (length r.path ≤ path_room) × Roomy rs
