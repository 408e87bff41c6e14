-- 'Open records are a lent list of record structs': what stands in a place of such a list, and which record that is.
use Rattle.std.specs.Prelude.{List, [], ◌++◌, ℕ, ℤ, pos, length, take, drop}
use Rattle.words.specs.I64.{number, i64_max}
use Rattle.diagram.specs.Record.{Record, padded}
use Rattle.calls.specs.Asked.{Given}

-- 'A record holds capacity left, value, upper bound, depth and a path of `depth` decision bytes, room 64': its 64 bytes stand in the place.
pub record Place : Type 0 where
  pub capacity : ℕ
  pub value : ℤ
  pub bound : ℤ
  pub depth : ℕ
  pub bytes : List ℕ

-- The record in a place: its path is the first `depth` of the bytes; those past it are not read.
unfoldable pub given_at : Place → Given
given_at p = record { capacity = p.capacity; value = p.value; bound = p.bound; depth = p.depth; path = take p.depth p.bytes }

-- a drained record as it is written: 'places past it are written 0'
unfoldable pub place_of : Record → Place
place_of r = record { capacity = r.capacity; value = number r.value; bound = number r.bound; depth = r.depth; bytes = padded r.path }

-- 'The root record: the page capacity, value 0, bound i64 maximum, depth 0, empty path.'
unfoldable pub root_place : ℕ → Place
root_place page = record { capacity = page; value = pos 0; bound = i64_max; depth = 0; bytes = padded [] }

abbrev pub no_place : Place
no_place = record { capacity = 0; value = pos 0; bound = pos 0; depth = 0; bytes = [] }

-- places written from a list's start on, over what was there
unfoldable pub over_places : List Place → List Place → List Place
over_places ps old = ps ++ drop (length ps) old
