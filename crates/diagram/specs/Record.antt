-- 'The block problem', the paragraphs on records: what a record holds, its path's room, and the root record.
use Rattle.std.specs.Prelude.{List, [], ◌++◌, ℕ, ◌-◌, length, replicate}
use Rattle.words.specs.I64.{mid, top}

-- 'A record holds capacity left, value, upper bound, depth and a path of `depth` decision bytes.' Value and bound are i64, as words.
pub record Record : Type 0 where
  pub capacity : ℕ
  pub value : ℕ
  pub bound : ℕ
  pub depth : ℕ
  pub path : List ℕ

-- 'room 64; places past it are written 0'
abbrev pub path_room : ℕ
path_room = 64

unfoldable pub padded : List ℕ → List ℕ
padded path = path ++ replicate (path_room - length path) 0

-- 'The root record: the page capacity, value 0, bound i64 maximum, depth 0, empty path.'
unfoldable pub root_record : ℕ → Record
root_record page = record { capacity = page; value = mid; bound = top; depth = 0; path = [] }
