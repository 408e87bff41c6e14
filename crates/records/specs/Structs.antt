-- Which place of the definition's lists a record struct of the code stands for, and which record struct stands in flat words.
use Rattle.std.specs.Prelude.{List, [], ◌∷◌, ◌++◌, map, ℕ, zero, suc, ◌+◌, ◌*◌, ◌%◌, pos, get_or, take, drop, replicate}
use Rattle.words.specs.I64.{number}
use Rattle.layout.specs.Records.{record_words}
use Rattle.searches.specs.Places.{Place}
use Rattle.records.specs.declared.Record.{Record}

-- The 64 bytes of its path are the place's bytes.
unfoldable pub place_from : Record → Place
place_from r = record { capacity = r.capacity; value = r.value; bound = r.bound; depth = r.depth; bytes = r.path }

-- a list of record structs as the definitions have it
unfoldable pub places : List Record → List Place
places rs = map place_from rs

-- some record, for places past a list's end
abbrev pub no_record : Record
no_record = record { capacity = 0; value = pos 0; bound = pos 0; depth = 0; path = replicate 64 0 }

-- a path's bytes, from the words of a flat list: one byte to a word
unfoldable pub bytes_in : List ℕ → ℕ → List ℕ
bytes_in t from = map (λ (w : ℕ). w % 256) (take 64 (drop from t))

-- record number i of a flat list
unfoldable pub record_in : List ℕ → ℕ → Record
record_in t i =
    record {
      capacity = get_or t (i * record_words) 0;
      value = number (get_or t (i * record_words + 1) 0);
      bound = number (get_or t (i * record_words + 2) 0);
      depth = get_or t (i * record_words + 3) 0;
      path = bytes_in t (i * record_words + 4);
    }

-- the first n records of a flat list, as places
unfoldable pub places_in : ℕ → List ℕ → List Place
places_in zero t = []
places_in (suc n) t = places_in n t ++ (place_from (record_in t n) ∷ [])
