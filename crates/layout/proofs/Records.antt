-- Encoding and decoding a record are inverse where its path has as many bytes as its depth says, and a record is stored behind others where every path has room.
use mathlib.Core.Path.{◌≡◌, refl}
use mathlib.Core.List.{List, [], ◌∷◌, ◌++◌}
use Prim.Native.Nat.{ℕ, suc, ◌-◌, ◌*◌, ◌≤◌}
use native.Mathlib.Nat.{suc-mul}
use native.Mathlib.Omega.{arith}
use lib.ListN.{length, replicate, length-append, length-replicate}
use lib.Seq.{take_at, sets}
use Rattle.diagram.specs.Record.{Record, path_room, padded}
use Rattle.layout.specs.Table.{words_of, over}
use Rattle.layout.specs.Records.{record_words, encode_record, decode_record, record_table, Roomy}
use Rattle.layout.proofs.Table.{stored_behind}

pub record_back : (r : Record) → length r.path ≡ r.depth → decode_record (encode_record r) ≡ r
unfolding decode_record encode_record padded
record_back r h = rw (take_at r.path (replicate (path_room - length r.path) 0) r.depth h)

pub padded_length : (path : List ℕ) → length path ≤ path_room → length (padded path) ≡ path_room
unfolding padded
padded_length path h = simp (length-append, length-replicate) (omega arith)

-- a record whose path has room takes `record_words` words
pub record_length : (r : Record) → length r.path ≤ path_room → length (encode_record r) ≡ record_words
unfolding encode_record
record_length r h = omega (arith, padded_length r.path h)

-- records whose paths have room take `record_words` words each
pub records_length : (rs : List Record) → Roomy rs → length (record_table rs) ≡ length rs * record_words
unfolding record_table words_of
records_length [] h = refl
records_length (r ∷ rs) h =
    simp (length-append, suc-mul) (omega (arith, record_length r h.0, records_length rs h.1))

pub roomy_snoc : (rs : List Record) (r : Record) → Roomy rs → length r.path ≤ path_room → Roomy (rs ++ (r ∷ []))
roomy_snoc [] r h k = (k, tt)
roomy_snoc (q ∷ rs) r h k = (h.0, roomy_snoc rs r h.1 k)

-- a record stored behind others
pub record_behind : (rs : List Record) (old : List ℕ) (r : Record) → Roomy rs → length r.path ≤ path_room → suc (length rs) * record_words ≤ length old → sets (over (record_table rs) old) (length rs * record_words) (encode_record r) ≡ over (record_table (rs ++ (r ∷ []))) old
unfolding record_table
record_behind rs old r h k l = stored_behind encode_record record_words rs old r (records_length rs h) (record_length r k) l

-- no records, written over a list, leave it
pub over_none : (list : List ℕ) → over (record_table []) list ≡ list
unfolding over record_table words_of
over_none list = refl
