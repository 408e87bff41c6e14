-- Records that were written as words are read as the same records: what stands in a flat list as the layout's definition has it, where paths have room and are bytes.
use mathlib.Core.Path.{◌≡◌, refl, sym, ap, ap₂, ◌∙◌}
use mathlib.Core.List.{List, [], ◌∷◌, ◌++◌, map, append_assoc}
use Prim.Native.Nat.{ℕ, zero, suc, ◌+◌, ◌-◌, ◌*◌, ◌%◌, ◌<◌, ◌≤◌}
use native.Mathlib.Nat.{suc-mul, le_of_suc-le-suc, not-suc-le-zero}
use native.Mathlib.Omega.{arith}
use lib.ListN.{length, get_or, take, drop, replicate, length-map}
use lib.Seq.{get_or-drop, drop-drop, take_at, take_all, take-suc, drop-append-add}
use Rattle.diagram.specs.Record.{Record as Written, padded}
use Rattle.layout.specs.Table.{words_of, over}
use Rattle.layout.specs.Records.{record_words, encode_record, record_table, Roomy}
use Rattle.layout.proofs.Records.{padded_length, record_length}
use Rattle.searches.specs.Places.{Place, place_of, no_place}
use Rattle.records.specs.Structs.{place_from, bytes_in, record_in, places_in}

-- each number of the list is a byte
abbrev pub Bytes : List ℕ → Type 0
Bytes [] = Unit {0}
Bytes (b ∷ bs) = (b < 256) × Bytes bs

-- each record's path is bytes
abbrev pub BytePaths : List Written → Type 0
BytePaths [] = Unit {0}
BytePaths (r ∷ rs) = Bytes r.path × BytePaths rs

abbrev byte : ℕ → ℕ
byte w = w % 256

byte_same : (b : ℕ) → b < 256 → b % 256 ≡ b
byte_same b h = omega arith

bytes_same : (bs : List ℕ) → Bytes bs → map byte bs ≡ bs
bytes_same [] h = refl
bytes_same (b ∷ bs) h = ap₂ ◌∷◌ (byte_same b h.0) (bytes_same bs h.1)

zeros_same : (n : ℕ) → map byte (replicate n 0) ≡ replicate n 0
zeros_same zero = refl
zeros_same (suc n) = ap (λ (l : List ℕ). 0 ∷ l) (zeros_same n)

bytes_append : (a b : List ℕ) → map byte (a ++ b) ≡ map byte a ++ map byte b
bytes_append [] b = refl
bytes_append (x ∷ a) b = ap (λ (l : List ℕ). byte x ∷ l) (bytes_append a b)

padded_same : (path : List ℕ) → Bytes path → map byte (padded path) ≡ padded path
unfolding padded
padded_same path h = bytes_append path (replicate (64 - length path) 0) ∙ ap₂ ◌++◌ (bytes_same path h) (zeros_same (64 - length path))

-- a record's words, and whatever is behind them
record_here : (t more : List ℕ) (i : ℕ) (r : Written) → drop (i * record_words) t ≡ encode_record r ++ more → length r.path ≤ 64 → Bytes r.path → place_from (record_in t i) ≡ place_of r
unfolding record_in place_from place_of encode_record bytes_in
record_here t more i r e roomy bytes =
    let word : (k : ℕ) → get_or t (i * record_words + k) 0 ≡ get_or (encode_record r ++ more) k 0 = λ k. sym (get_or-drop (i * record_words) t k 0) ∙ ap (λ (l : List ℕ). get_or l k 0) e in
    let z : i * record_words ≡ i * record_words + 0 = omega arith in
    let first : get_or t (i * record_words) 0 ≡ r.capacity = ap (λ (k : ℕ). get_or t k 0) z ∙ word 0 in
    let behind : drop (i * record_words + 4) t ≡ padded r.path ++ more = sym (drop-drop 4 (i * record_words) t) ∙ ap (drop 4) e in
    let path : map byte (take 64 (drop (i * record_words + 4) t)) ≡ padded r.path = rw behind (ap (map byte) (take_at (padded r.path) more 64 (padded_length r.path roomy)) ∙ padded_same r.path bytes) in
    rw (first, word 1, word 2, word 3, path)

-- some record, for what lies past the end
abbrev no_written : Written
no_written = record { capacity = 0; value = 0; bound = 0; depth = 0; path = [] }

-- the words from record i on
words_from : (rs : List Written) (rest : List ℕ) (i : ℕ) → Roomy rs → i < length rs → drop (i * record_words) (record_table rs ++ rest) ≡ encode_record (get_or rs i no_written) ++ (record_table (drop (suc i) rs) ++ rest)
unfolding record_table words_of
words_from [] rest i roomy h = absurd (not-suc-le-zero h)
words_from (r ∷ rs) rest zero roomy h = append_assoc (encode_record r) (record_table rs) rest
words_from (r ∷ rs) rest (suc i) roomy h =
    let l : length (encode_record r) ≡ 68 = record_length r roomy.0 in
    let z : suc i * record_words ≡ length (encode_record r) + i * record_words = omega (arith, suc-mul i 68) in
    rw (z, append_assoc (encode_record r) (record_table rs) rest) (drop-append-add (encode_record r) (record_table rs ++ rest) (i * record_words) ∙ words_from rs rest i roomy.1 (le_of_suc-le-suc h))

path_of_lem : (rs : List Written) (i : ℕ) → Roomy rs → BytePaths rs → i < length rs → (length (get_or rs i no_written).path ≤ 64) × Bytes (get_or rs i no_written).path
path_of_lem [] i roomy bytes h = absurd (not-suc-le-zero h)
path_of_lem (r ∷ rs) zero roomy bytes h = (roomy.0, bytes.0)
path_of_lem (r ∷ rs) (suc i) roomy bytes h = path_of_lem rs i roomy.1 bytes.1 (le_of_suc-le-suc h)

place_in : (rs : List Written) (i : ℕ) → i < length rs → place_of (get_or rs i no_written) ≡ get_or (map place_of rs) i no_place
place_in [] i h = absurd (not-suc-le-zero h)
place_in (r ∷ rs) zero h = refl
place_in (r ∷ rs) (suc i) h = place_in rs i (le_of_suc-le-suc h)

-- record i of the words is record i of those that were written
record_is : (rs : List Written) (old t : List ℕ) (i : ℕ) → t ≡ over (record_table rs) old → Roomy rs → BytePaths rs → i < length rs → place_from (record_in t i) ≡ get_or (map place_of rs) i no_place
unfolding over
record_is rs old t i e roomy bytes h =
    let p = path_of_lem rs i roomy bytes h in
    record_here t _ i (get_or rs i no_written) (ap (drop (i * record_words)) e ∙ words_from rs (drop (length (record_table rs)) old) i roomy h) p.0 p.1 ∙ place_in rs i h

-- so the first j of the words are the first j of those
first_read : (rs : List Written) (old : List ℕ) (j : ℕ) → Roomy rs → BytePaths rs → j ≤ length rs → places_in j (over (record_table rs) old) ≡ take j (map place_of rs)
unfolding places_in
first_read rs old zero roomy bytes h = refl
first_read rs old (suc j) roomy bytes h =
    ap₂ (λ (ps : List Place) (p : Place). ps ++ (p ∷ [])) (first_read rs old j roomy bytes (omega arith)) (record_is rs old (over (record_table rs) old) j refl roomy bytes h)
    ∙ sym (take-suc (map place_of rs) j no_place (omega (arith, length-map rs place_of)))

-- Records that were written as words are read as the same records.
pub all_read : (rs : List Written) (old : List ℕ) → Roomy rs → BytePaths rs → places_in (length rs) (over (record_table rs) old) ≡ map place_of rs
all_read rs old roomy bytes = first_read rs old (length rs) roomy bytes (omega arith) ∙ take_all (length rs) (map place_of rs) (omega (arith, length-map rs place_of))
