-- What stands in the words of a flat list: a path's bytes, read one by one, and a record.
use mathlib.Core.Path.{◌≡◌, sym, ap, ◌∙◌}
use mathlib.Core.List.{List, map}
use Prim.Native.Nat.{ℕ, ◌+◌, ◌*◌, ◌%◌, ◌<◌, ◌≤◌}
use native.Mathlib.Omega.{arith}
use lib.IntN.{ℤ}
use lib.ListN.{length, get_or, take, drop, length-map, length-drop, get_or-map}
use lib.Seq.{ext_get_or, get_or-take, get_or-drop, length-take-le}
use Rattle.words.specs.I64.{number}
use Rattle.layout.specs.Records.{record_words}
use Rattle.records.specs.Structs.{bytes_in, record_in}

-- the bytes of the 64 words from a place on, when all are read
pub bytes_read : (t : List ℕ) (from : ℕ) (p : List ℕ) → from + 64 ≤ length t → length p ≡ 64 → ((j : ℕ) → j < 64 → get_or p j 0 ≡ get_or t (from + j) 0 % 256) → p ≡ bytes_in t from
unfolding bytes_in
bytes_read t from p room l each =
    let byte : ℕ → ℕ = λ (w : ℕ). w % 256 in
    let long : 64 ≤ length (drop from t) = omega (arith, length-drop from t) in
    let n : length (map byte (take 64 (drop from t))) ≡ 64 = length-map (take 64 (drop from t)) byte ∙ length-take-le 64 (drop from t) long in
    ext_get_or 0 p (map byte (take 64 (drop from t))) (l ∙ sym n) (λ j h.
    let k : j < 64 = omega arith in
    each j k ∙ sym (get_or-map byte (take 64 (drop from t)) j 0 ∙ ap byte (get_or-take 64 (drop from t) j 0 k ∙ get_or-drop from t j 0)))

-- a record read field by field
pub record_read : (t : List ℕ) (i : ℕ) (value bound : ℤ) (path : List ℕ) → value ≡ number (get_or t (i * record_words + 1) 0) → bound ≡ number (get_or t (i * record_words + 2) 0) → path ≡ bytes_in t (i * record_words + 4) → record { capacity = get_or t (i * record_words) 0; value = value; bound = bound; depth = get_or t (i * record_words + 3) 0; path = path } ≡ record_in t i
unfolding record_in
record_read t i value bound path v b p = rw (v, b, p)
