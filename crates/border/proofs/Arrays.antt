-- What crosses as numbers: a flag is 1 or 0; an array that has a number of each stored layer, at the layer's index, is those numbers in order.
use Rattle.std.proofs.Common.{◌≡◌, ℕ, ◌+◌, ◌<◌, ◌≤◌, List, [], ◌∷◌, ◌++◌, length, get_or, set, take, map, refl, sym, ap, ◌∙◌, Bool, true, false, arith, length-set}
use Rattle.std.proofs.Math.Seq.{take-suc, take-suc-set}
use native.Mathlib.Numerals.{add-one}
use Rattle.std.specs.Int.{from_bool}
use Rattle.border.specs.Border.{flag_of}
use Rattle.std.proofs.lemmas.List.{get_or-map, length-map, take_all}
use Rattle.layers.specs.declared.Layer.{Layer}

pub flag_byte : (b : Bool) → from_bool b ≡ flag_of b
flag_byte true = refl
flag_byte false = refl

-- an array whose first i places are those layers' numbers
pub record Column (f : Layer → ℕ) (ls : List Layer) (i : ℕ) (ns : List ℕ) : Type 0 where
  pub written : take i ns ≡ take i (map f ls)
  pub same : length ns ≡ 65

pub column_begun : (f : Layer → ℕ) (ls : List Layer) (ns : List ℕ) → length ns ≡ 65 → Column f ls 0 ns
column_begun f ls ns e = record { written = refl; same = e }

pub column_turn : (f : Layer → ℕ) (ls : List Layer) (i : ℕ) (ns : List ℕ) (d : Layer) → length ls ≡ 65 → i < 65 → Column f ls i ns → Column f ls (i + 1) (set ns i (f (get_or ls i d)))
column_turn f ls i ns d a h c =
    let k : i < length ns = omega (arith, c.same) in
    let m : i < length (map f ls) = omega (arith, a, length-map ls f) in
    record {
      written =
          rw (add-one, take-suc-set ns i (f (get_or ls i d)) k, c.written)
          (ap (λ (x : ℕ). take i (map f ls) ++ (x ∷ [])) (sym (get_or-map f ls i d (f d) (omega arith))) ∙ sym (take-suc (map f ls) i (f d) m));
      same = length-set ns i (f (get_or ls i d)) ∙ c.same;
    }

pub column_end : (f : Layer → ℕ) (ls : List Layer) (i : ℕ) (ns : List ℕ) → length ls ≡ 65 → 65 ≤ i → Column f ls i ns → ns ≡ map f ls
column_end f ls i ns a h c =
    sym (take_all i ns (omega (arith, c.same))) ∙ c.written ∙ take_all i (map f ls) (omega (arith, a, length-map ls f))

pub ruleset columns = (column_begun, column_turn, column_end)
