-- A list of record structs and its places: the list's operations on the one are those on the other, and the places lose nothing of it.
use mathlib.Core.Path.{◌≡◌, refl, sym, ap, ◌∙◌}
use mathlib.Core.List.{List, [], ◌∷◌, ◌++◌, map}
use Prim.Native.Nat.{ℕ, zero, suc}
use lib.ListN.{length, get_or, set, take, drop, length-map}
use Rattle.searches.specs.Places.{Place}
use Rattle.records.specs.declared.Record.{Record}
use Rattle.records.specs.Structs.{place_from, places, no_record}

pub places_length : (rs : List Record) → length (places rs) ≡ length rs
unfolding places
places_length rs = length-map rs place_from

pub places_append : (rs ts : List Record) → places (rs ++ ts) ≡ places rs ++ places ts
unfolding places
places_append [] ts = refl
places_append (r ∷ rs) ts = ap (λ (l : List Place). place_from r ∷ l) (places_append rs ts)

pub places_take : (n : ℕ) (rs : List Record) → places (take n rs) ≡ take n (places rs)
unfolding places
places_take zero rs = refl
places_take (suc n) [] = refl
places_take (suc n) (r ∷ rs) = ap (λ (l : List Place). place_from r ∷ l) (places_take n rs)

pub places_drop : (n : ℕ) (rs : List Record) → places (drop n rs) ≡ drop n (places rs)
unfolding places
places_drop zero rs = refl
places_drop (suc n) [] = refl
places_drop (suc n) (r ∷ rs) = places_drop n rs

pub places_set : (rs : List Record) (i : ℕ) (r : Record) → places (set rs i r) ≡ set (places rs) i (place_from r)
unfolding places
places_set [] i r = refl
places_set (x ∷ rs) zero r = refl
places_set (x ∷ rs) (suc i) r = ap (λ (l : List Place). place_from x ∷ l) (places_set rs i r)

pub place_at : (rs : List Record) (i : ℕ) → place_from (get_or rs i no_record) ≡ get_or (places rs) i (place_from no_record)
unfolding places
place_at [] i = refl
place_at (r ∷ rs) zero = refl
place_at (r ∷ rs) (suc i) = place_at rs i

-- A place has every field of its struct, so equal places are those of equal lists.
abbrev struct_at : Place → Record
struct_at p = record { capacity = p.capacity; value = p.value; bound = p.bound; depth = p.depth; path = p.bytes }

structs_back : (rs : List Record) → map struct_at (places rs) ≡ rs
unfolding places place_from
structs_back [] = refl
structs_back (r ∷ rs) = ap (λ (l : List Record). r ∷ l) (structs_back rs)

pub places_same : (rs ts : List Record) → places rs ≡ places ts → rs ≡ ts
places_same rs ts e = sym (structs_back rs) ∙ ap (map struct_at) e ∙ structs_back ts
