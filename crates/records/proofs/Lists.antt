-- What a pick's calls make of a search's list, in the definition's words: places written from the list's start on, over what was there.
use mathlib.Core.Path.{◌≡◌, sym, ap, ap₂, ◌∙◌}
use mathlib.Core.List.{List, ◌++◌}
use Prim.Native.Nat.{ℕ, suc, ◌+◌, ◌-◌, ◌<◌, ◌≤◌}
use native.Mathlib.Omega.{arith}
use lib.ListN.{length, take, drop, length-append, length-drop}
use lib.Seq.{take_at, drop-append-add, drop-drop, length-take-le}
use Rattle.searches.specs.Places.{Place, over_places}
use Rattle.searches.specs.Search.{without}
use Rattle.records.specs.Moves.{Removed, Appended}

-- one open record less
pub length_without : (at n : ℕ) (ps : List Place) → at < n → n ≤ length ps → length (without at (take n ps)) ≡ n - 1
unfolding without
length_without at n ps h g =
    let l : length (take n ps) ≡ n = length-take-le n ps g in
    let a : length (take at (take n ps)) ≡ at = length-take-le at (take n ps) (omega arith) in
    length-append (take at (take n ps)) (drop (suc at) (take n ps)) ∙ omega (arith, a, l, length-drop (suc at) (take n ps))

-- after `remove` and `append_above`: the count is that of the open records, which are the list's first places
pub appended_over : (at n : ℕ) (ps before between after : List Place) (count : ℕ) → at < n → n ≤ length before → Removed at n before between → Appended (n - 1) ps between count after → (count ≡ length (without at (take n before) ++ ps)) × (after ≡ over_places (without at (take n before) ++ ps) before)
unfolding over_places
appended_over at n ps before between after count h g r a =
    let rest = without at (take n before) in
    let l : length rest ≡ n - 1 = length_without at n before h g in
    let all : length (rest ++ ps) ≡ n - 1 + length ps = length-append rest ps ∙ ap (λ (k : ℕ). k + length ps) l in
    let front : take (n - 1) between ≡ rest = ap (take (n - 1)) r ∙ take_at rest (drop (n - 1) before) (n - 1) l in
    let z : n - 1 + length ps ≡ length rest + length ps = ap (λ (k : ℕ). k + length ps) (sym l) in
    let back : drop (n - 1 + length ps) between ≡ drop (length (rest ++ ps)) before =
    ap (drop (n - 1 + length ps)) r ∙ ap (λ (k : ℕ). drop k (rest ++ drop (n - 1) before)) z ∙ drop-append-add rest (drop (n - 1) before) (length ps) ∙ drop-drop (length ps) (n - 1) before ∙ ap (λ (k : ℕ). drop k before) (sym all) in
    (a.0 ∙ sym all, a.1 ∙ ap₂ (λ (x y : List Place). x ++ ps ++ y) front back)
