-- Moving the elements after `at`, of the first n, down by one, in places.
use mathlib.Core.Path.{◌≡◌, refl, ap, ◌∙◌}
use mathlib.Core.List.{List, ◌++◌}
use Prim.Native.Nat.{ℕ, suc, ◌+◌, ◌-◌, ◌<◌, ◌≤◌}
use native.Mathlib.Omega.{arith}
use lib.ListN.{length, take, drop}
use lib.Seq.{take-take}
use Rattle.std.proofs.lemmas.List.{drop-take}
use Rattle.std.specs.List.{copy_within}
use Rattle.searches.specs.Search.{without}
use Rattle.records.specs.declared.Record.{Record}
use Rattle.records.specs.Structs.{places}
use Rattle.records.specs.Moves.{Removed}
use Rattle.records.proofs.Places.{places_append, places_take, places_drop}

-- what the move makes of the list
pub removed : (ys : List Record) (at n : ℕ) → at < n → n ≤ length ys → Removed at n (places ys) (places (copy_within ys (at + 1) n at))
unfolding without
removed ys at n h g =
    let P = places ys in
    let z : at + 1 ≡ suc at = omega arith in
    let last : at + (n - suc at) ≡ n - 1 = omega arith in
    let split : n ≡ suc at + (n - suc at) = omega arith in
    let d : drop (suc at) (take n P) ≡ take (n - suc at) (drop (suc at) P) = ap (λ (i : ℕ). drop (suc at) (take i P)) split ∙ drop-take (suc at) (n - suc at) P in
    let t : take at (take n P) ≡ take at P = take-take at n P (omega arith) in
    let m = drop (suc at) ys in
    let k = n - suc at in
    rw (z, last, places_append (take at ys ++ take k m) (drop (n - 1) ys), places_append (take at ys) (take k m), places_take at ys, places_take k m, places_drop (suc at) ys, places_drop (n - 1) ys, d, t) refl
