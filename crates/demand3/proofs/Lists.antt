-- Lists of places: what stays when one is taken out, what is appended, and that what is written over a list's start is found there.
use mathlib.Core.Path.{◌≡◌, refl, sym, ap, subst}
use mathlib.Core.Bool.{Bool, true, false}
use mathlib.Core.List.Memᴰ
use mathlib.Core.List.{List, [], ◌∷◌, Memᴰ}
use mathlib.Core.Logic.{◌⊎◌, ⊎_elim, inl, inr}
use Prim.Native.Nat.{ℕ, suc, ◌≤◌, ◌<◌}
use native.Mathlib.Omega.{arith}
use lib.IntN.{ℤ}
use lib.ListN.{length, get_or, take, drop, length-append}
use lib.Seq.{split_at, take-append_seam}
use lib.Signed.{◌<ℤ◌, lt_z, clash_ℤ}
use Rattle.knapsack.proofs.Cases.{by_test}
use Rattle.searches.specs.Places.{Place, no_place, over_places}
use Rattle.searches.specs.Search.{without, above_best}
use Rattle.searches.specs.Pick.{appended}
use Rattle.demand3.proofs.Order.{at_most_if}

-- ---- one place taken out

-- a list is what stands before the place, the place, and what stands behind it
abbrev pub place_in : List Place → ℕ → Place
place_in ps k = get_or ps k no_place

pub picked_in : (ps : List Place) (k : ℕ) → k < length ps → Memᴰ (place_in ps k) ps
picked_in ps k h =
    subst (λ (l : List Place). Memᴰ (place_in ps k) l) (sym (split_at ps k no_place h)) (Memᴰ.append_right (take k ps) (Memᴰ.head refl))

-- the others stay
pub stays_or_picked : (ps : List Place) (k : ℕ) (p : Place) → k < length ps → Memᴰ p ps → Memᴰ p (without k ps) ⊎ (p ≡ place_in ps k)
unfolding without
stays_or_picked ps k p h i =
    ⊎_elim (λ a. inl (Memᴰ.append_left _ a))
    (λ a. ⊎_elim (λ e. inr e) (λ c. inl (Memᴰ.append_right (take k ps) c)) (Memᴰ.cases_cons a))
    (Memᴰ.append_cases (take k ps) (subst (λ (l : List Place). Memᴰ p l) (split_at ps k no_place h) i))

-- nothing else is in it
pub without_in : (ps : List Place) (k : ℕ) (p : Place) → k < length ps → Memᴰ p (without k ps) → Memᴰ p ps
unfolding without
without_in ps k p h i =
    subst (λ (l : List Place). Memᴰ p l) (sym (split_at ps k no_place h))
    (⊎_elim (λ a. Memᴰ.append_left _ a) (λ a. Memᴰ.append_right (take k ps) (Memᴰ.tail a)) (Memᴰ.append_cases (take k ps) i))

pub without_length : (ps : List Place) (k : ℕ) → k < length ps → suc (length (without k ps)) ≡ length ps
unfolding without
without_length ps k h =
    let e = ap (length {A = Place}) (split_at ps k no_place h) in
    omega (arith, length-append (take k ps) (drop (suc k) ps), length-append (take k ps) (place_in ps k ∷ drop (suc k) ps))

-- ---- what is appended

-- the places above best, once it is known whether the first is one
abbrev kept_if : Bool → ℤ → Place → List Place → List Place
kept_if t best q ps = elim t [ true ↦ q ∷ above_best best ps | false ↦ above_best best ps ]

pub above_in : (best : ℤ) (ps : List Place) (p : Place) → Memᴰ p (above_best best ps) → Memᴰ p ps
unfolding above_best
above_in best [] p i = i
above_in best (q ∷ ps) p i =
    by_test (λ t. Memᴰ p (kept_if t best q ps) → Memᴰ p (q ∷ ps)) (lt_z best q.bound)
    (λ _ k. ⊎_elim (λ e. Memᴰ.head e) (λ m. Memᴰ.tail (above_in best ps p m)) (Memᴰ.cases_cons k))
    (λ _ k. Memᴰ.tail (above_in best ps p k))
    i

pub above_has : (best : ℤ) (ps : List Place) (p : Place) → Memᴰ p ps → best <ℤ p.bound → Memᴰ p (above_best best ps)
unfolding above_best
above_has best [] p i h = i
above_has best (q ∷ ps) p i h =
    by_test (λ t. Memᴰ p (kept_if t best q ps)) (lt_z best q.bound)
    (λ _. ⊎_elim (λ e. Memᴰ.head e) (λ m. Memᴰ.tail (above_has best ps p m h)) (Memᴰ.cases_cons i))
    (λ no. ⊎_elim (λ e. clash_ℤ (subst (λ (r : Place). best <ℤ r.bound) e h) (at_most_if best q.bound no)) (λ m. above_has best ps p m h) (Memᴰ.cases_cons i))

pub above_length : (best : ℤ) (ps : List Place) → length (above_best best ps) ≤ length ps
unfolding above_best
above_length best [] = omega arith
above_length best (q ∷ ps) =
    by_test (λ t. length (kept_if t best q ps) ≤ suc (length ps)) (lt_z best q.bound) (λ _. omega (arith, above_length best ps)) (λ _. omega (arith, above_length best ps))

pub appended_in : (exact : Bool) (best : ℤ) (ps : List Place) (p : Place) → Memᴰ p (appended exact best ps) → Memᴰ p ps
unfolding appended
appended_in true best ps p i = absurd (Memᴰ.not-nil i)
appended_in false best ps p i = above_in best ps p i

pub appended_length : (exact : Bool) (best : ℤ) (ps : List Place) → length (appended exact best ps) ≤ length ps
unfolding appended
appended_length true best ps = omega arith
appended_length false best ps = above_length best ps

-- ---- written over a list's start

pub over_starts : (ps old : List Place) → take (length ps) (over_places ps old) ≡ ps
unfolding over_places
over_starts ps old = take-append_seam ps (drop (length ps) old)

pub over_long : (ps old : List Place) → length ps ≤ length (over_places ps old)
unfolding over_places
over_long ps old = omega (arith, length-append ps (drop (length ps) old))
