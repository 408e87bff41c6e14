-- The place of the largest bound, one record after the other.
--     largest_one      of the first record, if there is one
--     largest_more     of one record more: the larger of the two bounds
--     largest_few      it is no further than the records
use mathlib.Core.Path.{◌≡◌, refl, sym, ap, ◌∙◌}
use mathlib.Core.Bool.{Bool, true, false}
use mathlib.Core.List.{List, [], ◌∷◌, ◌++◌}
use Prim.Native.Nat.{ℕ, suc, ◌+◌, ◌<◌, ◌≤◌}
use native.Mathlib.Omega.{arith}
use lib.IntN.{ℤ}
use lib.ListN.{length, get_or, take, length-take}
use lib.Seq.{take-suc, take_all, get_or-take, length-take-le}
use lib.Signed.{lt_z}
use Rattle.std.proofs.lemmas.List.{get_or_default}
use Rattle.searches.specs.Places.{Place}
use Rattle.records.specs.declared.Record.{Record}
use Rattle.records.specs.Structs.{place_from, places, no_record}
use Rattle.records.proofs.Places.{places_length, place_at}
use Rattle.jobs.specs.Run.{largest_from, largest}
use Rattle.job_run.specs.Runs.{chosen, larger}

-- the largest bound, as the place is found
unfoldable bound_from : ℤ → List Place → ℤ
bound_from bound [] = bound
bound_from bound (p ∷ ps) = elim (lt_z bound p.bound) [ true ↦ bound_from p.bound ps | false ↦ bound_from bound ps ]

abbrev either : Bool → ℕ → ℕ → ℕ
either b x y = elim b [ true ↦ x | false ↦ y ]

from_nil : (at best : ℕ) (bound : ℤ) → largest_from at best bound [] ≡ best
unfolding largest_from
from_nil at best bound = refl

from_above : (at best : ℕ) (bound : ℤ) (p : Place) (ps : List Place) → lt_z bound p.bound ≡ true → largest_from at best bound (p ∷ ps) ≡ largest_from (suc at) at p.bound ps
unfolding largest_from
from_above at best bound p ps e = ap (λ (b : Bool). either b (largest_from (suc at) at p.bound ps) (largest_from (suc at) best bound ps)) e

from_else : (at best : ℕ) (bound : ℤ) (p : Place) (ps : List Place) → lt_z bound p.bound ≡ false → largest_from at best bound (p ∷ ps) ≡ largest_from (suc at) best bound ps
unfolding largest_from
from_else at best bound p ps e = ap (λ (b : Bool). either b (largest_from (suc at) at p.bound ps) (largest_from (suc at) best bound ps)) e

bound_nil : (bound : ℤ) → bound_from bound [] ≡ bound
unfolding bound_from
bound_nil bound = refl

bound_above : (bound : ℤ) (p : Place) (ps : List Place) → lt_z bound p.bound ≡ true → bound_from bound (p ∷ ps) ≡ bound_from p.bound ps
unfolding bound_from
bound_above bound p ps e = ap (λ (b : Bool). elim b as (λ _. ℤ) [ true ↦ bound_from p.bound ps | false ↦ bound_from bound ps ]) e

bound_else : (bound : ℤ) (p : Place) (ps : List Place) → lt_z bound p.bound ≡ false → bound_from bound (p ∷ ps) ≡ bound_from bound ps
unfolding bound_from
bound_else bound p ps e = ap (λ (b : Bool). elim b as (λ _. ℤ) [ true ↦ bound_from p.bound ps | false ↦ bound_from bound ps ]) e

-- ---- one more at the end

from_more : (at best : ℕ) (bound : ℤ) (ps : List Place) (q : Place) → largest_from at best bound (ps ++ (q ∷ [])) ≡ chosen (lt_z (bound_from bound ps) q.bound) (at + length ps) (largest_from at best bound ps)
from_more at best bound [] q = go (lt_z bound q.bound) refl
  where
    z : at ≡ at + 0
    z = omega arith

    go : (b : Bool) → lt_z bound q.bound ≡ b → largest_from at best bound (q ∷ []) ≡ chosen (lt_z (bound_from bound []) q.bound) (at + 0) (largest_from at best bound [])
    go true e = rw (bound_nil bound, e) (from_above at best bound q [] e ∙ from_nil (suc at) at q.bound ∙ z)
    go false e = rw (bound_nil bound, e) (from_else at best bound q [] e ∙ from_nil (suc at) best bound ∙ sym (from_nil at best bound))
from_more at best bound (p ∷ ps) q = go (lt_z bound p.bound) refl (from_more (suc at) at p.bound ps q) (from_more (suc at) best bound ps q)
  where
    z : suc at + length ps ≡ at + suc (length ps)
    z = omega arith

    go : (b : Bool) → lt_z bound p.bound ≡ b → largest_from (suc at) at p.bound (ps ++ (q ∷ [])) ≡ chosen (lt_z (bound_from p.bound ps) q.bound) ((suc at) + length ps) (largest_from (suc at) at p.bound ps) → largest_from (suc at) best bound (ps ++ (q ∷ [])) ≡ chosen (lt_z (bound_from bound ps) q.bound) ((suc at) + length ps) (largest_from (suc at) best bound ps)
        → largest_from at best bound (p ∷ (ps ++ (q ∷ []))) ≡ chosen (lt_z (bound_from bound (p ∷ ps)) q.bound) (at + suc (length ps)) (largest_from at best bound (p ∷ ps))
    go true e above else = rw (bound_above bound p ps e, from_above at best bound p (ps ++ (q ∷ [])) e, from_above at best bound p ps e, ← z) above
    go false e above else = rw (bound_else bound p ps e, from_else at best bound p (ps ++ (q ∷ [])) e, from_else at best bound p ps e, ← z) else

-- ---- the bound found is that of the place found

module _ (whole : List Place) (none : Place) where
  abbrev bound_at : ℕ → ℤ
  bound_at i = (get_or whole i none).bound

  -- the list is what the whole has from place `at` on
  abbrev LiesAt : ℕ → List Place → Type 0
  LiesAt at ps = (i : ℕ) → i < length ps → get_or whole (at + i) none ≡ get_or ps i none

  first_lies : (at : ℕ) (p : Place) (ps : List Place) → LiesAt at (p ∷ ps) → bound_at at ≡ p.bound
  first_lies at p ps h =
      let z : at ≡ at + 0 = omega arith in
      ap bound_at z ∙ ap (λ (q : Place). q.bound) (h 0 (omega arith))

  rest_lies : (at : ℕ) (p : Place) (ps : List Place) → LiesAt at (p ∷ ps) → LiesAt (suc at) ps
  rest_lies at p ps h i l =
      let z : suc at + i ≡ at + suc i = omega arith in
      ap (λ (k : ℕ). get_or whole k none) z ∙ h (suc i) (omega arith)

  bound_there : (at best : ℕ) (bound : ℤ) (ps : List Place) → bound_at best ≡ bound → LiesAt at ps → bound_at (largest_from at best bound ps) ≡ bound_from bound ps
  bound_there at best bound [] e h = ap bound_at (from_nil at best bound) ∙ e ∙ sym (bound_nil bound)
  bound_there at best bound (p ∷ ps) e h =
      go (lt_z bound p.bound) refl (bound_there (suc at) at p.bound ps (first_lies at p ps h) (rest_lies at p ps h)) (bound_there (suc at) best bound ps e (rest_lies at p ps h))
    where
      go : (b : Bool) → lt_z bound p.bound ≡ b → bound_at (largest_from (suc at) at p.bound ps) ≡ bound_from p.bound ps → bound_at (largest_from (suc at) best bound ps) ≡ bound_from bound ps
          → bound_at (largest_from at best bound (p ∷ ps)) ≡ bound_from bound (p ∷ ps)
      go true t above else = ap bound_at (from_above at best bound p ps t) ∙ above ∙ sym (bound_above bound p ps t)
      go false t above else = ap bound_at (from_else at best bound p ps t) ∙ else ∙ sym (bound_else bound p ps t)

  either_zero : (b : Bool) → 0 ≡ chosen b 0 0
  either_zero true = refl
  either_zero false = refl

  one_more : (ps : List Place) (q : Place) → LiesAt 0 ps → largest (ps ++ (q ∷ [])) ≡ chosen (lt_z (bound_at (largest ps)) q.bound) (length ps) (largest ps)
  unfolding largest
  one_more [] q h = from_nil 1 0 q.bound ∙ either_zero (lt_z (bound_at 0) q.bound)
  one_more (p ∷ ps) q h =
      let z : 1 + length ps ≡ suc (length ps) = omega arith in
      let e : bound_at (largest_from 1 0 p.bound ps) ≡ bound_from p.bound ps = bound_there 1 0 p.bound ps (first_lies 0 p ps h) (rest_lies 0 p ps h) in
      rw (e, ← z) (from_more 1 0 p.bound ps q)

-- ---- among the first records of a list

pub largest_one : (rs : List Record) → 0 ≡ largest (take 1 (places rs))
unfolding largest largest_from places
largest_one [] = refl
largest_one (r ∷ rs) = refl

first_ones_lem : (none : Place) (ps : List Place) (j : ℕ) → LiesAt ps none 0 (take j ps)
first_ones_lem none ps j i h =
    let z : 0 + i ≡ i = omega arith in
    ap (λ (k : ℕ). get_or ps k none) z ∙ sym (get_or-take j ps i none (omega (arith, length-take j ps)))

bound_of : (rs : List Record) (i : ℕ) → (get_or (places rs) i (place_from no_record)).bound ≡ (get_or rs i no_record).bound
unfolding place_from
bound_of rs i = sym (ap (λ (p : Place). p.bound) (place_at rs i))

pub largest_more : (rs : List Record) (j : ℕ) → j < length rs → larger (largest (take j (places rs))) j (get_or rs (largest (take j (places rs))) no_record) (get_or rs j no_record) ≡ largest (take (j + 1) (places rs))
largest_more rs j h =
    let ps = places rs in
    let d = place_from no_record in
    let l : j < length ps = omega (arith, places_length rs) in
    let z : j + 1 ≡ suc j = omega arith in
    let n : length (take j ps) ≡ j = length-take-le j ps (omega arith) in
    let one : largest (take (j + 1) ps) ≡ chosen (lt_z (get_or ps (largest (take j ps)) d).bound (get_or ps j d).bound) (length (take j ps)) (largest (take j ps)) =
    ap (λ (k : ℕ). largest (take k ps)) z ∙ ap largest (take-suc ps j d l) ∙ one_more ps d (take j ps) (get_or ps j d) (first_ones_lem d ps j) in
    sym (one ∙ rw (n, bound_of rs (largest (take j ps)), bound_of rs j) refl)

from_few : (at best : ℕ) (bound : ℤ) (ps : List Place) → best ≤ at → largest_from at best bound ps ≤ at + length ps
from_few at best bound [] h = omega (arith, from_nil at best bound)
from_few at best bound (p ∷ ps) h = go (lt_z bound p.bound) refl (from_few (suc at) at p.bound ps (omega arith)) (from_few (suc at) best bound ps (omega arith))
  where
    go : (b : Bool) → lt_z bound p.bound ≡ b → largest_from (suc at) at p.bound ps ≤ suc at + length ps → largest_from (suc at) best bound ps ≤ suc at + length ps → largest_from at best bound (p ∷ ps) ≤ at + suc (length ps)
    go true e above else = omega (arith, from_above at best bound p ps e, above)
    go false e above else = omega (arith, from_else at best bound p ps e, else)

few : (ps : List Place) → largest ps ≤ length ps
unfolding largest
few [] = omega arith
few (p ∷ ps) = omega (arith, from_few 1 0 p.bound ps (omega arith))

pub largest_few : (rs : List Record) (j : ℕ) → largest (take j (places rs)) ≤ j
largest_few rs j = omega (arith, few (take j (places rs)), length-take j (places rs))

-- the same where the place so far is known, with any records past the end
pub largest_next : (rs : List Record) (j best : ℕ) (d e : Record) → j < length rs → best ≡ largest (take j (places rs)) → larger best j (get_or rs best d) (get_or rs j e) ≡ largest (take (j + 1) (places rs))
largest_next rs j best d e h b =
    let m = largest (take j (places rs)) in
    let l : m < length rs = omega (arith, largest_few rs j, h) in
    rw (b, get_or_default rs m d no_record l, get_or_default rs j e no_record h) (largest_more rs j h)

-- and of all records
pub largest_whole : (rs : List Record) (j best : ℕ) → length rs ≤ j → best ≡ largest (take j (places rs)) → best ≡ largest (places rs)
largest_whole rs j best all b = b ∙ ap largest (take_all j (places rs) (omega (arith, places_length rs)))

-- ---- the larger of two, by the test t
module _ (best at : ℕ) (first other : Record) (t : Bool) (is : t ≡ lt_z first.bound other.bound) where
  pub is_larger : t ≡ true → at ≡ larger best at first other
  is_larger e = ap (λ (b : Bool). chosen b at best) (sym e ∙ is)

  pub not_larger : t ≡ false → best ≡ larger best at first other
  not_larger e = ap (λ (b : Bool). chosen b at best) (sym e ∙ is)
