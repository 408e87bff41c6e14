-- The records of a flat list that are above the best value, one after the other: how many they are, and which list they make.
use mathlib.Core.Path.{◌≡◌, refl, sym, ap, ◌∙◌}
use mathlib.Core.Bool.{Bool, true, false}
use mathlib.Core.List.{List, [], ◌∷◌, ◌++◌, append-nil}
use Prim.Native.Nat.{ℕ, zero, suc, ◌+◌, ◌-◌, ◌<◌, ◌≤◌}
use native.Mathlib.Omega.{arith}
use lib.IntN.{ℤ}
use lib.ListN.{length, set, length-append, length-set}
use lib.Signed.{lt_z}
use Rattle.searches.specs.Places.{Place}
use Rattle.searches.specs.Search.{above_best}
use Rattle.records.specs.declared.Record.{Record}
use Rattle.records.specs.Structs.{place_from, places, record_in, places_in}
use Rattle.records.proofs.Places.{places_length, places_set}
use Rattle.records.proofs.Filled.{filled, filled_none, filled_more}

-- a place in front of others, or not
abbrev keep_if : Bool → Place → List Place → List Place
keep_if true p ps = p ∷ ps
keep_if false p ps = ps

keeps : (b : Bool) (p : Place) (ps : List Place) → elim b [ true ↦ p ∷ ps | false ↦ ps ] ≡ keep_if b p ps
keeps true p ps = refl
keeps false p ps = refl

above_cons : (best : ℤ) (p : Place) (ps : List Place) → above_best best (p ∷ ps) ≡ keep_if (lt_z best p.bound) p (above_best best ps)
unfolding above_best
above_cons best p ps = keeps (lt_z best p.bound) p (above_best best ps)

above_none : (best : ℤ) → above_best best [] ≡ []
unfolding above_best
above_none best = refl

-- one record alone
alone : (best : ℤ) (r : Record) (b : Bool) → lt_z best r.bound ≡ b → above_best best (place_from r ∷ []) ≡ keep_if b (place_from r) []
unfolding place_from
alone best r b e = above_cons best (place_from r) [] ∙ ap (λ (c : Bool). keep_if c (place_from r) (above_best best [])) e ∙ ap (keep_if b (place_from r)) (above_none best)

is_above : (best : ℤ) (r : Record) → lt_z best r.bound ≡ true → above_best best (place_from r ∷ []) ≡ place_from r ∷ []
is_above best r e = alone best r true e

not_above : (best : ℤ) (r : Record) → lt_z best r.bound ≡ false → above_best best (place_from r ∷ []) ≡ []
not_above best r e = alone best r false e

-- one record more
grows : (b : Bool) (p : Place) (ps qs : List Place) → keep_if b p (ps ++ qs) ≡ keep_if b p ps ++ qs
grows true p ps qs = refl
grows false p ps qs = refl

above_append : (best : ℤ) (ps qs : List Place) → above_best best (ps ++ qs) ≡ above_best best ps ++ above_best best qs
above_append best [] qs = ap (λ (l : List Place). l ++ above_best best qs) (sym (above_none best))
above_append best (p ∷ ps) qs =
    above_cons best p (ps ++ qs)
    ∙ ap (keep_if (lt_z best p.bound) p) (above_append best ps qs)
    ∙ grows (lt_z best p.bound) p (above_best best ps) (above_best best qs)
    ∙ ap (λ (l : List Place). l ++ above_best best qs) (sym (above_cons best p ps))

-- those above of the first j
abbrev pub above_of : ℤ → List ℕ → ℕ → List Place
above_of best t j = above_best best (places_in j t)

pub above_none_of : (best : ℤ) (t : List ℕ) → length (above_of best t 0) ≡ 0
unfolding places_in
above_none_of best t = ap length (above_none best)

above_more : (best : ℤ) (t : List ℕ) (j : ℕ) → above_of best t (j + 1) ≡ above_of best t j ++ above_best best (place_from (record_in t j) ∷ [])
unfolding places_in
above_more best t j =
    let z : j + 1 ≡ suc j = omega arith in
    rw z (above_append best (places_in j t) (place_from (record_in t j) ∷ []))

-- one that is above, and one that isn't
above_one : (best : ℤ) (t : List ℕ) (j : ℕ) → lt_z best (record_in t j).bound ≡ true → above_of best t (j + 1) ≡ above_of best t j ++ (place_from (record_in t j) ∷ [])
above_one best t j e = above_more best t j ∙ ap (λ (ps : List Place). above_of best t j ++ ps) (is_above best (record_in t j) e)

above_same : (best : ℤ) (t : List ℕ) (j : ℕ) → lt_z best (record_in t j).bound ≡ false → above_of best t (j + 1) ≡ above_of best t j
above_same best t j e = above_more best t j ∙ ap (λ (ps : List Place). above_of best t j ++ ps) (not_above best (record_in t j) e) ∙ append-nil (above_of best t j)

shrinks : (b : Bool) (p : Place) (ps : List Place) (n : ℕ) → length ps ≤ n → length (keep_if b p ps) ≤ suc n
shrinks true p ps n h = omega arith
shrinks false p ps n h = omega arith

above_short : (best : ℤ) (ps : List Place) → length (above_best best ps) ≤ length ps
above_short best [] = rw (above_none best) (omega arith)
above_short best (p ∷ ps) = rw (above_cons best p ps) (shrinks (lt_z best p.bound) p (above_best best ps) (length ps) (above_short best ps))

places_long : (n : ℕ) (t : List ℕ) → length (places_in n t) ≡ n
unfolding places_in
places_long zero t = refl
places_long (suc n) t = omega (arith, length-append (places_in n t) (place_from (record_in t n) ∷ []), places_long n t)

pub above_few : (best : ℤ) (t : List ℕ) (j : ℕ) → length (above_of best t j) ≤ j
above_few best t j = omega (arith, above_short best (places_in j t), places_long j t)

-- the count after one record more
pub count_one : (best : ℤ) (t : List ℕ) (j : ℕ) → lt_z best (record_in t j).bound ≡ true → length (above_of best t (j + 1)) ≡ length (above_of best t j) + 1
count_one best t j e = ap length (above_one best t j e) ∙ length-append (above_of best t j) (place_from (record_in t j) ∷ [])

pub count_same : (best : ℤ) (t : List ℕ) (j : ℕ) → lt_z best (record_in t j).bound ≡ false → length (above_of best t (j + 1)) ≡ length (above_of best t j)
count_same best t j e = ap length (above_same best t j e)

-- no more of the first j than of so many more
above_within : (best : ℤ) (t : List ℕ) (j m : ℕ) → length (above_of best t j) ≤ length (above_of best t (m + j))
above_within best t j zero = let z : 0 + j ≡ j = omega arith in omega (arith, ap (λ (k : ℕ). length (above_of best t k)) z)
above_within best t j (suc m) =
    let z : suc m + j ≡ (m + j) + 1 = omega arith in
    omega (arith, above_within best t j m, ap (λ (k : ℕ). length (above_of best t k)) z, ap length (above_more best t (m + j)), length-append (above_of best t (m + j)) (above_best best (place_from (record_in t (m + j)) ∷ [])))

-- ---- the list after j turns of `append_above`: the count k so far, and zs in place of ys
pub record After (best : ℤ) (at : ℕ) (t : List ℕ) (ys : List Record) (j k : ℕ) (zs : List Record) : Type 0 where
  pub count : k ≡ at + length (above_of best t j)
  pub same : length zs ≡ length ys
  pub holds : places zs ≡ filled at (above_of best t j) (places ys)

pub at_first : (best : ℤ) (at : ℕ) (t : List ℕ) (ys : List Record) → After best at t ys 0 at ys
unfolding places_in
at_first best at t ys =
    record {
      count = omega (arith, above_none_of best t);
      same = refl;
      holds = sym (ap (λ (ps : List Place). filled at ps (places ys)) (above_none best) ∙ filled_none at (places ys));
    }

-- a record that is above has room, and is stored
pub has_room : (best : ℤ) (at : ℕ) (t : List ℕ) (ys : List Record) (j k n : ℕ) → k ≡ at + length (above_of best t j) → j < n → at + length (above_of best t n) ≤ length ys → lt_z best (record_in t j).bound ≡ true → k < length ys
has_room best at t ys j k n c l room e =
    let z : (n - (j + 1)) + (j + 1) ≡ n = omega arith in
    omega (arith, count_one best t j e, above_within best t (j + 1) (n - (j + 1)), ap (λ (m : ℕ). length (above_of best t m)) z)

pub stored : (best : ℤ) (at : ℕ) (t : List ℕ) (ys : List Record) (j k : ℕ) (zs : List Record) → After best at t ys j k zs → k < length ys → lt_z best (record_in t j).bound ≡ true → After best at t ys (j + 1) (k + 1) (set zs k (record_in t j))
stored best at t ys j k zs a l e =
    let r = record_in t j in
    let p : at + length (above_of best t j) < length (places ys) = omega (arith, a.count, places_length ys) in
    record {
      count = omega (arith, a.count, count_one best t j e);
      same = length-set zs k r ∙ a.same;
      holds = places_set zs k r ∙ ap (λ (ps : List Place). set ps k (place_from r)) a.holds ∙ ap (λ (i : ℕ). set (filled at (above_of best t j) (places ys)) i (place_from r)) a.count ∙ filled_more at (above_of best t j) (places ys) (place_from r) (place_from r) p ∙ ap (λ (ps : List Place). filled at ps (places ys)) (sym (above_one best t j e));
    }

-- one that isn't is passed over
pub passed : (best : ℤ) (at : ℕ) (t : List ℕ) (ys : List Record) (j k : ℕ) (zs : List Record) → After best at t ys j k zs → lt_z best (record_in t j).bound ≡ false → After best at t ys (j + 1) k zs
passed best at t ys j k zs a e =
    let same = sym (above_same best t j e) in
    record {
      count = a.count ∙ ap (λ (ps : List Place). at + length ps) same;
      same = a.same;
      holds = a.holds ∙ ap (λ (ps : List Place). filled at ps (places ys)) same;
    }

-- ---- one turn of the loop, in the words of its goals; the best value is read as bits, whose number b is

-- the place for a record that is above is in the list
pub free : (best b : ℤ) (at : ℕ) (t : List ℕ) (ys zs : List Record) (j k n : ℕ) → b ≡ best → After b at t ys j k zs → j < n → at + length (above_of best t n) ≤ length ys → lt_z b (record_in t j).bound ≡ true → k < length zs
free best b at t ys zs j k n e a lt room above =
    let r : at + length (above_of b t n) ≤ length ys = rw e room in
    omega (arith, has_room b at t ys j k n a.count lt r above, a.same)

pub put : (b : ℤ) (at : ℕ) (t : List ℕ) (ys zs zs' : List Record) (j k k' : ℕ) (r : Record) → After b at t ys j k zs → k < length zs → lt_z b (record_in t j).bound ≡ true → r ≡ record_in t j → k' ≡ k + 1 → zs' ≡ set zs k r → After b at t ys (j + 1) k' zs'
put b at t ys zs zs' j k k' r a lt above read e f = rw (e, f, read) (stored b at t ys j k zs a (omega (arith, a.same)) above)

pub left : (b : ℤ) (at : ℕ) (t : List ℕ) (ys zs zs' : List Record) (j k k' : ℕ) → After b at t ys j k zs → lt_z b (record_in t j).bound ≡ false → k' ≡ k → zs' ≡ zs → After b at t ys (j + 1) k' zs'
left b at t ys zs zs' j k k' a not_above e f = rw (e, f) (passed b at t ys j k zs a not_above)

-- the goals of `count_above` and of `append_above`
pub ruleset counting = (above_none_of, above_few, count_one, count_same)

pub ruleset storing = (at_first, free, put, left)
