-- What an accepted compile drains is read back from the list's words: a drained path names each item below its length once, so its numbers are bytes, and it has room.
use mathlib.Core.Path.{◌≡◌, refl, sym, ap, ◌∙◌}
use mathlib.Core.Bool.{Bool, cond}
use mathlib.Core.List.{List, [], ◌∷◌, Memᴰ, map}
use mathlib.Core.Option.{none}
use Prim.Native.Nat.{ℕ, zero, suc, ◌+◌, ◌*◌, ◌<◌, ◌≤◌}
use native.Mathlib.Omega.{arith}
use lib.Dec.{ltb, eqb}
use lib.ListN.{length, drop, length-append}
use borrow.Author.Tests.{ltb-true, ltb-false, eqb-true, eqb-false}
use Rattle.knapsack.specs.Items.{item_of}
use Rattle.knapsack.proofs.Cases.{by_test}
use Rattle.diagram.specs.Record.{Record as Written, path_room}
use Rattle.diagram.specs.After6.{Outcome, drained, finished}
use Rattle.layout.specs.Table.{over}
use Rattle.layout.specs.Records.{record_words, record_table, Roomy}
use Rattle.theorems.proofs.Path.{times_named, names_it}
use Rattle.calls.specs.Refusals.{compile_refusal}
use Rattle.calls.specs.Compile.{Request, Lent, Rooms, rooms_of, Compiled, compiled, compiled_of, run_of, Effect, effect, compile_effect, after}
use Rattle.call_laws.proofs.Accepted.{accepted}
use Rattle.call_laws.proofs.Sizes.{drained_valid, drained_short, records_long}
use Rattle.call_laws.proofs.View.{View, early, halted, overfull, done, view}
use Rattle.searches.specs.Places.{place_of}
use Rattle.searches.specs.Pick.{drained_places}
use Rattle.records.specs.Structs.{places_in}
use Rattle.records.proofs.Written.{Bytes, BytePaths, all_read}

-- ---- a path that names each item below d once, d numbers long

-- how many of its numbers name an item below d
unfoldable below : ℕ → List ℕ → ℕ
below d [] = 0
below d (b ∷ p) = cond (ltb (item_of b) d) 1 0 + below d p

one_below : (d b : ℕ) → cond (ltb (item_of b) (suc d)) 1 0 ≡ cond (ltb (item_of b) d) 1 0 + names_it d b
unfolding names_it
one_below d b =
    by_test (λ (x : Bool). cond x 1 0 ≡ cond (ltb (item_of b) d) 1 0 + cond (eqb (item_of b) d) 1 0) (ltb (item_of b) (suc d))
    (λ h. by_test (λ (y : Bool). 1 ≡ cond y 1 0 + cond (eqb (item_of b) d) 1 0) (ltb (item_of b) d)
    (λ k. by_test (λ (z : Bool). 1 ≡ 1 + cond z 1 0) (eqb (item_of b) d) (λ e. absurd (omega (arith, ltb-true (item_of b) d k, eqb-true (item_of b) d e))) (λ e. refl))
    (λ k. by_test (λ (z : Bool). 1 ≡ 0 + cond z 1 0) (eqb (item_of b) d) (λ e. refl) (λ e. absurd (eqb-false (item_of b) d e (omega (arith, ltb-true (item_of b) (suc d) h, ltb-false (item_of b) d k))))))
    (λ h. by_test (λ (y : Bool). 0 ≡ cond y 1 0 + cond (eqb (item_of b) d) 1 0) (ltb (item_of b) d)
    (λ k. absurd (omega (arith, ltb-true (item_of b) d k, ltb-false (item_of b) (suc d) h)))
    (λ k. by_test (λ (z : Bool). 0 ≡ 0 + cond z 1 0) (eqb (item_of b) d) (λ e. absurd (omega (arith, eqb-true (item_of b) d e, ltb-false (item_of b) (suc d) h))) (λ e. refl)))

more_below : (d : ℕ) (p : List ℕ) → below (suc d) p ≡ below d p + times_named d p
unfolding below times_named
more_below d [] = refl
more_below d (b ∷ p) = omega (arith, one_below d b, more_below d p)

none_below : (p : List ℕ) → below 0 p ≡ 0
unfolding below
none_below [] = refl
none_below (b ∷ p) =
    by_test (λ (x : Bool). cond x 1 0 + below 0 p ≡ 0) (ltb (item_of b) 0) (λ h. absurd (omega (arith, ltb-true (item_of b) 0 h))) (λ h. omega (arith, none_below p))

all_named : (d : ℕ) (p : List ℕ) → ((k : ℕ) → k < d → times_named k p ≡ 1) → below d p ≡ d
all_named zero p h = none_below p
all_named (suc d) p h = omega (arith, more_below d p, all_named d p (λ k l. h k (omega arith)), h d (omega arith))

at_most : (d : ℕ) (p : List ℕ) → below d p ≤ length p
unfolding below
at_most d [] = omega arith
at_most d (b ∷ p) =
    by_test (λ (x : Bool). cond x 1 0 + below d p ≤ suc (length p)) (ltb (item_of b) d) (λ h. omega (arith, at_most d p)) (λ h. omega (arith, at_most d p))

byte_of : (d b : ℕ) → d ≤ 64 → item_of b < d → b < 256
unfolding item_of
byte_of d b h g = omega arith

path_bytes : (d : ℕ) (p : List ℕ) → d ≤ 64 → below d p ≡ length p → Bytes p
unfolding below
path_bytes d [] h e = tt
path_bytes d (b ∷ p) h e =
    by_test (λ (x : Bool). cond x 1 0 + below d p ≡ suc (length p) → Bytes (b ∷ p)) (ltb (item_of b) d)
    (λ k g. (byte_of d b h (ltb-true (item_of b) d k), path_bytes d p h (omega (arith, g)))) (λ k g. absurd (omega (arith, g, at_most d p))) e

-- ---- the drained records

all_roomy : (rs : List Written) → ((r : Written) → Memᴰ r rs → length r.path ≤ path_room) → Roomy rs
all_roomy [] h = tt
all_roomy (r ∷ rs) h = (h r (Memᴰ.head refl), all_roomy rs (λ x i. h x (Memᴰ.tail i)))

all_bytes : (rs : List Written) → ((r : Written) → Memᴰ r rs → Bytes r.path) → BytePaths rs
all_bytes [] h = tt
all_bytes (r ∷ rs) h = (h r (Memᴰ.head refl), all_bytes rs (λ x i. h x (Memᴰ.tail i)))

drained_read : (q : Request) (m : Rooms) (o : Outcome) → compile_refusal q.problem q.given ≡ none → run_of q m ≡ finished o → (old : List ℕ) → places_in (length (drained q.given.path o)) (over (record_table (drained q.given.path o)) old) ≡ map place_of (drained q.given.path o)
drained_read q m o c e old =
    let rs = drained q.given.path o in
    let few = (accepted q.problem q.given c).few in
    all_read rs old (all_roomy rs (drained_short q m o c e)) (all_bytes rs (λ r i.
    let v = drained_valid q m o c e r i in
    path_bytes r.depth r.path (omega (arith, v.deep, few)) (all_named r.depth r.path v.once ∙ sym v.long)))

-- so many records as an accepted compile answers stand at the list's start, and are those that it drains
pub record ReadBack (q : Request) (l : Lent) (e : Effect) (c : Compiled) : Type 0 where
  pub places_are : places_in c.drained_count (after e l).lent.records ≡ drained_places e
  pub within : c.drained_count * record_words ≤ length (after e l).lent.records

by_view : (q : Request) (l : Lent) (c : Compiled) (e : Effect) → View q (rooms_of l) e → e.answer ≡ compiled c → ReadBack q l e c
unfolding effect after compiled_of drained_places over
by_view q l c e (early n a) x = let z : ◌≡◌ {A = ℕ} 0 1 = cc in absurd (omega arith)
by_view q l c e (halted n d a b) x = let z : ◌≡◌ {A = ℕ} 0 1 = cc in absurd (omega arith)
by_view q l c e (overfull o a b h) x = let z : ◌≡◌ {A = ℕ} 0 1 = cc in absurd (omega arith)
by_view q l c e (done o a b h) x =
    let rs = drained q.given.path o in
    let z : compiled_of q.given.path o ≡ c = cc in
    let count : c.drained_count ≡ length rs = sym (ap (λ (y : Compiled). y.drained_count) z) in
    let rest = drop (length (record_table rs)) l.records in
    record {
      places_are = ap (λ (n : ℕ). places_in n (over (record_table rs) l.records)) count ∙ drained_read q (rooms_of l) o a b l.records;
      within = omega (arith, count, records_long rs (drained_short q (rooms_of l) o a b), length-append (record_table rs) rest);
    }

pub read_back : (q : Request) (l : Lent) (c : Compiled) → (compile_effect q (rooms_of l)).answer ≡ compiled c → ReadBack q l (compile_effect q (rooms_of l)) c
read_back q l c e = by_view q l c (compile_effect q (rooms_of l)) (view q (rooms_of l)) e
