-- A reader of the code keeps what the machine reads, byte by byte.
use mathlib.Core.Path.{◌≡◌, refl, sym, ap, subst, ◌∙◌}
use mathlib.Core.Bool.{Bool, true, false, cond}
use mathlib.Core.List.{List, [], ◌∷◌, ◌++◌}
use Prim.Native.Nat.{ℕ, zero, suc, ◌+◌, ◌<◌, ◌≤◌}
use native.Mathlib.Omega.{arith}
use native.Mathlib.Decide.{dec_le}
use lib.ListN.{length, set, length-append}
use borrow.Author.Tests.{lt-ltb, le-ltb}
use Rattle.knapsack.specs.Items.{Item}
use Rattle.jobs.specs.Text.{most_bytes}
use Rattle.job_text.specs.declared.Place.{Place}
use Rattle.job_text.specs.declared.Head.{Head}
use Rattle.job_text.specs.declared.Reader.{Reader}
use Rattle.job_text.specs.Machine.{next_of, head_of, ends_item, State, state, begun, moved_to, step_of, run_from, run_of}
use Rattle.job_text.specs.Kept.{room, weights_in, profits_in, stored_at, moved_on, moved_with, moved_by, overrun_of, taken_of, Holds, HasRead}
use Rattle.job_text.proofs.Runs.{run_two, one}

-- One item more, within the room and behind it.
weights_in_lem : (k : ℕ) (is : List Item) (i : Item) → length is < k → set (weights_in k is) (length is) i.weight ≡ weights_in k (is ++ (i ∷ []))
unfolding weights_in
weights_in_lem zero is i h = absurd (omega arith)
weights_in_lem (suc k) [] i h = refl
weights_in_lem (suc k) (j ∷ is) i h = ap (λ (l : List ℕ). j.weight ∷ l) (weights_in_lem k is i (omega arith))

weights_past : (k : ℕ) (is : List Item) (i : Item) → k ≤ length is → weights_in k is ≡ weights_in k (is ++ (i ∷ []))
unfolding weights_in
weights_past zero is i h = refl
weights_past (suc k) [] i h = absurd (omega arith)
weights_past (suc k) (j ∷ is) i h = ap (λ (l : List ℕ). j.weight ∷ l) (weights_past k is i (omega arith))

profits_in_lem : (k : ℕ) (is : List Item) (i : Item) → length is < k → set (profits_in k is) (length is) i.profit ≡ profits_in k (is ++ (i ∷ []))
unfolding profits_in
profits_in_lem zero is i h = absurd (omega arith)
profits_in_lem (suc k) [] i h = refl
profits_in_lem (suc k) (j ∷ is) i h = ap (λ (l : List ℕ). j.profit ∷ l) (profits_in_lem k is i (omega arith))

profits_past : (k : ℕ) (is : List Item) (i : Item) → k ≤ length is → profits_in k is ≡ profits_in k (is ++ (i ∷ []))
unfolding profits_in
profits_past zero is i h = refl
profits_past (suc k) [] i h = absurd (omega arith)
profits_past (suc k) (j ∷ is) i h = ap (λ (l : List ℕ). j.profit ∷ l) (profits_past k is i (omega arith))

weight_kept : (is : List Item) (i : Item) → stored_at (weights_in room is) (length is) i.weight ≡ weights_in room (is ++ (i ∷ []))
unfolding stored_at
weight_kept is i =
    elim (dec_le room (length is)) [
      | yes full ↦ rw (le-ltb (length is) room full) (weights_past room is i full)
      | no free ↦ let h : length is < room = omega arith in rw (lt-ltb (length is) room h) (weights_in_lem room is i h)
    ]

profit_kept : (is : List Item) (i : Item) → stored_at (profits_in room is) (length is) i.profit ≡ profits_in room (is ++ (i ∷ []))
unfolding stored_at
profit_kept is i =
    elim (dec_le room (length is)) [
      | yes full ↦ rw (le-ltb (length is) room full) (profits_past room is i full)
      | no free ↦ let h : length is < room = omega arith in rw (lt-ltb (length is) room h) (profits_in_lem room is i h)
    ]

-- the item that ends at a place
abbrev ended : Place → Head → Item
ended p h = record { weight = h.weight; profit = p.number }

store_moves : (l k : List ℕ) (at at' n : ℕ) → l ≡ k → at ≡ at' → stored_at l at n ≡ stored_at k at' n
store_moves l k at at' n e f = cc

with_holds : (s : State) (r : Reader) (p : Place) (h : Head) → Holds s r → Holds (state p h (s.items ++ (ended p h ∷ []))) (moved_with r p h)
unfolding moved_with
with_holds s r p h holds =
    record {
      place_is = refl;
      head_is = refl;
      count_is = ap (λ (n : ℕ). n + 1) holds.count_is ∙ sym (length-append s.items (ended p h ∷ []));
      weights_are = store_moves r.weights (weights_in room s.items) r.count (length s.items) h.weight holds.weights_are holds.count_is ∙ weight_kept s.items (ended p h);
      profits_are = store_moves r.profits (profits_in room s.items) r.count (length s.items) p.number holds.profits_are holds.count_is ∙ profit_kept s.items (ended p h);
    }

on_holds : (s : State) (r : Reader) (p : Place) (h : Head) → Holds s r → Holds (state p h s.items) (moved_on r p h)
unfolding moved_on
on_holds s r p h holds =
    record { place_is = refl; head_is = refl; count_is = holds.count_is; weights_are = holds.weights_are; profits_are = holds.profits_are }

moved_holds : (t : Bool) (s : State) (r : Reader) (p : Place) (h : Head) → Holds s r → Holds (state p h (cond t (s.items ++ (ended p h ∷ [])) s.items)) (cond t (moved_with r p h) (moved_on r p h))
moved_holds true s r p h holds = with_holds s r p h holds
moved_holds false s r p h holds = on_holds s r p h holds

by_holds : (s : State) (r : Reader) (p : Place) (h : Head) → Holds s r → Holds (moved_to s p h) (moved_by r p h)
unfolding moved_to moved_by
by_holds s r p h holds =
    subst (λ (q : Place). Holds (state p h (cond (ends_item s.place.part p.part) (s.items ++ (ended p h ∷ [])) s.items)) (cond (ends_item q.part p.part) (moved_with r p h) (moved_on r p h))) (sym holds.place_is) (moved_holds (ends_item s.place.part p.part) s r p h holds)

step_holds : (s : State) (r : Reader) (b : ℕ) → Holds s r → Holds (step_of s b) (taken_of r b)
unfolding step_of taken_of
step_holds s r b holds =
    subst (λ (q : Place). Holds (moved_to s (next_of s.place b) (head_of s.place.part (next_of s.place b).number s.head)) (moved_by r (next_of q b) (head_of q.part (next_of q b).number r.head))) (sym holds.place_is) (subst (λ (g : Head). Holds (moved_to s (next_of s.place b) (head_of s.place.part (next_of s.place b).number s.head)) (moved_by r (next_of s.place b) (head_of s.place.part (next_of s.place b).number g))) (sym holds.head_is) (by_holds s r (next_of s.place b) (head_of s.place.part (next_of s.place b).number s.head) holds))

-- bytes and count of the reader behind a byte
bytes_by : (t : Bool) (r : Reader) (p : Place) (h : Head) → (cond t (moved_with r p h) (moved_on r p h)).bytes ≡ r.bytes + 1
unfolding moved_with moved_on
bytes_by true r p h = refl
bytes_by false r p h = refl

count_by : (t : Bool) (r : Reader) (p : Place) (h : Head) → (cond t (moved_with r p h) (moved_on r p h)).count ≤ r.count + 1
unfolding moved_with moved_on
count_by true r p h = omega arith
count_by false r p h = omega arith

taken_bytes : (r : Reader) (b : ℕ) → (taken_of r b).bytes ≡ r.bytes + 1
unfolding taken_of moved_by
taken_bytes r b =
    bytes_by (ends_item r.place.part (next_of r.place b).part) r (next_of r.place b) (head_of r.place.part (next_of r.place b).number r.head)

taken_count : (r : Reader) (b : ℕ) → (taken_of r b).count ≤ r.count + 1
unfolding taken_of moved_by
taken_count r b =
    count_by (ends_item r.place.part (next_of r.place b).part) r (next_of r.place b) (head_of r.place.part (next_of r.place b).number r.head)

-- the machine behind one byte more
run_more : (t : List ℕ) (b : ℕ) → run_of (t ++ (b ∷ [])) ≡ step_of (run_of t) b
unfolding run_of
run_more t b = run_two t (b ∷ []) begun ∙ one (run_from t begun) b

longer : (t : List ℕ) (b : ℕ) → length (t ++ (b ∷ [])) ≡ length t + 1
longer t b = length-append t (b ∷ [])

-- The reader that has read nothing, and the one behind each byte.
pub begins : (r : Reader) → Holds begun r → r.bytes ≡ 0 → HasRead [] r
unfolding run_of run_from
begins r holds none =
    record {
      short = λ h. (holds, none);
      long = λ h. absurd (omega arith);
      few = let zero-count : r.count ≡ 0 = holds.count_is in omega arith;
    }

pub reads_on : (t : List ℕ) (r : Reader) (b : ℕ) → r.bytes < most_bytes → HasRead t r → HasRead (t ++ (b ∷ [])) (taken_of r b)
reads_on t r b free has =
    let more : length (t ++ (b ∷ [])) ≡ length t + 1 = longer t b in
    let bytes : (taken_of r b).bytes ≡ r.bytes + 1 = taken_bytes r b in
    let count : (taken_of r b).count ≤ r.count + 1 = taken_count r b in
    record {
      short = λ h.
          let fits : length t ≤ most_bytes = omega arith in
          let same : r.bytes ≡ length t = (has.short fits).1 in
          (subst (λ (s : State). Holds s (taken_of r b)) (sym (run_more t b)) (step_holds (run_of t) r b (has.short fits).0), omega arith);
      long = λ h.
          elim (dec_le (length t) most_bytes) [
            | yes fits ↦ let same : r.bytes ≡ length t = (has.short fits).1 in absurd (omega arith)
            | no over ↦ let same : r.bytes ≡ most_bytes = (has.long (omega arith)).1 in absurd (omega arith)
          ];
      few = let before : r.count ≤ r.bytes = has.few in omega arith;
    }

pub reads_over : (t : List ℕ) (r : Reader) (b : ℕ) → most_bytes ≤ r.bytes → HasRead t r → HasRead (t ++ (b ∷ [])) (overrun_of r)
unfolding overrun_of
reads_over t r b full has =
    let more : length (t ++ (b ∷ [])) ≡ length t + 1 = longer t b in
    record {
      short = λ h.
          let fits : length t ≤ most_bytes = omega arith in
          let same : r.bytes ≡ length t = (has.short fits).1 in
          absurd (omega arith);
      long = λ h. (
        refl,
        elim (dec_le (length t) most_bytes) [
          | yes fits ↦ let same : r.bytes ≡ length t = (has.short fits).1 in omega arith
          | no over ↦ (has.long (omega arith)).1
        ],
      );
      few = has.few;
    }
