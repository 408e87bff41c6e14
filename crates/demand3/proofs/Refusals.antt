-- RefusedForRoomAlone: a pick of an open record passes 1 to 9 and 14, its relaxed run never makes 10, so 11 to 13 are left.
use mathlib.Core.Path.{◌≡◌, refl, sym, subst}
use mathlib.Core.Logic.{◌⊎◌, inl, inr}
use mathlib.Core.Option.{none}
use Prim.Native.Nat.{ℕ, ◌≤◌, ◌<◌}
use native.Mathlib.Decide.{dec_le}
use native.Mathlib.Omega.{arith}
use lib.IntN.{ℤ}
use Rattle.diagram.specs.After6.{refused as stopped_at}
use Rattle.diagram.specs.Run.{relaxing}
use Rattle.diagram.specs.Tables.{Diagram}
use Rattle.theorems.proofs.Fits.{Stop, ten, eleven, twelve}
use Rattle.calls.specs.Asked.{Given}
use Rattle.calls.specs.Refusals.{compile_refusal}
use Rattle.calls.specs.Compile.{Request, Rooms, refused, Effect, effect, run_of, compile_effect}
use Rattle.call_laws.proofs.View as Compiling
use Rattle.call_laws.proofs.Refusals.{run_stop, not_ten}
use Rattle.demand2.specs.Records.{Allowed, Valid}
use Rattle.demand2.proofs.Accepted.{accepted_is}
use Rattle.searches.specs.Search.{Search, most_picks, open_in}
use Rattle.searches.specs.Pick.{After, refused_by, picked_from, request_for, refusing, accepting}
use Rattle.searches.specs.Trace.{Blocks, Attempt, asked_by, picked_by}
use Rattle.demand3.specs.Searches.{problem_of}
use Rattle.demand3.specs.Statements.{RefusedForRoomAlone}
use Rattle.demand3.proofs.Lists.{picked_in, place_in}
use Rattle.demand3.proofs.Widths.{width_valid, width_allowed}
use Rattle.demand3.proofs.Picks.{Passed, passed, Went, early, halted, outgrown, dropped, grown, went}
use Rattle.demand3.proofs.Sound.{Holds}
use Rattle.demand3.proofs.Grown.{open_length, picked_is}
use Rattle.demand3.proofs.Always.{relisted, always_holds}

abbrev pub ForRoom : ℕ → Type 0
ForRoom n = (n ≡ 11) ⊎ ((n ≡ 12) ⊎ (n ≡ 13))

-- ---- the compile

pub narrow : (q : Request) → Allowed q.problem → q.problem.width ≤ 256
narrow q a = elim (dec_le q.problem.width 256) [ yes h ↦ h | no n ↦ absurd (a.passes6 (inr (omega arith))) ]

stop_for_room : (q : Request) (m : Rooms) (d : Diagram) {n : ℕ} → q.mode ≡ relaxing → compile_refusal q.problem q.given ≡ none → Stop n → run_of q m ≡ stopped_at n d → ForRoom n
stop_for_room q m d relaxed c ten e = absurd (not_ten q m d c e (λ x. let z : ◌≡◌ {A = ℕ} 0 1 = cc in omega arith))
stop_for_room q m d relaxed c eleven e = inl refl
stop_for_room q m d relaxed c twelve e = inr (inl refl)

compiled_answer : (q : Request) (m : Rooms) (n : ℕ) → q.mode ≡ relaxing → Allowed q.problem → Valid q.problem q.given → (x : Effect) → Compiling.View q m x → x.answer ≡ refused n → ForRoom n
unfolding effect
compiled_answer q m n relaxed a v x (Compiling.early k e) r = let c = (accepted_is q.problem q.given).1 a v in let z : ◌≡◌ {A = ℕ} 0 1 = cc in absurd (omega arith)
compiled_answer q m n relaxed a v x (Compiling.halted k d e f) r =
    let z : k ≡ n = cc in
    subst (λ (i : ℕ). ForRoom i) z (stop_for_room q m d relaxed e (run_stop q m k d f) f)
compiled_answer q m n relaxed a v x (Compiling.overfull o e f h) r = let z : 13 ≡ n = cc in inr (inr (sym z))
compiled_answer q m n relaxed a v x (Compiling.done o e f h) r = let z : ◌≡◌ {A = ℕ} 0 1 = cc in absurd (omega arith)

-- A relaxed compile of a valid record is refused for want of room alone.
pub compile_for_room : (q : Request) (m : Rooms) (n : ℕ) → q.mode ≡ relaxing → Allowed q.problem → Valid q.problem q.given → (compile_effect q m).answer ≡ refused n → ForRoom n
compile_for_room q m n relaxed a v e = compiled_answer q m n relaxed a v (compile_effect q m) (Compiling.view q m) e

-- ---- the pick

-- A pick of an open record passes 1 to 9 and 14.
pub open_passes : (b : Blocks) (bound : ℤ) (s : Search) (a : Attempt) → Holds b bound s a.held.list → a.place < s.opened → 1 ≤ a.width → a.width ≤ 256 → s.picks < most_picks → Passed (asked_by b a) s a.held.list
open_passes b bound s a h below one most few =
    let ps = open_in s a.held.list in
    let z = h.sound in
    let member = picked_in ps a.place (omega (arith, open_length s a.held.list h.listed)) in
    record {
      allowed = width_allowed b 1 a.width one most z.allowed;
      is_open = below;
      listed = h.listed;
      countable = λ e. omega arith;
      valid = width_valid b 1 a.width _ (subst (λ (g : Given). Valid (problem_of b) g) (sym (picked_is s a.held.list a.place below)) (z.valid (place_in ps a.place) member));
    }

went_for_room : (b : Blocks) (s : Search) (a : Attempt) (n : ℕ) → Passed (asked_by b a) s a.held.list → (r : After) → Went (asked_by b a) s a.held r → r.answer ≡ refused_by n → ForRoom n
unfolding request_for refusing accepting
went_for_room b s a n p r (early k e) q = let c = passed (asked_by b a) s a.held.list p in let z : ◌≡◌ {A = ℕ} 0 1 = cc in absurd (omega arith)
went_for_room b s a n p r (halted k y e) q =
    let z : k ≡ n = cc in
    subst (λ (i : ℕ). ForRoom i) z (compile_for_room (request_for (asked_by b a) s (picked_from a.held.list a.place)) _ k refl p.allowed p.valid e)
went_for_room b s a n p r (outgrown c y e o) q = let z : 13 ≡ n = cc in inr (inr (sym z))
went_for_room b s a n p r (dropped y low) q = let z : ◌≡◌ {A = ℕ} 0 1 = cc in absurd (omega arith)
went_for_room b s a n p r (grown c y e l) q = let z : ◌≡◌ {A = ℕ} 0 1 = cc in absurd (omega arith)

-- Statement 4, refusals.
pub refused_for_room_alone : RefusedForRoomAlone
refused_for_room_alone b bound most s list i t a e below one width few n q =
    let h = relisted b bound s list a.held.list e (always_holds b bound most i t) in
    went_for_room b s a n (open_passes b bound s a h below one width few) (picked_by b s a) (went (asked_by b a) s a.held) q
