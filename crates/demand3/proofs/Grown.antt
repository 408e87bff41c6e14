-- A pick that compiles keeps the invariant: by demand 2, what its record could lead to is found, or drained and appended.
use mathlib.Core.Path.{◌≡◌, refl, sym, ap, subst, ◌∙◌}
use mathlib.Core.Bool.{Bool, true, false}
use mathlib.Core.List.Memᴰ
use mathlib.Core.List.{List, Memᴰ, map}
use mathlib.Core.Logic.{⊎_elim}
use Prim.Native.Nat.{ℕ, ◌≤◌, ◌<◌}
use native.Mathlib.Omega.{arith}
use lib.IntN.{ℤ, pos}
use lib.ListN.{length}
use lib.Seq.{get_or-take, length-take-le}
use lib.Signed.{◌≤ℤ◌, ◌<ℤ◌, clash_ℤ, <ℤ-≤ℤ_trans}
use Rattle.words.specs.I64.{InI64}
use Rattle.calls.specs.Asked.{Given}
use Rattle.calls.specs.Compile.{Request, rooms_of, Compiled, compiled}
use Rattle.demand2.specs.Records.{Valid, Completes, earns}
use Rattle.demand2.specs.Statements.{Drained}
use Rattle.demand2.proofs.Achieved.{best_exact_achieved}
use Rattle.demand2.proofs.Exact.{optimum_exists, exact_finds_optimum}
use Rattle.demand2.proofs.Drained.{drained_records, drained_cover}
use Rattle.searches.specs.Places.{Place, no_place, given_at}
use Rattle.searches.specs.Search.{Search, open_in}
use Rattle.searches.specs.Pick.{picked_from, request_for, appended, drained_places}
use Rattle.searches.specs.Trace.{Blocks, Attempt, asked_by}
use Rattle.demand3.specs.Searches.{problem_of, Leads, IsSelection}
use Rattle.demand3.proofs.Order.{at_most_trans, at_most_below}
use Rattle.demand3.proofs.Lists.{place_in, stays_or_picked, without_in, above_has, appended_in}
use Rattle.demand3.proofs.Widths.{width_valid, width_completes, achieved_selection, achieved_is_i64}
use Rattle.demand3.proofs.Compiled.{Answered, answered}
use Rattle.demand3.proofs.Picks.{Passed, Bettered, replaced, stayed, bettered, bettered_up, bettered_least, others, effect_for, better_by, left_by}
use Rattle.demand3.proofs.Sound.{Sound, true_or_false, bound_at_most}

pub open_length : (s : Search) (list : List Place) → s.opened ≤ length list → length (open_in s list) ≡ s.opened
unfolding open_in
open_length s list h = length-take-le s.opened list h

-- the picked record is that of the open place
pub picked_is : (s : Search) (list : List Place) (k : ℕ) → k < s.opened → picked_from list k ≡ given_at (place_in (open_in s list) k)
unfolding picked_from open_in
picked_is s list k h = ap given_at (sym (get_or-take s.opened list k no_place h))

pub given_bound : (p : Place) → (given_at p).bound ≡ p.bound
unfolding given_at
given_bound p = refl

module _ (b : Blocks) (bound : ℤ) (s : Search) (a : Attempt) (c : Compiled) (p : Passed (asked_by b a) s a.held.list) (e : (effect_for (asked_by b a) s a.held).answer ≡ compiled c) (z : Sound b bound s (open_in s a.held.list)) where
  abbrev ps : List Place
  ps = open_in s a.held.list

  abbrev given : Given
  given = picked_from a.held.list a.place

  abbrev request : Request
  request = request_for (asked_by b a) s given

  abbrev places : List Place
  places = drained_places (effect_for (asked_by b a) s a.held)

  below : a.place < length ps
  below = let h = p.is_open in omega (arith, open_length s a.held.list p.listed)

  pub answer : Answered request (rooms_of a.held.lent) (effect_for (asked_by b a) s a.held) c
  unfolding request_for
  answer = answered request (rooms_of a.held.lent) c refl z.best_is_i64 e

  -- ---- each drained record, in its place

  pub drained_place : (r : Place) → Memᴰ r places → Drained request c (given_at r)
  unfolding request_for
  drained_place r i = drained_records request c (map given_at places) answer.finishes refl (given_at r) (Memᴰ.map given_at i)

  drained_valid : (r : Place) → Memᴰ r places → Valid (problem_of b) (given_at r)
  unfolding request_for
  drained_valid r i = width_valid b a.width 1 (given_at r) (drained_place r i).valid

  -- ---- where the diagram is exact, what the record leads to is found

  found_if_exact : c.exact ≡ true → (selection : List Bool) → Completes (problem_of b) given selection → s.best <ℤ earns (problem_of b) selection → earns (problem_of b) selection ≤ℤ (better_by c s).best
  unfolding request_for
  found_if_exact exact selection k above =
      let f = answer.finishes in
      let rs = map given_at places in
      let y = optimum_exists request c rs f in
      let least = y.1.most selection (width_completes b 1 a.width given selection k) in
      let found = (exact_finds_optimum request c rs f exact y.0 y.1).0 (<ℤ-≤ℤ_trans above least) in
      at_most_trans _ y.0 _ least (bettered_least (bettered c.best_exact c.exact_path s) y.0 found.best_exact_lem)

  -- ---- where it isn't, a drained record that is appended leads to it

  drained_leads : (x : ℤ) → (better_by c s).best <ℤ x → (selection : List Bool) → Completes (problem_of b) given selection → x ≤ℤ earns (problem_of b) selection → c.exact ≡ false → Leads b (appended c.exact (better_by c s).best places) x
  unfolding request_for appended
  drained_leads x above selection k earned inexact =
      let better_is = bettered c.best_exact c.exact_path s in
      let v = drained_cover request c (map given_at places) answer.finishes refl x (at_most_below _ _ x (bettered_up better_is) above)
      (λ y q. at_most_below y _ x (bettered_least better_is y q) above) selection (width_completes b 1 a.width given selection k) earned in
      let r = Memᴰ.of_map given_at places v.is_drained in
      let high : x ≤ℤ r.0.bound = subst (λ (t : ℤ). x ≤ℤ t) (ap (λ (g : Given). g.bound) (sym r.2) ∙ given_bound r.0) v.bound in
      let kept = above_has (better_by c s).best places r.0 r.1 (<ℤ-≤ℤ_trans above high) in
      record {
        place = r.0;
        is_open = subst (λ (t : Bool). Memᴰ r.0 (appended t (better_by c s).best places)) (sym inexact) kept;
        bound = high;
        selection = v.selection;
        completes = width_completes b a.width 1 (given_at r.0) v.selection (subst (λ (g : Given). Completes request.problem g v.selection) (sym r.2) v.completes);
        earned = v.earned;
      }

  -- ---- so some open record leads to the optimum still

  picked_leads : (x : ℤ) → (better_by c s).best <ℤ x → (selection : List Bool) → Completes (problem_of b) given selection → x ≤ℤ earns (problem_of b) selection → Leads b (left_by (asked_by b a) s a.held c) x
  picked_leads x above selection k earned =
      ⊎_elim
      (λ exact. clash_ℤ above (at_most_trans x _ _ earned (found_if_exact exact selection k (<ℤ-≤ℤ_trans (at_most_below _ _ x (bettered_up (bettered c.best_exact c.exact_path s)) above) earned))))
      (λ inexact. let l = drained_leads x above selection k earned inexact in
      record { place = l.place; is_open = Memᴰ.append_right (others (asked_by b a) s a.held.list) l.is_open; bound = l.bound; selection = l.selection; completes = l.completes; earned = l.earned })
      (true_or_false c.exact)

  still_leads : (x : ℤ) → (better_by c s).best <ℤ x → Leads b ps x → Leads b (left_by (asked_by b a) s a.held c) x
  still_leads x above l =
      ⊎_elim
      (λ i. record { place = l.place; is_open = Memᴰ.append_left _ i; bound = l.bound; selection = l.selection; completes = l.completes; earned = l.earned })
      (λ q. let same : given_at l.place ≡ given = ap given_at q ∙ sym (picked_is s a.held.list a.place p.is_open) in
      picked_leads x above l.selection (subst (λ (g : Given). Completes (problem_of b) g l.selection) same l.completes) l.earned)
      (stays_or_picked ps a.place l.place below l.is_open)

  -- ---- best and path

  bettered_sound : (t : Search) → Bettered c.best_exact c.exact_path s t → InI64 t.best × (t.held ≡ true → IsSelection b t.path t.best) × (t.held ≡ true → bound <ℤ t.best) × (t.held ≡ false → t.best ≡ bound)
  unfolding request_for
  bettered_sound t (stayed h) = (z.best_is_i64, z.selection, z.beats, z.unheld)
  bettered_sound t (replaced v found above) =
      let got = best_exact_achieved request c (map given_at places) answer.finishes v found in (
        achieved_is_i64 request.problem given c.exact_path v p.allowed got,
        (λ _. achieved_selection b a.width given c.exact_path v got),
        (λ _. at_most_below bound s.best v (bound_at_most b bound s ps z) above),
        (λ q. let y : ◌≡◌ {A = ℕ} 0 1 = cc in absurd (omega arith)),
      )

  -- The invariant after the pick.
  pub sound_grown : Sound b bound (better_by c s) (left_by (asked_by b a) s a.held c)
  sound_grown =
      let y = bettered_sound (better_by c s) (bettered c.best_exact c.exact_path s) in
      record {
        allowed = z.allowed;
        best_is_i64 = y.0;
        valid = λ r i.
            ⊎_elim (λ k. z.valid r (without_in ps a.place r below k)) (λ k. drained_valid r (appended_in c.exact (better_by c s).best places r k))
            (Memᴰ.append_cases (others (asked_by b a) s a.held.list) i);
        selection = y.1;
        beats = y.2;
        unheld = y.3;
        leads = λ x o above. still_leads (pos x) above (z.leads x o (at_most_below _ _ (pos x) (bettered_up (bettered c.best_exact c.exact_path s)) above));
      }
