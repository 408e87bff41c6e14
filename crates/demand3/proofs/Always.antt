-- AlwaysStands: the invariant holds after a start and after every pick, refused or accepted, whatever list is lent with the same open records.
use mathlib.Core.Path.{◌≡◌, refl, sym, ap, subst, ◌∙◌}
use mathlib.Core.List.Memᴰ
use mathlib.Core.List.{List, [], ◌∷◌, ◌++◌}
use mathlib.Core.Logic.{⊎_elim}
use mathlib.Core.Option.{Option, none, some}
use Prim.Native.Nat.{ℕ, ◌<◌}
use native.Mathlib.Omega.{arith}
use lib.Dec.{eqb}
use lib.IntN.{ℤ, pos}
use lib.ListN.{length, length-take}
use lib.Signed.{◌≤ℤ◌}
use Rattle.words.specs.I64.{InI64}
use Rattle.knapsack.specs.Knapsack.{Optimum}
use Rattle.calls.specs.Asked.{Problem, Given}
use Rattle.calls.specs.Compile.{Lent}
use Rattle.calls.specs.Rows.{taken_weight, taken_profit}
use Rattle.calls.specs.Table.{row, problem_rows, Clear, end, past}
use Rattle.calls.specs.Refusals.{problem_checks}
use Rattle.calls.proofs.Tests.{by_equal}
use Rattle.calls.proofs.Refusals.{Checked, done, next, checked_append, none_clear, problem_checked}
use Rattle.demand2.specs.Records.{items_in, Allowed, Valid}
use Rattle.demand2.proofs.Numbers.{at_most_natural}
use Rattle.searches.specs.Places.{Place, given_at, root_place, over_places}
use Rattle.searches.specs.Search.{Search, open_in}
use Rattle.searches.specs.Start as Start
use Rattle.searches.specs.Start.{start_refusal, begun, start, started}
use Rattle.searches.specs.Pick.{After, refusing, one_pick_more, accepting}
use Rattle.searches.specs.Trace.{Blocks, problem_at, Attempt, asked_by, picked_by, Trace, begins, goes_on}
use Rattle.demand3.specs.Searches.{problem_of, Leads}
use Rattle.demand3.specs.Statements.{AlwaysStands}
use Rattle.demand3.proofs.Lists.{place_in, over_starts, over_long}
use Rattle.demand3.proofs.Widths.{width_allowed, earns_at_most}
use Rattle.demand3.proofs.Picks.{others, better_by, left_by, Went, early, halted, outgrown, dropped, grown, went}
use Rattle.demand3.proofs.Sound.{Sound, Holds, stands, sound_as, sound_dropped}
use Rattle.demand3.proofs.Grown.{open_length, picked_is, given_bound, sound_grown}

-- ---- a start

-- an accepted start: 1 to 6 don't apply, and the search is begun with the root record in the first place
pub record Accepted (p : Problem) (bound : ℤ) (list : List Place) (s : Search) : Type 0 where
  pub allowed : Allowed p
  pub search : s ≡ begun bound
  pub written : (start p bound list).list ≡ over_places (root_place p.page ∷ []) list

start_checked : (p : Problem) (places : ℕ) → Checked (problem_checks p ++ (record { number = 13; applies = eqb places 0 } ∷ [])) (problem_rows p ++ (row 13 (places ≡ 0) ∷ []))
start_checked p places = checked_append (problem_checked p) (next (by_equal places 0) done)

rows_allowed : (p : Problem) (places : ℕ) → Clear (problem_rows p ++ (row 13 (places ≡ 0) ∷ [])) → Allowed p
rows_allowed p places (past a1 (past a2 (past a3 (past a4 (past a5 (past a6 (past a13 end))))))) =
    record { passes1 = a1; passes2 = a2; passes3 = a3; passes4 = a4; passes5 = a5; passes6 = a6 }

start_allowed : (p : Problem) (places : ℕ) → start_refusal p places ≡ none → Allowed p
unfolding start_refusal
start_allowed p places e = rows_allowed p places (none_clear (start_checked p places) e)

pub start_accepted : (p : Problem) (bound : ℤ) (list : List Place) (s : Search) → (start p bound list).answer ≡ started s → Accepted p bound list s
unfolding start Start.unless
start_accepted p bound list s e = by_refusal (start_refusal p (length list)) refl e
  where
    by_refusal : (n : Option ℕ) → start_refusal p (length list) ≡ n → (Start.unless n p bound list).answer ≡ started s → Accepted p bound list s
    by_refusal (some n) r q = let y : ◌≡◌ {A = ℕ} 0 1 = cc in absurd (omega arith)
    by_refusal none r q =
        record { allowed = start_allowed p (length list) r; search = cc; written = ap (λ (n : Option ℕ). (Start.unless n p bound list).list) r }

-- the root record is valid, and leads to any optimum
root_valid : (b : Blocks) → Valid (problem_of b) (given_at (root_place b.page))
unfolding given_at root_place taken_weight taken_profit
root_valid b =
    record {
      passes7 = ⊎_elim (λ h. omega arith) (λ h. h refl);
      passes8 = λ z. let h = z.1 in omega arith;
      passes9 = ⊎_elim (λ h. h (omega arith)) (λ h. h refl);
    }

root_leads : (b : Blocks) (x : ℕ) → Allowed (problem_of b) → Optimum (items_in (problem_of b)) b.page x → Leads b (root_place b.page ∷ []) (pos x)
unfolding given_at root_place
root_leads b x a o =
    let w = o.earned in
    record {
      place = root_place b.page;
      is_open = Memᴰ.head refl;
      bound = at_most_natural _ _ (omega (arith, w.earns, earns_at_most (problem_of b) a w.selection));
      selection = w.selection;
      completes = record { fits = w.fits; keeps = λ byte i. absurd (Memᴰ.not-nil i) };
      earned = at_most_natural _ _ (omega (arith, w.earns));
    }

begun_sound : (b : Blocks) (bound : ℤ) → InI64 bound → Allowed (problem_of b) → Sound b bound (begun bound) (root_place b.page ∷ [])
unfolding begun
begun_sound b bound i a =
    record {
      allowed = a;
      best_is_i64 = i;
      valid = λ p m. subst (λ (r : Place). Valid (problem_of b) (given_at r)) (sym (Memᴰ.eq_of_singleton m)) (root_valid b);
      selection = λ h. let y : ◌≡◌ {A = ℕ} 0 1 = cc in absurd (omega arith);
      beats = λ h. let y : ◌≡◌ {A = ℕ} 0 1 = cc in absurd (omega arith);
      unheld = λ h. refl;
      leads = λ x o h. root_leads b x a o;
    }

pub begun_open : (bound : ℤ) (p : Place) (list : List Place) → open_in (begun bound) (over_places (p ∷ []) list) ≡ p ∷ []
unfolding begun open_in
begun_open bound p list = over_starts (p ∷ []) list

begun_holds : (b : Blocks) (bound : ℤ) (list : List Place) → InI64 bound → Allowed (problem_of b) → Holds b bound (begun bound) (over_places (root_place b.page ∷ []) list)
unfolding begun
begun_holds b bound list i a =
    record {
      listed = over_long (root_place b.page ∷ []) list;
      sound = subst (λ (l : List Place). Sound b bound (begun bound) l) (sym (begun_open bound (root_place b.page) list)) (begun_sound b bound i a);
    }

-- ---- a pick

-- The open records after an accepted pick are those that are left.
pub accepting_open : (s : Search) (left list : List Place) (l : Lent) → open_in (accepting s left list l).search (accepting s left list l).held.list ≡ left
unfolding accepting one_pick_more open_in
accepting_open s left list l = over_starts left list

accepting_holds : (b : Blocks) (bound : ℤ) (s : Search) (left list : List Place) (l : Lent) → Sound b bound s left → Holds b bound (accepting s left list l).search (accepting s left list l).held.list
unfolding accepting one_pick_more
accepting_holds b bound s left list l z =
    record { listed = over_long left list; sound = sound_as b bound s (one_pick_more (length left) s) left _ refl refl refl (accepting_open s left list l) z }

module _ (b : Blocks) (bound : ℤ) (s : Search) (a : Attempt) (h : Holds b bound s a.held.list) where
  went_holds : (r : After) → Went (asked_by b a) s a.held r → Holds b bound r.search r.held.list
  unfolding refusing
  went_holds r (early n e) = h
  went_holds r (halted n p e) = h
  went_holds r (outgrown c p e o) = h
  went_holds r (dropped p low) =
      let ps = open_in s a.held.list in
      let e = picked_is s a.held.list a.place p.is_open in
      let below : a.place < length ps = omega (arith, p.is_open, open_length s a.held.list p.listed) in
      let high = given_bound (place_in ps a.place) in
      accepting_holds b bound s (others (asked_by b a) s a.held.list) a.held.list a.held.lent
      (sound_dropped b bound s ps a.place below (subst (λ (v : ℤ). v ≤ℤ s.best) (ap (λ (g : Given). g.bound) e ∙ high) low) h.sound)
  went_holds r (grown c p e l) = accepting_holds b bound (better_by c s) (left_by (asked_by b a) s a.held c) a.held.list _ (sound_grown b bound s a c p.passed e h.sound)

  pub pick_holds : Holds b bound (picked_by b s a).search (picked_by b s a).held.list
  pick_holds = went_holds (picked_by b s a) (went (asked_by b a) s a.held)

-- another list with the same open records is as good
pub relisted : (b : Blocks) (bound : ℤ) (s : Search) (list other : List Place) → open_in s other ≡ open_in s list → Holds b bound s list → Holds b bound s other
unfolding open_in
relisted b bound s list other e h =
    record {
      listed = omega (arith, h.listed, length-take s.opened list, length-take s.opened other, ap (length {A = Place}) e);
      sound = subst (λ (l : List Place). Sound b bound s l) (sym e) h.sound;
    }

-- ---- every moment of a trace

pub always_holds : (b : Blocks) (bound : ℤ) (most : ℕ) {s : Search} {list : List Place} → InI64 bound → Trace b bound most s list → Holds b bound s list
always_holds b bound most i (begins width list s e) =
    let y = start_accepted (problem_at b width) bound list s e in
    subst (λ (t : Search). Holds b bound t (start (problem_at b width) bound list).list) (sym y.search)
    (subst (λ (l : List Place). Holds b bound (begun bound) l) (sym y.written) (begun_holds b bound list i (width_allowed b width 1 (omega arith) (omega arith) y.allowed)))
always_holds b bound most i (goes_on {s = s} {list = list} t a e few) = pick_holds b bound s a (relisted b bound s list a.held.list e (always_holds b bound most i t))

-- Statement 3.
pub always_stands : AlwaysStands
always_stands b bound most s list i t = stands b bound s list (always_holds b bound most i t)
