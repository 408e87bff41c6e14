-- Start and pick refuse by document 01's table: each way that a call can go is what the table tells.
use mathlib.Core.Path.{◌≡◌, refl, sym, ap, subst, ◌∙◌}
use mathlib.Core.List.{List, [], ◌∷◌, map}
use mathlib.Core.Logic.{◌≢◌, inl, inr, ⊎_elim}
use mathlib.Core.Option.{Option, none, some}
use Prim.Native.Nat.{ℕ, ◌≤◌, ◌<◌}
use native.Mathlib.Omega.{arith}
use lib.IntN.{ℤ}
use lib.ListN.{length}
use lib.Signed.{◌≤ℤ◌, clash_ℤ}
use Rattle.diagram.specs.After6.{Outcome, drained}
use Rattle.calls.specs.Asked.{Problem}
use Rattle.calls.specs.Compile.{Request, Rooms, rooms_of, Compiled, refused, compiled, compiled_of, Effect, effect}
use Rattle.call_laws.proofs.View as Compiling
use Rattle.calls.specs.Table.{row, problem_rows, run_rows, First, here, later, Clear, end, past}
use Rattle.calls.proofs.Rows.{first_in_front, first_behind, first_either, clear_both, first_between, Told, told_number, told_clear, told_exactly, told_none}
use Rattle.calls.proofs.Refusals.{given_first, none_clear}
use Rattle.call_laws.proofs.Refusals.{run_stop, finished_stop, stop_row, drained_row, same_outcome, done_rows}
use Rattle.demand2.proofs.Accepted.{accepted_is}
use Rattle.searches.specs.Places.{Place, place_of}
use Rattle.searches.specs.Search.{Search}
use Rattle.searches.specs.Start as Start
use Rattle.searches.specs.Start.{Started, started, start_refusal, start}
use Rattle.searches.specs.Pick.{Asked, Held, After, Picked, refused_by, accepted, picked_from, pick_refusal, request_for, refusing, accepting, drained_places, pick}
use Rattle.searches.specs.Rows.{start_rows, request_of, Runs, open_after, Outgrows, PickRow10, PickRow11, PickRow12, PickRow13, pick_run_rows, pick_rows}
use Rattle.searches.proofs.Refusals.{start_checked, pick_checked}
use Rattle.demand3.specs.Refusals.{StartRefusedExactly, StartedExactly, StartNumbers, PickRefusedExactly, AcceptedExactly, PickNumbers}
use Rattle.demand3.proofs.Compiled.{DoneWith, done_with}
use Rattle.demand3.proofs.Picks.{passed_rows, Compiles, effect_for, left_by, Went, early, halted, outgrown, dropped, grown, went}

-- ---- start

no_number : (s : Search) (n : ℕ) → started s ≢ Start.refused n
no_number s n e = let z : ◌≡◌ {A = ℕ} 0 1 = cc in omega arith

start_told : (p : Problem) (bound : ℤ) (list : List Place) → Told Start.refused (start_rows p list) (start p bound list).answer
unfolding start start_refusal Start.unless
start_told p bound list = by_refusal (start_refusal p (length list)) refl
  where
    by_refusal : (n : Option ℕ) → start_refusal p (length list) ≡ n → Told Start.refused (start_rows p list) (Start.unless n p bound list).answer
    by_refusal (some n) e = told_number (given_first (start_checked p list) n e)
    by_refusal none e = told_clear (no_number _) (none_clear (start_checked p list) e)

pub start_refused_exactly : StartRefusedExactly
start_refused_exactly p bound list n = told_exactly (λ i j e. cc) (start_told p bound list) n

started_or : (a : Started) → ((n : ℕ) → a ≢ Start.refused n) → (s : Search) × (a ≡ started s)
started_or (Start.refused n) h = absurd (h n refl)
started_or (started s) h = (s, refl)

pub started_exactly : StartedExactly
started_exactly p bound list =
    let t = told_none (start_told p bound list) in
    ((λ s e. t.0 (λ n f. no_number s n (sym e ∙ f))), (λ c. started_or (start p bound list).answer (t.1 c)))

pub start_numbers : StartNumbers
start_numbers p bound list n e =
    ⊎_elim (λ f. inl (first_between {rs = problem_rows p} 1 6 (omega arith) f)) (λ f. inr (last f)) (first_either (problem_rows p) ((start_refused_exactly p bound list n).0 e))
  where
    last : {P : Type 0} → First (row 13 P ∷ []) n → n ≡ 13
    last {P} f = let b = first_between {rs = row 13 P ∷ []} 13 13 (omega arith) f in omega arith

-- ---- the run of a pick

no_pick_number : (n : ℕ) → accepted ≢ refused_by n
no_pick_number n e = let z : ◌≡◌ {A = ℕ} 0 1 = cc in omega arith

module _ (q : Asked) (s : Search) (h : Held) where
  abbrev request : Request
  request = request_of q s h

  abbrev rooms : Rooms
  rooms = rooms_of h.lent

  -- a row that is first for the run is first for the pick
  run_first : {n : ℕ} → Runs q s h → First (run_rows request rooms) n → First (pick_run_rows q s h) n
  run_first u (here a) = let s10 : PickRow10 q s h = (u, a) in here s10
  run_first u (later x (here a)) = let s11 : PickRow11 q s h = (u, a) in later (λ (z : PickRow10 q s h). x z.1) (here s11)
  run_first u (later x (later y (here a))) = let s12 : PickRow12 q s h = (u, a) in later (λ (z : PickRow10 q s h). x z.1) (later (λ (z : PickRow11 q s h). y z.1) (here s12))
  run_first u (later x (later y (later w (here a)))) =
      let s13 : PickRow13 q s h = (u, inl a) in
      later (λ (z : PickRow10 q s h). x z.1) (later (λ (z : PickRow11 q s h). y z.1) (later (λ (z : PickRow12 q s h). w z.1) (here s13)))
  run_first {n = n} u (later x (later y (later w (later _ x24)))) = elim x24 [ ]

  -- the compile is refused: the run's own row
  halted_row : Compiles q s h → (n : ℕ) (x : Effect) → Compiling.View request rooms x → x.answer ≡ refused n → First (run_rows request rooms) n
  unfolding effect request_for
  halted_row p n x (Compiling.early k e) r = let c = (accepted_is q.problem request.given).1 p.passed.allowed p.passed.valid in let z : ◌≡◌ {A = ℕ} 0 1 = cc in absurd (omega arith)
  halted_row p n x (Compiling.halted k d e f) r = let z : k ≡ n = cc in subst (λ (i : ℕ). First (run_rows request rooms) i) z (stop_row request rooms d (run_stop request rooms k d f) f)
  halted_row p n x (Compiling.overfull o e f l) r = let z : 13 ≡ n = cc in subst (λ (i : ℕ). First (run_rows request rooms) i) z (drained_row request rooms o f l)
  halted_row p n x (Compiling.done o e f l) r = let z : ◌≡◌ {A = ℕ} 0 1 = cc in absurd (omega arith)

  -- the compile is accepted: what is then open, by its outcome
  left_is : (c : Compiled) (o : Outcome) → DoneWith request rooms (effect_for q s h) c o → left_by q s h c ≡ open_after q s h.list (compiled_of request.given.path o) (map place_of (drained request.given.path o))
  unfolding drained_places
  left_is c o d = rw (d.answers, d.drains) refl

  outgrown_row : (c : Compiled) → Compiles q s h → (effect_for q s h).answer ≡ compiled c → length h.list < length (left_by q s h c) → First (pick_run_rows q s h) 13
  outgrown_row c p e l =
      let d = done_with request rooms c e in
      let o = d.0 in
      let w = d.1 in
      let s13 : PickRow13 q s h = (p.runs, inr (o, w.runs, rw (left_is c o w) at l)) in
      later (λ (z : PickRow10 q s h). finished_stop request rooms 10 o w.runs z.1) (later (λ (z : PickRow11 q s h). finished_stop request rooms 11 o w.runs z.1) (later (λ (z : PickRow12 q s h). finished_stop request rooms 12 o w.runs z.1) (here s13)))

  dropped_rows : (picked_from h.list q.place).bound ≤ℤ s.best → Clear (pick_run_rows q s h)
  dropped_rows low = past (λ (z : PickRow10 q s h). clash_ℤ z.0 low) (past (λ (z : PickRow11 q s h). clash_ℤ z.0 low) (past (λ (z : PickRow12 q s h). clash_ℤ z.0 low) (past (λ (z : PickRow13 q s h). clash_ℤ z.0 low) end)))

  grown_rows : (c : Compiled) → (effect_for q s h).answer ≡ compiled c → length (left_by q s h c) ≤ length h.list → Clear (pick_run_rows q s h)
  grown_rows c e l =
      let d = done_with request rooms c e in
      let o = d.0 in
      let w = d.1 in
      let fits : ¬ Outgrows q s h = λ z. omega (arith, l, ap (length {A = Place}) (left_is c o w), z.2, ap (λ (u : Outcome). length (open_after q s h.list (compiled_of request.given.path u) (map place_of (drained request.given.path u)))) (same_outcome request rooms o z.0 w.runs z.1)) in
      with_room (done_rows request rooms o w.runs w.few) fits
    where
      with_room : Clear (run_rows request rooms) → ¬ Outgrows q s h → Clear (pick_run_rows q s h)
      with_room (past a (past b (past c (past d end)))) fits =
          past (λ (z : PickRow10 q s h). a z.1) (past (λ (z : PickRow11 q s h). b z.1) (past (λ (z : PickRow12 q s h). c z.1) (past (λ (z : PickRow13 q s h). ⊎_elim d fits z.1) end)))

  -- ---- the pick

  went_told : (r : After) → Went q s h r → Told refused_by (pick_rows q s h) r.answer
  unfolding refusing accepting pick_refusal
  went_told r (early n e) = told_number (first_in_front (pick_run_rows q s h) (given_first (pick_checked q s h.list) n e))
  went_told r (halted n p e) = told_number (first_behind (passed_rows q s h.list p.passed) (run_first p.runs (halted_row p n (effect_for q s h) (Compiling.view request rooms) e)))
  went_told r (outgrown c p e l) = told_number (first_behind (passed_rows q s h.list p.passed) (outgrown_row c p e l))
  went_told r (dropped p low) = told_clear no_pick_number (clear_both (passed_rows q s h.list p) (dropped_rows low))
  went_told r (grown c p e l) = told_clear no_pick_number (clear_both (passed_rows q s h.list p.passed) (grown_rows c e l))

  pick_told : Told refused_by (pick_rows q s h) (pick q s h).answer
  pick_told = went_told (pick q s h) (went q s h)

pub pick_refused_exactly : PickRefusedExactly
pick_refused_exactly q s h n = told_exactly (λ i j e. cc) (pick_told q s h) n

accepted_or : (a : Picked) → ((n : ℕ) → a ≢ refused_by n) → a ≡ accepted
accepted_or (refused_by n) h = absurd (h n refl)
accepted_or accepted h = refl

pub accepted_exactly : AcceptedExactly
accepted_exactly q s h =
    let t = told_none (pick_told q s h) in
    ((λ e. t.0 (λ n f. no_pick_number n (sym e ∙ f))), (λ c. accepted_or (pick q s h).answer (t.1 c)))

pub pick_numbers : PickNumbers
pick_numbers q s h n e = first_between {rs = pick_rows q s h} 1 14 (omega arith) ((pick_refused_exactly q s h n).0 e)
