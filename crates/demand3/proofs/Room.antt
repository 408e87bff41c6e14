-- RoomIsEnough: with rows for every relaxed run, scratch places for what it drains and room in the list, no pick of an open record is refused.
use mathlib.Core.Path.{◌≡◌, refl, ap}
use mathlib.Core.List.{List}
use Prim.Native.Nat.{ℕ, ◌≤◌}
use native.Mathlib.Omega.{arith}
use lib.IntN.{ℤ}
use lib.ListN.{length, length-append}
use Rattle.knapsack.specs.Items.{Item}
use Rattle.diagram.specs.After4.{CutsetKind}
use Rattle.diagram.specs.After6.{Outcome, drained, finished, run}
use Rattle.diagram.specs.Record.{Record}
use Rattle.diagram.specs.Run.{relaxing, Settings}
use Rattle.calls.specs.Asked.{record_of}
use Rattle.calls.specs.Compile.{Request, Rooms, rooms_of, Compiled, refused, compiled, Effect, effect, settings_of, run_of}
use Rattle.call_laws.proofs.View as Compiling
use Rattle.demand2.specs.Records.{items_in, Allowed, Valid}
use Rattle.demand2.proofs.Accepted.{accepted_is, count_is}
use Rattle.searches.specs.Search.{Search, open_in}
use Rattle.searches.specs.Pick.{After, accepted, picked_from, request_for, accepting, appended, drained_places}
use Rattle.searches.specs.Trace.{Blocks, Attempt, asked_by, picked_by}
use Rattle.demand3.specs.Searches.{nodes_for, edges_for, Roomy}
use Rattle.demand3.specs.Statements.{RoomIsEnough}
use Rattle.demand3.proofs.Lists.{without_length, appended_length}
use Rattle.demand3.proofs.Picks.{Passed, passed, others, effect_for, better_by, left_by, Went, early, halted, outgrown, dropped, grown, went}
use Rattle.demand3.proofs.Sound.{Holds}
use Rattle.demand3.proofs.Grown.{open_length, answer}
use Rattle.demand3.proofs.Always.{relisted, always_holds}
use Rattle.demand3.proofs.Refusals.{narrow, open_passes}

-- ---- what is needed of runs

-- the run finishes, and drains at most so many records
pub record RunsThrough (opts : Settings) (k : CutsetKind) (items : List Item) (r : Record) (most : ℕ) : Type 0 where
  pub outcome : Outcome
  pub finishes : run opts k items r ≡ finished outcome
  pub drains : length (drained r.path outcome) ≤ most

abbrev pub RelaxedRunsThrough : Type 0
RelaxedRunsThrough =
    (opts : Settings) (k : CutsetKind) (items : List Item) (r : Record) → opts.mode ≡ relaxing → opts.width ≤ 256 →
    nodes_for opts.width (length items) ≤ opts.node_room → edges_for opts.width (length items) ≤ opts.edge_room →
    RunsThrough opts k items r (nodes_for opts.width (length items))

-- ---- the compile

-- a request whose run finishes with so few records that the scratch list holds them isn't refused
not_refused : (q : Request) (m : Rooms) (o : Outcome) → Allowed q.problem → Valid q.problem q.given → run_of q m ≡ finished o → length (drained q.given.path o) ≤ m.records → (n : ℕ) (x : Effect) → Compiling.View q m x → x.answer ≡ refused n → ⊥
unfolding effect
not_refused q m o a v runs few n x (Compiling.early k e) r = let c = (accepted_is q.problem q.given).1 a v in let z : ◌≡◌ {A = ℕ} 0 1 = cc in omega arith
not_refused q m o a v runs few n x (Compiling.halted k d e f) r = let z : ◌≡◌ {A = ℕ} 0 1 = cc in omega arith
not_refused q m o a v runs few n x (Compiling.overfull p e f h) r = let z : p ≡ o = cc in omega (arith, ap (λ (u : Outcome). length (drained q.given.path u)) z)
not_refused q m o a v runs few n x (Compiling.done p e f h) r = let z : ◌≡◌ {A = ℕ} 0 1 = cc in omega arith

record Finishes (q : Request) (m : Rooms) : Type 0 where
  outcome : Outcome
  runs : run_of q m ≡ finished outcome
  few : length (drained q.given.path outcome) ≤ m.records

roomy_runs : RelaxedRunsThrough → (q : Request) (m : Rooms) → q.mode ≡ relaxing → Allowed q.problem → nodes_for q.problem.width (length q.problem.weights) ≤ m.nodes → edges_for q.problem.width (length q.problem.weights) ≤ m.edges → nodes_for q.problem.width (length q.problem.weights) ≤ m.records → Finishes q m
unfolding run_of settings_of record_of
roomy_runs through q m relaxed a nodes edges records =
    let same = count_is q.problem a in
    let fit : nodes_for q.problem.width (length (items_in q.problem)) ≡ nodes_for q.problem.width (length q.problem.weights) = ap (nodes_for q.problem.width) same in
    let links : edges_for q.problem.width (length (items_in q.problem)) ≡ edges_for q.problem.width (length q.problem.weights) = ap (edges_for q.problem.width) same in
    let t = through (settings_of q m) q.kind (items_in q.problem) (record_of q.given) relaxed (narrow q a) (omega arith) (omega arith) in
    record { outcome = t.outcome; runs = t.finishes; few = omega (arith, t.drains) }

-- ---- the pick

module _ (through : RelaxedRunsThrough) (b : Blocks) (bound : ℤ) (s : Search) (a : Attempt) (h : Holds b bound s a.held.list) (room : Roomy b s a) (p : Passed (asked_by b a) s a.held.list) where
  abbrev request : Request
  request = request_for (asked_by b a) s (picked_from a.held.list a.place)

  compiles : (n : ℕ) → (effect_for (asked_by b a) s a.held).answer ≡ refused n → ⊥
  unfolding request_for rooms_of
  compiles n e =
      let m = rooms_of a.held.lent in
      let f = roomy_runs through request m refl p.allowed room.nodes room.edges room.scratch in
      not_refused request m f.outcome p.allowed p.valid f.runs f.few n (effect_for (asked_by b a) s a.held) (Compiling.view request m) e

  -- what is left and what is appended has room in the list
  left_fits : (c : Compiled) → (effect_for (asked_by b a) s a.held).answer ≡ compiled c → length (left_by (asked_by b a) s a.held c) ≤ length a.held.list
  unfolding rooms_of
  left_fits c e =
      let records = drained_places (effect_for (asked_by b a) s a.held) in
      let best = (better_by c s).best in
      let ps = open_in s a.held.list in
      let many = open_length s a.held.list h.listed in
      let one = without_length ps a.place (omega (arith, p.is_open)) in
      let few = (answer b bound s a c p e h.sound).few in
      omega (arith, length-append (others (asked_by b a) s a.held.list) (appended c.exact best records), appended_length c.exact best records, room.list)

  went_accepted : (r : After) → Went (asked_by b a) s a.held r → r.answer ≡ accepted
  unfolding accepting
  went_accepted r (early k e) = let c = passed (asked_by b a) s a.held.list p in let z : ◌≡◌ {A = ℕ} 0 1 = cc in absurd (omega arith)
  went_accepted r (halted k y e) = absurd (compiles k e)
  went_accepted r (outgrown c y e o) = absurd (omega (arith, left_fits c e))
  went_accepted r (dropped y low) = refl
  went_accepted r (grown c y e l) = refl

-- Statement 4, room.
pub room_is_enough_if : RelaxedRunsThrough → RoomIsEnough
room_is_enough_if through b bound most s list i t a e room few =
    let h = relisted b bound s list a.held.list e (always_holds b bound most i t) in
    let p = open_passes b bound s a h room.place room.some_width room.width few in
    went_accepted through b bound s a h room p (picked_by b s a) (went (asked_by b a) s a.held)
