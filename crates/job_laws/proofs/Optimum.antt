-- A job's run is a trace of a search; where it ends, the list is empty, so demand 3 says what it found.
use mathlib.Core.Path.{◌≡◌, refl, ap, subst, ◌∙◌}
use mathlib.Core.Bool.{Bool, true, false}
use mathlib.Core.List.{List}
use Prim.Native.Nat.{ℕ, zero, suc, ◌+◌, ◌≤◌}
use native.Mathlib.Omega.{arith}
use lib.Dec.{eqb}
use lib.Signed.{le_z_yes, lt_z_yes}
use borrow.Author.Tests.{eqb-true}
use Rattle.words.specs.I64.{InI64, i64_min}
use Rattle.knapsack.specs.Best.{best}
use Rattle.knapsack.proofs.Best.{best_is_optimum}
use Rattle.diagram.specs.After4.{CutsetKind}
use Rattle.calls.specs.Asked.{Problem}
use Rattle.calls.specs.Compile.{Lent, rooms_of}
use Rattle.demand2.specs.Records.{items_in, Allowed}
use Rattle.demand3.proofs.Always.{start_accepted}
use Rattle.demand3.proofs.Ended.{empty_means_optimal}
use Rattle.demand3.proofs.Few.{picks_are_few}
use Rattle.demand3.proofs.Empties.{pick_counted, pick_u64, begun_picks}
use Rattle.demand3.proofs.Widths.{earns_at_most}
use Rattle.demand3.specs.Statements.{count_of}
use Rattle.searches.specs.Places.{Place}
use Rattle.searches.specs.Search.{Search, most_picks}
use Rattle.searches.specs.Start as Start
use Rattle.searches.specs.Start.{start}
use Rattle.searches.specs.Pick as Pick
use Rattle.searches.specs.Pick.{pick, Held, After}
use Rattle.searches.specs.Trace.{Trace, begins, goes_on}
use Rattle.jobs.specs.Run as Run
use Rattle.jobs.specs.Run.{Ending, ended, asked_for, unless_refused, picking, all_turns, started_on, run_of}
use Rattle.job_laws.specs.Statements.{blocks_of, RunAnswersTheOptimum}

search_in_lem : Search → Ending → Search
search_in_lem s (Run.refused n) = s
search_in_lem s (ended t) = t

ended_same : (s t : Search) → ◌≡◌ {A = Ending} (ended s) (ended t) → s ≡ t
unfolding search_in_lem
ended_same s t e = ap (search_in_lem s) e

-- where the picks from a search on end: it is reached by a trace, and no record is open
record Reached (p : Problem) (most : ℕ) (s : Search) : Type 0 where
  list : List Place
  trace : Trace (blocks_of p) i64_min most s list
  empty : s.opened ≡ 0

module _ (p : Problem) (kind : CutsetKind) (l : Lent) (s' : Search) where
  abbrev most : ℕ
  most = (rooms_of l).records

  -- the pick of a turn
  abbrev picked : Search → List Place → After
  picked s list = pick (asked_for p kind s list) s (record { list = list; lent = l })

  gone_on : (s : Search) (list : List Place) → Trace (blocks_of p) i64_min most s list → Trace (blocks_of p) i64_min most (picked s list).search (picked s list).held.list
  unfolding asked_for
  gone_on s list t = goes_on t (record { width = p.width; kind = kind; place = (asked_for p kind s list).place; held = record { list = list; lent = l } }) refl (omega arith)

  counted_one : (s : Search) (list : List Place) → (picked s list).answer ≡ Pick.accepted → (picked s list).search.picks ≡ suc s.picks
  unfolding count_of
  counted_one s list a =
      let held : Held = record { list = list; lent = l } in
      let one : count_of (picked s list).answer ≡ 1 = ap count_of a in
      omega (arith, pick_counted (asked_for p kind s list) s held, one)

  -- what is known before `turns` turns more
  record Before (turns : ℕ) (s : Search) (list : List Place) : Type 0 where
    trace : Trace (blocks_of p) i64_min most s list
    turns_are : turns + s.picks ≡ all_turns
    countable : s.picks ≤ most_picks

  after_turn : (turns : ℕ) (s : Search) (list : List Place) → Before (suc turns) s list → (picked s list).answer ≡ Pick.accepted → Before turns (picked s list).search (picked s list).held.list
  after_turn turns s list b a =
      let held : Held = record { list = list; lent = l } in
      record { trace = gone_on s list b.trace; turns_are = omega (arith, b.turns_are, counted_one s list a); countable = pick_u64 (asked_for p kind s list) s held b.countable }

  by_answer : (turns : ℕ) (s : Search) (list : List Place) → Before (suc turns) s list → (x : Pick.Picked) → (picked s list).answer ≡ x → (Before turns (picked s list).search (picked s list).held.list → picking turns p kind l (picked s list).search (picked s list).held.list ≡ ended s' → Reached p most s')
      → unless_refused x (picking turns p kind l (picked s list).search (picked s list).held.list) ≡ ended s' → Reached p most s'
  unfolding unless_refused
  by_answer turns s list b (Pick.refused_by n) a again h = let z : ◌≡◌ {A = ℕ} 0 1 = cc in absurd (omega arith)
  by_answer turns s list b Pick.accepted a again h = again (after_turn turns s list b a) h

  by_count : (turns : ℕ) (s : Search) (list : List Place) → Before (suc turns) s list → (x : Bool) → eqb s.opened 0 ≡ x → (Before turns (picked s list).search (picked s list).held.list → picking turns p kind l (picked s list).search (picked s list).held.list ≡ ended s' → Reached p most s')
      → (elim x as (λ _. Ending) [ true ↦ ended s | false ↦ unless_refused (picked s list).answer (picking turns p kind l (picked s list).search (picked s list).held.list) ]) ≡ ended s' → Reached p most s'
  by_count turns s list b true z again y = subst (Reached p most) (ended_same s s' y) (record { list = list; trace = b.trace; empty = eqb-true s.opened 0 z })
  by_count turns s list b false z again y = by_answer turns s list b (picked s list).answer refl again y

  reaches : (turns : ℕ) (s : Search) (list : List Place) → Before turns s list → picking turns p kind l s list ≡ ended s' → Reached p most s'
  unfolding picking
  reaches zero s list b h = absurd (omega (arith, b.turns_are, b.countable))
  reaches (suc turns) s list b h =
      by_count turns s list b (eqb s.opened 0) refl (λ c. reaches turns (picked s list).search (picked s list).held.list c) h

  module _ (list : List Place) where
    abbrev begun : Start.After
    begun = start p i64_min list

    by_start : (x : Start.Started) → begun.answer ≡ x → started_on p kind l begun.list x ≡ ended s' → Allowed p × Reached p most s'
    unfolding started_on
    by_start (Start.refused n) e h = let z : ◌≡◌ {A = ℕ} 0 1 = cc in absurd (omega arith)
    by_start (Start.started s) e h =
        let y = start_accepted p i64_min list s e in
        let none : s.picks ≡ 0 = ap (λ (x : Search). x.picks) y.search ∙ begun_picks i64_min in
        (y.allowed, reaches all_turns s begun.list (record { trace = begins p.width list s e; turns_are = omega (arith, none); countable = omega (arith, none) }) h)

    reached : run_of p kind l list ≡ ended s' → Allowed p × Reached p most s'
    unfolding run_of
    reached h = by_start begun.answer refl h

lowest : InI64 i64_min
lowest = record { low = le_z_yes tt; high = le_z_yes tt }

pub run_answers_the_optimum : RunAnswersTheOptimum
run_answers_the_optimum p kind l list s h =
    let r = reached p kind l s list h in
    let t = r.1.trace in
    let b = blocks_of p in
    let most = (rooms_of l).records in
    let x = best (items_in p) p.page in
    let o = best_is_optimum (items_in p) p.page in
    let e = empty_means_optimal b i64_min most s r.1.list lowest t r.1.empty x o in
    record {
      empty = r.1.empty;
      picks = picks_are_few b i64_min most s r.1.list lowest t;
      optimum = x;
      is_optimum = o;
      best = e.best;
      small = subst (λ (n : ℕ). n ≤ 64000000) o.earned.earns (earns_at_most p r.0 o.earned.selection);
      few = (let h = r.0.passes2 in omega arith);
      held = e.held (lt_z_yes tt);
      selection = e.selection (e.held (lt_z_yes tt));
    }
