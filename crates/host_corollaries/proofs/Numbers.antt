-- A host's call returns 0 exactly if it is accepted: each way to be refused has a number above 0.
use mathlib.Core.Path.{◌≡◌, refl, subst}
use mathlib.Core.Bool.{Bool, true, false}
use mathlib.Core.List.{List, [], ◌∷◌}
use mathlib.Core.Option.{Option, none, some}
use Prim.Native.Nat.{ℕ, zero, suc, ◌≤◌}
use native.Mathlib.Omega.{arith}
use lib.Dec.{eqb}
use lib.IntN.{ℤ}
use lib.ListN.{length}
use Rattle.knapsack.proofs.Cases.{by_test}
use Rattle.words.specs.I64.{i64_min}
use Rattle.diagram.specs.After4.{CutsetKind}
use Rattle.calls.specs.Asked.{Problem}
use Rattle.calls.specs.Refusals.{Check, first_of, problem_checks, record_checks}
use Rattle.calls.specs.Compile as Call
use Rattle.calls.specs.Compile.{Request, Lent, Compiled, refused, compiled, after, compile}
use Rattle.call_laws.proofs.Refusals.{compile_numbers}
use Rattle.compile.specs.Answered.{answer_from}
use Rattle.searches.specs.Places.{Place}
use Rattle.searches.specs.Search.{Search}
use Rattle.searches.specs.Start as Start
use Rattle.searches.specs.Start.{started, start_refusal, unless, start}
use Rattle.searches.specs.Pick as Pick
use Rattle.searches.specs.Pick.{refused_by, accepted, pick_check, pick_refusal, refusing, accepting, pick}
use Rattle.searches.specs.Rows.{request_of}
use Rattle.search.specs.Answered.{started_from, picked_from}
use Rattle.demand3.proofs.Picks.{Went, early, halted, outgrown, dropped, grown, went}
use Rattle.jobs.specs.Text.{Job}
use Rattle.jobs.specs.Run as Run
use Rattle.jobs.specs.Run.{Ending, ended, asked_for, unless_refused, picking, all_turns, started_on, run_of, run}
use Rattle.border.specs.Border.{number_of, ending_number}
use Rattle.host_corollaries.specs.Numbers.{ZeroIsCompiled, ZeroIsStarted, ZeroIsPicked, ZeroIsAnswered}

-- ---- the first of some checks, each with a number above 0

abbrev Numbered : List Check → Type 0
Numbered [] = Unit {0}
Numbered (c ∷ cs) = (1 ≤ c.number) × Numbered cs

first_numbered : (cs : List Check) → Numbered cs → (n : ℕ) → first_of cs ≡ some n → 1 ≤ n
unfolding first_of
first_numbered [] h n e = let z : ◌≡◌ {A = ℕ} 0 1 = cc in absurd (omega arith)
first_numbered (c ∷ cs) h n e =
    by_test (λ (b : Bool). elim b [ true ↦ some c.number | false ↦ first_of cs ] ≡ some n → 1 ≤ n) c.applies
    (λ t f. let z : c.number ≡ n = cc in subst (λ (i : ℕ). 1 ≤ i) z h.0)
    (λ t f. first_numbered cs h.1 n f) e

-- ---- a refused compile

module _ (q : Request) (l : Lent) (n : ℕ) where
  zero_compiled : (x : Call.Answer) → (compile q l).answer ≡ x → n ≡ number_of (answer_from x)
      → (n ≡ 0 → (c : Compiled) × ((compile q l).answer ≡ compiled c)) × ((c : Compiled) → (compile q l).answer ≡ compiled c → n ≡ 0)
  zero_compiled (refused k) e m = ((λ z. absurd (omega (arith, m, z, (compile_numbers q l k e).0))), (λ c f. let z : ◌≡◌ {A = ℕ} 0 1 = cc in absurd (omega arith)))
  zero_compiled (compiled c) e m = ((λ z. (c, e)), (λ c f. m))

pub zero_is_compiled : ZeroIsCompiled
zero_is_compiled q l n found ns es rs h = zero_compiled q l n (compile q l).answer refl h.number_is

-- ---- a refused start

start_number : (p : Problem) (bound : ℤ) (list : List Place) (n : ℕ) → (start p bound list).answer ≡ Start.refused n → 1 ≤ n
unfolding start unless start_refusal problem_checks
start_number p bound list n e = by_refusal (start_refusal p (length list)) refl e
  where
    by_refusal : (o : Option ℕ) → start_refusal p (length list) ≡ o → (unless o p bound list).answer ≡ Start.refused n → 1 ≤ n
    by_refusal (some k) r q = let z : k ≡ n = cc in subst (λ (i : ℕ). 1 ≤ i) z (first_numbered _ (omega arith) k r)
    by_refusal none r q = let z : ◌≡◌ {A = ℕ} 0 1 = cc in absurd (omega arith)

module _ (p : Problem) (bound : ℤ) (list : List Place) (n : ℕ) where
  zero_started : (x : Start.Started) → (start p bound list).answer ≡ x → n ≡ number_of (started_from x)
      → (n ≡ 0 → (t : Search) × ((start p bound list).answer ≡ started t)) × ((t : Search) → (start p bound list).answer ≡ started t → n ≡ 0)
  zero_started (Start.refused k) e m = ((λ z. absurd (omega (arith, m, z, start_number p bound list k e))), (λ t f. let z : ◌≡◌ {A = ℕ} 0 1 = cc in absurd (omega arith)))
  zero_started (started t) e m = ((λ z. (t, e)), (λ t f. m))

pub zero_is_started : ZeroIsStarted
zero_is_started p bound l n old s list h = zero_started p bound l n (start p bound l).answer refl h.number_is

-- ---- a refused pick

went_number : (q : Pick.Asked) (t : Search) (h : Pick.Held) (n : ℕ) (r : Pick.After) → Went q t h r → r.answer ≡ refused_by n → 1 ≤ n
unfolding refusing accepting pick_refusal problem_checks record_checks pick_check compile after
went_number q t h n r (early k e) f = let z : k ≡ n = cc in subst (λ (i : ℕ). 1 ≤ i) z (first_numbered _ (omega arith) k e)
went_number q t h n r (halted k y e) f = let z : k ≡ n = cc in subst (λ (i : ℕ). 1 ≤ i) z (compile_numbers (request_of q t h) h.lent k e).0
went_number q t h n r (outgrown c y e o) f = let z : 13 ≡ n = cc in omega (arith, z)
went_number q t h n r (dropped y low) f = let z : ◌≡◌ {A = ℕ} 0 1 = cc in absurd (omega arith)
went_number q t h n r (grown c y e l) f = let z : ◌≡◌ {A = ℕ} 0 1 = cc in absurd (omega arith)

module _ (q : Pick.Asked) (t : Search) (h : Pick.Held) (n : ℕ) where
  zero_picked : (x : Pick.Picked) → (pick q t h).answer ≡ x → n ≡ number_of (picked_from x (pick q t h).search) → (n ≡ 0 → (pick q t h).answer ≡ accepted) × ((pick q t h).answer ≡ accepted → n ≡ 0)
  zero_picked (refused_by k) e m = ((λ z. absurd (omega (arith, m, z, went_number q t h k (pick q t h) (went q t h) e))), (λ f. let z : ◌≡◌ {A = ℕ} 0 1 = cc in absurd (omega arith)))
  zero_picked accepted e m = ((λ z. e), (λ f. m))

pub zero_is_picked : ZeroIsPicked
zero_is_picked q t h n old s ns es list scratch k = zero_picked q t h n (pick q t h).answer refl k.number_is

-- ---- a refused run of a job: by its start, or by one of its picks

unless_number : (q : Pick.Asked) (t : Search) (h : Pick.Held) (e : Ending) (n : ℕ) → (e ≡ Run.refused n → 1 ≤ n) → (x : Pick.Picked) → (pick q t h).answer ≡ x → unless_refused x e ≡ Run.refused n → 1 ≤ n
unfolding unless_refused
unless_number q t h e n others (refused_by k) a f = let z : k ≡ n = cc in subst (λ (i : ℕ). 1 ≤ i) z (went_number q t h k (pick q t h) (went q t h) a)
unless_number q t h e n others accepted a f = others f

picking_number : (turns : ℕ) (p : Problem) (kind : CutsetKind) (l : Lent) (t : Search) (list : List Place) (n : ℕ) → picking turns p kind l t list ≡ Run.refused n → 1 ≤ n
unfolding picking
picking_number zero p kind l t list n e = let z : ◌≡◌ {A = ℕ} 0 1 = cc in absurd (omega arith)
picking_number (suc turns) p kind l t list n e =
    let h : Pick.Held = record { list = list; lent = l } in
    let d = pick (asked_for p kind t list) t h in
    let rest = picking turns p kind l d.search d.held.list in
    by_test (λ (b : Bool). elim b [ true ↦ ended t | false ↦ unless_refused d.answer rest ] ≡ Run.refused n → 1 ≤ n) (eqb t.opened 0)
    (λ b f. let z : ◌≡◌ {A = ℕ} 0 1 = cc in absurd (omega arith))
    (λ b f. unless_number (asked_for p kind t list) t h rest n (picking_number turns p kind l d.search d.held.list n) d.answer refl f) e

started_number : (p : Problem) (kind : CutsetKind) (l : Lent) (list after_List : List Place) (n : ℕ) (x : Start.Started) → (start p i64_min list).answer ≡ x → started_on p kind l after_List x ≡ Run.refused n → 1 ≤ n
unfolding started_on
started_number p kind l list after_List n (Start.refused k) e f = let z : k ≡ n = cc in subst (λ (i : ℕ). 1 ≤ i) z (start_number p i64_min list k e)
started_number p kind l list after_List n (started t) e f = picking_number all_turns p kind l t after_List n f

run_number : (j : Job) (l : Lent) (list : List Place) (n : ℕ) → run j l list ≡ Run.refused n → 1 ≤ n
unfolding run run_of
run_number j l list n e = started_number (Run.problem_of j) j.kind l list _ n (start (Run.problem_of j) i64_min list).answer refl e

module _ (j : Job) (l : Lent) (list : List Place) (n : ℕ) where
  zero_answered : (x : Ending) → run j l list ≡ x → n ≡ ending_number x → (n ≡ 0 → (s : Search) × (run j l list ≡ ended s)) × ((s : Search) → run j l list ≡ ended s → n ≡ 0)
  zero_answered (Run.refused k) e m = ((λ z. absurd (omega (arith, m, z, run_number j l list k e))), (λ s f. let z : ◌≡◌ {A = ℕ} 0 1 = cc in absurd (omega arith)))
  zero_answered (ended s) e m = ((λ z. (s, e)), (λ t f. m))

pub zero_is_answered : ZeroIsAnswered
zero_is_answered text h after n page k j is = zero_answered j h.lent h.list n (run j h.lent h.list) refl (k.of_job j is).number_is
