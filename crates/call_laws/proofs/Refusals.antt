-- Compile's refusals are document 01's table, 1 to 13: a number is given exactly if its row is the first that applies, and none exactly if none does.
use mathlib.Core.Path.{◌≡◌, refl, sym, ap, subst, ◌∙◌}
use mathlib.Core.List.{◌++◌}
use mathlib.Core.Logic.{◌⊎◌, inl, inr, ◌≢◌}
use mathlib.Core.Option.{none, some}
use Prim.Native.Nat.{ℕ, ◌≤◌, ◌<◌}
use native.Mathlib.Omega.{arith}
use lib.ListN.{length}
use Rattle.diagram.specs.Tables.{Diagram}
use Rattle.diagram.specs.Run.{Mode, exactly, restricted, relaxing, Run, going, stopped}
use Rattle.diagram.specs.After4.{CutsetKind}
use Rattle.diagram.specs.After6.{Outcome, drained, Answer as Ran, refused as stopped_at, finished, finish, run}
use Rattle.theorems.proofs.Ten.{never_ten}
use Rattle.theorems.proofs.Fits.{Stop, ten, eleven, twelve, FitRun, refusal, outcome_is, run_fits}
use Rattle.calls.specs.Asked.{items_of, record_of}
use Rattle.calls.specs.Refusals.{compile_refusal}
use Rattle.calls.specs.Compile.{Request, Lent, Rooms, rooms_of, Compiled, Answer, refused, compiled, Effect, effect, settings_of, run_of, after, compile}
use Rattle.calls.specs.RunRows.{Row10, Row11, Row12, Row13}
use Rattle.calls.specs.Table.{problem_rows, record_rows, run_rows, compile_rows, First, here, later, Clear, end, past}
use Rattle.calls.proofs.Rows.{first_in_front, first_behind, clear_both, Between, first_between, Told, told_number, told_clear, told_exactly, told_none}
use Rattle.calls.proofs.Refusals.{refused_exactly, accepted_exactly}
use Rattle.call_laws.specs.Statements.{RefusedExactly, CompiledExactly, RunStops, CompileNumbers, Never14Or15, TenIsExact}
use Rattle.call_laws.proofs.Accepted.{accepted}
use Rattle.call_laws.proofs.View.{View, early, halted, overfull, done, view}

-- ---- a run stops with 10, 11 or 12

stop_of_lem : (n : ℕ) (d : Diagram) (a b : ℕ) (x : Ran) → FitRun a b x → x ≡ stopped_at n d → Stop n
stop_of_lem n d a b x (refusal {n = k} s f) e = let q : k ≡ n = cc in subst (λ (i : ℕ). Stop i) q s
stop_of_lem n d a b x (outcome_is f) e = let z : ◌≡◌ {A = ℕ} 0 1 = cc in absurd (omega arith)

pub run_stop : (q : Request) (m : Rooms) (n : ℕ) (d : Diagram) → run_of q m ≡ stopped_at n d → Stop n
unfolding run_of
run_stop q m n d e = stop_of_lem n d _ _ (run_of q m) (run_fits (settings_of q m) q.kind (items_of q.problem.weights q.problem.profits) (record_of q.given)) e

which : {n : ℕ} → Stop n → (n ≡ 10) ⊎ ((n ≡ 11) ⊎ (n ≡ 12))
which ten = inl refl
which eleven = inr (inl refl)
which twelve = inr (inr refl)

pub run_stops : RunStops
run_stops q l n d e = which (run_stop q (rooms_of l) n d e)

-- ---- the rows 10 to 13 of a run

-- a run that stopped with k meets no row of another number
other_stop : (q : Request) (m : Rooms) (n k : ℕ) (d : Diagram) → run_of q m ≡ stopped_at k d → n ≢ k → ¬ ((e : Diagram) × (run_of q m ≡ stopped_at n e))
other_stop q m n k d e h z = let w = z.1 in let y : n ≡ k = cc in h y

pub finished_stop : (q : Request) (m : Rooms) (n : ℕ) (o : Outcome) → run_of q m ≡ finished o → ¬ ((e : Diagram) × (run_of q m ≡ stopped_at n e))
finished_stop q m n o e z = let w = z.1 in let y : ◌≡◌ {A = ℕ} 0 1 = cc in omega arith

pub stop_row : (q : Request) (m : Rooms) (d : Diagram) {n : ℕ} → Stop n → run_of q m ≡ stopped_at n d → First (run_rows q m) n
stop_row q m d ten e = let s : Row10 q m = (d, e) in here s
stop_row q m d eleven e = let s : Row11 q m = (d, e) in later (other_stop q m 10 11 d e (λ z. omega arith)) (here s)
stop_row q m d twelve e =
    let s : Row12 q m = (d, e) in
    later (other_stop q m 10 12 d e (λ z. omega arith)) (later (other_stop q m 11 12 d e (λ z. omega arith)) (here s))

pub drained_row : (q : Request) (m : Rooms) (o : Outcome) → run_of q m ≡ finished o → m.records < length (drained q.given.path o) → First (run_rows q m) 13
drained_row q m o e h =
    let s : Row13 q m = (o, e, h) in
    later (finished_stop q m 10 o e) (later (finished_stop q m 11 o e) (later (finished_stop q m 12 o e) (here s)))

pub same_outcome : (q : Request) (m : Rooms) (o p : Outcome) → run_of q m ≡ finished o → run_of q m ≡ finished p → p ≡ o
same_outcome q m o p e f = cc

room_left : (q : Request) (m : Rooms) (o : Outcome) → run_of q m ≡ finished o → length (drained q.given.path o) ≤ m.records → ¬ Row13 q m
room_left q m o e h z =
    let s = same_outcome q m o z.0 e z.1 in
    let k : m.records < length (drained q.given.path o) = rw (← s) z.2 in
    omega arith

pub done_rows : (q : Request) (m : Rooms) (o : Outcome) → run_of q m ≡ finished o → length (drained q.given.path o) ≤ m.records → Clear (run_rows q m)
done_rows q m o e h = past (finished_stop q m 10 o e) (past (finished_stop q m 11 o e) (past (finished_stop q m 12 o e) (past (room_left q m o e h) end)))

-- ---- the whole table

clear_nine : (q : Request) → compile_refusal q.problem q.given ≡ none → Clear (problem_rows q.problem ++ record_rows q.problem q.given)
clear_nine q e = (accepted_exactly q.problem q.given).0 e

no_number : (c : Compiled) (n : ℕ) → compiled c ≢ refused n
no_number c n e = let z : ◌≡◌ {A = ℕ} 0 1 = cc in omega arith

answer_told : (q : Request) (m : Rooms) {x : Effect} → View q m x → Told refused (compile_rows q m) x.answer
unfolding effect
answer_told q m (early n e) = told_number (first_in_front (run_rows q m) ((refused_exactly q.problem q.given n).0 e))
answer_told q m (halted n d e f) = told_number (first_behind (clear_nine q e) (stop_row q m d (run_stop q m n d f) f))
answer_told q m (overfull o e f h) = told_number (first_behind (clear_nine q e) (drained_row q m o f h))
answer_told q m (done o e f h) = told_clear (no_number _) (clear_both (clear_nine q e) (done_rows q m o f h))

compile_told : (q : Request) (l : Lent) → Told refused (compile_rows q (rooms_of l)) (compile q l).answer
unfolding compile after
compile_told q l = answer_told q (rooms_of l) (view q (rooms_of l))

pub refused_exactly_by_table : RefusedExactly
refused_exactly_by_table q l n = told_exactly (λ i j e. cc) (compile_told q l) n

-- an answer is a number or compiled
compiled_or : (a : Answer) → ((n : ℕ) → a ≢ refused n) → (c : Compiled) × (a ≡ compiled c)
compiled_or (refused n) h = absurd (h n refl)
compiled_or (compiled c) h = (c, refl)

pub compiled_exactly_if_clear : CompiledExactly
compiled_exactly_if_clear q l =
    let t = told_none (compile_told q l) in
    ((λ c e. t.0 (λ n f. no_number c n (sym e ∙ f))), (λ d. compiled_or (compile q l).answer (t.1 d)))

-- ---- which numbers

numbers_1_to_9 : (q : Request) → Between 1 9 (problem_rows q.problem ++ record_rows q.problem q.given)
numbers_1_to_9 q = omega arith

numbers_1_to_13 : (q : Request) (m : Rooms) → Between 1 13 (compile_rows q m)
numbers_1_to_13 q m = omega arith

pub compile_numbers : CompileNumbers
compile_numbers q l n e = first_between 1 13 (numbers_1_to_13 q (rooms_of l)) ((refused_exactly_by_table q l n).0 e)

pub never_14_or_15 : Never14Or15
never_14_or_15 q l = ((λ e. omega (arith, compile_numbers q l 14 e)), (λ e. omega (arith, compile_numbers q l 15 e)))

-- a refusal of the first nine rows has a number of 1 to 9
pub early_number : (q : Request) (n : ℕ) → compile_refusal q.problem q.given ≡ some n → (1 ≤ n) × (n ≤ 9)
early_number q n e = first_between 1 9 (numbers_1_to_9 q) ((refused_exactly q.problem q.given n).0 e)

-- ---- 10 in exact mode alone

grown_stop : (m : Mode) (k : CutsetKind) (n : ℕ) (d : Diagram) (x : Run) → finish m k x ≡ stopped_at n d → x ≡ stopped n d
unfolding finish
grown_stop m k n d (going e) q = let z : ◌≡◌ {A = ℕ} 0 1 = cc in absurd (omega arith)
grown_stop m k n d (stopped i e) q = let a : i ≡ n = cc in let b : e ≡ d = cc in cc

pub not_ten : (q : Request) (m : Rooms) (d : Diagram) → compile_refusal q.problem q.given ≡ none → run_of q m ≡ stopped_at 10 d → q.mode ≢ exactly → ⊥
unfolding run_of settings_of run
not_ten q m d c e h = never_ten (settings_of q m) (items_of q.problem.weights q.problem.profits) (record_of q.given) d h (accepted q.problem q.given c).narrow (grown_stop q.mode q.kind 10 d _ e)

is_exact_lem : (x : Mode) → (x ≢ exactly → ⊥) → x ≡ exactly
is_exact_lem exactly h = refl
is_exact_lem restricted h = absurd (h (λ e. let z : ◌≡◌ {A = ℕ} 0 1 = cc in omega arith))
is_exact_lem relaxing h = absurd (h (λ e. let z : ◌≡◌ {A = ℕ} 0 1 = cc in omega arith))

ten_view : (q : Request) (m : Rooms) {x : Effect} → View q m x → x.answer ≡ refused 10 → q.mode ≡ exactly
unfolding effect
ten_view q m (early n e) a = let z : n ≡ 10 = cc in absurd (omega (arith, early_number q n e))
ten_view q m (halted n d e f) a =
    let z : n ≡ 10 = cc in
    is_exact_lem q.mode (not_ten q m d e (f ∙ ap (λ (i : ℕ). stopped_at i d) z))
ten_view q m (overfull o e f h) a = let z : ◌≡◌ {A = ℕ} 13 10 = cc in absurd (omega arith)
ten_view q m (done o e f h) a = let z : ◌≡◌ {A = ℕ} 0 1 = cc in absurd (omega arith)

pub ten_is_exact : TenIsExact
unfolding compile after
ten_is_exact q l e = ten_view q (rooms_of l) (view q (rooms_of l)) e
