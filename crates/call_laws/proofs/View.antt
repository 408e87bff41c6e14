-- The four ways that a compile can go: refused by 1 to 9, a run that stopped, a run that drains more than the list holds, an accepted one.
use mathlib.Core.Path.{◌≡◌, refl, ap}
use mathlib.Core.Bool.{Bool, true, false}
use mathlib.Core.List.{[]}
use mathlib.Core.Option.{Option, none, some}
use Prim.Native.Nat.{ℕ, ◌≤◌, ◌<◌}
use native.Mathlib.Omega.{arith}
use lib.Dec.{leb}
use lib.ListN.{length}
use borrow.Author.Tests.{leb-true, leb-false}
use Rattle.diagram.specs.Tables.{Diagram}
use Rattle.diagram.specs.After6.{Outcome, drained, Answer as Ran, refused as stopped_at, finished}
use Rattle.calls.specs.Refusals.{compile_refusal}
use Rattle.calls.specs.Compile.{Request, Rooms, refused, compiled, compiled_of, Effect, effect, drain_into, effect_of, unless, compile_effect, run_of}

-- the effect of a request in rooms m, one of four
pub data View (q : Request) (m : Rooms) : Effect → Type 0 where
  early : (n : ℕ) → compile_refusal q.problem q.given ≡ some n → View q m (record { answer = refused n; nodes = []; edges = []; drained = [] })
  halted : (n : ℕ) (d : Diagram) → compile_refusal q.problem q.given ≡ none → run_of q m ≡ stopped_at n d → View q m (effect (refused n) d [])
  overfull : (o : Outcome) → compile_refusal q.problem q.given ≡ none → run_of q m ≡ finished o → m.records < length (drained q.given.path o) → View q m (effect (refused 13) o.diagram [])
  done : (o : Outcome) → compile_refusal q.problem q.given ≡ none → run_of q m ≡ finished o → length (drained q.given.path o) ≤ m.records → View q m (effect (compiled (compiled_of q.given.path o)) o.diagram (drained q.given.path o))

drain_view : (q : Request) (m : Rooms) (o : Outcome) (b : Bool) → compile_refusal q.problem q.given ≡ none → run_of q m ≡ finished o → leb (length (drained q.given.path o)) m.records ≡ b → View q m (drain_into b q.given.path o)
unfolding drain_into
drain_view q m o true c e t = done o c e (leb-true (length (drained q.given.path o)) m.records t)
drain_view q m o false c e t = overfull o c e (leb-false (length (drained q.given.path o)) m.records t)

run_view : (q : Request) (m : Rooms) (x : Ran) → compile_refusal q.problem q.given ≡ none → run_of q m ≡ x → View q m (effect_of q.given.path m.records x)
unfolding effect_of
run_view q m (stopped_at n d) c e = halted n d c e
run_view q m (finished o) c e = drain_view q m o _ c e refl

whole_view : (q : Request) (m : Rooms) (c : Option ℕ) → compile_refusal q.problem q.given ≡ c → View q m (unless c (effect_of q.given.path m.records (run_of q m)))
unfolding unless
whole_view q m (some n) e = early n e
whole_view q m none e = run_view q m (run_of q m) e refl

pub view : (q : Request) (m : Rooms) → View q m (compile_effect q m)
unfolding compile_effect
view q m = whole_view q m (compile_refusal q.problem q.given) refl

-- An accepted request whose run finishes and drains no more than the list holds.
pub done_effect : (q : Request) (m : Rooms) (o : Outcome) → compile_refusal q.problem q.given ≡ none → run_of q m ≡ finished o → length (drained q.given.path o) ≤ m.records → compile_effect q m ≡ effect (compiled (compiled_of q.given.path o)) o.diagram (drained q.given.path o)
done_effect q m o c e h = same (compile_effect q m) (view q m)
  where
    same : (x : Effect) → View q m x → x ≡ effect (compiled (compiled_of q.given.path o)) o.diagram (drained q.given.path o)
    same x (early n f) = let z : ◌≡◌ {A = ℕ} 0 1 = cc in absurd (omega arith)
    same x (halted n d f g) = let z : ◌≡◌ {A = ℕ} 0 1 = cc in absurd (omega arith)
    same x (overfull p f g k) = let z : p ≡ o = cc in let w : length (drained q.given.path p) ≤ m.records = rw z h in absurd (omega arith)
    same x (done p f g k) = let z : p ≡ o = cc in ap (λ (u : Outcome). effect (compiled (compiled_of q.given.path u)) u.diagram (drained q.given.path u)) z
