-- The whole call: refused before anything is written, or run; in both cases the answer and the tables are the definition's.
use mathlib.Core.Path.{◌≡◌, refl, ap, sym, subst, ◌∙◌}
use mathlib.Core.List.{List}
use mathlib.Core.Option.{Option, none, some}
use Prim.Native.Nat.{ℕ}
use native.Mathlib.Omega.{arith}
use lib.IntN.{ℤ}
use Rattle.layout.specs.Table.{over}
use Rattle.layout.proofs.Records.{over_none}
use Rattle.calls.specs.Refusals.{compile_refusal}
use Rattle.calls.specs.Compile.{Request, Rooms, Effect, compile, compile_effect, after, unless, rooms_of}
use Rattle.std.specs.Prelude.{Result, Err}
use Rattle.compile.specs.declared.Request as Asked
use Rattle.compile.specs.declared.Compiled.{Compiled}
use Rattle.compile.specs.Asked.{problem_of, given_of, lent_of}
use Rattle.compile.specs.Answered.{ran_effect, Effected, Answers}

-- an effect over what the tables held is what is after the call
answers_of : (q : Request) (ns es rs : List ℕ) (a : Result Compiled ℕ) (ns' es' rs' : List ℕ) → Effected (compile_effect q (rooms_of (lent_of ns es rs))) ns es rs a ns' es' rs' → Answers (compile q (lent_of ns es rs)) a ns' es' rs'
unfolding compile after
answers_of q ns es rs a ns' es' rs' e = record { answer_is = e.answer_is; nodes_are = e.nodes_are; edges_are = e.edges_are; records_are = e.records_are }

whole : (q : Request) (m : Rooms) (ns es rs : List ℕ) (a : Result Compiled ℕ) (ns' es' rs' : List ℕ) → Effected (unless (compile_refusal q.problem q.given) (ran_effect q m)) ns es rs a ns' es' rs' → Effected (compile_effect q m) ns es rs a ns' es' rs'
unfolding compile_effect
whole q m ns es rs a ns' es' rs' e = e

pub refused_first : (q : Request) (ns es rs : List ℕ) (n : ℕ) (a : Result Compiled ℕ) → some n ≡ compile_refusal q.problem q.given → a ≡ Err n → Answers (compile q (lent_of ns es rs)) a ns es rs
unfolding unless over
refused_first q ns es rs n a e z = answers_of q ns es rs a ns es rs (whole q _ ns es rs a ns es rs (go (compile_refusal q.problem q.given) (ran_effect q (rooms_of (lent_of ns es rs))) e))
  where
    go : (x : Option ℕ) (r : Effect) → some n ≡ x → Effected (unless x r) ns es rs a ns es rs
    go none r h = let y : ◌≡◌ {A = ℕ} 0 1 = cc in absurd (omega arith)
    go (some m) r h = let y : n ≡ m = cc in record { answer_is = z ∙ ap (λ (m : ℕ). Err m) y; nodes_are = refl; edges_are = refl; records_are = sym (over_none rs) }

pub run_after : (q : Request) (ns es rs : List ℕ) (a : Result Compiled ℕ) (ns' es' rs' : List ℕ) → none ≡ compile_refusal q.problem q.given → Effected (ran_effect q (rooms_of (lent_of ns es rs))) ns es rs a ns' es' rs' → Answers (compile q (lent_of ns es rs)) a ns' es' rs'
unfolding unless
run_after q ns es rs a ns' es' rs' e w = answers_of q ns es rs a ns' es' rs' (whole q _ ns es rs a ns' es' rs' (go (compile_refusal q.problem q.given) (ran_effect q (rooms_of (lent_of ns es rs))) e w))
  where
    go : (x : Option ℕ) (r : Effect) → none ≡ x → Effected r ns es rs a ns' es' rs' → Effected (unless x r) ns es rs a ns' es' rs'
    go none r h v = v
    go (some m) r h v = let y : ◌≡◌ {A = ℕ} 0 1 = cc in absurd (omega arith)

-- what the check of refusals 1 to 9 told. The value comes to it as bits, whose number z it is.
pub told : (ws ps : List ℕ) (q : Asked.Request) (path : List ℕ) (n : Option ℕ) (z : ℤ) → z ≡ q.value → ((bound : ℤ) → n ≡ compile_refusal (problem_of ws ps q) (record { capacity = q.capacity; value = z; bound = bound; depth = q.depth; path = path })) → n ≡ compile_refusal (problem_of ws ps q) (given_of q path)
told ws ps q path n z e h = subst (λ (x : ℤ). n ≡ compile_refusal (problem_of ws ps q) (record { capacity = q.capacity; value = x; bound = q.bound; depth = q.depth; path = path })) e (h q.bound)
