-- The bytes of a query's record that are its path: the first `depth`, of which it has 64. What is told of the request and the bytes that are passed on is told of what the query asks.
use mathlib.Core.Path.{◌≡◌, refl, sym, ap, subst, ◌∙◌}
use mathlib.Core.Bool.{Bool, cond}
use mathlib.Core.List.{List}
use Prim.Native.Nat.{ℕ}
use native.Mathlib.Omega.{arith}
use lib.Dec.{ltb}
use lib.ListN.{length, take}
use lib.Seq.{take_all}
use borrow.Author.Tests.{ltb-true}
use Rattle.knapsack.proofs.Cases.{by_test}
use Rattle.calls.specs.Compile.{Lent, compile}
use Rattle.compile.specs.declared.Request.{Request}
use Rattle.std.specs.Prelude.{Result}
use Rattle.compile.specs.declared.Compiled.{Compiled}
use Rattle.compile.specs.Asked.{request_of}
use Rattle.compile.specs.Answered.{Answers}
use Rattle.query.specs.declared.Query.{Query}
use Rattle.query.specs.Queried.{request_in, path_length, path_in, asked_by}

path_taken : (q : Query) → length q.root.path ≡ 64 → take (path_length q) q.root.path ≡ path_in q
path_taken q l =
    let p = q.root.path in
    let d = q.root.depth in
    by_test (λ (b : Bool). take (cond b 64 d) p ≡ take d p) (ltb 64 d) (λ h. take_all 64 p (omega (arith, l)) ∙ sym (take_all d p (omega (arith, l, ltb-true 64 d h)))) (λ h. refl)

pub answers_asked : (q : Query) (r : Request) (k : ℕ) → r ≡ request_in q → k ≡ path_length q → length q.root.path ≡ 64 → (ws ps : List ℕ) (l : Lent) (a : Result Compiled ℕ) (ns es rs : List ℕ) → Answers (compile (request_of ws ps r (take k q.root.path)) l) a ns es rs → Answers (compile (asked_by ws ps q) l) a ns es rs
answers_asked q r k request-is length-is long ws ps l a ns es rs h =
    let path_is : take k q.root.path ≡ path_in q = ap (λ (n : ℕ). take n q.root.path) length-is ∙ path_taken q long in
    subst (λ (x : Request). Answers (compile (request_of ws ps x (path_in q)) l) a ns es rs) request-is
    (subst (λ (p : List ℕ). Answers (compile (request_of ws ps r p) l) a ns es rs) path_is h)
