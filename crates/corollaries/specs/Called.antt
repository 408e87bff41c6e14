-- A call of `compile` that has come back: what it was given and lent, what it answered and left, and that this is as it promises.
use Rattle.std.specs.Prelude.{◌≡◌, List, ℕ, Result, Ok}
use Rattle.words.specs.I64.{InI64}
use Rattle.calls.specs.Asked.{Problem, Given}
use Rattle.calls.specs.Compile as Def
use Rattle.calls.specs.Compile.{Lent, compile}
use Rattle.compile.specs.declared.Request.{Request}
use Rattle.compile.specs.declared.Compiled.{Compiled}
use Rattle.compile.specs.Asked.{problem_of, given_of, request_of}
use Rattle.compile.specs.Answered.{Answers}

-- The lower bound is an i64, as its type says; a refusal is its number, as `numbered` has it; `promised` is what `compile` ensures.
pub record Called : Type 0 where
  pub weights : List ℕ
  pub profits : List ℕ
  pub request : Request
  pub path : List ℕ
  pub lower_is_i64 : InI64 request.lower
  pub before : Lent
  pub answer : Result Compiled ℕ
  pub after : Lent
  pub promised : Answers (compile (request_of weights profits request path) before) answer after.nodes after.edges after.records

abbrev pub asked : Called → Def.Request
asked c = request_of c.weights c.profits c.request c.path

abbrev pub problem : Called → Problem
problem c = problem_of c.weights c.profits c.request

abbrev pub given : Called → Given
given c = given_of c.request c.path

-- the call was accepted, and answered that
abbrev pub IsAccepted : Called → Compiled → Type 0
IsAccepted c a = c.answer ≡ Ok a
