-- Reading a call's answer: an accepted one is a compiled answer of the definition, field by field, and that of a finished compile.
use mathlib.Core.Path.{◌≡◌, refl, ap, sym, ◌∙◌}
use mathlib.Core.Option.{Option, none, some}
use Rattle.std.specs.Prelude.{Result, Ok, Err, Some, None}
use Prim.Native.Nat.{ℕ}
use lib.IntN.{ℤ}
use Rattle.calls.specs.Compile as Def
use Rattle.calls.specs.Compile.{Compiled, refused, compiled, compile}
use Rattle.finalize.specs.Ended.{value_from}
use Rattle.compile.specs.declared.Compiled as Code
use Rattle.compile.specs.Answered.{compiled_from, answer_from}
use Rattle.demand2.specs.Statements.{Shows}
use Rattle.demand2.proofs.Frames.{answers_are_finished}
use Rattle.corollaries.specs.Called.{Called, asked, IsAccepted}

-- the compiled answer that an accepted call's answer stands for
pub record Read (c : Called) (a : Code.Compiled) : Type 0 where
  pub compiled_as : Compiled
  pub is_compiled_lem : (compile (asked c) c.before).answer ≡ compiled compiled_as
  pub answer_is : a ≡ compiled_from compiled_as

pub read : (c : Called) (a : Code.Compiled) → IsAccepted c a → Read c a
read c a e = go (compile (asked c) c.before).answer refl
  where
    go : (x : Def.Answer) → (compile (asked c) c.before).answer ≡ x → Read c a
    go (refused n) h =
        let z : ◌≡◌ {A = Result Code.Compiled ℕ} (Ok a) (Err n) = sym e ∙ c.promised.answer_is ∙ ap answer_from h in
        absurd cc
    go (compiled d) h =
        let z : ◌≡◌ {A = Result Code.Compiled ℕ} (Ok a) (Ok (compiled_from d)) = sym e ∙ c.promised.answer_is ∙ ap answer_from h in
        record { compiled_as = d; is_compiled_lem = h; answer_is = cc }

-- and the finished compile behind it, with its drained records
pub shown : (c : Called) (a : Code.Compiled) (r : Read c a) → Shows (asked c) c.before r.compiled_as
shown c a r = answers_are_finished (asked c) c.before r.compiled_as c.lower_is_i64 r.is_compiled_lem

-- ---- a value or none

value_in : (o : Option ℤ) (x : ℤ) → value_from o ≡ Some x → o ≡ some x
value_in none x e = absurd cc
value_in (some z) x e = let y : z ≡ x = cc in ap some y

missing_in : (o : Option ℤ) → value_from o ≡ None → o ≡ none
missing_in none e = refl
missing_in (some z) e = absurd cc

module _ (c : Called) (a : Code.Compiled) (r : Read c a) where
  pub best_of : (x : ℤ) → a.best ≡ Some x → r.compiled_as.best ≡ some x
  best_of x e = value_in _ x (sym (ap (λ (x : Code.Compiled). x.best) r.answer_is) ∙ e)

  pub no_best : a.best ≡ None → r.compiled_as.best ≡ none
  no_best e = missing_in _ (sym (ap (λ (x : Code.Compiled). x.best) r.answer_is) ∙ e)

  pub best_exact_of : (x : ℤ) → a.best_exact ≡ Some x → r.compiled_as.best_exact ≡ some x
  best_exact_of x e = value_in _ x (sym (ap (λ (x : Code.Compiled). x.best_exact) r.answer_is) ∙ e)

  pub best_as : (o : Option ℤ) → r.compiled_as.best ≡ o → a.best ≡ value_from o
  best_as o e = ap (λ (x : Code.Compiled). x.best) r.answer_is ∙ ap value_from e

  pub best_exact_as : (o : Option ℤ) → r.compiled_as.best_exact ≡ o → a.best_exact ≡ value_from o
  best_exact_as o e = ap (λ (x : Code.Compiled). x.best_exact) r.answer_is ∙ ap value_from e
