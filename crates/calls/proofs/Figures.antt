-- The figures of `compile` hold: computed from the definitions.
use mathlib.Core.Path.{refl}
use Rattle.calls.specs.Figures.{old, calls, Calls, is_compiled, passing, Passing, refusing, Refusing}
use Rattle.calls.proofs.Computing.{computing}

pub calls_right : Calls
unfolding computing old calls
calls_right = refl

pub passing_right : Passing
unfolding computing old is_compiled passing
passing_right = refl

pub refusing_right : Refusing
unfolding computing old refusing
refusing_right = refl
