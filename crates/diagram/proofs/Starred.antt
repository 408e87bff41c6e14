-- The starred cases hold: computed from the definitions.
use mathlib.Core.Path.{refl}
use Rattle.diagram.specs.Starred.{Starred, cases}
use Rattle.diagram.proofs.Computing.{computing}

pub starred : Starred
unfolding computing cases
starred = refl
