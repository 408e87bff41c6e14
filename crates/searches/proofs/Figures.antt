-- The figures of start and pick, computed from the definitions.
use mathlib.Core.Path.{refl}
use Rattle.searches.specs.Figures.{seen, Starts, CaseN, Refusals, Slips}
use Rattle.searches.proofs.Computing.{computing}

pub starts_right : Starts
unfolding computing
starts_right = (refl, refl, refl)

pub case_n_right : CaseN
unfolding computing seen
case_n_right = (refl, refl, refl)

pub refusals_right : Refusals
unfolding computing seen
refusals_right = (refl, refl, refl, refl, refl, refl, refl)

pub slips_right : Slips
unfolding computing seen
slips_right = (refl, refl, refl)
