-- `finalize::path_of` meets its contract: a law of proofs/Told for each of its two ways out.
use Rattle.finalize.proofs.Told.{no_path}
use Rattle.finalize.proofs.path_of.Goals as goal

pub returns-in_default : goal.returns-in_default
returns-in_default c = no_path _ _ _ _ c.in_default.is
