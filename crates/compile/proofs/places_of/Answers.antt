-- `places_of` meets its contract: the path is copied, and the 0s behind it stay.
use Rattle.compile.proofs.Values.{all_copied}
use Rattle.compile.proofs.places_of.Goals as goal

pub returns : goal.returns
returns c = all_copied _ _ c.copy_from_slice.ensures.after
