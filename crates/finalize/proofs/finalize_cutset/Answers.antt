-- `finalize::finalize_cutset` meets its contract: a law of proofs/Cut for each of its three ways out.
use Rattle.finalize.proofs.Cut.{flag_asked, read_asked}
use Rattle.finalize.proofs.finalize_cutset.Goals as goal

pub flag_cutset-requires : goal.flag_cutset-requires
flag_cutset-requires c = flag_asked _ _ _ _ _ _ _ _ c.requires

pub read_value-requires : goal.read_value-requires
read_value-requires c = read_asked _ _ _ _ _ _ _ _ _ c.in-Some.is c.requires
