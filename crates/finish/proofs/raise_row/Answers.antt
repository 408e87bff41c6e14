-- `finish::raise_row` meets its contract: a law of proofs/Raising for each of its two ways out.
use Rattle.finish.proofs.Raising.{newest_of}
use Rattle.finish.proofs.raise_row.Goals as goal

pub raise_parents-requires : goal.raise_parents-requires
raise_parents-requires c = newest_of _ _ _ _ c.requires c.read_node-n.ensures
