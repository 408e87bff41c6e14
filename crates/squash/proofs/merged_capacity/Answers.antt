-- `merged_capacity` meets its contract. The loop: one row's capacity more.
use mathlib.Core.Path.{refl}
use Rattle.squash.proofs.Changing.{place_mem}
use Rattle.squash.proofs.Scanning.{most_one, most_all}
use Rattle.squash.proofs.merged_capacity.Goals as goal

pub read_capacity-requires : goal.read_capacity-requires
read_capacity-requires c = c.requires.inside _ (place_mem _ _ c.loop-r-test.true)

pub loop-r-preserved : goal.loop-r-preserved
loop-r-preserved c = rw c.max-most.ensures (most_one _ _ _ _ _ _ c.loop-r-test.true refl c.read_capacity.ensures c.loop-r.invariant)

pub returns : goal.returns
returns c = most_all _ _ _ _ c.loop-r-test.false c.loop-r.invariant
