-- `twin_of` meets its contract. The loop: one row more that has another capacity.
use mathlib.Core.Path.{refl}
use Rattle.squash.proofs.Changing.{place_mem}
use Rattle.squash.proofs.Scanning.{passed_one, found_none, found_at}
use Rattle.squash.proofs.twin_of.Goals as goal

pub read_capacity-requires : goal.read_capacity-requires
read_capacity-requires c = c.requires.inside _ (place_mem _ _ c.loop-r-test.true)

pub loop-r-preserved : goal.loop-r-preserved
loop-r-preserved c = passed_one _ _ _ _ c.loop-r.invariant (record { 0 = _ }) _ c.loop-r-test.true refl c.read_capacity.ensures c.if-read_capacity-capacity.false

pub returns-then-read_capacity-capacity : goal.returns-then-read_capacity-capacity
returns-then-read_capacity-capacity c = found_at _ _ _ _ c.loop-r.invariant _ _ c.loop-r-test.true refl c.read_capacity.ensures c.if-read_capacity-capacity.true

pub returns : goal.returns
returns c = found_none _ _ _ _ c.loop-r-test.false c.loop-r.invariant
