-- `restrict` meets its contract. The loop: each row behind the first places is flagged.
use mathlib.Core.Path.{refl}
use native.Mathlib.Omega.{arith}
use Rattle.squash.proofs.Changing.{place_mem}
use Rattle.squash.proofs.Deleting.{deleting_one, deleting_done}
use Rattle.squash.proofs.restrict.Goals as goal

pub set_deleted-requires : goal.set_deleted-requires
set_deleted-requires c = omega (arith, c.requires.inside _ (place_mem _ _ c.loop-i-test.true), c.loop-i.auto.nodes)

pub loop-i-preserved : goal.loop-i-preserved
loop-i-preserved c = deleting_one _ _ _ _ _ _ _ c.loop-i-test.true refl c.set_deleted.ensures c.loop-i.invariant

pub returns : goal.returns
returns c = deleting_done _ _ _ _ _ c.loop-i-test.false c.loop-i.invariant
