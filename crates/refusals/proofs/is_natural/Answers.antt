-- `refusals::is_natural` meets its contract: an i64 is a number of u64 exactly if it is none below 0.
use mir.Syntax.{w64}
use mir.ValLaws.{to_z-of_z}
use Rattle.refusals.proofs.Sums.{natural_is, natural_none}
use Rattle.refusals.proofs.is_natural.Goals as goal

pub returns-in-Ok : goal.returns-in-Ok
returns-in-Ok c = let h = rw (to_z-of_z w64 c.args.value c.ranges.value) at c.in-Ok.ensures in
    natural_is _ _ _ h.0 h.1

pub returns-in-Err : goal.returns-in-Err
returns-in-Err c = natural_none _ _ c.ranges.value (rw (to_z-of_z w64 c.args.value c.ranges.value) at c.in-Err.ensures)
