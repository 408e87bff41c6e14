-- `squash` meets its contract: the rows in squash order, then the mode's squash.
use Rattle.squash.proofs.Layer.{placed_of}
use Rattle.grow.proofs.Squashing.{sortable, squashable_in_order, wide_restricted, wide_relaxed}
use Rattle.grow.proofs.squash.Goals as goal

pub by_squash-requires : goal.by_squash-requires
by_squash-requires c = sortable _ _ _ _ _ _ _ c.requires.0

pub relax-requires : goal.relax-requires
relax-requires c = (squashable_in_order _ _ _ _ _ _ _ c.requires.0 _ c.by_squash.auto.list c.by_squash.ensures, c.requires.1)

pub returns-then-relaxes-clause-does : goal.returns-then-relaxes-clause-does
returns-then-relaxes-clause-does c =
    wide_relaxed _ _ _ _ _ _ _ _ _ c.by_squash.ensures _ c.relaxes.ensures c.if-relaxes.true _ _ _ _ c.relax.ensures.does

pub restrict-requires : goal.restrict-requires
restrict-requires c =
    placed_of _ _ _ _ _ _ _ (squashable_in_order _ _ _ _ _ _ _ c.requires.0 _ c.by_squash.auto.list c.by_squash.ensures) _ (λ r m. m)

pub returns-clause-does : goal.returns-clause-does
returns-clause-does c = wide_restricted _ _ _ _ _ _ _ _ _ c.by_squash.ensures _ c.relaxes.ensures c.if-relaxes.false _ c.restrict.ensures
