-- `run` meets its contract: one kind or the other.
use mathlib.Core.Path.{ap}
use Rattle.cutset.specs.Whole.{kind_of}
use Rattle.cutset.proofs.Whole.{of_kind, layers_asked, layers_listed, none_last, last_asked, last_listed}
use Rattle.cutset.proofs.Steps.{stays_none}
use Rattle.cutset.proofs.Traversal.run.Goals as goal

pub list_rows-requires-clause-going : goal.list_rows-requires-clause-going
list_rows-requires-clause-going c = record { tracing = last_asked _ _ _ _ _ _ _ _ c.in-LastExactLayer-Some.is-1 c.requires.going.tracing }

pub frontier_layers-requires : goal.frontier_layers-requires
frontier_layers-requires c = record { tracing = layers_asked _ _ _ _ _ _ _ c.requires.going.tracing }

pub returns-in-LastExactLayer-Some : goal.returns-in-LastExactLayer-Some
returns-in-LastExactLayer-Some c =
    let l = c.list_rows.ensures in
    let i = c.in-LastExactLayer-Some in
    record { traced = of_kind _ _ _ _ _ _ _ _ _ _ _ _ (ap kind_of i.is-0) (last_listed _ _ _ _ _ _ _ _ _ _ _ i.is-1 l.traced); stays = l.stays }

pub returns-in-LastExactLayer-None : goal.returns-in-LastExactLayer-None
returns-in-LastExactLayer-None c =
    let i = c.in-LastExactLayer-None in
    record { traced = of_kind _ _ _ _ _ _ _ _ _ _ _ _ (ap kind_of i.is-0) (none_last _ _ _ _ _ _ _ i.is-1); stays = stays_none _ }

pub returns-in-Frontier-default : goal.returns-in-Frontier-default
returns-in-Frontier-default c =
    let l = c.frontier_layers.ensures in
    record { traced = of_kind _ _ _ _ _ _ _ _ _ _ _ _ (ap kind_of c.in-Frontier-default.is-0) (layers_listed _ _ _ _ _ _ _ _ _ _ l.traced); stays = l.stays }
