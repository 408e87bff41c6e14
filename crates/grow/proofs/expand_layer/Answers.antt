-- `expand_layer` meets its contract: the layer is stored and its rows are expanded.
use Rattle.grow.proofs.Expanding.{layer_expanded}
use Rattle.grow.proofs.expand_layer.Goals as goal

pub returns-clause-does : goal.returns-clause-does
returns-clause-does c = layer_expanded _ _ _ _ _ _ _ _ _ c.push-s.ensures.layers _ c.requires.rooms _ _ _ _ c.expand_all.ensures.same.stays.start_is c.expand_all.ensures.does
