-- `finish::raise_parent` meets its contract: a row read, changed and written back.
use Rattle.diagram.specs.After5.{raise}
use Rattle.finish.proofs.Rewriting.{changed, raised_is}
use Rattle.finish.proofs.raise_parent.Goals as goal

pub returns : goal.returns
returns c =
    changed (raise _) _ _ _ _ _ c.read_node-n.ensures (raised_is _ _ _ _ c.marked_with.ensures c.max.ensures) c.write_node.ensures
