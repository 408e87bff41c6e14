-- `put_items`: the lines of the items before item d were put.
use Rattle.jobs.specs.Page.{item_lines}
use Rattle.page_text.specs.Put.{Puts}
use Rattle.page_text.proofs.Output.put_items.Given as goal

abbrev pub invariant-loop-d : goal.invariant-loop-d
invariant-loop-d l = Puts (item_lines l.d 0 l.path) l.initial.self l.self
