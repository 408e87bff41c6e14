-- `cutset::drain` meets its contract: counted first, then, if the list has places for all, flagged anew and written. Without its flags the table holds the diagram that was traversed first, so the second traversal sets the same flags.
use Rattle.std.proofs.Common.{rules}
use Rattle.cutset.proofs.Whole.{drained_at, count_first, too_many, clear_asked, all_drained}
use Rattle.cutset.proofs.drain.Goals as goal

pub flag_cutset-found-requires : goal.flag_cutset-found-requires
flag_cutset-found-requires c = count_first _ _ _ _ _ _ _ c.requires

pub returns-then-w-found : goal.returns-then-w-found
returns-then-w-found c = too_many _ _ _ _ _ _ _ _ _ _ _ c.flag_cutset-found.ensures c.if-w-found.true

pub clear_flags-requires : goal.clear_flags-requires
clear_flags-requires c = clear_asked _ _ _ c.args.route.kind _ _ _ _ _ _ _ c.flag_cutset-found.ensures c.requires

pub returns : goal.returns
returns c =
    drained_at _ _ _ _ _ _ _ _ _ _ _ _ (all_drained _ _ _ _ _ _ _ _ _ _ _ c.flag_cutset-found.ensures _ _ _ _ c.if-w-found.false c.clear_flags.ensures c.run.ensures.traced)
    (search rules)
