-- `finalize::finalize` meets its contract: verdict, rows and answer one after the other.
use Rattle.finalize.proofs.Whole.{judge_asked, rows_asked, answers_asked}
use Rattle.finalize.proofs.finalize.Goals as goal

pub judge-judged-requires : goal.judge-judged-requires
judge-judged-requires c = judge_asked _ _ _ _ _ _ _ _ c.requires

pub finish_rows-drained-requires : goal.finish_rows-drained-requires
finish_rows-drained-requires c = rows_asked _ _ _ _ _ _ _ _ _ _ c.requires c.judge-judged.ensures

pub answers-requires : goal.answers-requires
answers-requires c = answers_asked _ _ _ _ _ _ _ _ _ _ _ _ _ _ c.judge-judged.ensures c.finish_rows-drained.ensures c.requires
