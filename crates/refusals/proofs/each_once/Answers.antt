-- `refusals::each_once` meets its contract: what `all` answers of the items below the depth is the definition's test.
use Rattle.std.proofs.Common.{eqb, ◌∙◌, arith, rules, tests}
use Rattle.std.proofs.lemmas.Iterator.{YieldsList-from_range}
use Rattle.std.proofs.lemmas.Iterator.Search.{all_from_yields_List}
use Rattle.calls.specs.Rows.{namings}
use Rattle.refusals.proofs.Lists.{all_once}
use Rattle.refusals.proofs.each_once.Goals as goal

pub returns : goal.returns
returns c =
    all_from_yields_List (λ k. eqb (namings k c.args.path.now) 1) _ _ _ c.all.ensures.ran (YieldsList-from_range 0 c.args.depth c.args.depth (cc) (omega arith)) (λ x b q k. search (rules, tests))
    ∙ all_once c.args.depth c.args.path.now
