-- `refusals::namings` meets its contract: what `count` answers is the definition's number.
use Rattle.std.proofs.Common.{eqb, sym, ◌∙◌, rules, tests}
use Rattle.std.proofs.lemmas.Iterator.{YieldsList-from_slice}
use Rattle.std.proofs.lemmas.Iterator.Consumers.{count_from_yields_List, YieldsList-from_filter}
use Rattle.std.proofs.lemmas.List.Sums.{length-filter}
use Rattle.knapsack.specs.Items.{item_of}
use Rattle.refusals.proofs.Lists.{namings_count}
use Rattle.refusals.proofs.namings.Goals as goal

pub returns : goal.returns
returns c =
    let path = c.args.path.now in
    count_from_yields_List c.filter.result _ c.count.ensures.ran (YieldsList-from_filter _ (λ b. eqb (item_of b) c.args.item) (YieldsList-from_slice path cc) c.filter.ensures.closure (λ x b q k. search (rules, tests)))
    ∙ length-filter (λ b. eqb (item_of b) c.args.item) path
    ∙ sym (namings_count c.args.item path)
