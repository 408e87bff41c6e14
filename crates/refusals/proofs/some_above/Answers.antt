-- `refusals::some_above` meets its contract: what `any` answers is the definition's test.
use Rattle.std.proofs.Common.{ltb, ◌∙◌, rules, tests}
use Rattle.std.proofs.lemmas.Iterator.{YieldsList-from_slice}
use Rattle.std.proofs.lemmas.Iterator.Search.{any_from_yields_List}
use Rattle.refusals.proofs.Lists.{any_above}
use Rattle.refusals.proofs.some_above.Goals as goal

pub returns : goal.returns
returns c =
    any_from_yields_List (ltb c.args.limit) _ _ _ c.any.ensures.ran (YieldsList-from_slice c.args.xs.now cc) (λ x b q k. search (rules, tests))
    ∙ any_above c.args.limit c.args.xs.now
