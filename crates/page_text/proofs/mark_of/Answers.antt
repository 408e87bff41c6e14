-- `mark_of` meets its contract: `any` tells whether some byte takes the item.
use Rattle.std.proofs.Common.{cond, Bool, eqb, sym, ap, ◌∙◌, ◌+◌, ◌*◌, rules, tests}
use Rattle.std.proofs.lemmas.Iterator.{YieldsList-from_slice}
use Rattle.std.proofs.lemmas.Iterator.Search.{any_from_yields_List}
use Rattle.page_text.proofs.Taking.{taken_by_any}
use Rattle.page_text.proofs.mark_of.Goals as goal

pub returns-then-is_taken : goal.returns-then-is_taken
returns-then-is_taken c =
    let told = any_from_yields_List (λ b. eqb b (2 * c.args.d + 1)) _ _ c.any-is_taken.result c.any-is_taken.ensures.ran (YieldsList-from_slice c.args.path.now cc) (λ x b q k. search (rules, tests)) in
    ap (λ (b : Bool). cond b 1 0) (sym c.if-is_taken.true ∙ told ∙ taken_by_any c.args.d c.args.path.now)

pub returns-else-is_taken : goal.returns-else-is_taken
returns-else-is_taken c =
    let told = any_from_yields_List (λ b. eqb b (2 * c.args.d + 1)) _ _ c.any-is_taken.result c.any-is_taken.ensures.ran (YieldsList-from_slice c.args.path.now cc) (λ x b q k. search (rules, tests)) in
    ap (λ (b : Bool). cond b 1 0) (sym c.if-is_taken.false ∙ told ∙ taken_by_any c.args.d c.args.path.now)
