-- `records::append_above` meets its contract: a record that is above is stored, one that isn't is passed over.
use Rattle.std.proofs.Common.{rules, sym, length, ◌<◌, ◌∙◌}
use Rattle.records.proofs.Chosen.{at_first, put, left, storing}
use Rattle.records.proofs.append_above.Goals as goal
use Rattle.records.proofs.append_above.Goals.{then-is_above, else-is_above}

pub loop-j-init : goal.loop-j-init
loop-j-init c = at_first _ _ _ _

pub loop-j-preserved : goal.loop-j-preserved
loop-j-preserved c =
    let at = c.args.at in
    let ys = c.args.rs.now in
    let now = c.loop-j in
    elim c.if-is_above.branch [
      | then-is_above w ↦
          let above = sym c.is_above.ensures ∙ w.if-is_above.true in
          let k_in : now.k < length now.rs = search (rules, storing) in
          put _ at c.args.words.now ys now.rs c.if-is_above.rs now.j now.k c.if-is_above.k w.from_words.result now.invariant k_in above w.from_words.ensures w.k-is w.rs-is
      | else-is_above w ↦
          left _ at c.args.words.now ys now.rs c.if-is_above.rs now.j now.k c.if-is_above.k now.invariant (sym c.is_above.ensures ∙ w.if-is_above.false) w.k-is w.rs-is
    ]
