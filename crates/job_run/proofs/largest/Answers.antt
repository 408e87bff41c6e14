-- `largest` meets its contract: the larger of the largest so far and one record more.
use Rattle.std.proofs.Common.{◌<◌, arith, rules, [], pos, length, get_or, ◌∙◌}
use Rattle.records.specs.declared.Record.{Record}
use Rattle.job_run.proofs.Choosing.{largest_one, largest_next, largest_few, largest_whole, is_larger, not_larger}
use Rattle.job_run.proofs.largest.Goals as goal
use Rattle.job_run.proofs.largest.Goals.{then-is_below, else-is_below}

-- what the check reads past a list's end
abbrev blank : Record
blank = record { capacity = 0; value = pos 0; bound = pos 0; depth = 0; path = [] }

pub loop-j-init : goal.loop-j-init
loop-j-init c = largest_one c.args.list.now

pub offset_bounds-list-best : goal.offset_bounds-list-best
offset_bounds-list-best c =
    let within : c.loop-j.best < length c.args.list.now = omega (arith, largest_few c.args.list.now c.loop-j.j, c.loop-j.invariant) in
    search rules

pub bounds-list-best : goal.bounds-list-best
bounds-list-best c = omega (arith, largest_few c.args.list.now c.loop-j.j, c.loop-j.invariant)

pub loop-j-preserved : goal.loop-j-preserved
loop-j-preserved c =
    let rs = c.args.list.now in
    let best = c.loop-j.best in
    let j = c.loop-j.j in
    let next = largest_next rs j best blank blank c.loop-j-test.true c.loop-j.invariant in
    elim c.if-is_below.branch [
      | then-is_below w ↦ w.best-is ∙ is_larger best j (get_or rs best blank) (get_or rs j blank) _ c.is_below.ensures w.if-is_below.true ∙ next
      | else-is_below w ↦ w.best-is ∙ not_larger best j (get_or rs best blank) (get_or rs j blank) _ c.is_below.ensures w.if-is_below.false ∙ next
    ]

pub returns : goal.returns
returns c = largest_whole c.args.list.now c.loop-j.j c.loop-j.best c.loop-j-test.false c.loop-j.invariant
