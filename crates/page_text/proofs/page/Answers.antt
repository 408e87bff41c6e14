-- `page` meets its contract: its three parts are put one behind the other into an array of zeros, and none is too long.
use native.Mathlib.Omega.{arith}
use mathlib.Core.Path.{◌≡◌}
use lib.ListN.{length, take, length-take}
use Rattle.page_text.proofs.Pages.{page_says}
use Rattle.page_text.proofs.Sign.{value_is}
use Rattle.page_text.proofs.Putting.{length_put}
use Prim.Native.Nat.{◌≤◌, ◌<◌}
use Rattle.jobs.specs.Page.{natural}
use Rattle.page_text.proofs.Counts.{best_short, items_most, picks_short}
use Rattle.page_text.proofs.page.Goals as goal

pub put_line-requires : goal.put_line-requires
put_line-requires c =
    let is : c.natural.result ≡ natural c.args.best = value_is c.args.best c.ranges.best c.natural.ensures in
    rw c.empty-page.ensures (omega (arith, best_short c.natural.result (rw is c.requires.0)))

pub put_items-requires : goal.put_items-requires
put_items-requires c =
    let p = rw c.empty-page.ensures at c.put_line.ensures in
    let part = take c.args.items c.args.path in
    let few : length part ≤ 64 = simp length-take (omega arith) in
    let is : c.natural.result ≡ natural c.args.best = value_is c.args.best c.ranges.best c.natural.ensures in
    let small : c.natural.result < 100000000 = rw is c.requires.0 in
    (few, omega (arith, p.behind, length_put p, best_short c.natural.result small, items_most (length part) part few))

pub put_line-requires-2 : goal.put_line-requires-2
put_line-requires-2 c =
    let p = rw c.empty-page.ensures at c.put_line.ensures in
    let q = c.put_items.ensures in
    let part = take c.args.items c.args.path in
    let few : length part ≤ 64 = simp length-take (omega arith) in
    let is : c.natural.result ≡ natural c.args.best = value_is c.args.best c.ranges.best c.natural.ensures in
    let small : c.natural.result < 100000000 = rw is c.requires.0 in
    omega (arith, p.behind, q.behind, length_put p, length_put q, best_short c.natural.result small, items_most (length part) part few, picks_short c.args.picks)

pub returns : goal.returns
returns c =
    let p = rw c.empty-page.ensures at c.put_line.ensures in
    let many : c.args.items ≡ length (take c.args.items c.args.path) = simp length-take (omega arith) in
    page_says c.args.best c.args.path c.args.items c.args.picks c.requires.0 c.requires.1 c.natural.result (value_is c.args.best c.ranges.best c.natural.ensures) many p c.put_items.ensures c.put_line-2.ensures
