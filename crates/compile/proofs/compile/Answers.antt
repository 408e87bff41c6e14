-- `compile` meets its contract: refused before anything is written, or run.
use borrow.Author.Rules.{rules}
use mathlib.Core.Path.{sym, refl}
use mir.Syntax.{w64}
use mir.Facts.{to_z-of_z}
use Rattle.std.proofs.lemmas.Result.{err_from_is_err_and}
use Rattle.compile.proofs.Calling.{told, refused_first, run_after}
use Rattle.compile.proofs.compile.Goals as goal

pub returns-in_err-items : goal.returns-in_err-items
returns-in_err-items c =
    let back = to_z-of_z {w = w64} {z = c.args.q.value} (search rules) in
    let p = err_from_is_err_and c.from_residual.result c.from_residual.ensures.1 in
    rw (p.1, p.2) (refused_first _ _ _ _ _ _ (told _ _ c.args.q _ _ _ back c.in_err-items.ensures.refused) refl)

pub run-requires : goal.run-requires
run-requires c =
    let back = to_z-of_z {w = w64} {z = c.args.q.value} (search rules) in
    let same = c.in_ok-items.ensures.checked in
    rw (same.0, same.1) (sym (told _ _ c.args.q _ _ _ back c.in_ok-items.ensures.refused))

pub returns : goal.returns
returns c =
    let back = to_z-of_z {w = w64} {z = c.args.q.value} (search rules) in
    let same = c.in_ok-items.ensures.checked in
    run_after _ _ _ _ _ _ _ _ (told _ _ c.args.q _ _ _ back c.in_ok-items.ensures.refused) (rw (same.0, same.1) at c.run.ensures)
