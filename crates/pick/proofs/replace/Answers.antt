-- `pick::replace` meets its contract: what is asked of the list for a removal and the additions after it.
use Rattle.std.proofs.Common.{w64, rules, FitsSigned}
use Rattle.std.proofs.Math.Facts.{to_z-of_z}
use Rattle.pick.proofs.Replacing.{removable, appendable}
use Rattle.pick.proofs.replace.Goals as goal

pub remove-requires : goal.remove-requires
remove-requires c = removable _ _ _ _ c.requires

pub append_above-requires : goal.append_above-requires
append_above-requires c =
    let best_fits : FitsSigned w64 c.args.c.search.best = search rules in
    rw (to_z-of_z best_fits) (appendable _ _ _ _ c.requires c.remove.new.rs c.remove.auto.rs)
