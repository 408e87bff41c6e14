-- `rows::write_record` meets its contract: four stores, and the path's places behind them.
use mathlib.Core.Path.{◌∙◌}
use native.Mathlib.Numerals.{towards_suc}
use Rattle.rows.proofs.Access.{record_written}
use Rattle.rows.proofs.write_record.Goals as goal

pub returns : goal.returns
returns c = let fits = c.requires in
    record_written _ _ _ _ _ _ _ _ fits (c.write_path.ensures ∙ simp towards_suc)
