-- `frontier_layer` meets its contract: a row more at each turn.
use native.Mathlib.Omega.{arith}
use Rattle.theorems.proofs.Once.{rows_few}
use Rattle.cutset.specs.Trace.{FewInside, FewUpto, of_row, of_rows}
use Rattle.cutset.proofs.Listing.{rows_more, ofrows_none}
use Rattle.cutset.proofs.Steps.{going_then, rows_on, rows_begin, rows_end}
use Rattle.cutset.proofs.Traversal.frontier_layer.Goals as goal

pub loop-r-init : goal.loop-r-init
loop-r-init c = record { within = omega arith; listed = rows_begin (FewUpto _) of_rows ofrows_none _ _ _ }

pub frontier_row-requires : goal.frontier_row-requires
frontier_row-requires c =
    let L = c.loop-r in
    going_then _ (FewInside L.r) _ _ _ _ _ (λ d x p. (omega arith, rows_few d.edges _ x p.1)) c.requires L.invariant.listed

pub loop-r-preserved : goal.loop-r-preserved
loop-r-preserved c =
    let L = c.loop-r in
    record {
      within = omega arith;
      listed = rows_on (FewUpto _) (FewInside L.r) of_rows of_row rows_more _ _ _ _ _ _ _ _ (omega arith) (λ d x u. (omega arith, rows_few d.edges _ x u.1)) L.invariant.listed c.frontier_row.ensures;
    }

pub returns : goal.returns
returns c =
    let v = c.loop-r.invariant in
    rows_end _ of_rows _ _ _ _ _ _ _ (omega arith) v.within (omega arith) v.listed
