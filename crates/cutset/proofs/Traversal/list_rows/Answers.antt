-- `list_rows` meets its contract: a row more at each turn.
use native.Mathlib.Omega.{arith}
use Rattle.cutset.specs.Trace.{Inside, Upto, listing, listings}
use Rattle.cutset.proofs.Listing.{row_asked, listings_more, listings_none}
use Rattle.cutset.proofs.Steps.{going_then, rows_on, rows_begin, rows_end}
use Rattle.cutset.proofs.Traversal.list_rows.Goals as goal

pub loop-r-init : goal.loop-r-init
loop-r-init c =
    record { within = omega arith; counted = omega arith; listed = rows_begin (Upto _) listings listings_none _ _ _ }

pub read_node-n-requires : goal.read_node-n-requires
read_node-n-requires c =
    let L = c.loop-r in
    row_asked _ _ _ _ _ _ _ (λ d x p. p) (going_then _ (Inside L.r) _ _ _ _ _ (λ d x p. omega arith) c.requires.going L.invariant.listed).tracing

pub list_row-requires-clause-going : goal.list_row-requires-clause-going
list_row-requires-clause-going c =
    let L = c.loop-r in
    going_then _ (Inside L.r) _ _ _ _ _ (λ d x p. omega arith) c.requires.going L.invariant.listed

pub loop-r-preserved : goal.loop-r-preserved
loop-r-preserved c =
    let L = c.loop-r in
    let p = c.list_row.ensures in
    record {
      within = omega arith;
      counted = omega (arith, p.grows);
      listed = rows_on (Upto _) (Inside L.r) listings listing listings_more _ _ _ _ _ _ _ _ (omega arith) (λ d x u. omega arith) L.invariant.listed p.listed;
    }

pub returns : goal.returns
returns c =
    let v = c.loop-r.invariant in
    rows_end _ listings _ _ _ _ _ _ _ (omega arith) v.within (omega arith) v.listed
