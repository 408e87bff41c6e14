-- `finish::best_path` meets its contract: a byte more at each turn.
use native.Mathlib.Omega.{arith}
use Rattle.finish.proofs.Paths.{has_room, one_up, at_top}
use Rattle.finish.proofs.best_path.Goals as goal

pub overflow_cast-bytes : goal.overflow_cast-bytes
overflow_cast-bytes c =
    let v = c.loop-e.invariant in
    omega (arith, (has_room _ _ _ _ _ _ _ _ _ _ v.fits v.climbed c.read_node.ensures c.in-Some.ensures c.read_edge-edge.ensures).byte)

pub bounds-bytes-len : goal.bounds-bytes-len
bounds-bytes-len c =
    let v = c.loop-e.invariant in
    omega (arith, (has_room _ _ _ _ _ _ _ _ _ _ v.fits v.climbed c.read_node.ensures c.in-Some.ensures c.read_edge-edge.ensures).free)

pub overflow_add-len : goal.overflow_add-len
overflow_add-len c =
    let v = c.loop-e.invariant in
    omega (arith, (has_room _ _ _ _ _ _ _ _ _ _ v.fits v.climbed c.read_node.ensures c.in-Some.ensures c.read_edge-edge.ensures).free)

pub loop-e-smaller : goal.loop-e-smaller
loop-e-smaller c =
    let v = c.loop-e.invariant in
    (has_room _ _ _ _ _ _ _ _ _ _ v.fits v.climbed c.read_node.ensures c.in-Some.ensures c.read_edge-edge.ensures).falls

pub loop-e-preserved : goal.loop-e-preserved
loop-e-preserved c =
    let v = c.loop-e.invariant in
    record { fits = v.fits; climbed = one_up _ _ _ _ _ _ _ _ _ _ v.fits v.climbed c.read_node.ensures c.in-Some.ensures c.read_edge-edge.ensures }

pub returns : goal.returns
returns c = at_top _ _ _ _ _ _ _ _ c.loop-e.invariant.climbed c.read_node.ensures c.in_default.ensures
