-- Relaxed runs finish in the rows that `Roomy` asks for, so RoomIsEnough, PickingEnds and PickingEmpties hold.
use Prim.Native.Nat.{ℕ, ◌+◌, ◌*◌, ◌≤◌, max}
use native.Mathlib.Nat.{mul-le-mul_right}
use native.Mathlib.Omega.{arith}
use lib.ListN.{length, drop, length-drop}
use Rattle.theorems.proofs.Enough as Rows
use Rattle.theorems.proofs.Enough.{relaxed_runs_through}
use Rattle.demand3.specs.Searches.{nodes_for, edges_for}
use Rattle.demand3.specs.Statements.{RoomIsEnough, PickingEnds, PickingEmpties}
use Rattle.demand3.proofs.Room.{RelaxedRunsThrough, room_is_enough_if}
use Rattle.demand3.proofs.Empties.{picking_ends_if, picking_empties_if}

-- fewer items need fewer rows
fewer_rows : (width m n : ℕ) → m ≤ n → (Rows.nodes_for width m ≤ nodes_for width n) × (Rows.edges_for width m ≤ edges_for width n)
unfolding Rows.nodes_for Rows.edges_for
fewer_rows width m n h = (
  omega (arith, mul-le-mul_right (2 * max width 2 + 1) h),
  mul-le-mul_right (4 * max width 2) h,
)

runs_through : RelaxedRunsThrough
runs_through opts k items r relaxed narrow nodes edges =
    let less = fewer_rows opts.width (length (drop r.depth items)) (length items) (omega (arith, length-drop r.depth items)) in
    let t = relaxed_runs_through opts k items r relaxed narrow (omega (arith, less.0)) (omega (arith, less.1)) in
    record { outcome = t.outcome_is; finishes = t.finishes; drains = omega (arith, t.drains, less.0) }

-- Statement 4, room and picking on.
pub room_is_enough : RoomIsEnough
room_is_enough = room_is_enough_if runs_through

pub picking_ends : PickingEnds
picking_ends = picking_ends_if room_is_enough

pub picking_empties : PickingEmpties
picking_empties = picking_empties_if room_is_enough
