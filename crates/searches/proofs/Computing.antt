-- One name on an `unfolding` line that opens every definition of start and pick, so that a call computes.
use Prim.Native.Nat.{ℕ}
use Rattle.calls.proofs.Computing.{computing as compile_computing}
use Rattle.searches.specs.Places.{given_at, place_of, root_place, over_places}
use Rattle.searches.specs.Search.{open_in, without, above_best}
use Rattle.searches.specs.Start as Start
use Rattle.searches.specs.Pick as Pick

unfoldable pub computing : ℕ
unfolding compile_computing given_at place_of root_place over_places open_in without above_best Start.start_refusal Start.begun Start.unless Start.start Pick.pick_check Pick.picked_from Pick.pick_refusal Pick.request_for Pick.refusing Pick.better Pick.one_pick_more Pick.accepting Pick.if_room Pick.appended Pick.drained_places Pick.after_compile Pick.if_above Pick.unless Pick.pick
computing = 0
