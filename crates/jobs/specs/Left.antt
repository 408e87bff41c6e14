-- What a run leaves in the list, the scratch list and the tables that it is lent: each pick finds there what the one before it left.
use Rattle.std.specs.Prelude.{true, false, ℕ, zero, suc, eqb}
use Rattle.words.specs.I64.{i64_min}
use Rattle.diagram.specs.After4.{CutsetKind}
use Rattle.calls.specs.Asked.{Problem}
use Rattle.searches.specs.Search.{Search}
use Rattle.searches.specs.Start as Start
use Rattle.searches.specs.Start.{start}
use Rattle.searches.specs.Pick as Pick
use Rattle.searches.specs.Pick.{Held, pick}
use Rattle.jobs.specs.Text.{Job}
use Rattle.jobs.specs.Run.{Ending, problem_of, asked_for, all_turns, run_of, run}

-- after a pick: a refused one is the last
unfoldable pub unless_last : Pick.Picked → Held → Held → Held
unless_last (Pick.refused_by n) h after = h
unless_last Pick.accepted h after = after

-- the picks of `picking`, with what each leaves lent to the next
unfoldable pub picking_leaves : ℕ → Problem → CutsetKind → Search → Held → Held
picking_leaves zero p kind s h = h
picking_leaves (suc turns) p kind s h =
    let d = pick (asked_for p kind s h.list) s h in
    elim (eqb s.opened 0) [ true ↦ h | false ↦ unless_last d.answer d.held (picking_leaves turns p kind d.search d.held) ]

unfoldable pub started_leaves : Problem → CutsetKind → Held → Start.Started → Held
started_leaves p kind h (Start.refused n) = h
started_leaves p kind h (Start.started s) = picking_leaves all_turns p kind s h

unfoldable pub run_leaves : Problem → CutsetKind → Held → Held
run_leaves p kind h = let d = start p i64_min h.list in started_leaves p kind (record { list = d.list; lent = h.lent }) d.answer

-- how a run ends, and what it leaves
pub record Left : Type 0 where
  pub ending : Ending
  pub held : Held

abbrev pub left : Ending → Held → Left
left e h = record { ending = e; held = h }

abbrev pub left_of : Problem → CutsetKind → Held → Left
left_of p kind h = left (run_of p kind h.lent h.list) (run_leaves p kind h)

-- a job's run is that of its items' problem
abbrev pub left_by : Job → Held → Left
left_by j h = left (run j h.lent h.list) (run_leaves (problem_of j) j.kind h)
