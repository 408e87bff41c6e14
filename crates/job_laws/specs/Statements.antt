-- What a job's run comes to: where it ends with an empty list, the best value is the optimum of the page and the held path a selection that earns it.
use Rattle.std.specs.Prelude.{◌≡◌, true, List, ℕ, ◌≤◌, pos, length}
use Rattle.knapsack.specs.Knapsack.{Optimum}
use Rattle.diagram.specs.After4.{CutsetKind}
use Rattle.calls.specs.Asked.{Problem}
use Rattle.calls.specs.Compile.{Lent, rooms_of}
use Rattle.demand2.specs.Records.{items_in}
use Rattle.demand3.specs.Searches.{geometric, IsSelection}
use Rattle.searches.specs.Places.{Place}
use Rattle.searches.specs.Search.{Search}
use Rattle.searches.specs.Trace.{Blocks}
use Rattle.jobs.specs.Run.{ended, run_of}

abbrev pub blocks_of : Problem → Blocks
blocks_of p = record { weights = p.weights; profits = p.profits; page = p.page }

-- the search s that a run ends with
pub record Answered (p : Problem) (scratch : ℕ) (s : Search) : Type 0 where
  pub empty : s.opened ≡ 0
  pub picks : s.picks ≤ geometric scratch (length p.weights)
  pub optimum : ℕ
  pub is_optimum : Optimum (items_in p) p.page optimum
  pub best : s.best ≡ pos optimum
  pub small : optimum ≤ 64000000
  pub few : length p.weights ≤ 64
  pub held : s.held ≡ true
  pub selection : IsSelection (blocks_of p) s.path s.best

abbrev pub RunAnswersTheOptimum : Type 0
RunAnswersTheOptimum = (p : Problem) (kind : CutsetKind) (l : Lent) (list : List Place) (s : Search) → run_of p kind l list ≡ ended s → Answered p (rooms_of l).records s
