-- A job's run that returned 0: the page shows the optimum, and a selection that earns it.
use Rattle.std.specs.Prelude.{List, ℕ, length}
use Rattle.calls.specs.Compile.{Lent, rooms_of}
use Rattle.searches.specs.Search.{Search}
use Rattle.searches.specs.Pick.{Held}
use Rattle.jobs.specs.Text.{Job, IsText}
use Rattle.jobs.specs.Run.{problem_of}
use Rattle.jobs.specs.Page.{page_of}
use Rattle.job_laws.specs.Statements.{Answered}
use Rattle.page_text.specs.Says.{Says}
use Rattle.border.specs.declared.Page.{Page}
use Rattle.border.specs.Border.{output_in}
use Rattle.host.specs.Promises.{RunsFor}

-- the page is that of a search whose best value is the optimum
pub record ShowsOptimum (j : Job) (l : Lent) (page : Page) : Type 0 where
  pub search : Search
  pub answered : Answered (problem_of j) (rooms_of l).records search
  pub says : Says (page_of (length j.items) search) 671 (output_in page)

abbrev pub HostJobIsOptimal : Type 0
HostJobIsOptimal = (text : List ℕ) (h after : Held) (page : Page) → RunsFor text h 0 page after → (j : Job) → IsText text j → ShowsOptimum j h.lent page
