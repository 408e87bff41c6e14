-- What each call of a host promises: the number returned, the lent struct, the lists and the tables after it are the definition's, refusals included.
use Rattle.std.specs.Prelude.{◌≡◌, List, ℕ, length}
use Rattle.calls.specs.Compile as Compile
use Rattle.searches.specs.Places.{Place}
use Rattle.searches.specs.Start as Start
use Rattle.searches.specs.Pick as Pick
use Rattle.compile.specs.Answered.{answer_from}
use Rattle.search.specs.Answered.{started_from, picked_from}
use Rattle.jobs.specs.Text.{Job, IsText}
use Rattle.jobs.specs.Run.{run}
use Rattle.jobs.specs.Page.{refusal_of, answer_of}
use Rattle.page_text.specs.Says.{Says}
use Rattle.job.specs.Answered.{Leaves}
use Rattle.border.specs.declared.Found.{Found}
use Rattle.border.specs.declared.HostSearch.{HostSearch}
use Rattle.border.specs.declared.Page.{Page}
use Rattle.border.specs.Border.{number_of, found_of, host_search_after, ending_number, output_in}

pub record CompilesFor (d : Compile.After) (n : ℕ) (found : Found) (ns es records : List ℕ) : Type 0 where
  pub number_is : n ≡ number_of (answer_from d.answer)
  pub found_is : found ≡ found_of (answer_from d.answer)
  pub nodes_are : ns ≡ d.lent.nodes
  pub edges_are : es ≡ d.lent.edges
  pub records_are : records ≡ d.lent.records

-- old is the lent search before the call, s after it
pub record StartsFor (d : Start.After) (n : ℕ) (old s : HostSearch) (list : List Place) : Type 0 where
  pub number_is : n ≡ number_of (started_from d.answer)
  pub search_is : s ≡ host_search_after (started_from d.answer) old
  pub list_is : list ≡ d.list

pub record PicksFor (d : Pick.After) (n : ℕ) (old s : HostSearch) (ns es : List ℕ) (list : List Place) (scratch : List ℕ) : Type 0 where
  pub number_is : n ≡ number_of (picked_from d.answer d.search)
  pub search_is : s ≡ host_search_after (picked_from d.answer d.search) old
  pub nodes_are : ns ≡ d.held.lent.nodes
  pub edges_are : es ≡ d.held.lent.edges
  pub list_is : list ≡ d.held.list
  pub scratch_is : scratch ≡ d.held.lent.records

-- the number returned, and the page's bytes, which are followed by a 0
pub record Shows (number : ℕ) (text : List ℕ) (n : ℕ) (page : Page) : Type 0 where
  pub number_is : n ≡ number
  pub says : Says text 671 (output_in page)
  pub end_zero : page.end ≡ 0

-- A text of a job gives that job's answer, any other text `refused` and 15. Lists and tables hold h before the call, and `after` when it ends.
pub record RunsFor (text : List ℕ) (h : Pick.Held) (n : ℕ) (page : Page) (after : Pick.Held) : Type 0 where
  pub of_job : (j : Job) → IsText text j → Shows (ending_number (run j h.lent h.list)) (answer_of (length j.items) (run j h.lent h.list)) n page
  pub outside : ((j : Job) → IsText text j → ⊥) → Shows 15 (refusal_of 15) n page
  pub leaves : Leaves text h after
