-- What `run_job` promises: the bytes of the answer, and what lists and tables hold then, for every text; and what its steps make.
use Rattle.std.specs.Prelude.{◌≡◌, cond, List, ℕ, ◌<◌, ◌≤◌, leb, length, take, replicate, Result, Ok, Err}
use Rattle.calls.specs.Compile.{Lent}
use Rattle.records.specs.Structs.{places, no_record}
use Rattle.cutset.specs.Whole.{kind_of}
use Rattle.searches.specs.Places.{Place}
use Rattle.searches.specs.Pick.{Held}
use Rattle.search.specs.Held.{search_of}
use Rattle.search.specs.Asked.{problem_of}
use Rattle.jobs.specs.Text.{Job, IsText}
use Rattle.jobs.specs.Run.{Ending, refused, ended, run}
use Rattle.jobs.specs.Left.{Left, left, left_of, left_by}
use Rattle.jobs.specs.Page.{natural, refusal_of, answer_of}
use Rattle.page_text.specs.declared.Output.{Output}
use Rattle.page_text.specs.Says.{Says}
use Rattle.job_text.specs.declared.Job as Code
use Rattle.job.specs.declared.Ran.{Ran}

-- the run of a job that was read, with its items in the first places
abbrev pub left_read : Code.Job → Held → Left
left_read j h = left_of (problem_of (take j.count j.weights) (take j.count j.profits) j.page j.width) (kind_of j.kind) h

-- the same if a job was read, and its items have room in the 64 places: else 2 'more than 64 items', or what refused the reading
abbrev pub left_if : Result Code.Job ℕ → Held → Left
left_if (Ok j) h = cond (leb j.count 64) (left_read j h) (left (refused 2) h)
left_if (Err n) h = left (refused n) h

-- which ending of the definition a run's answer stands for
abbrev pub ending_of : Result Ran ℕ → Ending
ending_of (Ok r) = ended (search_of r.search)
ending_of (Err n) = refused n

-- what is written of a run
abbrev pub text_of : Result Ran ℕ → List ℕ
text_of (Ok r) = answer_of r.items (ended (search_of r.search))
text_of (Err n) = refusal_of n

-- what `written` asks: a run's best value has eight digits at most, and its job 64 items at most
pub record Writable (r : Result Ran ℕ) : Type 0 where
  pub small : (s : Ran) → r ≡ Ok s → natural s.search.best < 100000000
  pub few : (s : Ran) → r ≡ Ok s → s.items ≤ 64

-- a job's run: it ends as the definition's, leaves what that leaves, and has the number of the job's items
pub record RunsJob (j : Job) (h : Held) (r : Result Ran ℕ) (after : Held) : Type 0 where
  pub ends : left (ending_of r) after ≡ left_by j h
  pub counted : (s : Ran) → r ≡ Ok s → s.items ≡ length j.items

-- What the run of a text answers, and what lists and tables hold then: that of its job, or 15 'job text outside the grammar'.
pub record Runs (text : List ℕ) (h : Held) (r : Result Ran ℕ) (after : Held) : Type 0 where
  pub of_job : (j : Job) → IsText text j → RunsJob j h r after
  pub outside : ((j : Job) → IsText text j → ⊥) → (r ≡ Err 15) × (after ≡ h)

-- The answer's bytes: a text of a job gives that job's answer, any other text `refused` and 15; bytes behind the counted ones are 0.
pub record Answers (text : List ℕ) (l : Lent) (list : List Place) (o : Output) : Type 0 where
  pub of_job : (j : Job) → IsText text j → Says (answer_of (length j.items) (run j l list)) 671 o
  pub outside : ((j : Job) → IsText text j → ⊥) → Says (refusal_of 15) 671 o

-- What lists and tables hold after the answer: what the job's run leaves, or what they held.
pub record Leaves (text : List ℕ) (h after : Held) : Type 0 where
  pub of_job : (j : Job) → IsText text j → after ≡ (left_by j h).held
  pub outside : ((j : Job) → IsText text j → ⊥) → after ≡ h

-- the same of the tables and the scratch list alone
pub record LeavesLent (text : List ℕ) (h : Held) (lent : Lent) : Type 0 where
  pub of_job : (j : Job) → IsText text j → lent ≡ (left_by j h).held.lent
  pub outside : ((j : Job) → IsText text j → ⊥) → lent ≡ h.lent

-- a list of so many records, all 0; shut, so that nobody writes a large one out
unfoldable pub empty_places : ℕ → List Place
empty_places n = places (replicate n no_record)
