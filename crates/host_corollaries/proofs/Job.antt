-- A job's run that returned 0 came to its end, so its best value is the optimum, and the page says it.
use mathlib.Core.Path.{◌≡◌, refl, subst}
use mathlib.Core.List.{List}
use lib.ListN.{length}
use Rattle.calls.specs.Compile.{Lent, rooms_of}
use Rattle.searches.specs.Places.{Place}
use Rattle.searches.specs.Search.{Search}
use Rattle.jobs.specs.Text.{Job}
use Rattle.jobs.specs.Run.{Ending, ended, problem_of, run}
use Rattle.jobs.specs.Page.{page_of, answer_of}
use Rattle.job_laws.specs.Statements.{Answered}
use Rattle.job_laws.proofs.Optimum.{run_answers_the_optimum}
use Rattle.page_text.specs.Says.{Says}
use Rattle.page_text.specs.declared.Output.{Output}
use Rattle.border.specs.Border.{output_in}
use Rattle.host_corollaries.specs.Job.{HostJobIsOptimal}
use Rattle.host_corollaries.proofs.Numbers.{zero_is_answered}

run_optimal : (j : Job) (l : Lent) (list : List Place) (s : Search) → run j l list ≡ ended s → Answered (problem_of j) (rooms_of l).records s
unfolding run
run_optimal j l list s e = run_answers_the_optimum (problem_of j) j.kind l list s e

says_page : (j : Job) (x : Ending) (s : Search) (o : Output) → x ≡ ended s → Says (answer_of (length j.items) x) 671 o → Says (page_of (length j.items) s) 671 o
unfolding answer_of
says_page j x s o e h = subst (λ (y : Ending). Says (answer_of (length j.items) y) 671 o) e h

pub host_job_is_optimal : HostJobIsOptimal
host_job_is_optimal text h after page k j is =
    let y = (zero_is_answered text h after 0 page k j is).0 refl in
    record {
      search = y.0;
      answered = run_optimal j h.lent h.list y.0 y.1;
      says = says_page j (run j h.lent h.list) y.0 (output_in page) y.1 (k.of_job j is).says;
    }
