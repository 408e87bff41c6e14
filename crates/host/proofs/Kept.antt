-- What a job's run promises, with what is made of its answer at the border, is what the host's call promises.
use Rattle.std.proofs.Common.{◌≡◌, refl, sym, ap, subst, ◌∙◌, List, ℕ, Result, Ok, Err}
use Rattle.searches.specs.Pick as Pick
use Rattle.jobs.specs.Run.{Ending, refused, run}
use Rattle.page_text.specs.declared.Output.{Output}
use Rattle.page_text.specs.Says.{Says}
use Rattle.job.specs.declared.Ran.{Ran}
use Rattle.job.specs.Answered.{ending_of, text_of, Runs}
use Rattle.job.proofs.Answering.{leaves, answers, ends_job, ends_outside}
use Rattle.border.specs.declared.Page.{Page}
use Rattle.border.specs.Border.{number_of, ending_number, shown_of, output_in}
use Rattle.host.specs.Promises.{Shows, RunsFor}

number_by : (r : Result Ran ℕ) → number_of r ≡ ending_number (ending_of r)
number_by (Ok r) = refl
number_by (Err n) = refl

says_shown : (text : List ℕ) (o : Output) → Says text 671 o → Says text 671 (output_in (shown_of o))
says_shown text o h = record { text_is = h.text_is; counted = h.counted; rest_zero = h.rest_zero; short = h.short }

shows : (e : Ending) (text : List ℕ) (r : Result Ran ℕ) (o : Output) (page : Page) → page ≡ shown_of o → (n : ℕ) → n ≡ number_of r → ending_of r ≡ e → Says text 671 o → Shows (ending_number e) text n page
shows e text r o page f n k h s =
    record {
      number_is = k ∙ number_by r ∙ ap ending_number h;
      says = subst (λ (x : Page). Says text 671 (output_in x)) (sym f) (says_shown text o s);
      end_zero = ap (λ (x : Page). x.end) f;
    }

module _ (text : List ℕ) (h : Pick.Held) (r : Result Ran ℕ) (after : Pick.Held) (x : Runs text h r after) (o : Output) (said : Says (text_of r) 671 o)
    (page : Page) (page_is : page ≡ shown_of o) (n : ℕ) (n-is : n ≡ number_of r) where
  pub runs_for : RunsFor text h n page after
  runs_for =
      let a = answers text h r after x o said in
      record {
        of_job = λ j is. shows (run j h.lent h.list) _ r o page page_is n n-is (ends_job text h r after x j is) (a.of_job j is);
        outside = λ none. shows (refused 15) _ r o page page_is n n-is (ends_outside text h r after x none) (a.outside none);
        leaves = leaves text h r after x;
      }
