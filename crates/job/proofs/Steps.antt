-- The steps of a job's run make what their contracts say: what can be written of a run, and the text that is.
use mathlib.Core.Path.{◌≡◌, refl, sym, ap, subst, ◌∙◌}
use mathlib.Core.Bool.{Bool, true, false, cond}
use mathlib.Core.List.{List}
use Prim.Native.Nat.{ℕ, ◌<◌, ◌≤◌}
use native.Mathlib.Omega.{arith}
use lib.Dec.{leb}
use lib.IntN.{ℤ, pos}
use lib.ListN.{length}
use borrow.Author.Tests.{leb-true}
use Rattle.std.specs.Prelude.{Result, Ok, Err}
use Rattle.searches.specs.Pick.{Held}
use Rattle.search.specs.declared.Search.{Search}
use Rattle.search.specs.Held.{search_of}
use Rattle.jobs.specs.Run.{ended, refused}
use Rattle.jobs.specs.Left.{Left, left}
use Rattle.jobs.specs.Page.{natural, answer_of}
use Rattle.job_laws.proofs.Optimum.{run_answers_the_optimum}
use Rattle.page_text.specs.declared.Output.{Output}
use Rattle.page_text.specs.Says.{Says}
use Rattle.page_text.specs.Page.{page_from}
use Rattle.page_text.proofs.Counts.{page_of_search}
use Rattle.job_text.specs.declared.Job as Code
use Rattle.job_run.specs.Runs.{left_in}
use Rattle.job.specs.declared.Ran.{Ran}
use Rattle.job.specs.Answered.{left_read, left_if, Writable}
use Rattle.job.proofs.Answering.{with_items}

-- ---- what the answer is written from

small_best : (x : ℕ) (z : ℤ) → z ≡ pos x → x ≤ 64000000 → natural z < 100000000
unfolding natural
small_best x z h le = let q : natural z ≡ x = ap natural h in omega (arith, q, le)

-- a run that came to its end has a small best value, and its job few items
module _ (j : Code.Job) (h : Held) (s : Search) where
  told : (b : Bool) → leb j.count 64 ≡ b → ended (search_of s) ≡ (cond b (left_read j h) (left (refused 2) h)).ending → (natural s.best < 100000000) × (j.count ≤ 64)
  told true t x = let y = run_answers_the_optimum _ _ h.lent h.list (search_of s) (sym x) in (small_best y.optimum s.best y.best y.small, leb-true j.count 64 t)
  told false t x = let z : ◌≡◌ {A = ℕ} 0 1 = cc in absurd (omega arith)

pub written_none : (n : ℕ) → Writable (Err n)
written_none n =
    record {
      small = λ s e. absurd (let z : ◌≡◌ {A = ℕ} 0 1 = cc in omega arith);
      few = λ s e. absurd (let z : ◌≡◌ {A = ℕ} 0 1 = cc in omega arith);
    }

pub writable : (j : Code.Job) (h : Held) (r : Result Search ℕ) (after : Held) → left_in r after ≡ left_if (Ok j) h → Writable (with_items j.count r)
writable j h (Err n) after e = written_none n
writable j h (Ok s) after e =
    let t = told j h s (leb j.count 64) refl (ap (λ (x : Left). x.ending) e) in
    record {
      small = λ x f. let same : ◌≡◌ {A = Ran} (record { items = j.count; search = s }) x = cc in subst (λ (y : Ran). natural y.search.best < 100000000) same t.0;
      few = λ x f. let same : ◌≡◌ {A = Ran} (record { items = j.count; search = s }) x = cc in subst (λ (y : Ran). y.items ≤ 64) same t.1;
    }

-- ---- the answer's text

pub says_within : (text other : List ℕ) (most : ℕ) (o : Output) → text ≡ other → most ≤ 671 → Says text most o → Says other 671 o
says_within text other most o e le s = record { text_is = s.text_is ∙ e; counted = s.counted ∙ ap (length {A = ℕ}) e; rest_zero = s.rest_zero; short = (let h = s.short in omega (arith, h, le)) }

pub says_page : (n : ℕ) (s : Search) (o : Output) (best : ℤ) → best ≡ s.best → Says (page_from best s.path n s.picks) 671 o → Says (answer_of n (ended (search_of s))) 671 o
unfolding answer_of
says_page n s o best b x =
    says_within (page_from best s.path n s.picks) (answer_of n (ended (search_of s))) 671 o
    (ap (λ (z : ℤ). page_from z s.path n s.picks) b ∙ sym (page_of_search n (search_of s))) (omega arith) x
