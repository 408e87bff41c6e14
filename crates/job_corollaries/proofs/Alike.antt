-- Two calls on one text have one output and write the same: it is a job's text or none, a job's run ends alike in both and writes the same, and an answer's text fixes the whole output.
use mathlib.Core.Path.{◌≡◌, sym, ap, subst, ◌∙◌}
use mathlib.Core.List.{List}
use Prim.Native.Nat.{ℕ, min}
use lib.ListN.{length}
use Rattle.layout.specs.Table.{over}
use Rattle.calls.specs.Compile.{Lent, rooms_of}
use Rattle.records.specs.Structs.{places}
use Rattle.records.proofs.Places.{places_length}
use Rattle.searches.specs.Places.{Place}
use Rattle.searches.specs.Pick.{Held}
use Rattle.jobs.specs.Run.{Ending, problem_of, run}
use Rattle.jobs.specs.Left.{left_by}
use Rattle.jobs.specs.Page.{refusal_of, answer_of}
use Rattle.page_text.specs.declared.Output.{Output}
use Rattle.page_text.specs.Says.{Says}
use Rattle.page_text.proofs.Says.{one_output}
use Rattle.job_text.proofs.Accepted.{Told, a_job, no_job, told}
use Rattle.job_run.specs.Twice.{SameSizes, LeftAlike}
use Rattle.job_run.proofs.Twice.{one_job_run}
use Rattle.job_run.proofs.Leaving.{unwritten, one_run_leaves}
use Rattle.job.specs.Answered.{Answers, Leaves, LeavesLent, empty_places}
use Rattle.job_corollaries.specs.Statements.{Answered, lent_to, OneOutput, held_by, OneLeft, lent_by, OneAnswer, SameTables, AnswerLeavesOne}

module _ (text : List ℕ) (l m : Lent) (list other : List Place) (rooms : rooms_of l ≡ rooms_of m) (long : length list ≡ length other) where
  by_text : Told text → (o o' : Output) → Answers text l list o → Answers text m other o' → o ≡ o'
  by_text (a_job j is) o o' a b =
      one_output (answer_of (length j.items) (run j m other)) 671 671 o o'
      (subst (λ (e : Ending). Says (answer_of (length j.items) e) 671 o) (one_job_run j l m list other rooms long) (a.of_job j is)) (b.of_job j is)
  by_text (no_job none) o o' a b = one_output (refusal_of 15) 671 671 o o' (a.outside none) (b.outside none)

  alike : (o o' : Output) → Answers text l list o → Answers text m other o' → o ≡ o'
  alike o o' a b = by_text (told text) o o' a b

pub one_text_one_output : OneOutput
one_text_one_output c d same =
    alike d.text (lent_to c) (lent_to d) (places c.list) (places d.list) same.rooms (places_length c.list ∙ same.long ∙ sym (places_length d.list)) c.output d.output
    (subst (λ (t : List ℕ). Answers t (lent_to c) (places c.list) c.output) same.texts c.promised.0) d.promised.0

pub one_text_one_answer : OneAnswer
one_text_one_answer c d same =
    alike d.text (lent_by c) (lent_by d) (empty_places (min c.open_places 16384)) (empty_places (min d.open_places 16384)) same.rooms (ap (λ (n : ℕ). length (empty_places (min n 16384))) same.open_alike) c.output d.output
    (subst (λ (t : List ℕ). Answers t (lent_by c) (empty_places (min c.open_places 16384)) c.output) same.texts c.promised.0) d.promised.0

-- ---- what they leave

pub leaves_alike : (text : List ℕ) (h k after after' : Held) → SameSizes h k → Leaves text h after → Leaves text k after' → LeftAlike after after' h k
leaves_alike text h k after after' same x y = go (told text)
  where
    go : Told text → LeftAlike after after' h k
    go (a_job j is) = rw (x.of_job j is, y.of_job j is) (one_run_leaves (problem_of j) j.kind h k same)
    go (no_job none) = rw (x.outside none, y.outside none) (unwritten h k)

pub one_text_leaves_one : OneLeft
one_text_leaves_one c d text same =
    leaves_alike d.text (held_by c) (held_by d) c.after d.after same (subst (λ (t : List ℕ). Leaves t (held_by c) c.after) text c.promised.1) d.promised.1

-- of tables and scratch list alone
tables_left : (d e h k : Held) → LeftAlike d e h k → SameTables h.lent d.lent k.lent e.lent
unfolding over
tables_left d e h k a =
    record {
      nodes = record { words = a.written.nodes; one = ap (λ (x : Held). x.lent.nodes) a.first; other = ap (λ (x : Held). x.lent.nodes) a.second };
      edges = record { words = a.written.edges; one = ap (λ (x : Held). x.lent.edges) a.first; other = ap (λ (x : Held). x.lent.edges) a.second };
      records = record { words = a.written.records; one = ap (λ (x : Held). x.lent.records) a.first; other = ap (λ (x : Held). x.lent.records) a.second };
    }

tables_alike : (text : List ℕ) (h k : Held) (l m : Lent) → SameSizes h k → LeavesLent text h l → LeavesLent text k m → SameTables h.lent l k.lent m
tables_alike text h k l m same x y = go (told text)
  where
    go : Told text → SameTables h.lent l k.lent m
    go (a_job j is) =
        rw (x.of_job j is, y.of_job j is) (tables_left (left_by j h).held (left_by j k).held h k (one_run_leaves (problem_of j) j.kind h k same))
    go (no_job none) = rw (x.outside none, y.outside none) (tables_left h k h k (unwritten h k))

abbrev held_of : Answered → Held
held_of c = record { list = empty_places (min c.open_places 16384); lent = lent_by c }

pub answer_leaves_one : AnswerLeavesOne
answer_leaves_one c d text opens same =
    tables_alike d.text (held_of c) (held_of d) c.after d.after (record { list = ap (λ (n : ℕ). length (empty_places (min n 16384))) opens; lent = same })
    (subst (λ (t : List ℕ). LeavesLent t (held_of c) c.after) text c.promised.1) d.promised.1
