-- The answer that `run_job` writes is the answer of the text's job, or `refused` and 15 where no job has the text; and it leaves what that job's run leaves.
use mathlib.Core.Path.{◌≡◌, refl, sym, ap, subst, ◌∙◌}
use mathlib.Core.Bool.{Bool, true, false, not, cond}
use mathlib.Core.List.{List, [], ◌∷◌, map}
use mathlib.Core.Option.{Option, some}
use Rattle.std.specs.Prelude.{Result, Ok, Err}
use Prim.Native.Nat.{ℕ, zero, suc, ◌<◌, ◌≤◌, min}
use native.Mathlib.Omega.{arith}
use lib.Dec.{leb}
use lib.ListN.{length, take, replicate, length-map, length-take, length-replicate}
use borrow.Author.Tests.{leb-true, leb-false, lt-ltb, eq-eqb}
use Rattle.knapsack.specs.Items.{Item}
use Rattle.knapsack.proofs.Cases.{by_test}
use Rattle.words.specs.I64.{i64_min}
use Rattle.diagram.specs.After4.{CutsetKind}
use Rattle.records.specs.declared.Record.{Record}
use Rattle.records.specs.Structs.{places, no_record}
use Rattle.calls.specs.Asked.{Problem}
use Rattle.calls.specs.Compile.{Lent}
use Rattle.calls.specs.Refusals.{Check, first_of, problem_checks}
use Rattle.cutset.specs.Whole.{kind_of}
use Rattle.searches.specs.Places.{Place}
use Rattle.searches.specs.Pick.{Held}
use Rattle.searches.specs.Start.{start_refusal, unless, start}
use Rattle.search.specs.declared.Search.{Search}
use Rattle.search.specs.Held.{search_of}
use Rattle.search.specs.Asked.{problem_of}
use Rattle.search.proofs.Firsts.{start_before}
use Rattle.jobs.specs.Text.{Job, IsText}
use Rattle.jobs.specs.Run as Def
use Rattle.jobs.specs.Run.{Ending, refused, ended, started_on, run_of, run}
use Rattle.jobs.specs.Left.{Left, left, started_leaves, run_leaves, left_of, left_by}
use Rattle.jobs.specs.Page.{answer_of}
use Rattle.page_text.specs.declared.Output.{Output}
use Rattle.page_text.specs.Says.{Says}
use Rattle.job_text.specs.declared.Job as Code
use Rattle.job_text.specs.Kept.{room, weights_in, profits_in}
use Rattle.job_text.specs.Reads.{kind_from, read_of, Reads}
use Rattle.job_text.proofs.Accepted.{kind_back}
use Rattle.job_run.specs.Runs.{left_in}
use Rattle.job.specs.declared.Ran.{Ran}
use Rattle.job.specs.Answered.{left_read, left_if, ending_of, text_of, Runs, Answers, Leaves, LeavesLent, empty_places}

-- ---- the items that were kept

weights_back : (k : ℕ) (is : List Item) → length is ≤ k → take (length is) (weights_in k is) ≡ map (λ (i : Item). i.weight) is
unfolding weights_in
weights_back zero [] le = refl
weights_back zero (i ∷ is) le = absurd (omega (arith, le))
weights_back (suc k) [] le = refl
weights_back (suc k) (i ∷ is) le = ap (λ (xs : List ℕ). i.weight ∷ xs) (weights_back k is (omega (arith, le)))

profits_back : (k : ℕ) (is : List Item) → length is ≤ k → take (length is) (profits_in k is) ≡ map (λ (i : Item). i.profit) is
unfolding profits_in
profits_back zero [] le = refl
profits_back zero (i ∷ is) le = absurd (omega (arith, le))
profits_back (suc k) [] le = refl
profits_back (suc k) (i ∷ is) le = ap (λ (xs : List ℕ). i.profit ∷ xs) (profits_back k is (omega (arith, le)))

-- ---- a job of at most 64 items is run, with all of them

module _ (j : Job) (h : Held) where
  as_read : length j.items ≤ 64 → left_read (read_of j) h ≡ left_by j h
  unfolding read_of run Def.problem_of
  as_read le =
      ap (λ (x : List ℕ). left_of (problem_of x (take (length j.items) (profits_in room j.items)) j.page j.width) (kind_of (kind_from j.kind)) h) (weights_back room j.items le)
      ∙ ap (λ (x : List ℕ). left_of (problem_of (map (λ (i : Item). i.weight) j.items) x j.page j.width) (kind_of (kind_from j.kind)) h) (profits_back room j.items le)
      ∙ ap (λ (k : CutsetKind). left_of (problem_of (map (λ (i : Item). i.weight) j.items) (map (λ (i : Item). i.profit) j.items) j.page j.width) k h) (kind_back j.kind)

-- ---- one of more is refused with 2: its lists are of one length

second_applies : (a b : Bool) (cs : List Check) → a ≡ false → b ≡ true → first_of (record { number = 1; applies = a } ∷ record { number = 2; applies = b } ∷ cs) ≡ some 2
unfolding first_of
second_applies true b cs e f = let z : ◌≡◌ {A = ℕ} 0 1 = cc in absurd (omega arith)
second_applies false true cs e f = refl
second_applies false false cs e f = let z : ◌≡◌ {A = ℕ} 0 1 = cc in absurd (omega arith)

too_many : (p : Problem) → length p.weights ≡ length p.profits → 64 < length p.weights → first_of (problem_checks p) ≡ some 2
unfolding problem_checks
too_many p e lt = second_applies _ _ _ (ap not (eq-eqb (length p.weights) (length p.profits) e)) (lt-ltb 64 (length p.weights) lt)

start_refused : (p : Problem) (kind : CutsetKind) (h : Held) (n : ℕ) → some n ≡ start_refusal p (length h.list) → left_of p kind h ≡ left (refused n) h
unfolding run_of run_leaves start unless started_on started_leaves
start_refused p kind h n e =
    ap (λ (x : Option ℕ). let d = unless x p i64_min h.list in left (started_on p kind h.lent d.list d.answer) (started_leaves p kind (record { list = d.list; lent = h.lent }) d.answer)) (sym e)

module _ (j : Job) (h : Held) where
  refused_many : 64 < length j.items → left (refused 2) h ≡ left_by j h
  unfolding run Def.problem_of
  refused_many lt =
      let w : length (map (λ (i : Item). i.weight) j.items) ≡ length j.items = length-map j.items (λ (i : Item). i.weight) in
      let f : length (map (λ (i : Item). i.profit) j.items) ≡ length j.items = length-map j.items (λ (i : Item). i.profit) in
      let p = Def.problem_of j in
      sym (start_refused p j.kind h 2 (start_before p (length h.list) 2 (too_many p (w ∙ sym f) (omega (arith, w, lt)))))

  -- what was read is run as the job is
  as_run : left_if (Ok (read_of j)) h ≡ left_by j h
  unfolding read_of
  as_run = by_test (λ b. cond b (left_read (read_of j) h) (left (refused 2) h) ≡ left_by j h) (leb (length j.items) 64) (λ t. as_read j h (leb-true (length j.items) 64 t)) (λ t. refused_many (leb-false (length j.items) 64 t))

-- ---- the run of a text

-- a run's answer with the number of its job's items
abbrev pub with_items : ℕ → Result Search ℕ → Result Ran ℕ
with_items n (Ok s) = Ok (record { items = n; search = s })
with_items n (Err k) = Err k

same_ending : (n : ℕ) (s : Result Search ℕ) (after : Held) → left (ending_of (with_items n s)) after ≡ left_in s after
same_ending n (Ok s) after = refl
same_ending n (Err k) after = refl

has_items : (n : ℕ) (s : Result Search ℕ) (t : Ran) → with_items n s ≡ Ok t → t.items ≡ n
has_items n (Ok s) t e = let same : ◌≡◌ {A = Ran} (record { items = n; search = s }) t = cc in sym (ap (λ (x : Ran). x.items) same)
has_items n (Err k) t e = let z : ◌≡◌ {A = ℕ} 0 1 = cc in absurd (omega arith)

module _ (text : List ℕ) (h : Held) where
  -- a text that was not read is run as what it is
  pub unread : (n : ℕ) → Reads text (Err n) → Runs text h (Err n) h
  unread n read =
      record {
        of_job = λ j is. let e = read.job_read j is in absurd (let z : ◌≡◌ {A = ℕ} 0 1 = cc in omega arith);
        outside = λ none. (ap Err (read.outside n refl).1, refl);
      }

  -- one that was read is run as its job is
  pub ran : (c : Code.Job) → Reads text (Ok c) → (s : Result Search ℕ) (after : Held) → left_in s after ≡ left_if (Ok c) h → Runs text h (with_items c.count s) after
  unfolding read_of
  ran c read s after e =
      record {
        of_job = λ j is.
            let read_as : ◌≡◌ {A = Result Code.Job ℕ} (Ok c) (Ok (read_of j)) = read.job_read j is in
            let same : c ≡ read_of j = cc in
            record {
              ends = same_ending c.count s after ∙ e ∙ ap (λ (x : Code.Job). left_if (Ok x) h) same ∙ as_run j h;
              counted = λ t f. has_items c.count s t f ∙ ap (λ (x : Code.Job). x.count) same;
            };
        outside = λ none. let f = read.found c refl in absurd (none f.job f.has_text);
      }

-- ---- what a run's answer and what it leaves are to its text

text_is : (r : Result Ran ℕ) (n : ℕ) → ((s : Ran) → r ≡ Ok s → s.items ≡ n) → text_of r ≡ answer_of n (ending_of r)
unfolding answer_of
text_is (Ok s) n counted = ap (λ (k : ℕ). answer_of k (ended (search_of s.search))) (counted s refl)
text_is (Err k) n counted = refl

module _ (text : List ℕ) (h : Held) (r : Result Ran ℕ) (after : Held) (x : Runs text h r after) where
  pub ends_job : (j : Job) → IsText text j → ending_of r ≡ run j h.lent h.list
  ends_job j is = ap (λ (y : Left). y.ending) (x.of_job j is).ends

  pub ends_outside : ((j : Job) → IsText text j → ⊥) → ending_of r ≡ refused 15
  ends_outside none = ap ending_of (x.outside none).0

  pub leaves : Leaves text h after
  leaves = record { of_job = λ j is. ap (λ (y : Left). y.held) (x.of_job j is).ends; outside = λ none. (x.outside none).1 }

  pub answers : (o : Output) → Says (text_of r) 671 o → Answers text h.lent h.list o
  answers o said =
      record {
        of_job = λ j is.
            subst (λ (t : List ℕ). Says t 671 o) (text_is r (length j.items) (x.of_job j is).counted ∙ ap (answer_of (length j.items)) (ends_job j is)) said;
        outside = λ none. subst (λ (t : List ℕ). Says t 671 o) (ap text_of (x.outside none).0) said;
      }

-- ---- over the first places of a list that is empty

first_same : (k n : ℕ) (r : Record) → k ≤ n → take k (replicate n r) ≡ replicate k r
first_same zero n r le = refl
first_same (suc k) zero r le = absurd (omega (arith, le))
first_same (suc k) (suc n) r le = ap (λ (xs : List Record). r ∷ xs) (first_same k n r (omega (arith, le)))

-- so many places are there
pub first_there : (k n a : ℕ) (r : Record) → k ≡ min a n → k ≡ length (take k (replicate n r))
first_there k n a r is = simp (length-take, length-replicate) (omega (arith, is))

-- of what a run leaves, the tables and the scratch list
leaves_lent : (text : List ℕ) (h after : Held) → Leaves text h after → LeavesLent text h after.lent
leaves_lent text h after x =
    record { of_job = λ j is. ap (λ (y : Held). y.lent) (x.of_job j is); outside = λ none. ap (λ (y : Held). y.lent) (x.outside none) }

-- k places are lent of a list of n, all empty, and k is the number a
module _ (text : List ℕ) (l : Lent) (o : Output) (after : Held) (n k a : ℕ) (list : List Record) where
  abbrev Told : List Place → Type 0
  Told xs = Answers text l xs o × LeavesLent text (record { list = xs; lent = l }) after.lent

  pub empty_list : k ≤ n → list ≡ replicate n no_record → k ≡ a → Answers text l (places (take k list)) o × Leaves text (record { list = places (take k list); lent = l }) after → Told (empty_places a)
  unfolding empty_places
  empty_list le e is x =
      subst Told (ap (λ (ys : List Record). places (take k ys)) e ∙ ap places (first_same k n no_record le) ∙ ap (λ (y : ℕ). places (replicate y no_record)) is) (x.0, leaves_lent text _ after x.1)
