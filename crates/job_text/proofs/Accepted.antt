-- Whatever the machine accepts is the text of the job that it read; and a text is that of one job at most.
use mathlib.Core.Path.{◌≡◌, refl, sym, ap, subst, ◌∙◌}
use mathlib.Core.Bool.{Bool, true, false, cond}
use mathlib.Core.List.{List, [], ◌∷◌, ◌++◌, append_assoc, append-nil}
use Prim.Native.Nat.{ℕ, ◌<◌, ◌≤◌}
use native.Mathlib.Omega.{arith}
use native.Mathlib.Decide.{dec_le}
use lib.Dec.{eqb}
use lib.ListN.{length}
use borrow.Author.Tests.{eqb-true, eq-eqb}
use Rattle.std.specs.Prelude.{Ok, Err}
use Rattle.knapsack.specs.Items.{Item}
use Rattle.diagram.specs.After4.{CutsetKind, last_exact_layer, frontier}
use Rattle.theorems.proofs.Bool.{and_true, and_right}
use Rattle.jobs.specs.Text.{Job, text_of, nine_digits, SmallItems, most_bytes, IsText}
use Rattle.cutset.specs.declared.Kind.{Kind}
use Rattle.cutset.specs.declared.Kind.TheVariants.{LastExactLayer, Frontier as FrontierKind}
use Rattle.cutset.specs.Whole.{kind_of}
use Rattle.job_text.specs.declared.Part.{Part}
use Rattle.job_text.specs.declared.Part.TheVariants.{CapWord, Page, WidthWord, Width, CutWord, Choice, Lel, Frontier, ItemWord, Weight, Profit, Fault}
use Rattle.job_text.specs.declared.Place.{Place}
use Rattle.job_text.specs.declared.Head.{Head}
use Rattle.job_text.specs.declared.Reader.{Reader}
use Rattle.job_text.specs.Machine.{next_from, next_of, head_of, is_item_word, ends_item, State, begun, moved_to, step_of, run_from, run_of, whole_at}
use Rattle.job_text.specs.Kept.{room, weights_in, Holds, HasRead}
use Rattle.job_text.specs.Reads.{kind_from, read_of, read_from, ended_of, Found, Reads}
use Rattle.job_text.proofs.Lines.{Whole, text_run}
use Rattle.job_text.proofs.SoFar.{job_of, front, inside, so_far}
use Rattle.job_text.proofs.Behind.{Calm, Behind}
use Rattle.job_text.proofs.Rows.{row}

-- Every number that is kept has nine digits at most.
pub record SmallHead (h : Head) : Type 0 where
  pub page_small : h.page < nine_digits
  pub width_small : h.width < nine_digits
  pub weight_small : h.weight < nine_digits

small_head : (part : Part) (n : ℕ) (h : Head) → n < nine_digits → SmallHead h → SmallHead (head_of part n h)
unfolding head_of
small_head CapWord n h few small = small
small_head Page n h few small = record { page_small = few; width_small = small.width_small; weight_small = small.weight_small }
small_head WidthWord n h few small = small
small_head Width n h few small = record { page_small = small.page_small; width_small = few; weight_small = small.weight_small }
small_head CutWord n h few small = small
small_head Choice n h few small = small
small_head Lel n h few small = record { page_small = small.page_small; width_small = small.width_small; weight_small = small.weight_small }
small_head Frontier n h few small = record { page_small = small.page_small; width_small = small.width_small; weight_small = small.weight_small }
small_head ItemWord n h few small = small
small_head Weight n h few small = record { page_small = small.page_small; width_small = small.width_small; weight_small = few }
small_head Profit n h few small = small
small_head Fault n h few small = small

small_more : (is : List Item) (i : Item) → SmallItems is → i.weight < nine_digits → i.profit < nine_digits → SmallItems (is ++ (i ∷ []))
small_more [] i small light cheap = (light, (cheap, tt))
small_more (j ∷ is) i small light cheap = (small.0, (small.1.0, small_more is i small.1.1 light cheap))

small_choice : (t : Bool) (is : List Item) (i : Item) → SmallItems is → i.weight < nine_digits → i.profit < nine_digits → SmallItems (cond t (is ++ (i ∷ [])) is)
small_choice true is i small light cheap = small_more is i small light cheap
small_choice false is i small light cheap = small

-- What holds of the machine behind a text.
pub record Good (t : List ℕ) (s : State) : Type 0 where
  pub text : (s.place.part ≡ Fault → ⊥) → t ≡ so_far s
  pub calm : Calm s.place.part s.items
  pub few : s.place.number < nine_digits
  pub head : SmallHead s.head
  pub items : SmallItems s.items

-- From a fault no byte leads on.
stuck_next : (p : Place) (b : ℕ) → p.part ≡ Fault → (next_of p b).part ≡ Fault
unfolding next_of next_from
stuck_next p b e = ap (λ (q : Part). (next_from q p b).part) e ∙ e

stuck : (s : State) (b : ℕ) → s.place.part ≡ Fault → (step_of s b).place.part ≡ Fault
unfolding step_of moved_to
stuck s b e = stuck_next s.place b e

step_head : (s : State) (b : ℕ) → (step_of s b).place.number < nine_digits → SmallHead s.head → SmallHead (step_of s b).head
unfolding step_of moved_to
step_head s b few small = small_head s.place.part (next_of s.place b).number s.head few small

step_items : (s : State) (b : ℕ) → (step_of s b).place.number < nine_digits → SmallHead (step_of s b).head → SmallItems s.items → SmallItems (step_of s b).items
unfolding step_of moved_to
step_items s b few small items =
    small_choice (ends_item s.place.part (next_of s.place b).part) s.items _ items small.weight_small few

good_step : (t : List ℕ) (s : State) (b : ℕ) → Good t s → Good (t ++ (b ∷ [])) (step_of s b)
good_step t s b good =
    let next : Behind s b (step_of s b) = row s.place.part s.place.at s.place.number b s.head s.items good.calm in
    let less : (step_of s b).place.number < nine_digits = next.small good.few in
    let head : SmallHead (step_of s b).head = step_head s b less good.head in
    record {
      text = λ fine.
          ap (λ (x : List ℕ). x ++ (b ∷ [])) (good.text (λ e. fine (stuck s b e))) ∙ sym (next.text fine);
      calm = next.calm;
      few = less;
      head = head;
      items = step_items s b less head good.items;
    }

good_run : (more t : List ℕ) (s : State) → Good t s → Good (t ++ more) (run_from more s)
unfolding run_from
good_run [] t s good = subst (λ (x : List ℕ). Good x s) (sym (append-nil t)) good
good_run (b ∷ more) t s good =
    subst (λ (x : List ℕ). Good x (run_from more (step_of s b))) (append_assoc t (b ∷ []) more) (good_run more (t ++ (b ∷ [])) (step_of s b) (good_step t s b good))

good_start : Good [] begun
unfolding so_far front inside
good_start =
    record {
      text = λ fine. refl;
      calm = refl;
      few = omega arith;
      head = record { page_small = omega arith; width_small = omega arith; weight_small = omega arith };
      items = tt;
    }

pub good : (t : List ℕ) → Good t (run_of t)
unfolding run_of
good t = good_run t [] begun good_start

-- The text so far at the beginning of an item's line is the whole of a job's.
whole_text : (s : State) → s.place.part ≡ ItemWord → s.place.at ≡ 0 → so_far s ≡ text_of (job_of s.head s.items)
unfolding so_far front inside
whole_text s part_is at_start =
    ap (λ (q : Part). front q s.head s.items ++ inside q s.place.at s.place.number) part_is ∙ (ap (λ (k : ℕ). front ItemWord s.head s.items ++ inside ItemWord k s.place.number) at_start ∙ append-nil (text_of (job_of s.head s.items)))

no_fault : (part : Part) → part ≡ ItemWord → part ≡ Fault → ⊥
no_fault part e f = let z : ◌≡◌ {A = ℕ} 0 1 = cc in omega arith

pub accepted : (t : List ℕ) → length t ≤ most_bytes → (run_of t).place.part ≡ ItemWord → (run_of t).place.at ≡ 0 → IsText t (job_of (run_of t).head (run_of t).items)
accepted t fits part_is at_start =
    record {
      text_is = (good t).text (no_fault _ part_is) ∙ whole_text (run_of t) part_is at_start;
      page_small = (good t).head.page_small;
      width_small = (good t).head.width_small;
      items_small = (good t).items;
      short = fits;
    }

pub kind_back : (k : CutsetKind) → kind_of (kind_from k) ≡ k
kind_back last_exact_layer = refl
kind_back frontier = refl

pub kind_there : (k : Kind) → kind_from (kind_of k) ≡ k
kind_there LastExactLayer = refl
kind_there FrontierKind = refl

jobs_same : {a b : Job} → a.page ≡ b.page → a.width ≡ b.width → a.kind ≡ b.kind → a.items ≡ b.items → a ≡ b
jobs_same {a} {b} p w k i =
    ap (λ (x : ℕ). record { page = x; width = a.width; kind = a.kind; items = a.items }) p ∙ (ap (λ (x : ℕ). record { page = b.page; width = x; kind = a.kind; items = a.items }) w ∙ (ap (λ (x : CutsetKind). record { page = b.page; width = b.width; kind = x; items = a.items }) k ∙ ap (λ (x : List Item). record { page = b.page; width = b.width; kind = b.kind; items = x }) i))

-- the job that a state behind its text holds
job_held : (s : State) (j : Job) → Whole s j.page j.width (kind_from j.kind) j.items → job_of s.head s.items ≡ j
job_held s j whole =
    let kinds : kind_of s.head.kind ≡ j.kind = ap kind_of whole.kind_is ∙ kind_back j.kind in
    jobs_same whole.page_is whole.width_is kinds whole.items_are

-- A text is that of one job at most.
pub one_job : (t : List ℕ) (j k : Job) → IsText t j → IsText t k → j ≡ k
one_job t j k is-j is-k = sym (job_held (run_of t) j (text_run t j is-j)) ∙ job_held (run_of t) k (text_run t k is-k)

is_item_word_lem : (part : Part) → is_item_word part ≡ true → part ≡ ItemWord
unfolding is_item_word
is_item_word_lem CapWord e = cc
is_item_word_lem Page e = cc
is_item_word_lem WidthWord e = cc
is_item_word_lem Width e = cc
is_item_word_lem CutWord e = cc
is_item_word_lem Choice e = cc
is_item_word_lem Lel e = cc
is_item_word_lem Frontier e = cc
is_item_word_lem ItemWord e = refl
is_item_word_lem Weight e = cc
is_item_word_lem Profit e = cc
is_item_word_lem Fault e = cc

whole_part : (p : Place) → whole_at p ≡ true → p.part ≡ ItemWord
unfolding whole_at
whole_part p e = is_item_word_lem p.part (and_true (is_item_word p.part) (eqb p.at 0) e)

whole_start : (p : Place) → whole_at p ≡ true → p.at ≡ 0
unfolding whole_at
whole_start p e = eqb-true p.at 0 (and_right (is_item_word p.part) (eqb p.at 0) e)

whole_there : (p : Place) → p.part ≡ ItemWord → p.at ≡ 0 → whole_at p ≡ true
unfolding whole_at is_item_word
whole_there p e z = rw (ap is_item_word e, eq-eqb p.at 0 z)

-- A reader behind a whole text has read no more bytes than a text has.
fits_whole : (t : List ℕ) (r : Reader) → HasRead t r → r.place.part ≡ ItemWord → length t ≤ most_bytes
fits_whole t r has part_is =
    elim (dec_le (length t) most_bytes) [
      | yes fits ↦ fits
      | no over ↦ absurd (no_fault r.place.part part_is (has.long (omega arith)).0)
    ]

reads_same : (s : State) (r : Reader) → Holds s r → read_from r ≡ read_of (job_of s.head s.items)
unfolding read_of
reads_same s r holds =
    ap (λ (h : Head). record { page = h.page; width = h.width; kind = h.kind; count = r.count; weights = r.weights; profits = r.profits }) holds.head_is ∙ (ap (λ (k : Kind). record { page = s.head.page; width = s.head.width; kind = k; count = r.count; weights = r.weights; profits = r.profits }) (sym (kind_there s.head.kind)) ∙ (ap (λ (n : ℕ). record { page = s.head.page; width = s.head.width; kind = kind_from (kind_of s.head.kind); count = n; weights = r.weights; profits = r.profits }) holds.count_is ∙ (ap (λ (l : List ℕ). record { page = s.head.page; width = s.head.width; kind = kind_from (kind_of s.head.kind); count = length s.items; weights = l; profits = r.profits }) holds.weights_are ∙ ap (λ (l : List ℕ). record { page = s.head.page; width = s.head.width; kind = kind_from (kind_of s.head.kind); count = length s.items; weights = weights_in room s.items; profits = l }) holds.profits_are)))

found_job : (t : List ℕ) (r : Reader) → HasRead t r → whole_at r.place ≡ true → Found t (read_from r)
found_job t r has whole =
    let part_is : r.place.part ≡ ItemWord = whole_part r.place whole in
    let at_start : r.place.at ≡ 0 = whole_start r.place whole in
    let fits : length t ≤ most_bytes = fits_whole t r has part_is in
    let holds : Holds (run_of t) r = (has.short fits).0 in
    record {
      job = job_of (run_of t).head (run_of t).items;
      has_text = accepted t fits (ap (λ (p : Place). p.part) (sym holds.place_is) ∙ part_is) (ap (λ (p : Place). p.at) (sym holds.place_is) ∙ at_start);
      as_read = reads_same (run_of t) r holds;
    }

-- What is read where the machine stands behind a whole text, and where it does not.
pub ended_whole : (r : Reader) → whole_at r.place ≡ true → Ok (read_from r) ≡ ended_of r
unfolding ended_of
ended_whole r whole = rw whole

pub ended_part_way : (r : Reader) → whole_at r.place ≡ false → Err 15 ≡ ended_of r
unfolding ended_of
ended_part_way r part-way = rw part-way

pub reads_whole : (t : List ℕ) (r : Reader) → HasRead t r → whole_at r.place ≡ true → Reads t (Ok (read_from r))
reads_whole t r has whole =
    let it : Found t (read_from r) = found_job t r has whole in
    record {
      job_read = λ j is-text. ap Ok (it.as_read ∙ ap read_of (one_job t it.job j it.has_text is-text));
      found = λ c e. let same : read_from r ≡ c = cc in subst (Found t) same it;
      outside = λ n e. absurd (let z : ◌≡◌ {A = ℕ} 0 1 = cc in omega arith);
    }

no_text : (t : List ℕ) (r : Reader) → HasRead t r → whole_at r.place ≡ false → (j : Job) → IsText t j → ⊥
no_text t r has part-way j is-text =
    let whole : Whole (run_of t) j.page j.width (kind_from j.kind) j.items = text_run t j is-text in
    let holds : Holds (run_of t) r = (has.short is-text.short).0 in
    let closed : whole_at r.place ≡ true = ap whole_at holds.place_is ∙ whole_there (run_of t).place whole.part_is whole.at_start in
    let z : ◌≡◌ {A = ℕ} 0 1 = cc in
    omega arith

pub reads_nothing : (t : List ℕ) (r : Reader) → HasRead t r → whole_at r.place ≡ false → Reads t (Err 15)
reads_nothing t r has part-way =
    record {
      job_read = λ j is-text. absurd (no_text t r has part-way j is-text);
      found = λ c e. absurd (let z : ◌≡◌ {A = ℕ} 0 1 = cc in omega arith);
      outside = λ n e. (no_text t r has part-way, cc);
    }

-- Whether a text is a job's is told by where the machine stands behind it.
pub data Told (t : List ℕ) : Type 0 where
  a_job : (j : Job) → IsText t j → Told t
  no_job : ((j : Job) → IsText t j → ⊥) → Told t

told_by : (t : List ℕ) → length t ≤ most_bytes → (b : Bool) → whole_at (run_of t).place ≡ b → Told t
told_by t fits true whole =
    a_job (job_of (run_of t).head (run_of t).items) (accepted t fits (whole_part (run_of t).place whole) (whole_start (run_of t).place whole))
told_by t fits false part-way =
    no_job (λ j is-text.
    let whole : Whole (run_of t) j.page j.width (kind_from j.kind) j.items = text_run t j is-text in
    let closed : whole_at (run_of t).place ≡ true = whole_there (run_of t).place whole.part_is whole.at_start in
    let z : ◌≡◌ {A = ℕ} 0 1 = cc in
    omega arith)

pub told : (t : List ℕ) → Told t
told t =
    elim (dec_le (length t) most_bytes) [
      | yes fits ↦ told_by t fits (whole_at (run_of t).place) refl
      | no over ↦ no_job (λ j is-text. let fits : length t ≤ most_bytes = is-text.short in absurd (omega arith))
    ]
