-- Two calls on one text, in as many rows and places, have one output, all its bytes, and write the same over the lent tables and lists, whatever these held before.
use Rattle.std.specs.Prelude.{◌≡◌, List, ℕ, min, length}
use Rattle.calls.specs.Compile.{Lent, rooms_of}
use Rattle.call_laws.specs.Statements.{SameLengths}
use Rattle.compile.specs.Asked.{lent_of}
use Rattle.records.specs.declared.Record.{Record}
use Rattle.records.specs.Structs.{places}
use Rattle.searches.specs.Pick.{Held}
use Rattle.pick_steps.specs.Tried.{held_in}
use Rattle.demand2.specs.Records.{SameWords}
use Rattle.page_text.specs.declared.Output.{Output}
use Rattle.job_run.specs.Twice.{SameSizes, LeftAlike}
use Rattle.job.specs.Answered.{Answers, Leaves, LeavesLent, empty_places}

-- A call of `run_job` that has come back: what it was lent, its output, and what lists and tables hold after it; `promised` is what it ensures.
pub record Ran : Type 0 where
  pub text : List ℕ
  pub nodes : List ℕ
  pub edges : List ℕ
  pub list : List Record
  pub scratch : List ℕ
  pub output : Output
  pub after : Held
  pub promised : Answers text (lent_of nodes edges scratch) (places list) output × Leaves text (held_in (places list) nodes edges scratch) after

abbrev pub lent_to : Ran → Lent
lent_to c = lent_of c.nodes c.edges c.scratch

-- The same text, as many rows and places: tables of one length have as many rows.
pub record RanAlike (c d : Ran) : Type 0 where
  pub texts : c.text ≡ d.text
  pub rooms : rooms_of (lent_to c) ≡ rooms_of (lent_to d)
  pub long : length c.list ≡ length d.list

abbrev pub OneOutput : Type 0
OneOutput = (c d : Ran) → RanAlike c d → c.output ≡ d.output

abbrev pub held_by : Ran → Held
held_by c = held_in (places c.list) c.nodes c.edges c.scratch

-- In tables of one length, and not only of as many rows, what is left is the same writing over what each held.
abbrev pub OneLeft : Type 0
OneLeft = (c d : Ran) → c.text ≡ d.text → SameSizes (held_by c) (held_by d) → LeftAlike c.after d.after (held_by c) (held_by d)

-- A call of `answer` that has come back: what it was lent, its output, and what tables and scratch list hold after it; the open list is its own.
pub record Answered : Type 0 where
  pub text : List ℕ
  pub nodes : List ℕ
  pub edges : List ℕ
  pub scratch : List ℕ
  pub open_places : ℕ
  pub output : Output
  pub after : Lent
  pub promised : Answers text (lent_of nodes edges scratch) (empty_places (min open_places 16384)) output × LeavesLent text (held_in (empty_places (min open_places 16384)) nodes edges scratch) after

abbrev pub lent_by : Answered → Lent
lent_by c = lent_of c.nodes c.edges c.scratch

pub record AnsweredAlike (c d : Answered) : Type 0 where
  pub texts : c.text ≡ d.text
  pub rooms : rooms_of (lent_by c) ≡ rooms_of (lent_by d)
  pub open_alike : c.open_places ≡ d.open_places

abbrev pub OneAnswer : Type 0
OneAnswer = (c d : Answered) → AnsweredAlike c d → c.output ≡ d.output

-- the same words over what two calls were lent
pub record SameTables (before after before' after' : Lent) : Type 0 where
  pub nodes : SameWords before.nodes after.nodes before'.nodes after'.nodes
  pub edges : SameWords before.edges after.edges before'.edges after'.edges
  pub records : SameWords before.records after.records before'.records after'.records

abbrev pub AnswerLeavesOne : Type 0
AnswerLeavesOne =
    (c d : Answered) → c.text ≡ d.text → c.open_places ≡ d.open_places → SameLengths (lent_by c) (lent_by d) → SameTables (lent_by c) c.after (lent_by d) d.after
