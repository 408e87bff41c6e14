-- What is read from a text: its job, or nothing where it is no job's text.
use Rattle.std.specs.Prelude.{cond, ◌≡◌, List, ℕ, length, Result, Ok, Err}
use Rattle.diagram.specs.After4.{CutsetKind, last_exact_layer, frontier}
use Rattle.jobs.specs.Text.{Job, IsText}
use Rattle.cutset.specs.declared.Kind.{Kind}
use Rattle.cutset.specs.declared.Kind.TheVariants.{LastExactLayer, Frontier}
use Rattle.job_text.specs.declared.Reader.{Reader}
use Rattle.job_text.specs.declared.Job as Code
use Rattle.job_text.specs.Machine.{whole_at}
use Rattle.job_text.specs.Kept.{room, weights_in, profits_in}

-- the cutset kind as the code has it
abbrev pub kind_from : CutsetKind → Kind
kind_from last_exact_layer = LastExactLayer
kind_from frontier = Frontier

-- a job as the code has it: the first 64 items, 0 behind them, and the number of all
unfoldable pub read_of : Job → Code.Job
read_of j =
    record {
      page = j.page;
      width = j.width;
      kind = kind_from j.kind;
      count = length j.items;
      weights = weights_in room j.items;
      profits = profits_in room j.items;
    }

-- what a reader read, were the text whole
abbrev pub read_from : Reader → Code.Job
read_from r =
    record { page = r.head.page; width = r.head.width; kind = r.head.kind; count = r.count; weights = r.weights; profits = r.profits }

-- what a reader read, at the text's end: 15 'job text outside the grammar'
unfoldable pub ended_of : Reader → Result Code.Job ℕ
ended_of r = cond (whole_at r.place) (Ok (read_from r)) (Err 15)

-- a job that has this text, and as which it was read
pub record Found (t : List ℕ) (r : Code.Job) : Type 0 where
  pub job : Job
  pub has_text : IsText t job
  pub as_read : r ≡ read_of job

-- What r is for the text t: 'outside the grammar' is what no job has as its text.
pub record Reads (t : List ℕ) (r : Result Code.Job ℕ) : Type 0 where
  pub job_read : (j : Job) → IsText t j → r ≡ Ok (read_of j)
  pub found : (c : Code.Job) → r ≡ Ok c → Found t c
  pub outside : (n : ℕ) → r ≡ Err n → ((j : Job) → IsText t j → ⊥) × (n ≡ 15)
