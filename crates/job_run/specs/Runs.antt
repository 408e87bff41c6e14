-- What the steps of a run make, and which ending of the definition its answer stands for, with what it leaves.
use Rattle.std.specs.Prelude.{Bool, true, false, ℕ, Result, Ok, Err}
use Rattle.std.specs.Int.Signed.{lt_z}
use Rattle.records.specs.declared.Record.{Record}
use Rattle.search.specs.declared.Search.{Search}
use Rattle.search.specs.Held.{search_of}
use Rattle.searches.specs.Pick.{Held}
use Rattle.jobs.specs.Run.{Ending, refused, ended}
use Rattle.jobs.specs.Left.{Left, left}

abbrev pub chosen : Bool → ℕ → ℕ → ℕ
chosen true at best = at
chosen false at best = best

-- 'the largest bound, lowest place on a tie': of two records and their places
abbrev pub larger : ℕ → ℕ → Record → Record → ℕ
larger best at first other = chosen (lt_z first.bound other.bound) at best

-- a refused call's number, or the search that the run came to
abbrev pub ending_of : Result Search ℕ → Ending
ending_of (Ok s) = ended (search_of s)
ending_of (Err n) = refused n

-- the same, with what lists and tables hold then
abbrev pub left_in : Result Search ℕ → Held → Left
left_in r after = left (ending_of r) after
