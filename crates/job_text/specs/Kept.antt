-- What a reader of the code keeps of the machine's state: all but the items, of which it has the first 64 and the number.
use Rattle.std.specs.Prelude.{cond, ◌&&◌, ◌≡◌, List, [], ◌∷◌, ℕ, zero, suc, ◌+◌, ◌<◌, ◌≤◌, ltb, length, set}
use Rattle.knapsack.specs.Items.{Item}
use Rattle.diagram.specs.Record.{path_room}
use Rattle.jobs.specs.Text.{most_bytes}
use Rattle.job_text.specs.declared.Part.TheVariants.{Fault}
use Rattle.job_text.specs.declared.Place.{Place}
use Rattle.job_text.specs.declared.Head.{Head}
use Rattle.job_text.specs.declared.Reader.{Reader}
use Rattle.job_text.specs.Machine.{faulted, next_of, head_of, ends_item, State, run_of}

-- how many items are kept: as many as a path has decisions
abbrev pub room : ℕ
room = path_room

-- the weights of the first k items, and 0 behind them
unfoldable pub weights_in : ℕ → List Item → List ℕ
weights_in zero is = []
weights_in (suc k) [] = 0 ∷ weights_in k []
weights_in (suc k) (i ∷ is) = i.weight ∷ weights_in k is

-- the profits of the first k items, and 0 behind them
unfoldable pub profits_in : ℕ → List Item → List ℕ
profits_in zero is = []
profits_in (suc k) [] = 0 ∷ profits_in k []
profits_in (suc k) (i ∷ is) = i.profit ∷ profits_in k is

-- a number put into its place of the first 64, or lost behind them
unfoldable pub stored_at : List ℕ → ℕ → ℕ → List ℕ
stored_at l at n = cond (ltb at room) (set l at n) l

-- the reader one byte on, at a place and with a head, where no item ends
unfoldable pub moved_on : Reader → Place → Head → Reader
moved_on r p h = record { place = p; head = h; bytes = r.bytes + 1; count = r.count; weights = r.weights; profits = r.profits }

-- the same where an item ends
unfoldable pub moved_with : Reader → Place → Head → Reader
moved_with r p h =
    record {
      place = p;
      head = h;
      bytes = r.bytes + 1;
      count = r.count + 1;
      weights = stored_at r.weights r.count h.weight;
      profits = stored_at r.profits r.count p.number;
    }

-- a reader whose counts are at their end
unfoldable pub overrun_of : Reader → Reader
overrun_of r = record { place = faulted; head = r.head; bytes = r.bytes; count = r.count; weights = r.weights; profits = r.profits }

unfoldable pub moved_by : Reader → Place → Head → Reader
moved_by r p h = cond (ends_item r.place.part p.part) (moved_with r p h) (moved_on r p h)

-- the reader behind one byte more of a text within the bound
unfoldable pub taken_of : Reader → ℕ → Reader
taken_of r b = moved_by r (next_of r.place b) (head_of r.place.part (next_of r.place b).number r.head)

-- The reader behind one byte more. A text of `most_bytes` bytes has fewer items, so a reader of a text stops at its bytes.
unfoldable pub stepped_of : Reader → ℕ → Reader
stepped_of r b = cond (ltb r.bytes most_bytes && ltb r.count most_bytes) (taken_of r b) (overrun_of r)

pub record Holds (s : State) (r : Reader) : Type 0 where
  pub place_is : r.place ≡ s.place
  pub head_is : r.head ≡ s.head
  pub count_is : r.count ≡ length s.items
  pub weights_are : r.weights ≡ weights_in room s.items
  pub profits_are : r.profits ≡ profits_in room s.items

-- The reader that has read this text. 'Text above 65,535 bytes is outside': it stands at a fault.
pub record HasRead (t : List ℕ) (r : Reader) : Type 0 where
  pub short : length t ≤ most_bytes → Holds (run_of t) r × (r.bytes ≡ length t)
  pub long : most_bytes < length t → (r.place.part ≡ Fault) × (r.bytes ≡ most_bytes)
  pub few : r.count ≤ r.bytes
