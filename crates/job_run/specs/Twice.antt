-- Two runs of one problem in tables, scratch lists and lists of the same sizes, whatever these hold: they end alike, and write the same over it.
use Rattle.std.specs.Prelude.{◌≡◌, List, length}
use Rattle.diagram.specs.After4.{CutsetKind}
use Rattle.layout.specs.Table.{over}
use Rattle.calls.specs.Asked.{Problem}
use Rattle.calls.specs.Compile.{Lent, rooms_of}
use Rattle.call_laws.specs.Statements.{Words, SameLengths}
use Rattle.searches.specs.Places.{Place, over_places}
use Rattle.searches.specs.Pick.{Held}
use Rattle.jobs.specs.Text.{Job}
use Rattle.jobs.specs.Run.{run_of, run}
use Rattle.jobs.specs.Left.{run_leaves}

abbrev pub OneRun : Type 0
OneRun = (p : Problem) (kind : CutsetKind) (l m : Lent) (list other : List Place) → rooms_of l ≡ rooms_of m → length list ≡ length other → run_of p kind l list ≡ run_of p kind m other

abbrev pub OneJobRun : Type 0
OneJobRun = (j : Job) (l m : Lent) (list other : List Place) → rooms_of l ≡ rooms_of m → length list ≡ length other → run j l list ≡ run j m other

-- ---- what they leave

pub record SameSizes (h k : Held) : Type 0 where
  pub list : length h.list ≡ length k.list
  pub lent : SameLengths h.lent k.lent

-- lists and tables with those places and words written from their starts on
abbrev pub written_over : List Place → Words → Held → Held
written_over ps w h =
    let l = h.lent in
    record {
      list = over_places ps h.list;
      lent = record { nodes = over w.nodes l.nodes; edges = over w.edges l.edges; records = over w.records l.records };
    }

-- d and e are what h and k have become: the same is written over both
pub record LeftAlike (d e h k : Held) : Type 0 where
  pub placed : List Place
  pub written : Words
  pub first : d ≡ written_over placed written h
  pub second : e ≡ written_over placed written k

abbrev pub OneRunLeaves : Type 0
OneRunLeaves = (p : Problem) (kind : CutsetKind) (h k : Held) → SameSizes h k → LeftAlike (run_leaves p kind h) (run_leaves p kind k) h k
