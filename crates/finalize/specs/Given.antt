-- A grown run as `finalize` finds it: which diagram the tables hold, and how the code holds its counts, its layers and its record's path.
use Rattle.std.specs.Prelude.{◌≡◌, List, ℕ, ◌*◌, ◌≤◌, length, take, Option}
use Rattle.knapsack.specs.Items.{Item}
use Rattle.diagram.specs.Record.{Record}
use Rattle.diagram.specs.Tables.{Diagram}
use Rattle.diagram.specs.Run.{Settings, going}
use Rattle.diagram.specs.Rule2.{grown}
use Rattle.layout.specs.Records.{record_words}
use Rattle.branch.specs.declared.Counts.{Counts}
use Rattle.branch.specs.State.{counts_of, Held}
use Rattle.layers.specs.declared.Layers.{Layers}
use Rattle.layers.specs.declared.Layer.{Layer}
use Rattle.layers.specs.Stored.{stored, last_of}
use Rattle.finalize.specs.declared.Given.{Given}

pub record Grown (s : Settings) (items : List Item) (r : Record) (d : Diagram) (old_n old_e : List ℕ) (k : Counts) (start : ℕ) (layers : Layers) (last : Option Layer) (given : Given) (ns es rs : List ℕ) : Type 0 where
  pub grown_is : grown s items r ≡ going d
  pub few_items : length items ≤ 64
  pub held : Held d old_n old_e ns es
  pub counts_are : k ≡ counts_of d
  pub start_is : start ≡ d.start
  pub layers_are : stored layers ≡ d.layers
  pub last_is : last_of last ≡ d.last
  pub path_is : take given.depth given.path ≡ r.path
  pub path_long : length r.path ≡ r.depth
  pub depth_is : given.depth ≡ r.depth
  pub depth_in : r.depth ≤ length items
  pub room_in : given.room * record_words ≤ length rs

-- There is such a run.
pub record Finalizable (k : Counts) (start : ℕ) (layers : Layers) (last : Option Layer) (given : Given) (ns es rs : List ℕ) : Type 0 where
  pub settings : Settings
  pub items : List Item
  pub compiled : Record
  pub diagram : Diagram
  pub old_n : List ℕ
  pub old_e : List ℕ
  pub grown : Grown settings items compiled diagram old_n old_e k start layers last given ns es rs
