-- What `finalize` answers and leaves in the tables: a finished run's outcome, in the words of compile's definition.
use Rattle.std.specs.Prelude.{◌≡◌, Bool, List, ℕ, ℤ, Option, Some, None}
use Rattle.std.proofs.Math.Option as Math
use Rattle.std.proofs.Math.Option.{none, some}
use Rattle.knapsack.specs.Items.{Item}
use Rattle.diagram.specs.Record.{Record}
use Rattle.diagram.specs.Tables.{Diagram}
use Rattle.diagram.specs.Run.{Settings, is_relaxing}
use Rattle.diagram.specs.After6.{Outcome, outcome, drained}
use Rattle.layout.specs.Table.{over}
use Rattle.layout.specs.Rows.{node_table}
use Rattle.layout.specs.Records.{record_table}
use Rattle.calls.specs.Compile.{value_of, path_of}
use Rattle.branch.specs.declared.Counts.{Counts}
use Rattle.layers.specs.declared.Layers.{Layers}
use Rattle.layers.specs.declared.Layer.{Layer}
use Rattle.reasons.specs.Numbers.{numbered}
use Rattle.cutset.specs.declared.Kind.{Kind}
use Rattle.cutset.specs.Whole.{kind_of, answer, fitting}
use Rattle.finalize.specs.declared.Finished.{Finished}
use Rattle.finalize.specs.declared.Given.{Given}
use Rattle.finalize.specs.Given.{Grown}

-- a value or none, as the code answers it
abbrev pub value_from : Math.Option ℤ → Option ℤ
value_from none = None
value_from (some x) = Some x

-- what is answered of outcome o, of a record with that path
pub record Tells (o : Outcome) (path : List ℕ) (f : Finished) : Type 0 where
  pub exact_is : f.exact ≡ o.exact
  pub best_is : f.best ≡ value_from (value_of o.diagram o.best)
  pub path_is : f.path ≡ path_of path o.diagram o.best
  pub best_exact_is : f.best_exact ≡ value_from (value_of o.diagram o.best_exact)
  pub exact_path_is : f.exact_path ≡ path_of path o.diagram o.best_exact

-- outcome o of a record with that path, the list having room for so many records
pub record Ends (o : Outcome) (path : List ℕ) (room : ℕ) (old_n rs : List ℕ) (f : Finished) (ns' rs' : List ℕ) : Type 0 where
  pub told : Tells o path f
  pub drained_is : numbered f.drained ≡ answer room (drained path o)
  pub nodes_are : ns' ≡ over (node_table o.diagram.nodes) old_n
  pub records_are : rs' ≡ over (record_table (fitting room (drained path o))) rs

pub record Finalized (k : Counts) (start : ℕ) (layers : Layers) (last : Option Layer) (relaxed : Bool) (kind : Kind) (given : Given) (ns es rs : List ℕ) (f : Finished) (ns' rs' : List ℕ) : Type 0 where
  pub does : (s : Settings) (items : List Item) (r : Record) (d : Diagram) (old_n old_e : List ℕ) → Grown s items r d old_n old_e k start layers last given ns es rs → relaxed ≡ is_relaxing s.mode → Ends (outcome s.mode (kind_of kind) d) r.path given.room old_n rs f ns' rs'
