-- The code's answer for each answer of the definition, field by field, and the one promise of `compile`.
use Rattle.std.specs.Prelude.{◌≡◌, Bool, List, ℕ, leb, length, Result, Ok, Err}
use Rattle.knapsack.specs.Items.{Item}
use Rattle.diagram.specs.Record.{Record}
use Rattle.diagram.specs.Tables.{Diagram}
use Rattle.diagram.specs.Run.{Settings, is_relaxing}
use Rattle.diagram.specs.After6.{Outcome, outcome, drained}
use Rattle.layout.specs.Table.{over}
use Rattle.layout.specs.Records.{record_table}
use Rattle.calls.specs.Compile as Def
use Rattle.calls.specs.Compile.{refused, compiled, Effect, Rooms, After, run_of, drain_into, effect_of}
use Rattle.grow.specs.declared.Growth.{Growth}
use Rattle.layers.specs.Stored.{layers_from}
use Rattle.cutset.specs.declared.Kind.{Kind}
use Rattle.cutset.specs.Whole.{kind_of}
use Rattle.finalize.specs.declared.Finished.{Finished}
use Rattle.finalize.specs.declared.Given.{Given}
use Rattle.finalize.specs.Given.{Grown}
use Rattle.finalize.specs.Ended.{value_from}
use Rattle.compile.specs.declared.Compiled.{Compiled}

-- an accepted compile's answer
abbrev pub compiled_from : Def.Compiled → Compiled
compiled_from c =
    record {
      exact = c.exact;
      best = value_from c.best;
      path = c.path;
      best_exact = value_from c.best_exact;
      exact_path = c.exact_path;
      nodes = c.node_count;
      edges = c.edge_count;
      drained = c.drained_count;
      layers = layers_from c.layers;
    }

-- 'A refusing compile gives its number alone.'
abbrev pub answer_from : Def.Answer → Result Compiled ℕ
answer_from (refused n) = Err n
answer_from (compiled c) = Ok (compiled_from c)

-- the answer to a grown and finished run, its records drained, or refused by that number
abbrev pub finishing : Result ℕ ℕ → Finished → Growth → Result Compiled ℕ
finishing (Ok n) f g =
    Ok
    (record {
      exact = f.exact;
      best = f.best;
      path = f.path;
      best_exact = f.best_exact;
      exact_path = f.exact_path;
      nodes = g.counts.nodes;
      edges = g.counts.edges;
      drained = n;
      layers = g.layers;
    })
finishing (Err n) f g = Err n

-- An effect of the definition over what the tables held: the answer, and the words that are written from each table's start on.
pub record Effected (e : Effect) (old_n old_e old_r : List ℕ) (a : Result Compiled ℕ) (ns es rs : List ℕ) : Type 0 where
  pub answer_is : a ≡ answer_from e.answer
  pub nodes_are : ns ≡ over e.nodes old_n
  pub edges_are : es ≡ over e.edges old_e
  pub records_are : rs ≡ over (record_table e.drained) old_r

-- the effect of a request that passed refusals 1 to 9, in those rooms
abbrev pub ran_effect : Def.Request → Rooms → Effect
ran_effect q m = effect_of q.given.path m.records (run_of q m)

-- the effect of a finished run of a record with that path, the list having room for so many records
abbrev pub end_effect : List ℕ → ℕ → Outcome → Effect
end_effect path room o = drain_into (leb (length (drained path o)) room) path o

-- a grown run ends in that effect
pub record Concluded (g : Growth) (relaxed : Bool) (kind : Kind) (given : Given) (ns es rs : List ℕ) (a : Result Compiled ℕ) (ns' rs' : List ℕ) : Type 0 where
  pub does : (s : Settings) (items : List Item) (r : Record) (d : Diagram) (old_n old_e : List ℕ) → Grown s items r d old_n old_e g.counts g.start g.layers g.last given ns es rs → relaxed ≡ is_relaxing s.mode → Effected (end_effect r.path given.room (outcome s.mode (kind_of kind) d)) old_n old_e rs a ns' es rs'

-- The call's answer and the lent tables after it are the definition's. Where it refused, the answer has the refusal's number.
pub record Answers (after : After) (a : Result Compiled ℕ) (ns es rs : List ℕ) : Type 0 where
  pub answer_is : a ≡ answer_from after.answer
  pub nodes_are : ns ≡ after.lent.nodes
  pub edges_are : es ≡ after.lent.edges
  pub records_are : rs ≡ after.lent.records
