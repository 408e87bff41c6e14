-- 'After the last layer', drained records, and the finished run that all of its paragraphs give together.
use Rattle.std.specs.Prelude.{Bool, cond, List, [], ◌∷◌, ℕ, min}
use Rattle.words.specs.I64.{sat_add}
use Rattle.knapsack.specs.Items.{Item}
use Rattle.diagram.specs.Record.{Record}
use Rattle.diagram.specs.Node.{Node, node_at}
use Rattle.diagram.specs.Tables.{Diagram, Found, at, nowhere, with_nodes}
use Rattle.diagram.specs.Run.{Mode, Settings, Run, going, stopped}
use Rattle.diagram.specs.Rule2.{grown}
use Rattle.diagram.specs.After1.{best_node, best_exact_node}
use Rattle.diagram.specs.After2.{is_exact}
use Rattle.diagram.specs.After3.{path_to}
use Rattle.diagram.specs.After4.{CutsetKind, cutset_for}
use Rattle.diagram.specs.After5.{local_bounds}

-- A finished run: exactness, best node, best exact node, the cutset's rows in order, and the diagram with its stored layers, its
-- cutset flags, its marks and its bottom values.
pub record Outcome : Type 0 where
  pub exact : Bool
  pub best : Found
  pub best_exact : Found
  pub cutset : List ℕ
  pub diagram : Diagram

unfoldable pub outcome : Mode → CutsetKind → Diagram → Outcome
outcome m k d =
    record {
      exact = is_exact m d;
      best = best_node d;
      best_exact = best_exact_node m d;
      cutset = (cutset_for m k d).listed;
      diagram = with_nodes d (local_bounds m d (cutset_for m k d).nodes);
    }

-- 'The record's bound is the least of value plus fast bound, value plus bottom value, and the best value.'
unfoldable pub drained_bound : ℕ → Node → ℕ
drained_bound best_value n = min (min (sat_add n.value n.fast) (sat_add n.value n.bottom)) best_value

unfoldable pub drained_record : List ℕ → Diagram → ℕ → ℕ → Record
drained_record record_path d best_value r =
    record {
      capacity = (node_at d.nodes r).capacity;
      value = (node_at d.nodes r).value;
      bound = drained_bound best_value (node_at d.nodes r);
      depth = (node_at d.nodes r).depth;
      path = path_to record_path d r;
    }

-- 'Drained: cutset nodes in order, only marked ones'
unfoldable pub drain_rows : List ℕ → Diagram → ℕ → List ℕ → List Record
drain_rows record_path d best_value [] = []
drain_rows record_path d best_value (r ∷ rs) =
    cond (node_at d.nodes r).marked (drained_record record_path d best_value r ∷ drain_rows record_path d best_value rs) (drain_rows record_path d best_value rs)

-- 'none if there is no best value'. 'Exact diagrams drain theirs too.'
unfoldable pub drain_for : Found → List ℕ → Outcome → List Record
drain_for nowhere record_path o = []
drain_for (at b) record_path o = drain_rows record_path o.diagram (node_at o.diagram.nodes b).value o.cutset

unfoldable pub drained : List ℕ → Outcome → List Record
drained record_path o = drain_for o.best record_path o

-- A run's answer: the refusal with the tables as they were, or the finished run.
pub data Answer : Type 0 where
  refused : ℕ → Diagram → Answer
  finished : Outcome → Answer

unfoldable pub finish : Mode → CutsetKind → Run → Answer
finish m k (stopped n d) = refused n d
finish m k (going d) = finished (outcome m k d)

-- the run of a record: growth, then all that comes after the last layer
unfoldable pub run : Settings → CutsetKind → List Item → Record → Answer
run s k items r = finish s.mode k (grown s items r)
