-- The values that the small functions of `compile` make are those that the specs name.
use mathlib.Core.Path.{◌≡◌, refl}
use mathlib.Core.List.{List}
use Prim.Native.Nat.{ℕ, ◌/◌}
use lib.ListN.{length, drop, replicate}
use mathlib.Core.List.{◌++◌}
use Rattle.std.proofs.lemmas.List.{drop-replicate}
use Rattle.words.specs.I64.{word}
use Rattle.diagram.specs.Record.{padded}
use Rattle.layout.specs.Rows.{edge_words, node_words}
use Rattle.layout.specs.Records.{record_words}
use Rattle.grow.specs.declared.Task.{Task}
use Rattle.grow.specs.declared.Root.{Root}
use Rattle.finalize.specs.declared.Given.{Given}
use Rattle.compile.specs.declared.Request.{Request}
use Rattle.compile.specs.Asked.{task_from, root_from, given_from}

pub root_made : (q : Request) (w : ℕ) → w ≡ word q.value → ◌≡◌ {A = Root} (record { capacity = q.capacity; value = w; depth = q.depth }) (root_from q)
root_made q w e = rw e refl

pub task_made : (q : Request) (w nodes edges : ℕ) → w ≡ word q.lower → ◌≡◌ {A = Task} (record { mode = q.mode; width = q.width; lower = w; rooms = record { nodes = nodes / node_words; edges = edges / edge_words } }) (task_from q nodes edges)
task_made q w nodes edges e = rw e refl

-- the path's places, when it is copied over the first of 64 zeros
pub all_copied : (path copied : List ℕ) → copied ≡ path → copied ++ drop (length path) (replicate 64 0) ≡ padded path
unfolding padded
all_copied path copied e = rw (e, drop-replicate {X = ℕ} (length path) 64 0) refl

pub given_made : (q : Request) (path places : List ℕ) (words : ℕ) → places ≡ padded path → ◌≡◌ {A = Given} (record { path = places; depth = q.depth; room = words / record_words }) (given_from q path words)
given_made q path places words e = rw e refl
