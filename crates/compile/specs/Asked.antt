-- What a request of the code asks, in the words of compile's definition.
use Rattle.std.specs.Prelude.{List, ℕ, ◌/◌}
use Rattle.words.specs.I64.{word}
use Rattle.diagram.specs.Record.{padded}
use Rattle.layout.specs.Rows.{node_words, edge_words}
use Rattle.layout.specs.Records.{record_words}
use Rattle.calls.specs.Asked.{Problem, Given}
use Rattle.calls.specs.Compile as Def
use Rattle.calls.specs.Compile.{Lent}
use Rattle.grow.specs.Told.{mode_of}
use Rattle.cutset.specs.Whole.{kind_of}
use Rattle.grow.specs.declared.Task.{Task}
use Rattle.grow.specs.declared.Root.{Root}
use Rattle.finalize.specs.declared.Given as End
use Rattle.compile.specs.declared.Request.{Request}

abbrev pub problem_of : List ℕ → List ℕ → Request → Problem
problem_of weights profits q = record { weights = weights; profits = profits; page = q.page; width = q.width }

abbrev pub given_of : Request → List ℕ → Given
given_of q path = record { capacity = q.capacity; value = q.value; bound = q.bound; depth = q.depth; path = path }

abbrev pub request_of : List ℕ → List ℕ → Request → List ℕ → Def.Request
request_of weights profits q path =
    record { problem = problem_of weights profits q; mode = mode_of q.mode; kind = kind_of q.kind; lower = q.lower; given = given_of q path }

abbrev pub lent_of : List ℕ → List ℕ → List ℕ → Lent
lent_of ns es rs = record { nodes = ns; edges = es; records = rs }

-- what growth and end of the run are told: the rows that so many words make
abbrev pub task_from : Request → ℕ → ℕ → Task
task_from q nodes edges =
    record { mode = q.mode; width = q.width; lower = word q.lower; rooms = record { nodes = nodes / node_words; edges = edges / edge_words } }

abbrev pub root_from : Request → Root
root_from q = record { capacity = q.capacity; value = word q.value; depth = q.depth }

abbrev pub given_from : Request → List ℕ → ℕ → End.Given
given_from q path records = record { path = padded path; depth = q.depth; room = records / record_words }
