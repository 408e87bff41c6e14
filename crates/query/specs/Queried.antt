-- What a query asks, in the words of compile's definition.
use Rattle.std.specs.Prelude.{cond, List, ℕ, ltb, take}
use Rattle.calls.specs.Compile as Def
use Rattle.compile.specs.declared.Request.{Request}
use Rattle.compile.specs.Asked.{request_of}
use Rattle.query.specs.declared.Query.{Query}

abbrev pub request_in : Query → Request
request_in q =
    record {
      page = q.page;
      width = q.width;
      mode = q.mode;
      kind = q.kind;
      lower = q.lower;
      capacity = q.root.capacity;
      value = q.root.value;
      bound = q.root.bound;
      depth = q.root.depth;
    }

-- the record's path: the first `depth` of its bytes
abbrev pub path_in : Query → List ℕ
path_in q = take q.root.depth q.root.path

-- how many bytes that is: a record has room for 64
abbrev pub path_length : Query → ℕ
path_length q = cond (ltb 64 q.root.depth) 64 q.root.depth

abbrev pub asked_by : List ℕ → List ℕ → Query → Def.Request
asked_by weights profits q = request_of weights profits (request_in q) (path_in q)
