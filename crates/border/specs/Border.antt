-- What a host's numbers ask, and the number and values that a host reads for each case of each answer.
use Rattle.std.specs.Prelude.{Bool, not, cond, map, replicate, ℕ, eqb, ℤ, pos, Option, is_some, unwrap_or, Result, Ok, Err}
use Rattle.cutset.specs.declared.Kind.{Kind}
use Rattle.cutset.specs.declared.Kind.TheVariants.{LastExactLayer, Frontier}
use Rattle.grow.specs.declared.Mode.{Mode}
use Rattle.grow.specs.declared.Mode.TheVariants.{Exact, Restricted, Relaxed}
use Rattle.compile.specs.declared.Compiled.{Compiled}
use Rattle.query.specs.declared.Query.{Query}
use Rattle.search.specs.declared.Ask.{Ask}
use Rattle.search.specs.declared.Search.{Search}
use Rattle.jobs.specs.Run.{Ending, refused, ended}
use Rattle.page_text.specs.declared.Output.{Output}
use Rattle.border.specs.declared.Terms.{Terms}
use Rattle.border.specs.declared.Question.{Question}
use Rattle.border.specs.declared.Found.{Found}
use Rattle.border.specs.declared.HostSearch.{HostSearch}
use Rattle.border.specs.declared.Page.{Page}

-- ---- in: every number has a meaning, so that no refusal has to be added to document 01's

-- 0 is the last exact layer, any other number the frontier
abbrev pub kind_in : ℕ → Kind
kind_in n = cond (eqb n 0) LastExactLayer Frontier

-- 0 is exact, 1 restricted, any other number relaxed
abbrev pub mode_in : ℕ → Mode
mode_in n = cond (eqb n 0) Exact (cond (eqb n 1) Restricted Relaxed)

-- 0 is false, any other number true
abbrev pub flag_in : ℕ → Bool
flag_in n = not (eqb n 0)

abbrev pub ask_in : Terms → Ask
ask_in t = record { page = t.page; width = t.width; kind = kind_in t.cut }

abbrev pub query_in : Question → Query
query_in q = record { page = q.page; width = q.width; mode = mode_in q.mode; kind = kind_in q.cut; lower = q.lower; root = q.root }

abbrev pub search_in : HostSearch → Search
search_in h = record { best = h.best; held = flag_in h.held; path = h.path; opened = h.opened; picks = h.picks }

-- ---- out: what is read for each case

-- the number that a call returns: 0 if it was accepted, else the refusal's
abbrev pub number_of : {A : Type 0} → Result A ℕ → ℕ
number_of (Ok a) = 0
number_of (Err n) = n

abbrev pub flag_of : Bool → ℕ
flag_of b = cond b 1 0

-- a value or none is two fields: whether there is one, and the value, 0 where there is none
abbrev pub has_of : Option ℤ → ℕ
has_of v = flag_of (is_some v)

abbrev pub value_of : Option ℤ → ℤ
value_of v = unwrap_or v (pos 0)

-- what an accepted compile found
abbrev pub found_in : Compiled → Found
found_in c =
    record {
      exact = flag_of c.exact;
      has_best = has_of c.best;
      best = value_of c.best;
      path = c.path;
      has_best_exact = has_of c.best_exact;
      best_exact = value_of c.best_exact;
      exact_path = c.exact_path;
      nodes = c.nodes;
      edges = c.edges;
      drained = c.drained;
      layers = c.layers.count;
      from = map (λ l. l.from) c.layers.rows;
      to = map (λ l. l.to) c.layers.rows;
    }

-- 'A refusing compile gives its number alone.'
abbrev pub nothing_found : Found
nothing_found =
    record {
      exact = 0;
      has_best = 0;
      best = pos 0;
      path = replicate 64 0;
      has_best_exact = 0;
      best_exact = pos 0;
      exact_path = replicate 64 0;
      nodes = 0;
      edges = 0;
      drained = 0;
      layers = 0;
      from = replicate 65 0;
      to = replicate 65 0;
    }

-- A refused compile's answer has nothing beside its number: all is 0.
abbrev pub found_of : Result Compiled ℕ → Found
found_of (Ok c) = found_in c
found_of (Err n) = nothing_found

abbrev pub host_search_of : Search → HostSearch
host_search_of s = record { best = s.best; held = flag_of s.held; path = s.path; opened = s.opened; picks = s.picks }

-- the lent search after a start or a pick: the one that it answers; a refused call leaves it as it was
abbrev pub host_search_after : Result Search ℕ → HostSearch → HostSearch
host_search_after (Ok s) old = host_search_of s
host_search_after (Err n) old = old

-- the number that a job's run returns: 0 for a run that came to its end
abbrev pub ending_number : Ending → ℕ
ending_number (refused n) = n
ending_number (ended s) = 0

abbrev pub shown_of : Output → Page
shown_of o = record { count = o.count; bytes = o.bytes; end = 0 }

-- the output that a page shows
abbrev pub output_in : Page → Output
output_in p = record { bytes = p.bytes; count = p.count }
