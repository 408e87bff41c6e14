-- What the steps of a pick make before its open list changes: its numbers, what it compiles, and what it finds.
use Rattle.std.specs.Prelude.{◌≡◌, Bool, true, false, cond, List, [], ◌∷◌, ◌++◌, ℕ, Result, Ok, Err}
use Rattle.std.proofs.Math.Option.{Option, none}
use Rattle.std.specs.Int.Signed.{lt_z}
use Rattle.diagram.specs.Record.{padded}
use Rattle.calls.specs.Asked.{Problem, Given}
use Rattle.calls.specs.Refusals.{first_of, problem_checks, record_checks}
use Rattle.calls.specs.Compile as Call
use Rattle.calls.specs.Compile.{Request, Lent, Compiled, refused, compiled, After, compile}
use Rattle.grow.specs.declared.Mode.TheVariants.{Relaxed}
use Rattle.records.specs.declared.Record.{Record}
use Rattle.searches.specs.Search as Def
use Rattle.searches.specs.Pick.{pick_check, better}
use Rattle.search.specs.declared.Search.{Search}
use Rattle.search.specs.Held.{search_of, search_from}
use Rattle.search.specs.declared.Ask.{Ask}
use Rattle.query.specs.declared.Query.{Query}
use Rattle.pick_steps.specs.declared.Found.{Found}

-- the numbers before anything is written, the record in the place being g: 1 to 6, 14, 7 to 9
abbrev pub numbers_of : Problem → Def.Search → ℕ → ℕ → Given → Option ℕ
numbers_of p s place places g = first_of (problem_checks p ++ (pick_check s place places ∷ record_checks p g))

-- 'compiled relaxed with the best value as lower bound'
abbrev pub query_from : Ask → Search → Record → Query
query_from ask s r = record { page = ask.page; width = ask.width; mode = Relaxed; kind = ask.kind; lower = s.best; root = r }

-- 'If its bound is at most the best value, that is all … Else it is compiled'
abbrev pub wanted : Search → Record → Bool
wanted s r = lt_z s.best r.bound

-- where nothing is compiled: no value is found, and an exact diagram has no records to append
abbrev pub idling : Compiled
idling =
    record {
      exact = true;
      best = none;
      path = padded [];
      best_exact = none;
      exact_path = padded [];
      node_count = 0;
      edge_count = 0;
      drained_count = 0;
      layers = [];
    }

-- the definition's compile if the record is wanted, else nothing
abbrev pub compile_if : Bool → Request → Lent → After
compile_if true q l = compile q l
compile_if false q l = record { answer = compiled idling; lent = l }

-- 'a strictly larger best exact value replaces best and path'; 'if the diagram isn't exact', its records are looked at
abbrev pub finding : Search → Compiled → Found
finding s c =
    record { search = search_from (better c.best_exact c.exact_path (search_of s)); drained = cond c.exact 0 c.drained_count }

abbrev pub found_from : Search → Call.Answer → Result Found ℕ
found_from s (refused n) = Err n
found_from s (compiled c) = Ok (finding s c)

-- what is found, and what the tables and the scratch list hold, are those of the definition's compile
pub record Explores (d : After) (s : Search) (x : Result Found ℕ) (ns es scratch : List ℕ) : Type 0 where
  pub found_is : x ≡ found_from s d.answer
  pub nodes_are : ns ≡ d.lent.nodes
  pub edges_are : es ≡ d.lent.edges
  pub scratch_is : scratch ≡ d.lent.records
