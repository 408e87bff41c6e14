-- Statements 2 and 4: a restricted value is achieved by its path, and in any mode a best exact value is achieved by the best exact path.
use mathlib.Core.Path.{◌≡◌, refl, sym, subst₂, ◌∙◌}
use mathlib.Core.List.{List}
use Prim.Native.Nat.{ℕ}
use lib.IntN.{ℤ}
use Rattle.words.specs.I64.{number}
use Rattle.diagram.specs.Node.{node_at}
use Rattle.diagram.specs.Tables.{at}
use Rattle.calls.specs.Asked.{Problem, Given}
use Rattle.calls.specs.Compile.{Request, Compiled}
use Rattle.demand2.specs.Records.{Achieved, Finished}
use Rattle.demand2.specs.Statements.{RestrictedAchieved, BestExactAchieved}
use Rattle.demand2.proofs.Seen.{value_at, path_of_lem, seen_best, seen_path, seen_best_exact, seen_exact_path}
use Rattle.demand2.proofs.Outcomes.{exact_achieved, restricted_achieved}

pub achieved_as : (p : Problem) (g : Given) (path path' : List ℕ) (v w : ℤ) → path ≡ path' → v ≡ w → Achieved p g path v → Achieved p g path' w
achieved_as p g path path' v w e d = subst₂ (λ (l : List ℕ) (z : ℤ). Achieved p g l z) e d

-- the best exact node's value
pub best_exact_node_lem : (q : Request) (a : Compiled) (rs : List Given) (f : Finished q a rs) (j : ℕ) → f.outcome.best_exact ≡ at j → Achieved q.problem q.given a.exact_path (number (node_at f.outcome.diagram.nodes j).value)
best_exact_node_lem q a rs f j e =
    achieved_as q.problem q.given _ _ _ _ (sym (seen_exact_path q a rs f ∙ path_of_lem q.given.path f.outcome.diagram f.outcome.best_exact j e)) refl
    (exact_achieved q f.rooms f.outcome f.runs f.allowed f.valid j e)

-- 4
pub best_exact_achieved : BestExactAchieved
best_exact_achieved q a rs f v e =
    let z = value_at f.outcome.diagram f.outcome.best_exact v (sym (seen_best_exact q a rs f) ∙ e) in
    achieved_as q.problem q.given _ _ _ _ refl z.value_is (best_exact_node_lem q a rs f z.row z.is_row)

-- 2
pub restricted_value_achieved : RestrictedAchieved
restricted_value_achieved q a rs f m v e =
    let z = value_at f.outcome.diagram f.outcome.best v (sym (seen_best q a rs f) ∙ e) in
    achieved_as q.problem q.given _ _ _ _ (sym (seen_path q a rs f ∙ path_of_lem q.given.path f.outcome.diagram f.outcome.best z.row z.is_row)) z.value_is
    (restricted_achieved q f.rooms f.outcome f.runs f.allowed f.valid m z.row z.is_row)
