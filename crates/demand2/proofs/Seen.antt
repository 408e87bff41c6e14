-- What is seen of a finished compile: its answer's values and paths are those of the outcome's best node and best exact node.
use mathlib.Core.Path.{◌≡◌, refl, ap, ◌∙◌}
use mathlib.Core.List.{List}
use mathlib.Core.Option.{none, some}
use Prim.Native.Nat.{ℕ}
use native.Mathlib.Omega.{arith}
use lib.IntN.{ℤ}
use Rattle.words.specs.I64.{number}
use Rattle.diagram.specs.After3.{path_to}
use Rattle.diagram.specs.After6.{Outcome}
use Rattle.diagram.specs.Node.{node_at}
use Rattle.diagram.specs.Record.{padded}
use Rattle.diagram.specs.Tables.{Diagram, Found, at, nowhere}
use Rattle.calls.specs.Asked.{Given}
use Rattle.calls.specs.Compile.{Request, Compiled, value_of, path_of, compiled_of}
use Rattle.demand2.specs.Records.{Finished}

-- the node that a value is of
pub record ValueAt (d : Diagram) (f : Found) (v : ℤ) : Type 0 where
  pub row : ℕ
  pub is_row : f ≡ at row
  pub value_is : number (node_at d.nodes row).value ≡ v

pub value_at : (d : Diagram) (f : Found) (v : ℤ) → value_of d f ≡ some v → ValueAt d f v
unfolding value_of
value_at d nowhere v e = let z : ◌≡◌ {A = ℕ} 0 1 = cc in absurd (omega arith)
value_at d (at r) v e = record { row = r; is_row = refl; value_is = cc }

pub value_of_lem : (d : Diagram) (f : Found) (r : ℕ) → f ≡ at r → value_of d f ≡ some (number (node_at d.nodes r).value)
unfolding value_of
value_of_lem d f r e = ap (value_of d) e

pub none_of : (d : Diagram) (f : Found) → f ≡ nowhere → value_of d f ≡ none
unfolding value_of
none_of d f e = ap (value_of d) e

pub path_of_lem : (pre : List ℕ) (d : Diagram) (f : Found) (r : ℕ) → f ≡ at r → path_of pre d f ≡ padded (path_to pre d r)
unfolding path_of
path_of_lem pre d f r e = ap (path_of pre d) e

-- ---- an answer and its outcome

compiled_is : (pre : List ℕ) (o : Outcome) → ((compiled_of pre o).exact ≡ o.exact) × ((compiled_of pre o).best ≡ value_of o.diagram o.best) × ((compiled_of pre o).path ≡ path_of pre o.diagram o.best) × ((compiled_of pre o).best_exact ≡ value_of o.diagram o.best_exact) × ((compiled_of pre o).exact_path ≡ path_of pre o.diagram o.best_exact)
unfolding compiled_of
compiled_is pre o = (refl, refl, refl, refl, refl)

module _ (q : Request) (a : Compiled) (rs : List Given) (f : Finished q a rs) where
  pub seen_exact : a.exact ≡ f.outcome.exact
  seen_exact = ap (λ (z : Compiled). z.exact) f.answers ∙ (compiled_is q.given.path f.outcome).0

  pub seen_best : a.best ≡ value_of f.outcome.diagram f.outcome.best
  seen_best = ap (λ (z : Compiled). z.best) f.answers ∙ (compiled_is q.given.path f.outcome).1

  pub seen_path : a.path ≡ path_of q.given.path f.outcome.diagram f.outcome.best
  seen_path = ap (λ (z : Compiled). z.path) f.answers ∙ (compiled_is q.given.path f.outcome).2

  pub seen_best_exact : a.best_exact ≡ value_of f.outcome.diagram f.outcome.best_exact
  seen_best_exact = ap (λ (z : Compiled). z.best_exact) f.answers ∙ (compiled_is q.given.path f.outcome).3

  pub seen_exact_path : a.exact_path ≡ path_of q.given.path f.outcome.diagram f.outcome.best_exact
  seen_exact_path = ap (λ (z : Compiled). z.exact_path) f.answers ∙ (compiled_is q.given.path f.outcome).4
