-- Statement 1: an answer that says exact finds its record's optimum if that beats the bound, and nothing else; and in exact mode every answer says exact.
use mathlib.Core.Path.{◌≡◌, refl, sym, ap, subst, ◌∙◌}
use mathlib.Core.Bool.{true}
use mathlib.Core.List.{List}
use mathlib.Core.Option.{none, some}
use Prim.Native.Nat.{ℕ, ◌+◌, ◌≤◌, ◌<◌}
use native.Mathlib.Omega.{arith}
use lib.IntN.{ℤ, pos}
use lib.Signed.{◌≤ℤ◌, ◌<ℤ◌}
use Rattle.words.specs.I64.{mid, number}
use Rattle.knapsack.specs.Knapsack.{profit_of}
use Rattle.diagram.specs.Node.{node_at}
use Rattle.diagram.specs.Tables.{Found, at, nowhere}
use Rattle.calls.specs.Asked.{Given, record_of}
use Rattle.calls.specs.Compile.{Request, Compiled}
use Rattle.demand2.specs.Records.{items_in, item_count, Finished}
use Rattle.demand2.specs.Statements.{OptimumExists, OptimumIsPublic, FindsOptimum, ExactFindsOptimum, ExactModeIsExact}
use Rattle.demand2.proofs.Numbers.{natural_word, natural_at_most, natural_below, below_natural}
use Rattle.demand2.proofs.Accepted.{value_back}
use Rattle.demand2.proofs.Selections.{most, optimum_is_most, optimum_is, root_optimum}
use Rattle.demand2.proofs.Seen.{value_of_lem, none_of, path_of_lem, seen_exact, seen_best, seen_path, seen_best_exact, seen_exact_path}
use Rattle.demand2.proofs.Outcomes.{most_small, finds, same_best, exact_mode, found_above, found_own}
use Rattle.demand2.proofs.Achieved.{achieved_as, best_exact_node_lem}

-- the most that a selection earns that fits the page and keeps the record's path
abbrev most_of : Request → ℕ
most_of q = most (items_in q.problem) (record_of q.given)

pub optimum_exists : OptimumExists
optimum_exists q a rs f = (pos (most_of q), optimum_is_most q.problem q.given f.allowed f.valid)

pub optimum_is_public : OptimumIsPublic
optimum_is_public = root_optimum

-- an answer that says exact
module _ (q : Request) (a : Compiled) (rs : List Given) (f : Finished q a rs) (exact : a.exact ≡ true) where
  says_exact : f.outcome.exact ≡ true
  says_exact = sym (seen_exact q a rs f) ∙ exact

  one_node : f.outcome.best_exact ≡ f.outcome.best
  one_node = same_best q f.rooms f.outcome f.runs f.allowed f.valid says_exact

  -- what is found is no more than the most
  record Limited (j : ℕ) : Type 0 where
    earned : ℕ
    value_is : number (node_at f.outcome.diagram.nodes j).value ≡ pos earned
    word_is : (node_at f.outcome.diagram.nodes j).value ≡ mid + earned
    limited : earned ≤ most_of q

  found : (j : ℕ) → f.outcome.best ≡ at j → Limited j
  found j e =
      let s = best_exact_node_lem q a rs f j (one_node ∙ e) in
      let k = profit_of (items_in q.problem) s.selection in
      record {
        earned = k;
        value_is = sym s.earned;
        word_is = natural_word _ k (sym s.earned);
        limited = natural_at_most _ _ ((optimum_is_most q.problem q.given f.allowed f.valid).most s.selection s.completes);
      }

  finds_it : q.lower <ℤ pos (most_of q) → FindsOptimum q a (pos (most_of q))
  finds_it h =
      let o = f.outcome in
      let small = most_small q f.rooms o f.runs f.allowed f.valid in
      let t = finds q f.rooms o f.runs f.allowed f.valid (λ _. says_exact) (mid + most_of q) (below_natural q.lower _ f.lower_is_i64 (omega arith) h) (omega arith) in
      let w = found t.row t.is_row in
      let same : w.earned ≡ most_of q = omega (arith, t.least, w.word_is, w.limited) in
      let v : number (node_at o.diagram.nodes t.row).value ≡ pos (most_of q) = w.value_is ∙ ap pos same in
      let e = one_node ∙ t.is_row in
      let s = best_exact_node_lem q a rs f t.row e in
      let paths : a.exact_path ≡ a.path = seen_exact_path q a rs f ∙ path_of_lem q.given.path o.diagram o.best_exact t.row e ∙ sym (seen_path q a rs f ∙ path_of_lem q.given.path o.diagram o.best t.row t.is_row) in
      record {
        best = seen_best q a rs f ∙ value_of_lem o.diagram o.best t.row t.is_row ∙ ap some v;
        best_exact_lem = seen_best_exact q a rs f ∙ value_of_lem o.diagram o.best_exact t.row e ∙ ap some v;
        path = achieved_as q.problem q.given _ _ _ _ paths v s;
        exact_path_lem = achieved_as q.problem q.given _ _ _ _ refl v s;
      }

  own_value : q.given.depth ≡ item_count q.problem → (a.best ≡ some q.given.value) × (a.best_exact ≡ some q.given.value)
  own_value h =
      let o = f.outcome in
      let z = found_own q f.rooms o f.runs f.allowed f.valid h in
      let v : number (node_at o.diagram.nodes 0).value ≡ q.given.value = ap number z.1 ∙ value_back q.problem q.given f.valid in (
        seen_best q a rs f ∙ value_of_lem o.diagram o.best 0 z.0 ∙ ap some v,
        seen_best_exact q a rs f ∙ value_of_lem o.diagram o.best_exact 0 (one_node ∙ z.0) ∙ ap some v,
      )

  nothing : pos (most_of q) ≤ℤ q.lower → q.given.depth < item_count q.problem → (a.best ≡ none) × (a.best_exact ≡ none)
  nothing h l =
      let o = f.outcome in
      let n = none_found o.best refl in
      (seen_best q a rs f ∙ none_of o.diagram o.best n, seen_best_exact q a rs f ∙ none_of o.diagram o.best_exact (one_node ∙ n))
    where
      none_found : (g : Found) → f.outcome.best ≡ g → g ≡ nowhere
      none_found nowhere e = refl
      none_found (at j) e =
          let small = most_small q f.rooms f.outcome f.runs f.allowed f.valid in
          let w = found j e in
          absurd (omega (arith, found_above q f.rooms f.outcome f.runs f.allowed f.valid j l e, w.word_is, w.limited, natural_below q.lower _ f.lower_is_i64 (omega arith) h))

-- 1
pub exact_finds_optimum : ExactFindsOptimum
exact_finds_optimum q a rs f e x r =
    let is = optimum_is q.problem q.given x f.allowed f.valid r in (
      (λ h. subst (λ (z : ℤ). FindsOptimum q a z) is (finds_it q a rs f e (subst (λ (z : ℤ). q.lower <ℤ z) (sym is) h))),
      (λ h. record { at_the_end = own_value q a rs f e; before = nothing q a rs f e (subst (λ (z : ℤ). z ≤ℤ q.lower) (sym is) h) }),
    )

pub exact_mode_is_exact : ExactModeIsExact
exact_mode_is_exact q a rs f e = seen_exact q a rs f ∙ exact_mode q f.rooms f.outcome f.runs f.allowed f.valid e
