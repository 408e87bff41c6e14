-- Values and paths as the finished tables give them.
use mathlib.Core.Path.{◌≡◌, refl, sym, ap, subst, ◌∙◌}
use mathlib.Core.Bool.{Bool}
use mathlib.Core.List.{List}
use Prim.Native.Nat.{ℕ, ◌≤◌}
use lib.IntN.{ℤ}
use lib.ListN.{length, replicate}
use Rattle.std.specs.Prelude.{Option, Some, None, Result}
use Rattle.words.specs.I64.{number}
use Rattle.diagram.specs.Record.{padded}
use Rattle.calls.specs.Compile.{value_of, path_of}
use Rattle.reasons.specs.declared.Refusal.{Refusal}
use Rattle.reasons.specs.Numbers.{numbered}
use Rattle.rows.specs.declared.NodeId.{NodeId}
use Rattle.rows.specs.Access.{FieldRead}
use Rattle.finish.specs.declared.Path.{Path}
use Rattle.finish.specs.Terminals.{Within, Readable}
use Rattle.finish.specs.Paths.{PathFits, PathWritten}
use Rattle.finish.proofs.Walks.{row_words}
use Rattle.finalize.specs.declared.Given.{Given}
use Rattle.finalize.specs.Standing.{path_before}
use Rattle.finalize.specs.Answers.{ValueTold, Walkable, PathTold, Answered}

-- ---- values

pub no_value : (t : List ℕ) (best : Option NodeId) → best ≡ None → ValueTold t best None
unfolding value_of
no_value t best e = subst (λ (b : Option NodeId). ValueTold t b None) (sym e) (record { does = λ d old q w. refl })

pub its_value : (t : List ℕ) (best : Option NodeId) (n : NodeId) (x : ℕ) (z : ℤ) → best ≡ Some n → FieldRead t n.0 (λ y. y.value) x → z ≡ number x → ValueTold t best (Some z)
unfolding value_of
its_value t best n x z e read q =
    subst (λ (b : Option NodeId). ValueTold t b (Some z)) (sym e)
    (record { does = λ d old p w. ap Some (q ∙ ap number (read.is_field d.nodes old p w.1)) })

-- the words of a walkable row are there
pub value_asked : (best : Option NodeId) (given : Given) (ns es : List ℕ) → Walkable best given ns es → Readable (length ns) best
value_asked best given ns es w = go best w.inside
  where
    go : (b : Option NodeId) → Within 0 (length w.sits.diagram.nodes) b → Readable (length ns) b
    go (Some n) h = row_words w.sits n.0 h.1
    go None h = tt

-- ---- paths

pub no_path : (best : Option NodeId) (given : Given) (ns es : List ℕ) → best ≡ None → PathTold best given ns es (replicate 64 0)
unfolding path_of padded
no_path best given ns es e =
    subst (λ (b : Option NodeId). PathTold b given ns es (replicate 64 0)) (sym e) (record { does = λ k h w. refl })

pub path_asked : (best : Option NodeId) (n : NodeId) (given : Given) (ns es : List ℕ) → best ≡ Some n → Walkable best given ns es → PathFits ns es n.0 (path_before given) × (given.depth ≤ 64)
path_asked best n given ns es e w =
    let i : Within 0 (length w.sits.diagram.nodes) (Some n) = subst (λ (b : Option NodeId). Within 0 (length w.sits.diagram.nodes) b) e w.inside in
    (record { row = record { counts = w.counts; sits = w.sits; inside = i.1 }; room = w.roomy n.0 i.1 }, w.depth_in)

pub its_path : (best : Option NodeId) (n : NodeId) (given : Given) (ns es : List ℕ) (p : Path) → best ≡ Some n → PathWritten ns es n.0 (path_before given) p → PathTold best given ns es p.bytes
unfolding path_of
its_path best n given ns es p e w =
    subst (λ (b : Option NodeId). PathTold b given ns es p.bytes) (sym e) (record { does = λ k h i. (w.does k h i.1).0 })

-- ---- all of the answer

pub answered : (exact : Bool) (best best_exact : Option NodeId) (given : Given) (r : Result ℕ Refusal) (ns es p q : List ℕ) (v x : Option ℤ) → PathTold best given ns es p → PathTold best_exact given ns es q → ValueTold ns best v → ValueTold ns best_exact x → Answered (record { exact = exact; best = best; best_exact = best_exact }) given (numbered r) ns es (record { exact = exact; best = v; path = p; best_exact = x; exact_path = q; drained = r })
answered exact best best_exact given r ns es p q v x a b c d =
    record {
      does = λ k h i j.
          record {
            exact_is = refl;
            best_is = c.does h.diagram h.old_n h.held.nodes_are i;
            path_is = a.does k h i;
            best_exact_is = d.does h.diagram h.old_n h.held.nodes_are j;
            exact_path_is = b.does k h j;
            drained_is = refl;
          };
    }

-- what a value needs
pub ruleset values = (no_value, its_value)

-- what a path needs
pub ruleset paths = (path_asked, its_path)
