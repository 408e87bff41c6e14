-- Best node, best exact node and exactness, as the definitions give them.
use mathlib.Core.Path.{◌≡◌, refl, ap, ◌∙◌}
use mathlib.Core.Bool.{Bool, true, false, not, cond, ◌||◌}
use mathlib.Core.List.{List}
use Prim.Native.Nat.{ℕ, ◌-◌}
use native.Mathlib.Omega.{arith}
use lib.ListN.{length}
use Rattle.std.specs.Prelude.{Option, Some, None}
use Rattle.std.specs.Option.{is_some}
use Rattle.diagram.specs.Run.{Mode}
use Rattle.diagram.specs.Tables.{Diagram, Found, rows_from, rows_of, coming}
use Rattle.diagram.specs.After1.{terminals, best_of, best_node, exact_path, best_exact_node}
use Rattle.diagram.specs.After2.{never_squashed, is_exact}
use Rattle.layers.specs.declared.Layer.{Layer}
use Rattle.layers.specs.Stored.{last_of}
use Rattle.rows.specs.declared.NodeId.{NodeId}
use Rattle.finish.specs.Terminals.{row_of, BestFound}
use Rattle.finish.specs.Walks.{Ranked, PathJudged}
use Rattle.finish.specs.Bounds.{was_squashed}
use Rattle.finish.proofs.Terminals.{within_wider}
use Rattle.finalize.specs.Judged.{BestExactFound, Judgeable, Judges}

-- ---- the best exact node

pub best_is_exact : (t : List ℕ) (start count : ℕ) (best : Option NodeId) (walked : Bool) → walked ≡ true → BestExactFound t start count best walked best
best_is_exact t start count best walked e = record { does = λ ns old q l. rw e refl; inside = λ w. w }

pub exact_found : (t : List ℕ) (start count : ℕ) (best : Option NodeId) (walked : Bool) (b : Option NodeId) → walked ≡ false → BestFound t start count true b → BestExactFound t start count best walked b
exact_found t start count best walked b e f =
    record { does = λ ns old q l. rw e (f.does ns old q l); inside = λ w. f.inside }

-- ---- what is asked of the tables

pub walk_asked : (start count : ℕ) (ns es : List ℕ) (best : Option NodeId) → Judgeable start count ns es → BestFound ns start count false best → Ranked ns es best
walk_asked start count ns es best j f =
    record { counts = j.counts; sits = j.sits; inside = within_wider start count 0 (length j.sits.diagram.nodes) best (omega arith) (omega (arith, j.count_is)) f.inside }

-- ---- the verdict

terminal_rows : (start count : ℕ) (d : Diagram) → start ≡ d.start → count ≡ length d.nodes → rows_from start (count - start) ≡ terminals d
unfolding terminals coming rows_of
terminal_rows start count d a b = rw (a, b) refl

-- a run that was squashed has a last exact layer
pub squashed_is : (last : Option Layer) (b : Bool) → b ≡ is_some last → b ≡ was_squashed (last_of last)
squashed_is None b e = e
squashed_is (Some l) b e = e

never_is : (last : Option Layer) → not (is_some last) ≡ never_squashed (last_of last)
unfolding never_squashed
never_is None = refl
never_is (Some l) = refl

best_node_is : (d : Diagram) (rows : List ℕ) → rows ≡ terminals d → best_of (λ n. true) d.nodes rows ≡ best_node d
unfolding best_node
best_node_is d rows e = ap (best_of (λ n. true) d.nodes) e

exact_node_is : (m : Mode) (d : Diagram) (rows : List ℕ) (walked : Bool) (f : Found) → rows ≡ terminals d → walked ≡ exact_path m d → f ≡ best_node d → cond walked f (best_of (λ n. n.exact) d.nodes rows) ≡ best_exact_node m d
unfolding best_exact_node
exact_node_is m d rows walked f e q b = rw (e, q, b) refl

exact_is : (m : Mode) (d : Diagram) (last : Option Layer) (walked : Bool) → last_of last ≡ d.last → walked ≡ exact_path m d → (not (is_some last) || walked) ≡ is_exact m d
unfolding is_exact
exact_is m d last walked s q =
    ap (λ (b : Bool). b || walked) (never_is last ∙ ap never_squashed s) ∙ ap (λ (b : Bool). never_squashed d.last || b) q

pub judged : (start count : ℕ) (last : Option Layer) (relaxed : Bool) (ns es : List ℕ) (best best_exact : Option NodeId) (walked exact : Bool) → BestFound ns start count false best → PathJudged ns es best relaxed walked → BestExactFound ns start count best walked best_exact → exact ≡ (not (is_some last) || walked) → Judges start count last relaxed ns es (record { exact = exact; best = best; best_exact = best_exact })
judged start count last relaxed ns es best best_exact walked exact f p x e =
    record {
      does = λ k h m a b c q.
          let d = h.diagram in
          let t = terminal_rows start count d a b in
          let g : row_of best ≡ best_node d = f.does d.nodes h.old_n h.held.nodes_are (omega (arith, b)) ∙ best_node_is d (rows_from start (count - start)) t in
          let w : walked ≡ exact_path m d = p.does k h m q g in
          record {
            exact_is = e ∙ exact_is m d last walked c w;
            best_is = g;
            best_exact_is = x.does d.nodes h.old_n h.held.nodes_are (omega (arith, b)) ∙ exact_node_is m d (rows_from start (count - start)) walked (row_of best) t w g;
          };
      best_in = f.inside;
      best_exact_in = x.inside f.inside;
    }

-- what the best exact node needs
pub ruleset best_exact = (best_is_exact, exact_found)
