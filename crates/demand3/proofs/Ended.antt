-- EmptyMeansOptimal: where no record is open none leads to more, so best is the optimum or the starting bound, and a selection is held exactly if the optimum beats that bound.
use mathlib.Core.Path.{◌≡◌, sym, ap, subst, ◌∙◌}
use mathlib.Core.Bool.{Bool, true, false, cond}
use mathlib.Core.List.Memᴰ
use mathlib.Core.List.{List, [], Memᴰ}
use mathlib.Core.Logic.{⊎_elim}
use Prim.Native.Nat.{ℕ}
use lib.IntN.{ℤ, pos}
use lib.ListN.{take}
use lib.Signed.{◌≤ℤ◌, ◌<ℤ◌, clash_ℤ}
use Rattle.knapsack.specs.Knapsack.{Optimum}
use Rattle.demand2.specs.Records.{items_in}
use Rattle.demand2.proofs.Numbers.{at_most_natural}
use Rattle.searches.specs.Places.{Place}
use Rattle.searches.specs.Search.{Search, open_in}
use Rattle.searches.specs.Trace.{Blocks}
use Rattle.demand3.specs.Searches.{problem_of, larger, IsSelection}
use Rattle.demand3.specs.Statements.{Stands, Ended, EmptyMeansOptimal}
use Rattle.demand3.proofs.Order.{not_below, same_both, test_below, test_at_most}
use Rattle.demand3.proofs.Sound.{true_or_false}
use Rattle.demand3.proofs.Always.{always_stands}

none_open : (s : Search) (list : List Place) → s.opened ≡ 0 → open_in s list ≡ []
unfolding open_in
none_open s list e = ap (λ (n : ℕ). take n list) e

-- a selection never earns more than the optimum
at_most_optimum : (b : Blocks) (path : List ℕ) (v : ℤ) (x : ℕ) → Optimum (items_in (problem_of b)) b.page x → IsSelection b path v → v ≤ℤ pos x
at_most_optimum b path v x o a = subst (λ (y : ℤ). y ≤ℤ pos x) a.earned (at_most_natural _ _ (o.most a.selection a.completes.fits))

pub larger_second : (v w : ℤ) → v <ℤ w → larger v w ≡ w
larger_second v w h = ap (λ (t : Bool). cond t w v) (test_below v w h)

pub larger_first : (v w : ℤ) → w ≤ℤ v → larger v w ≡ v
larger_first v w h = ap (λ (t : Bool). cond t w v) (test_at_most v w h)

module _ (b : Blocks) (bound : ℤ) (s : Search) (list : List Place) (z : Stands b bound s list) (empty : s.opened ≡ 0) (x : ℕ) (o : Optimum (items_in (problem_of b)) b.page x) where
  -- no open record leads to the optimum, so it doesn't beat best
  not_beaten : pos x ≤ℤ s.best
  not_beaten =
      not_below s.best (pos x)
      (λ h. let l = z.leads x o h in Memᴰ.not-nil (subst (λ (ps : List Place). Memᴰ l.place ps) (none_open s list empty) l.is_open))

  -- with a selection held, best is the optimum, and beats the starting bound; without one it is the bound
  if_held : s.held ≡ true → (s.best ≡ pos x) × (bound <ℤ pos x)
  if_held h =
      let e = same_both s.best (pos x) (at_most_optimum b s.path s.best x o (z.selection h)) not_beaten in
      (e, subst (λ (y : ℤ). bound <ℤ y) e (z.beats h))

  if_unheld : s.held ≡ false → pos x ≤ℤ bound
  if_unheld h = subst (λ (y : ℤ). pos x ≤ℤ y) (z.unheld h) not_beaten

  pub ended : Ended b bound s x
  ended =
      record {
        best =
            ⊎_elim (λ h. (if_held h).0 ∙ sym (larger_second bound (pos x) (if_held h).1)) (λ h. z.unheld h ∙ sym (larger_first bound (pos x) (if_unheld h)))
            (true_or_false s.held);
        held = λ above. ⊎_elim (λ h. h) (λ h. clash_ℤ above (if_unheld h)) (true_or_false s.held);
        unheld = λ h. (if_held h).1;
        selection = z.selection;
      }

-- Statement 2.
pub empty_means_optimal : EmptyMeansOptimal
empty_means_optimal b bound most s list i t empty x o = ended b bound s list (always_stands b bound most s list i t) empty x o
