-- Blocks and page decide what is valid, what completes a record and what a path achieves; the width of a call doesn't. And what a selection earns is small.
use mathlib.Core.Path.{subst}
use mathlib.Core.Bool.{Bool, true, false}
use mathlib.Core.List.Memᴰ
use mathlib.Core.List.{List, [], ◌∷◌}
use mathlib.Core.Logic.{⊎_elim}
use Prim.Native.Nat.{ℕ, suc, ◌*◌, ◌≤◌}
use native.Mathlib.Omega.{arith}
use lib.IntN.{ℤ}
use lib.ListN.{length, get_or}
use Rattle.words.specs.I64.{InI64}
use Rattle.knapsack.specs.Items.{Item, no_item}
use Rattle.knapsack.specs.Knapsack.{profit_of}
use Rattle.calls.specs.Asked.{Problem, Given}
use Rattle.demand2.specs.Records.{items_in, Allowed, Valid, Completes, Achieved}
use Rattle.demand2.proofs.Numbers.{natural_is_i64}
use Rattle.demand2.proofs.Accepted.{few_items, small_profits}
use Rattle.searches.specs.Trace.{Blocks, problem_at}
use Rattle.demand3.specs.Searches.{IsSelection}

-- ---- from one width to another

pub width_valid : (b : Blocks) (w v : ℕ) (g : Given) → Valid (problem_at b w) g → Valid (problem_at b v) g
width_valid b w v g a = record { passes7 = a.passes7; passes8 = a.passes8; passes9 = a.passes9 }

pub width_completes : (b : Blocks) (w v : ℕ) (g : Given) (selection : List Bool) → Completes (problem_at b w) g selection → Completes (problem_at b v) g selection
width_completes b w v g selection c = record { fits = c.fits; keeps = c.keeps }

pub width_allowed : (b : Blocks) (w v : ℕ) → 1 ≤ v → v ≤ 256 → Allowed (problem_at b w) → Allowed (problem_at b v)
width_allowed b w v l h a =
    record { passes1 = a.passes1; passes2 = a.passes2; passes3 = a.passes3; passes4 = a.passes4; passes5 = a.passes5; passes6 = ⊎_elim (λ z. omega arith) (λ z. omega arith) }

-- what a path achieves for a record is a selection of the whole problem: the root record keeps nothing
pub achieved_selection : (b : Blocks) (w : ℕ) (g : Given) (path : List ℕ) (v : ℤ) → Achieved (problem_at b w) g path v → IsSelection b path v
achieved_selection b w g path v a =
    record {
      selection = a.selection;
      names_each_once = a.names_each_once;
      says = a.says;
      completes = record { fits = a.completes.fits; keeps = λ byte i. absurd (Memᴰ.not-nil i) };
      earned = a.earned;
    }

-- ---- what a selection earns

earns_little : (items : List Item) (selection : List Bool) → ((i : ℕ) → (get_or items i no_item).profit ≤ 1000000) → profit_of items selection ≤ 1000000 * length items
unfolding profit_of
earns_little [] selection h = omega arith
earns_little (i ∷ items) [] h = omega arith
earns_little (i ∷ items) (true ∷ selection) h = omega (arith, h 0, earns_little items selection (λ k. h (suc k)))
earns_little (i ∷ items) (false ∷ selection) h = omega (arith, earns_little items selection (λ k. h (suc k)))

-- at most 64 profits of at most 1,000,000
pub earns_at_most : (p : Problem) → Allowed p → (selection : List Bool) → profit_of (items_in p) selection ≤ 64000000
earns_at_most p a selection = omega (arith, earns_little (items_in p) selection (small_profits p a), few_items p a)

-- so an achieved value is an i64
pub achieved_is_i64 : (p : Problem) (g : Given) (path : List ℕ) (v : ℤ) → Allowed p → Achieved p g path v → InI64 v
achieved_is_i64 p g path v a z =
    subst (λ (x : ℤ). InI64 x) z.earned (natural_is_i64 (profit_of (items_in p) z.selection) (omega (arith, earns_at_most p a z.selection)))
