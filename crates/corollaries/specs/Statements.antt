-- Demand 2, that a call has one answer, and that this has all layers, as a caller of `compile` reads them: of any call that has come back, in the words of the public knapsack.
use Rattle.std.specs.Prelude.{◌≡◌, Some, None, Bool, true, ◌<◌, ◌≤◌, ◌*◌, ℤ, length, drop, reverse, ◌≤ℤ◌, ◌<ℤ◌}
use mathlib.Core.List.{List, ◌++◌, Memᴰ, map}
use Rattle.layout.specs.Rows.{node_words, edge_words}
use Rattle.layout.specs.Records.{record_words, record_table}
use Rattle.calls.specs.Asked.{Given, record_of}
use Rattle.calls.specs.Compile as Def
use Rattle.calls.specs.Compile.{compiled, compile}
use Rattle.layers.specs.Stored.{stored}
use Rattle.grow.specs.declared.Mode.TheVariants.{Exact, Restricted, Relaxed}
use Rattle.compile.specs.declared.Compiled.{Compiled}
use Rattle.demand2.specs.Records.{item_count, Completes, earns, RecordOptimum, Achieved, SameWords, Valid}
use Rattle.demand2.specs.Statements.{Covers}
use Rattle.corollaries.specs.Called.{Called, asked, problem, given, IsAccepted}

-- ---- one answer: two calls on equal input, whatever the lent tables held

pub record SameInput (c d : Called) : Type 0 where
  pub asked_alike : asked c ≡ asked d
  pub nodes : length c.before.nodes ≡ length d.before.nodes
  pub edges : length c.before.edges ≡ length d.before.edges
  pub records : length c.before.records ≡ length d.before.records

-- equal answers, and equal contents wherever they write
pub record SameOutput (c d : Called) : Type 0 where
  pub answer : c.answer ≡ d.answer
  pub nodes : SameWords c.before.nodes c.after.nodes d.before.nodes d.after.nodes
  pub edges : SameWords c.before.edges c.after.edges d.before.edges d.after.edges
  pub records : SameWords c.before.records c.after.records d.before.records d.after.records

abbrev pub OneAnswer : Type 0
OneAnswer = (c d : Called) → SameInput c d → SameOutput c d

-- 'Rows and list places beyond a run's own stay unchanged'
pub record BeyondStays (c : Called) (a : Compiled) : Type 0 where
  pub nodes : drop (a.nodes * node_words) c.after.nodes ≡ drop (a.nodes * node_words) c.before.nodes
  pub edges : drop (a.edges * edge_words) c.after.edges ≡ drop (a.edges * edge_words) c.before.edges
  pub records : drop (a.drained * record_words) c.after.records ≡ drop (a.drained * record_words) c.before.records

abbrev pub BeyondTheRunStays : Type 0
BeyondTheRunStays = (c : Called) (a : Compiled) → IsAccepted c a → BeyondStays c a

-- ---- 'store its row range': the answer holds the layers that the definition answers, all of them, which are at most 65; `stored` has the newest first

pub record AllLayers (a : Compiled) (d : Def.Compiled) : Type 0 where
  pub stored_are : stored a.layers ≡ reverse d.layers
  pub counted : a.layers.count ≡ length d.layers
  pub few : length d.layers ≤ 65

abbrev pub LayersAreAll : Type 0
LayersAreAll = (c : Called) (a : Compiled) → IsAccepted c a → (d : Def.Compiled) → (compile (asked c) c.before).answer ≡ compiled d → AllLayers a d

-- ---- 'An exact diagram finds its record's 0/1 knapsack optimum if that beats the given bound'

-- there is such an optimum
abbrev pub OptimumExists : Type 0
OptimumExists = (c : Called) (a : Compiled) → IsAccepted c a → (x : ℤ) × RecordOptimum (problem c) (given c) x

pub record FindsOptimum (c : Called) (a : Compiled) (x : ℤ) : Type 0 where
  pub best : a.best ≡ Some x
  pub best_exact_lem : a.best_exact ≡ Some x
  pub path : Achieved (problem c) (given c) a.path x
  pub exact_path_lem : Achieved (problem c) (given c) a.exact_path x

pub record FindsNothing (c : Called) (a : Compiled) : Type 0 where
  pub at_the_end : c.request.depth ≡ item_count (problem c) → (a.best ≡ Some c.request.value) × (a.best_exact ≡ Some c.request.value)
  pub before : c.request.depth < item_count (problem c) → (a.best ≡ None) × (a.best_exact ≡ None)

-- In any mode: where the answer says exact.
abbrev pub ExactFindsOptimum : Type 0
ExactFindsOptimum =
    (c : Called) (a : Compiled) → IsAccepted c a → a.exact ≡ true →
    (x : ℤ) → RecordOptimum (problem c) (given c) x →
    (c.request.lower <ℤ x → FindsOptimum c a x) × (x ≤ℤ c.request.lower → FindsNothing c a)

-- In exact mode every answer says exact.
abbrev pub ExactModeIsExact : Type 0
ExactModeIsExact = (c : Called) (a : Compiled) → IsAccepted c a → c.request.mode ≡ Exact → a.exact ≡ true

-- ---- 'a restricted value is achieved by its path'

abbrev pub RestrictedAchieved : Type 0
RestrictedAchieved =
    (c : Called) (a : Compiled) → IsAccepted c a → c.request.mode ≡ Restricted →
    (v : ℤ) → a.best ≡ Some v → Achieved (problem c) (given c) a.path v

-- ---- 'a relaxed value is at least that of every selection that fits, keeps its record's path and beats the bound; a relaxed run without a value means none does'

pub record Bounds (c : Called) (a : Compiled) (selection : List Bool) : Type 0 where
  pub value : ℤ
  pub best : a.best ≡ Some value
  pub at_least : earns (problem c) selection ≤ℤ value

abbrev pub RelaxedBounds : Type 0
RelaxedBounds =
    (c : Called) (a : Compiled) → IsAccepted c a → c.request.mode ≡ Relaxed →
    (selection : List Bool) → Completes (problem c) (given c) selection →
    c.request.lower <ℤ earns (problem c) selection → Bounds c a selection

abbrev pub RelaxedNone : Type 0
RelaxedNone =
    (c : Called) (a : Compiled) → IsAccepted c a → c.request.mode ≡ Relaxed → a.best ≡ None →
    (selection : List Bool) → Completes (problem c) (given c) selection →
    earns (problem c) selection ≤ℤ c.request.lower

-- ---- the best exact value, in any mode, is achieved by the best exact path

abbrev pub BestExactAchieved : Type 0
BestExactAchieved =
    (c : Called) (a : Compiled) → IsAccepted c a →
    (v : ℤ) → a.best_exact ≡ Some v → Achieved (problem c) (given c) a.exact_path v

-- ---- the drained records of a relaxed run, as they stand in the lent list

-- each is valid, strictly deeper than the record, at most the item count deep, its bound at most the best value
pub record IsDrained (c : Called) (a : Compiled) (g : Given) : Type 0 where
  pub valid : Valid (problem c) g
  pub deeper : c.request.depth < g.depth
  pub deep : g.depth ≤ item_count (problem c)
  pub value : ℤ
  pub best : a.best ≡ Some value
  pub bounded : g.bound ≤ℤ value

-- These records stand first in the list, as many as the answer says, the list's rest as it was. For every x above the lower bound and above the best exact value
-- (if there is one) that some selection that fits and keeps the record's path earns, one of them has a bound of at least x, and some selection that fits and keeps
-- that record's path earns at least x.
pub record Drains (c : Called) (a : Compiled) : Type 0 where
  pub records : List Given
  pub listed : c.after.records ≡ record_table (map record_of records) ++ drop (length records * record_words) c.before.records
  pub counted : a.drained ≡ length records
  pub each : (g : Given) → Memᴰ g records → IsDrained c a g
  pub cover : (x : ℤ) → c.request.lower <ℤ x → ((v : ℤ) → a.best_exact ≡ Some v → v <ℤ x) → (selection : List Bool) → Completes (problem c) (given c) selection → x ≤ℤ earns (problem c) selection → Covers (problem c) records x

abbrev pub RelaxedDrains : Type 0
RelaxedDrains = (c : Called) (a : Compiled) → IsAccepted c a → c.request.mode ≡ Relaxed → Drains c a
