-- Demand 2 for a host: what a call of `jambtulip_compile` that returned 0 has found, in the numbers that the host reads and in the words of the public knapsack.
use Rattle.std.specs.Prelude.{◌≡◌, Bool, ℕ, ◌*◌, ◌<◌, ◌≤◌, ℤ, length, drop, ◌≤ℤ◌, ◌<ℤ◌}
use mathlib.Core.List.{List, Memᴰ, map}
use Rattle.words.specs.I64.{InI64}
use Rattle.diagram.specs.Record.{Record}
use Rattle.layout.specs.Table.{over}
use Rattle.layout.specs.Records.{record_words, record_table}
use Rattle.calls.specs.Asked.{Problem, Given}
use Rattle.calls.specs.Compile.{Request, compile}
use Rattle.demand2.specs.Records.{Completes, earns, RecordOptimum, Achieved, Valid}
use Rattle.demand2.specs.Statements.{Covers}
use Rattle.compile.specs.Asked.{lent_of}
use Rattle.searches.specs.Places.{Place, given_at, place_of}
use Rattle.records.specs.Structs.{places_in}
use Rattle.query.specs.Queried.{asked_by}
use Rattle.border.specs.declared.Question.{Question}
use Rattle.border.specs.declared.Found.{Found}
use Rattle.border.specs.Border.{query_in}
use Rattle.host.specs.Promises.{CompilesFor}

abbrev pub asked_with : List ℕ → List ℕ → Question → Request
asked_with weights profits question = asked_by weights profits (query_in question)

-- A call that returned 0: what it was given and lent, and what it found and left. The lower bound is an i64, as its type says; `promised` is what the call ensures.
pub record Accepted : Type 0 where
  pub weights : List ℕ
  pub profits : List ℕ
  pub question : Question
  pub lower_is_i64 : InI64 question.lower
  pub nodes : List ℕ
  pub edges : List ℕ
  pub records : List ℕ
  pub found : Found
  pub nodes_after : List ℕ
  pub edges_after : List ℕ
  pub records_after : List ℕ
  pub promised : CompilesFor (compile (asked_with weights profits question) (lent_of nodes edges records)) 0 found nodes_after edges_after records_after

abbrev pub asked : Accepted → Request
asked c = asked_with c.weights c.profits c.question

abbrev pub problem : Accepted → Problem
problem c = (asked c).problem

abbrev pub given : Accepted → Given
given c = (asked c).given

-- ---- 'An exact diagram finds its record's 0/1 knapsack optimum if that beats the given bound'

-- there is such an optimum
abbrev pub OptimumExists : Type 0
OptimumExists = (c : Accepted) → (x : ℤ) × RecordOptimum (problem c) (given c) x

pub record FindsOptimum (c : Accepted) (x : ℤ) : Type 0 where
  pub best : (c.found.has_best ≡ 1) × (c.found.best ≡ x)
  pub best_exact_lem : (c.found.has_best_exact ≡ 1) × (c.found.best_exact ≡ x)
  pub path : Achieved (problem c) (given c) c.found.path x
  pub exact_path_lem : Achieved (problem c) (given c) c.found.exact_path x

-- where the optimum doesn't beat the bound: at depth n the record's value, otherwise none
pub record FindsNothing (c : Accepted) : Type 0 where
  pub at_the_end : c.question.root.depth ≡ length c.weights →
      ((c.found.has_best ≡ 1) × (c.found.best ≡ c.question.root.value)) × ((c.found.has_best_exact ≡ 1) × (c.found.best_exact ≡ c.question.root.value))
  pub before : c.question.root.depth < length c.weights → (c.found.has_best ≡ 0) × (c.found.has_best_exact ≡ 0)

-- In any mode: where the flag says exact.
abbrev pub ExactFindsOptimum : Type 0
ExactFindsOptimum =
    (c : Accepted) → c.found.exact ≡ 1 → (x : ℤ) → RecordOptimum (problem c) (given c) x →
    (c.question.lower <ℤ x → FindsOptimum c x) × (x ≤ℤ c.question.lower → FindsNothing c)

-- In exact mode, number 0, every flag says exact.
abbrev pub ExactModeIsExact : Type 0
ExactModeIsExact = (c : Accepted) → c.question.mode ≡ 0 → c.found.exact ≡ 1

-- ---- 'a restricted value is achieved by its path'; restricted is number 1

abbrev pub RestrictedAchieved : Type 0
RestrictedAchieved = (c : Accepted) → c.question.mode ≡ 1 → c.found.has_best ≡ 1 → Achieved (problem c) (given c) c.found.path c.found.best

-- ---- the best exact value, in any mode, is achieved by the best exact path

abbrev pub BestExactAchieved : Type 0
BestExactAchieved = (c : Accepted) → c.found.has_best_exact ≡ 1 → Achieved (problem c) (given c) c.found.exact_path c.found.best_exact

-- ---- 'a relaxed value is at least that of every selection that fits, keeps its record's path and beats the bound; a relaxed run without a value means none does'

-- any number but 0 and 1 is relaxed
abbrev pub IsRelaxed : Accepted → Type 0
IsRelaxed c = 1 < c.question.mode

abbrev pub RelaxedBounds : Type 0
RelaxedBounds =
    (c : Accepted) → IsRelaxed c → (selection : List Bool) → Completes (problem c) (given c) selection → c.question.lower <ℤ earns (problem c) selection →
    (c.found.has_best ≡ 1) × (earns (problem c) selection ≤ℤ c.found.best)

abbrev pub RelaxedNone : Type 0
RelaxedNone =
    (c : Accepted) → IsRelaxed c → c.found.has_best ≡ 0 → (selection : List Bool) → Completes (problem c) (given c) selection → earns (problem c) selection ≤ℤ c.question.lower

-- ---- the drained records of a relaxed run

-- as many of the list's first records as the answer says, as they are read from its words
abbrev pub drained : Accepted → List Place
drained c = places_in c.found.drained c.records_after

-- each is valid, strictly deeper than the record, at most the item count deep, its bound at most the best value
pub record IsDrained (c : Accepted) (p : Place) : Type 0 where
  pub valid : Valid (problem c) (given_at p)
  pub deeper : c.question.root.depth < p.depth
  pub deep : p.depth ≤ length c.weights
  pub has_best : c.found.has_best ≡ 1
  pub bounded : p.bound ≤ℤ c.found.best

-- They are written as words, each record as the layout has it, and are read as they were written; all are within the list, and its rest is as it was.
-- For every x above the lower bound and above the best exact value (if there is one) that some selection that fits and keeps the record's path earns,
-- one of the drained records has a bound of at least x, and some selection that fits and keeps that record's path earns at least x.
pub record Drains (c : Accepted) : Type 0 where
  pub written : List Record
  pub listed : c.records_after ≡ over (record_table written) c.records
  pub read : drained c ≡ map place_of written
  pub within : c.found.drained * record_words ≤ length c.records_after
  pub rest : drop (c.found.drained * record_words) c.records_after ≡ drop (c.found.drained * record_words) c.records
  pub each : (p : Place) → Memᴰ p (drained c) → IsDrained c p
  pub cover : (x : ℤ) → c.question.lower <ℤ x → (c.found.has_best_exact ≡ 1 → c.found.best_exact <ℤ x) → (selection : List Bool) → Completes (problem c) (given c) selection → x ≤ℤ earns (problem c) selection → Covers (problem c) (map given_at (drained c)) x

abbrev pub RelaxedDrains : Type 0
RelaxedDrains = (c : Accepted) → IsRelaxed c → Drains c
