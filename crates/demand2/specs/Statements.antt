-- Demand 2 as six statements, for every accepted input: any mode, width and cutset kind, any valid record, any i64 lower bound, any room in which the run finishes.
use Rattle.std.specs.Prelude.{◌≡◌, Bool, true, ℕ, ◌<◌, ◌≤◌, ◌*◌, ℤ, pos, length, drop, ◌≤ℤ◌, ◌<ℤ◌}
use mathlib.Core.List.{List, [], ◌++◌, Memᴰ, map}
use Rattle.std.proofs.Math.Option.{none, some}
use Rattle.words.specs.I64.{InI64}
use Rattle.knapsack.specs.Knapsack.{Optimum}
use Rattle.diagram.specs.Run.{exactly, restricted, relaxing}
use Rattle.layout.specs.Rows.{node_words, edge_words}
use Rattle.layout.specs.Records.{record_words, record_table}
use Rattle.calls.specs.Asked.{Problem, Given, record_of}
use Rattle.calls.specs.Compile.{Request, Lent, Compiled, compiled, compile}
use Rattle.demand2.specs.Records.{items_in, item_count, Completes, earns, RecordOptimum, Achieved, Finished, SameWords, Valid}

-- ---- the record's optimum is there, and of a record without a decision it is the public one

abbrev pub OptimumExists : Type 0
OptimumExists = (q : Request) (a : Compiled) (rs : List Given) → Finished q a rs → (x : ℤ) × RecordOptimum q.problem q.given x

abbrev pub OptimumIsPublic : Type 0
OptimumIsPublic = (p : Problem) (g : Given) (x : ℕ) → g.path ≡ [] → Optimum (items_in p) p.page x → RecordOptimum p g (pos x)

-- ---- 1 'An exact diagram finds its record's 0/1 knapsack optimum if that beats the given bound'

pub record FindsOptimum (q : Request) (a : Compiled) (x : ℤ) : Type 0 where
  pub best : a.best ≡ some x
  pub best_exact_lem : a.best_exact ≡ some x
  pub path : Achieved q.problem q.given a.path x
  pub exact_path_lem : Achieved q.problem q.given a.exact_path x

-- where the optimum doesn't beat the bound: at depth n the record's value, otherwise none.
pub record FindsNothing (q : Request) (a : Compiled) : Type 0 where
  pub at_the_end : q.given.depth ≡ item_count q.problem → (a.best ≡ some q.given.value) × (a.best_exact ≡ some q.given.value)
  pub before : q.given.depth < item_count q.problem → (a.best ≡ none) × (a.best_exact ≡ none)

-- In any mode: where the answer says exact.
abbrev pub ExactFindsOptimum : Type 0
ExactFindsOptimum =
    (q : Request) (a : Compiled) (rs : List Given) → Finished q a rs → a.exact ≡ true →
    (x : ℤ) → RecordOptimum q.problem q.given x →
    (q.lower <ℤ x → FindsOptimum q a x) × (x ≤ℤ q.lower → FindsNothing q a)

-- In exact mode every answer says exact.
abbrev pub ExactModeIsExact : Type 0
ExactModeIsExact = (q : Request) (a : Compiled) (rs : List Given) → Finished q a rs → q.mode ≡ exactly → a.exact ≡ true

-- ---- 2 'a restricted value is achieved by its path'

abbrev pub RestrictedAchieved : Type 0
RestrictedAchieved =
    (q : Request) (a : Compiled) (rs : List Given) → Finished q a rs → q.mode ≡ restricted →
    (v : ℤ) → a.best ≡ some v → Achieved q.problem q.given a.path v

-- ---- 3 'a relaxed value is at least that of every selection that fits, keeps its record's path and beats the bound; a relaxed run without a value means none does'

pub record Bounds (q : Request) (a : Compiled) (selection : List Bool) : Type 0 where
  pub value : ℤ
  pub best : a.best ≡ some value
  pub at_least : earns q.problem selection ≤ℤ value

abbrev pub RelaxedBounds : Type 0
RelaxedBounds =
    (q : Request) (a : Compiled) (rs : List Given) → Finished q a rs → q.mode ≡ relaxing →
    (selection : List Bool) → Completes q.problem q.given selection →
    q.lower <ℤ earns q.problem selection → Bounds q a selection

abbrev pub RelaxedNone : Type 0
RelaxedNone =
    (q : Request) (a : Compiled) (rs : List Given) → Finished q a rs → q.mode ≡ relaxing → a.best ≡ none →
    (selection : List Bool) → Completes q.problem q.given selection →
    earns q.problem selection ≤ℤ q.lower

-- ---- 4 the best exact value, in any mode, is achieved by the best exact path

abbrev pub BestExactAchieved : Type 0
BestExactAchieved =
    (q : Request) (a : Compiled) (rs : List Given) → Finished q a rs →
    (v : ℤ) → a.best_exact ≡ some v → Achieved q.problem q.given a.exact_path v

-- ---- 5 the drained records of a relaxed run, of either cutset kind

-- each is valid, strictly deeper than the record, at most the item count deep, its bound at most the best value
pub record Drained (q : Request) (a : Compiled) (g : Given) : Type 0 where
  pub valid : Valid q.problem g
  pub deeper : q.given.depth < g.depth
  pub deep : g.depth ≤ item_count q.problem
  pub value : ℤ
  pub best : a.best ≡ some value
  pub bounded : g.bound ≤ℤ value

abbrev pub DrainedRecords : Type 0
DrainedRecords =
    (q : Request) (a : Compiled) (rs : List Given) → Finished q a rs → q.mode ≡ relaxing →
    (g : Given) → Memᴰ g rs → Drained q a g

-- a drained record with bound at least x, from which some selection that fits and keeps the drained record's path earns at least x
pub record Covers (p : Problem) (rs : List Given) (x : ℤ) : Type 0 where
  pub drained : Given
  pub is_drained : Memᴰ drained rs
  pub bound : x ≤ℤ drained.bound
  pub selection : List Bool
  pub completes : Completes p drained selection
  pub earned : x ≤ℤ earns p selection

-- for every x above the lower bound and above the best exact value (if there is one) that some selection that fits and keeps the record's path earns
abbrev pub DrainedCover : Type 0
DrainedCover =
    (q : Request) (a : Compiled) (rs : List Given) → Finished q a rs → q.mode ≡ relaxing →
    (x : ℤ) → q.lower <ℤ x → ((v : ℤ) → a.best_exact ≡ some v → v <ℤ x) →
    (selection : List Bool) → Completes q.problem q.given selection →
    x ≤ℤ earns q.problem selection → Covers q.problem rs x

-- ---- 6 'Old table contents change no answer'; 'Rows and list places beyond a run's own stay unchanged'

pub record Agree (q : Request) (l k : Lent) : Type 0 where
  pub answer : (compile q l).answer ≡ (compile q k).answer
  pub nodes : SameWords l.nodes (compile q l).lent.nodes k.nodes (compile q k).lent.nodes
  pub edges : SameWords l.edges (compile q l).lent.edges k.edges (compile q k).lent.edges
  pub records : SameWords l.records (compile q l).lent.records k.records (compile q k).lent.records

-- Two calls that agree on the request and on the tables' lengths agree on the answer and on what they write.
abbrev pub OldContentsChangeNothing : Type 0
OldContentsChangeNothing =
    (q : Request) (l k : Lent) →
    length l.nodes ≡ length k.nodes → length l.edges ≡ length k.edges → length l.records ≡ length k.records →
    Agree q l k

-- rows beyond the run's own, and list places beyond the drained ones, are what they were
pub record BeyondStays (before after : Lent) (a : Compiled) : Type 0 where
  pub nodes : drop (a.node_count * node_words) after.nodes ≡ drop (a.node_count * node_words) before.nodes
  pub edges : drop (a.edge_count * edge_words) after.edges ≡ drop (a.edge_count * edge_words) before.edges
  pub records : drop (a.drained_count * record_words) after.records ≡ drop (a.drained_count * record_words) before.records

abbrev pub BeyondTheRunStays : Type 0
BeyondTheRunStays = (q : Request) (l : Lent) (a : Compiled) → (compile q l).answer ≡ compiled a → BeyondStays l (compile q l).lent a

-- Every answer that isn't a refusal is that of a finished compile, whose drained records stand first in the record list.
pub record Shows (q : Request) (l : Lent) (a : Compiled) : Type 0 where
  pub drained : List Given
  pub finishes : Finished q a drained
  pub listed : (compile q l).lent.records ≡ record_table (map record_of drained) ++ drop (length drained * record_words) l.records

abbrev pub AnswersAreFinished : Type 0
AnswersAreFinished = (q : Request) (l : Lent) (a : Compiled) → InI64 q.lower → (compile q l).answer ≡ compiled a → Shows q l a
