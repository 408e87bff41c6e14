-- Demand 2 for a host: its call is a call of `compile`, and each statement about that is read off what the host's call found.
use mathlib.Core.Path.{◌≡◌, refl, sym, ap, subst, ◌∙◌}
use mathlib.Core.Bool.{Bool, true, false}
use mathlib.Core.List.Memᴰ
use mathlib.Core.List.{List, map}
use Prim.Native.Nat.{ℕ, ◌*◌, ◌≤◌}
use native.Mathlib.Omega.{arith}
use lib.IntN.{ℤ}
use lib.ListN.{length}
use lib.Signed.{◌≤ℤ◌, ◌<ℤ◌}
use borrow.Author.Tests.{ne_eqb}
use Rattle.layout.specs.Records.{record_words}
use Rattle.calls.specs.Compile as Def
use Rattle.calls.specs.Compile.{Lent, Effect, rooms_of, compiled, compile_effect, after, compile}
use Rattle.grow.specs.Told.{mode_of}
use Rattle.grow.specs.declared.Mode.TheVariants.{Exact, Restricted, Relaxed}
use Rattle.std.specs.Prelude.{Option, Some, None}
use Rattle.compile.specs.declared.Compiled.{Compiled}
use Rattle.compile.specs.Asked.{lent_of}
use Rattle.compile.specs.Answered.{answer_from, compiled_from}
use Rattle.demand2.specs.Records.{earns, Achieved, Finished}
use Rattle.demand2.proofs.Drained.{drained_records, drained_cover}
use Rattle.corollaries.specs.Called.{Called, IsAccepted}
use Rattle.corollaries.specs.Statements as Call
use Rattle.corollaries.proofs.Demand2 as Below
use Rattle.corollaries.proofs.Output.{beyond_the_run}
use Rattle.corollaries.proofs.Reading as Reading
use Rattle.corollaries.proofs.Reading.{Read}
use Rattle.searches.specs.Places.{Place, given_at}
use Rattle.searches.specs.Pick.{drained_places}
use Rattle.demand3.proofs.Compiled.{answered}
use Rattle.records.proofs.Drained.{ReadBack, read_back}
use Rattle.query.specs.Queried.{request_in, path_in}
use Rattle.border.specs.declared.Found.{Found}
use Rattle.border.specs.Border.{flag_of, has_of, value_of, query_in, found_in, found_of}
use Rattle.host_corollaries.specs.Demand2.{Accepted, asked, problem, given, OptimumExists, FindsOptimum, FindsNothing, ExactFindsOptimum, ExactModeIsExact, RestrictedAchieved, BestExactAchieved, IsRelaxed, RelaxedBounds, RelaxedNone, drained, RelaxedDrains}
use Rattle.host_corollaries.proofs.Numbers.{zero_is_compiled}

-- ---- the call of `compile` that it is

abbrev lent : Accepted → Lent
lent c = lent_of c.nodes c.edges c.records

abbrev called : Accepted → Called
called c =
    record {
      weights = c.weights;
      profits = c.profits;
      request = request_in (query_in c.question);
      path = path_in (query_in c.question);
      lower_is_i64 = c.lower_is_i64;
      before = lent c;
      answer = answer_from (compile (asked c) (lent c)).answer;
      after = lent_of c.nodes_after c.edges_after c.records_after;
      promised = record { answer_is = refl; nodes_are = c.promised.nodes_are; edges_are = c.promised.edges_are; records_are = c.promised.records_are };
    }

-- what it answered
was_compiled : (c : Accepted) → (d : Def.Compiled) × ((compile (asked c) (lent c)).answer ≡ compiled d)
was_compiled c =
    (zero_is_compiled (asked c) (lent c) 0 c.found c.nodes_after c.edges_after c.records_after c.promised).0 refl

abbrev a : Accepted → Compiled
a c = compiled_from (was_compiled c).0

accepted : (c : Accepted) → IsAccepted (called c) (a c)
accepted c = ap answer_from (was_compiled c).1

-- ---- a value or none, as a flag and a number

is_value : (v : Option ℤ) (has : ℕ) (x : ℤ) → has ≡ has_of v → x ≡ value_of v → has ≡ 1 → v ≡ Some x
is_value None has x h e z = absurd (omega (arith, h, z))
is_value (Some y) has x h e z = ap Some (sym e)

is_missing : (v : Option ℤ) (has : ℕ) → has ≡ has_of v → has ≡ 0 → v ≡ None
is_missing None has h z = refl
is_missing (Some y) has h z = absurd (omega (arith, h, z))

flag_true : (b : Bool) → flag_of b ≡ 1 → b ≡ true
flag_true true e = refl
flag_true false e = absurd (omega (arith, e))

module _ (c : Accepted) where
  found_is : c.found ≡ found_in (a c)
  found_is = c.promised.found_is ∙ ap found_of (accepted c)

  best_of : c.found.has_best ≡ 1 → (a c).best ≡ Some c.found.best
  best_of = is_value (a c).best _ _ (ap (λ (f : Found). f.has_best) found_is) (ap (λ (f : Found). f.best) found_is)

  no_best : c.found.has_best ≡ 0 → (a c).best ≡ None
  no_best = is_missing (a c).best _ (ap (λ (f : Found). f.has_best) found_is)

  exact_of : c.found.has_best_exact ≡ 1 → (a c).best_exact ≡ Some c.found.best_exact
  exact_of = is_value (a c).best_exact _ _ (ap (λ (f : Found). f.has_best_exact) found_is) (ap (λ (f : Found). f.best_exact) found_is)

  has_best : (v : Option ℤ) → (a c).best ≡ v → c.found.has_best ≡ has_of v
  has_best v e = ap (λ (f : Found). f.has_best) found_is ∙ ap has_of e

  has_exact : (v : Option ℤ) → (a c).best_exact ≡ v → c.found.has_best_exact ≡ has_of v
  has_exact v e = ap (λ (f : Found). f.has_best_exact) found_is ∙ ap has_of e

  best_as : (x : ℤ) → (a c).best ≡ Some x → (c.found.has_best ≡ 1) × (c.found.best ≡ x)
  best_as x e = (has_best (Some x) e, ap (λ (f : Found). f.best) found_is ∙ ap value_of e)

  exact_as : (x : ℤ) → (a c).best_exact ≡ Some x → (c.found.has_best_exact ≡ 1) × (c.found.best_exact ≡ x)
  exact_as x e = (has_exact (Some x) e, ap (λ (f : Found). f.best_exact) found_is ∙ ap value_of e)

  at_path : (v : ℤ) → Achieved (problem c) (given c) (a c).path v → Achieved (problem c) (given c) c.found.path v
  at_path v = subst (λ (p : List ℕ). Achieved (problem c) (given c) p v) (sym (ap (λ (f : Found). f.path) found_is))

  at_exact_path : (v : ℤ) → Achieved (problem c) (given c) (a c).exact_path v → Achieved (problem c) (given c) c.found.exact_path v
  at_exact_path v = subst (λ (p : List ℕ). Achieved (problem c) (given c) p v) (sym (ap (λ (f : Found). f.exact_path) found_is))

-- ---- exact

pub optimum_there : OptimumExists
optimum_there c = Below.optimum_there (called c) (a c) (accepted c)

finds : (c : Accepted) (x : ℤ) → Call.FindsOptimum (called c) (a c) x → FindsOptimum c x
finds c x f = record { best = best_as c x f.best; best_exact_lem = exact_as c x f.best_exact_lem; path = at_path c x f.path; exact_path_lem = at_exact_path c x f.exact_path_lem }

finds_nothing : (c : Accepted) → Call.FindsNothing (called c) (a c) → FindsNothing c
finds_nothing c f =
    record {
      at_the_end = λ h. let z = f.at_the_end h in (best_as c _ z.0, exact_as c _ z.1);
      before = λ h. let z = f.before h in (has_best c None z.0, has_exact c None z.1);
    }

pub exact_optimum : ExactFindsOptimum
exact_optimum c e x o =
    let z = Below.exact_optimum (called c) (a c) (accepted c) (flag_true _ (sym (ap (λ (f : Found). f.exact) (found_is c)) ∙ e)) x o in
    ((λ h. finds c x (z.0 h)), (λ h. finds_nothing c (z.1 h)))

mode_exact : (c : Accepted) → c.question.mode ≡ 0 → (called c).request.mode ≡ Exact
mode_exact c e = rw e refl

pub exact_mode : ExactModeIsExact
exact_mode c m = ap (λ (f : Found). f.exact) (found_is c) ∙ ap flag_of (Below.exact_mode (called c) (a c) (accepted c) (mode_exact c m))

-- ---- restricted, and the best exact value

mode_restricted : (c : Accepted) → c.question.mode ≡ 1 → (called c).request.mode ≡ Restricted
mode_restricted c e = rw e refl

pub restricted_achieved : RestrictedAchieved
restricted_achieved c m h = at_path c _ (Below.restricted_achieved (called c) (a c) (accepted c) (mode_restricted c m) _ (best_of c h))

pub best_exact_is_achieved : BestExactAchieved
best_exact_is_achieved c h = at_exact_path c _ (Below.best_exact_is_achieved (called c) (a c) (accepted c) _ (exact_of c h))

-- ---- relaxed

mode_relaxed : (c : Accepted) → IsRelaxed c → (called c).request.mode ≡ Relaxed
mode_relaxed c h = rw (ne_eqb c.question.mode 0 (λ e. omega (arith, e)), ne_eqb c.question.mode 1 (λ e. omega (arith, e))) refl

pub relaxed_value_bounds : RelaxedBounds
relaxed_value_bounds c m selection w h =
    let b = Below.relaxed_value_bounds (called c) (a c) (accepted c) (mode_relaxed c m) selection w h in
    let z = best_as c b.value b.best in
    (z.0, subst (λ (v : ℤ). earns (problem c) selection ≤ℤ v) (sym z.1) b.at_least)

pub relaxed_without_value : RelaxedNone
relaxed_without_value c m e selection w = Below.relaxed_without_value (called c) (a c) (accepted c) (mode_relaxed c m) (no_best c e) selection w

-- ---- the drained records

module _ (c : Accepted) (r : Read (called c) (a c)) where
  abbrev effect : Effect
  effect = compile_effect (asked c) (rooms_of (lent c))

  effect_answers : effect.answer ≡ compiled r.compiled_as
  unfolding compile after
  effect_answers = r.is_compiled_lem

  after_is : c.records_after ≡ (after effect (lent c)).lent.records
  unfolding compile
  after_is = c.promised.records_are

  count_is : c.found.drained ≡ r.compiled_as.drained_count
  count_is = ap (λ (f : Found). f.drained) (found_is c) ∙ ap (λ (x : Compiled). x.drained) r.answer_is

  back : ReadBack (asked c) (lent c) effect r.compiled_as
  back = read_back (asked c) (lent c) r.compiled_as effect_answers

  drained_is : drained c ≡ drained_places effect
  drained_is = rw (count_is, after_is) back.places_are

  all_within : c.found.drained * record_words ≤ length c.records_after
  all_within = rw (count_is, after_is) back.within

  finished : IsRelaxed c → Finished (asked c) r.compiled_as (map given_at (drained c))
  finished m =
      subst (λ (ps : List Place). Finished (asked c) r.compiled_as (map given_at ps)) (sym drained_is)
      (answered (asked c) (rooms_of (lent c)) r.compiled_as (ap mode_of (mode_relaxed c m)) c.lower_is_i64 effect_answers).finishes

pub relaxed_drains : RelaxedDrains
unfolding after drained_places given_at
relaxed_drains c m =
    let r = Reading.read (called c) (a c) (accepted c) in
    let f = finished c r m in
    let relaxed = ap mode_of (mode_relaxed c m) in
    let many = ap (λ (f : Found). f.drained) (found_is c) in
    record {
      written = (effect c r).drained;
      listed = after_is c r;
      read = drained_is c r;
      within = all_within c r;
      rest = rw many (beyond_the_run (called c) (a c) (accepted c)).records;
      each = λ p i.
          let d = drained_records (asked c) r.compiled_as (map given_at (drained c)) f relaxed (given_at p) (Memᴰ.map given_at i) in
          let z = best_as c d.value (Reading.best_as (called c) (a c) r _ d.best) in
          record { valid = d.valid; deeper = d.deeper; deep = d.deep; has_best = z.0; bounded = subst (λ (v : ℤ). p.bound ≤ℤ v) (sym z.1) d.bounded };
      cover = λ x h k selection w e.
          drained_cover (asked c) r.compiled_as (map given_at (drained c)) f relaxed x h
          (λ v z. let y = exact_as c v (Reading.best_exact_as (called c) (a c) r _ z) in subst (λ (u : ℤ). u <ℤ x) y.1 (k y.0)) selection w e;
    }
