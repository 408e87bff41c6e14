-- Demand 2 for the code: each statement of the definition, read off a call's answer.
use mathlib.Core.Path.{◌≡◌, ap, sym, subst, ◌∙◌}
use mathlib.Core.List.{List}
use mathlib.Core.Option.{some}
use Prim.Native.Nat.{ℕ}
use lib.IntN.{ℤ}
use lib.ListN.{length, length-map}
use Rattle.diagram.specs.After6.{drained}
use Rattle.calls.specs.Asked.{Given}
use Rattle.calls.specs.Compile.{Request, Compiled, compiled_of}
use Rattle.grow.specs.Told.{mode_of}
use Rattle.compile.specs.declared.Compiled as Code
use Rattle.demand2.specs.Records.{Achieved, Finished, given_of}
use Rattle.demand2.specs.Statements as Demand
use Rattle.demand2.proofs.Exact.{optimum_exists, exact_finds_optimum, exact_mode_is_exact}
use Rattle.demand2.proofs.Achieved.{best_exact_achieved, restricted_value_achieved}
use Rattle.demand2.proofs.Relaxed.{relaxed_bounds, relaxed_none}
use Rattle.demand2.proofs.Drained.{drained_records, drained_cover}
use Rattle.corollaries.specs.Called.{Called, asked, problem, given}
use Rattle.corollaries.specs.Statements.{OptimumExists, FindsOptimum, FindsNothing, ExactFindsOptimum, ExactModeIsExact, RestrictedAchieved, RelaxedBounds, RelaxedNone, BestExactAchieved, RelaxedDrains}
use Rattle.corollaries.proofs.Reading.{Read, read, shown, best_of, no_best, best_exact_of, best_as, best_exact_as}

-- the paths of a call's answer are the compiled ones
at_path : (c : Called) (a : Code.Compiled) (r : Read c a) (v : ℤ) → Achieved (problem c) (given c) r.compiled_as.path v → Achieved (problem c) (given c) a.path v
at_path c a r v h = subst (λ (p : List ℕ). Achieved (problem c) (given c) p v) (sym (ap (λ (x : Code.Compiled). x.path) r.answer_is)) h

at_exact_path : (c : Called) (a : Code.Compiled) (r : Read c a) (v : ℤ) → Achieved (problem c) (given c) r.compiled_as.exact_path v → Achieved (problem c) (given c) a.exact_path v
at_exact_path c a r v h = subst (λ (p : List ℕ). Achieved (problem c) (given c) p v) (sym (ap (λ (x : Code.Compiled). x.exact_path) r.answer_is)) h

-- ---- exact

pub optimum_there : OptimumExists
optimum_there c a ok = let r = read c a ok in let s = shown c a r in optimum_exists (asked c) r.compiled_as s.drained s.finishes

found : (c : Called) (a : Code.Compiled) (r : Read c a) (x : ℤ) → Demand.FindsOptimum (asked c) r.compiled_as x → FindsOptimum c a x
found c a r x f =
    record {
      best = best_as c a r (some x) f.best;
      best_exact_lem = best_exact_as c a r (some x) f.best_exact_lem;
      path = at_path c a r x f.path;
      exact_path_lem = at_exact_path c a r x f.exact_path_lem;
    }

nothing : (c : Called) (a : Code.Compiled) (r : Read c a) → Demand.FindsNothing (asked c) r.compiled_as → FindsNothing c a
nothing c a r f =
    record {
      at_the_end = λ h. let z = f.at_the_end h in (best_as c a r _ z.0, best_exact_as c a r _ z.1);
      before = λ h. let z = f.before h in (best_as c a r _ z.0, best_exact_as c a r _ z.1);
    }

pub exact_optimum : ExactFindsOptimum
exact_optimum c a ok e x o =
    let r = read c a ok in
    let s = shown c a r in
    let z = exact_finds_optimum (asked c) r.compiled_as s.drained s.finishes (sym (ap (λ (x : Code.Compiled). x.exact) r.answer_is) ∙ e) x o in
    ((λ h. found c a r x (z.0 h)), (λ h. nothing c a r (z.1 h)))

pub exact_mode : ExactModeIsExact
exact_mode c a ok m =
    let r = read c a ok in
    let s = shown c a r in
    ap (λ (x : Code.Compiled). x.exact) r.answer_is ∙ exact_mode_is_exact (asked c) r.compiled_as s.drained s.finishes (ap mode_of m)

-- ---- restricted, and the best exact value

pub restricted_achieved : RestrictedAchieved
restricted_achieved c a ok m v e =
    let r = read c a ok in
    let s = shown c a r in
    at_path c a r v (restricted_value_achieved (asked c) r.compiled_as s.drained s.finishes (ap mode_of m) v (best_of c a r v e))

pub best_exact_is_achieved : BestExactAchieved
best_exact_is_achieved c a ok v e =
    let r = read c a ok in
    let s = shown c a r in
    at_exact_path c a r v (best_exact_achieved (asked c) r.compiled_as s.drained s.finishes v (best_exact_of c a r v e))

-- ---- relaxed

pub relaxed_value_bounds : RelaxedBounds
relaxed_value_bounds c a ok m selection w h =
    let r = read c a ok in
    let s = shown c a r in
    let b = relaxed_bounds (asked c) r.compiled_as s.drained s.finishes (ap mode_of m) selection w h in
    record { value = b.value; best = best_as c a r (some b.value) b.best; at_least = b.at_least }

pub relaxed_without_value : RelaxedNone
relaxed_without_value c a ok m e selection w =
    let r = read c a ok in
    let s = shown c a r in
    relaxed_none (asked c) r.compiled_as s.drained s.finishes (ap mode_of m) (no_best c a r e) selection w

-- as many records as the answer says
count_is : (q : Request) (a : Compiled) (rs : List Given) → Finished q a rs → a.drained_count ≡ length rs
unfolding compiled_of
count_is q a rs f = ap (λ (x : Compiled). x.drained_count) f.answers ∙ sym (ap (length {A = Given}) f.drains ∙ length-map (drained q.given.path f.outcome) given_of)

pub relaxed_drains : RelaxedDrains
relaxed_drains c a ok m =
    let r = read c a ok in
    let s = shown c a r in
    let f = s.finishes in
    record {
      records = s.drained;
      listed = c.promised.records_are ∙ s.listed;
      counted = ap (λ (x : Code.Compiled). x.drained) r.answer_is ∙ count_is (asked c) r.compiled_as s.drained f;
      each = λ g i.
          let d = drained_records (asked c) r.compiled_as s.drained f (ap mode_of m) g i in
          record { valid = d.valid; deeper = d.deeper; deep = d.deep; value = d.value; best = best_as c a r (some d.value) d.best; bounded = d.bounded };
      cover = λ x h k selection w e. drained_cover (asked c) r.compiled_as s.drained f (ap mode_of m) x h (λ v z. k v (best_exact_as c a r (some v) z)) selection w e;
    }
