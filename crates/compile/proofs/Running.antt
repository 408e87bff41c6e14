-- The run of a request that passed refusals 1 to 9: what growth and end may count on, and how their promises make the definition's effect.
use mathlib.Core.Path.{◌≡◌, refl, ap, sym, subst, ◌∙◌}
use mathlib.Core.Bool.{Bool}
use mathlib.Core.List.{List, [], ◌∷◌}
use mathlib.Core.Option.{none}
use Rattle.std.specs.Prelude.{Result, Ok, Err}
use Prim.Native.Nat.{ℕ, ◌-◌, ◌≤◌}
use native.Mathlib.Nat.{div-mul-le_self}
use native.Mathlib.Omega.{arith}
use lib.ListN.{length, take, replicate}
use lib.Seq.{take-append_seam}
use Rattle.knapsack.specs.Items.{Item, items_of}
use Rattle.diagram.specs.Record.{Record, path_room, padded}
use Rattle.diagram.specs.Rule1.{root_only, rooted}
use Rattle.diagram.specs.Rule2.{grown}
use Rattle.diagram.specs.Run.{Mode, Settings, Run, going, stopped, is_relaxing}
use Rattle.diagram.specs.Tables.{Diagram}
use Rattle.diagram.specs.After4.{CutsetKind}
use Rattle.diagram.specs.After6.{finish, run}
use Rattle.layout.proofs.Records.{over_none}
use Rattle.calls.specs.Asked as Def
use Rattle.calls.specs.Refusals.{compile_refusal}
use Rattle.calls.specs.Compile as Call
use Rattle.calls.specs.Compile.{run_of, rooms_of, effect, effect_of}
use Rattle.call_laws.proofs.Accepted.{accepted}
use Rattle.refusals.proofs.Accepted.{compile_passed}
use Rattle.reasons.specs.Numbers.{number}
use Rattle.branch.specs.declared.Stop.{Stop}
use Rattle.branch.specs.State.{Going, Stopped, counts_of}
use Rattle.cutset.specs.Whole.{kind_of}
use Rattle.grow.specs.declared.Growth.{Growth}
use Rattle.grow.specs.declared.Task.{Task}
use Rattle.grow.specs.declared.Root.{Root}
use Rattle.grow.specs.Told as Told
use Rattle.grow.specs.Told.{mode_of, settings_of}
use Rattle.grow.specs.Growing.{Grew, Growable}
use Rattle.finalize.specs.declared.Given.{Given}
use Rattle.finalize.specs.Given.{Grown, Finalizable}
use Rattle.compile.specs.declared.Request.{Request}
use Rattle.compile.specs.declared.Compiled.{Compiled}
use Rattle.compile.specs.Asked.{problem_of, given_of, request_of, lent_of, task_from, root_from, given_from}
use Rattle.compile.specs.Answered.{ran_effect, Effected, Concluded}

-- ---- what the growth may count on

items_short : (ws ps : List ℕ) → length (items_of ws ps) ≤ length ws
unfolding items_of
items_short [] ps = omega arith
items_short (w ∷ ws) [] = omega arith
items_short (w ∷ ws) (p ∷ ps) = omega (arith, items_short ws ps)

deep : (ws ps : List ℕ) (q : Request) (path : List ℕ) → compile_refusal (problem_of ws ps q) (given_of q path) ≡ none → q.depth ≤ length (items_of ws ps)
unfolding Def.record_of
deep ws ps q path e = (accepted (problem_of ws ps q) (given_of q path) e).valid.deep

long : (ws ps : List ℕ) (q : Request) (path : List ℕ) → compile_refusal (problem_of ws ps q) (given_of q path) ≡ none → length path ≡ q.depth
unfolding Def.record_of
long ws ps q path e = (accepted (problem_of ws ps q) (given_of q path) e).valid.long

pub short : (ws ps : List ℕ) (q : Request) (path : List ℕ) → compile_refusal (problem_of ws ps q) (given_of q path) ≡ none → length path ≤ 64
short ws ps q path e = omega (arith, long ws ps q path e, deep ws ps q path e, (accepted (problem_of ws ps q) (given_of q path) e).few)

growable : (ws ps : List ℕ) (q : Request) (path ns es : List ℕ) → compile_refusal (problem_of ws ps q) (given_of q path) ≡ none → Growable ws (task_from q (length ns) (length es)) (root_from q) ns es
growable ws ps q path ns es e =
    let p = compile_passed (problem_of ws ps q) (given_of q path) e in
    record {
      depth_in = omega (arith, deep ws ps q path e, items_short ws ps);
      some_width = p.some_width;
      nodes_in = div-mul-le_self (length ns) 8;
      edges_in = div-mul-le_self (length es) 5;
    }

-- ---- the definition's run is the growth that the code is told, finished

unfoldable recorded : Request → List ℕ → Record
recorded q path = Def.record_of (given_of q path)

-- a record's bound and path don't enter its growth
same_growth : (s : Settings) (items : List Item) (q : Request) (path : List ℕ) → grown s items (Told.record_of (root_from q)) ≡ grown s items (recorded q path)
unfolding grown rooted root_only Def.record_of recorded
same_growth s items q path = refl

ran_is : (ws ps : List ℕ) (q : Request) (path ns es rs : List ℕ) → run_of (request_of ws ps q path) (rooms_of (lent_of ns es rs)) ≡ finish (mode_of q.mode) (kind_of q.kind) (grown (settings_of (task_from q (length ns) (length es))) (items_of ws ps) (recorded q path))
unfolding run_of run rooms_of Call.settings_of recorded
ran_is ws ps q path ns es rs = refl

-- ---- a run that stopped

stopped_by : (x : Run) (m : Mode) (k : CutsetKind) (path : List ℕ) (room : ℕ) (ns es rs : List ℕ) (stop : Stop) (ns' es' : List ℕ) (a : Result Compiled ℕ) → Grew x ns es (Err stop) ns' es' → a ≡ Err (number stop.refusal) → Effected (effect_of path room (finish m k x)) ns es rs a ns' es' rs
unfolding effect_of finish effect
stopped_by (going d) m k path room ns es rs stop ns' es' a w z =
    let s : Stopped (number stop.refusal) stop.counts ≡ Going (counts_of d) = w.stepped.step_is in
    absurd cc
stopped_by (stopped j d) m k path room ns es rs stop ns' es' a w z =
    let s : Stopped (number stop.refusal) stop.counts ≡ Stopped j (counts_of d) = w.stepped.step_is in
    let y : number stop.refusal ≡ j = cc in
    record {
      answer_is = z ∙ ap (λ (n : ℕ). Err n) y;
      nodes_are = w.stepped.held.nodes_are;
      edges_are = w.stepped.held.edges_are;
      records_are = sym (over_none rs);
    }

-- the effect of the whole, where the growth stopped
ran_stopped : (ws ps : List ℕ) (q : Request) (path ns es rs : List ℕ) (stop : Stop) (ns' es' : List ℕ) (a : Result Compiled ℕ) → Grew (grown (settings_of (task_from q (length ns) (length es))) (items_of ws ps) (Told.record_of (root_from q))) ns es (Err stop) ns' es' → a ≡ Err (number stop.refusal) → Effected (ran_effect (request_of ws ps q path) (rooms_of (lent_of ns es rs))) ns es rs a ns' es' rs
ran_stopped ws ps q path ns es rs stop ns' es' a w z =
    let settings : Settings = settings_of (task_from q (length ns) (length es)) in
    let items : List Item = items_of ws ps in
    subst (λ x. Effected (effect_of path (rooms_of (lent_of ns es rs)).records x) ns es rs a ns' es' rs) (sym (ran_is ws ps q path ns es rs))
    (stopped_by (grown settings items (recorded q path)) (mode_of q.mode) (kind_of q.kind) path (rooms_of (lent_of ns es rs)).records ns es rs stop ns' es' a (subst (λ (x : Run). Grew x ns es (Err stop) ns' es') (same_growth settings items q path) w) z)

-- ---- a run that grew to its end

-- the diagram that it grew
record GrewTo (s : Settings) (items : List Item) (r : Record) (old_n old_e : List ℕ) (g : Growth) (given : Given) (ns es rs : List ℕ) : Type 0 where
  diagram : Diagram
  stands : Grown s items r diagram old_n old_e g.counts g.start g.layers g.last given ns es rs

path_back : (path : List ℕ) (depth : ℕ) → length path ≡ depth → take depth (padded path) ≡ path
unfolding padded
path_back path depth e = rw (← e) (take-append_seam path (replicate (path_room - length path) 0))

module _ (ws ps : List ℕ) (q : Request) (path ns es rs : List ℕ) (ok : compile_refusal (problem_of ws ps q) (given_of q path) ≡ none) (g : Growth) (ns' es' : List ℕ) where
  abbrev settings : Settings
  settings = settings_of (task_from q (length ns) (length es))

  abbrev items : List Item
  items = items_of ws ps

  abbrev given : Given
  given = given_from q path (length rs)

  grew_by : (x : Run) → grown settings items (recorded q path) ≡ x → Grew x ns es (Ok g) ns' es' → GrewTo settings items (recorded q path) ns es g given ns' es' rs
  unfolding recorded Def.record_of
  grew_by (stopped j d) x w =
      let s : Going g.counts ≡ Stopped j (counts_of d) = w.stepped.step_is in
      absurd cc
  grew_by (going d) x w =
      let s : Going g.counts ≡ Going (counts_of d) = w.stepped.step_is in
      record {
        diagram = d;
        stands = record {
          grown_is = x;
          few_items = (accepted (problem_of ws ps q) (given_of q path) ok).few;
          held = w.stepped.held;
          counts_are = cc;
          start_is = w.reached.0;
          layers_are = w.reached.1.layers_are;
          last_is = w.reached.1.last_is;
          path_is = path_back path q.depth (long ws ps q path ok);
          path_long = long ws ps q path ok;
          depth_is = refl;
          depth_in = deep ws ps q path ok;
          room_in = div-mul-le_self (length rs) 68;
        };
      }

  module _ (w : Grew (grown settings items (Told.record_of (root_from q))) ns es (Ok g) ns' es') where
    grew_to : GrewTo settings items (recorded q path) ns es g given ns' es' rs
    grew_to = grew_by (grown settings items (recorded q path)) refl (subst (λ (x : Run). Grew x ns es (Ok g) ns' es') (same_growth settings items q path) w)

    finalizable : Finalizable g.counts g.start g.layers g.last given ns' es' rs
    finalizable =
        let t = grew_to in
        record { settings = settings; items = items; compiled = recorded q path; diagram = t.diagram; old_n = ns; old_e = es; grown = t.stands }

    -- the effect of the whole
    ran_ended : (relaxed : Bool) (a : Result Compiled ℕ) (ns'' rs'' : List ℕ) → relaxed ≡ is_relaxing (mode_of q.mode) → Concluded g relaxed q.kind given ns' es' rs a ns'' rs'' → Effected (ran_effect (request_of ws ps q path) (rooms_of (lent_of ns es rs))) ns es rs a ns'' es' rs''
    unfolding effect_of finish rooms_of recorded Def.record_of
    ran_ended relaxed a ns'' rs'' m done =
        let t = grew_to in
        subst (λ x. Effected (effect_of path (rooms_of (lent_of ns es rs)).records x) ns es rs a ns'' es' rs'')
        (sym (ran_is ws ps q path ns es rs ∙ ap (finish (mode_of q.mode) (kind_of q.kind)) t.stands.grown_is))
        (done.does settings items (recorded q path) t.diagram ns es t.stands m)

-- ---- the same of what the code calls its functions with

module _ (ws ps : List ℕ) (q : Request) (path ns es rs : List ℕ) (ok : compile_refusal (problem_of ws ps q) (given_of q path) ≡ none) (t : Task) (r : Root) (a : t ≡ task_from q (length ns) (length es)) (b : r ≡ root_from q) where
  pub told_growable : Growable ws t r ns es
  told_growable = rw (a, b) (growable ws ps q path ns es ok)

  module _ (grew : Result Growth Stop) (ns' es' : List ℕ) (w : Grew (grown (settings_of t) (items_of ws ps) (Told.record_of r)) ns es grew ns' es') where
    as_told : (x : Result Growth Stop) → grew ≡ x → Grew (grown (settings_of (task_from q (length ns) (length es))) (items_of ws ps) (Told.record_of (root_from q))) ns es x ns' es'
    as_told x e =
        subst (λ (x : Result Growth Stop). Grew (grown (settings_of (task_from q (length ns) (length es))) (items_of ws ps) (Told.record_of (root_from q))) ns es x ns' es') e
        (subst (λ (x : Task). Grew (grown (settings_of x) (items_of ws ps) (Told.record_of (root_from q))) ns es grew ns' es') a
        (subst (λ (x : Root). Grew (grown (settings_of t) (items_of ws ps) (Told.record_of x)) ns es grew ns' es') b w))

    pub told_finalizable : (g : Growth) (x : Given) → grew ≡ Ok g → x ≡ given_from q path (length rs) → Finalizable g.counts g.start g.layers g.last x ns' es' rs
    told_finalizable g x e d = rw d (finalizable ws ps q path ns es rs ok g ns' es' (as_told (Ok g) e))

    pub told_stopped : (stop : Stop) (y : Result Compiled ℕ) → grew ≡ Err stop → y ≡ Err (number stop.refusal) → Effected (ran_effect (request_of ws ps q path) (rooms_of (lent_of ns es rs))) ns es rs y ns' es' rs
    told_stopped stop y e z = ran_stopped ws ps q path ns es rs stop ns' es' y (as_told (Err stop) e) z

    pub told_ended : (g : Growth) (x : Given) (relaxed : Bool) (y : Result Compiled ℕ) (ns'' rs'' : List ℕ) → grew ≡ Ok g → x ≡ given_from q path (length rs) → relaxed ≡ is_relaxing (mode_of q.mode) → Concluded g relaxed q.kind x ns' es' rs y ns'' rs'' → Effected (ran_effect (request_of ws ps q path) (rooms_of (lent_of ns es rs))) ns es rs y ns'' es' rs''
    told_ended g x relaxed y ns'' rs'' e d m done =
        ran_ended ws ps q path ns es rs ok g ns' es' (as_told (Ok g) e) relaxed y ns'' rs'' m (subst (λ (v : Given). Concluded g relaxed q.kind v ns' es' rs y ns'' rs'') d done)
