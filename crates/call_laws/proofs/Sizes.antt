-- What a compile writes never exceeds a lent table: a run's rows fit its rooms, and a drained record, whose path has at most 64 bytes, fits its places.
use mathlib.Core.Path.{◌≡◌, refl, ap, subst, ◌∙◌}
use mathlib.Core.List.Memᴰ
use mathlib.Core.List.{List, [], ◌∷◌, Memᴰ}
use mathlib.Core.Logic.{◌≢◌}
use mathlib.Core.Option.{none}
use Prim.Native.Nat.{ℕ, ◌*◌, ◌≤◌}
use native.Mathlib.Omega.{arith}
use lib.ListN.{length, drop, length-append, length-drop}
use lib.Seq.{take_at, drop_at}
use Rattle.diagram.specs.Node.{Node, Edge}
use Rattle.diagram.specs.Record.{Record, path_room}
use Rattle.diagram.specs.Tables.{Diagram, Found, at, nowhere}
use Rattle.diagram.specs.Run.{Mode, exactly, restricted, relaxing}
use Rattle.diagram.specs.After4.{CutsetKind, no_cutset, cutset_for}
use Rattle.diagram.specs.After6.{Outcome, outcome, drain_rows, drain_for, drained, Answer as Ran, refused as stopped_at, finished, run}
use Rattle.layout.specs.Table.{words_of, over}
use Rattle.layout.specs.Rows.{node_words, edge_words, encode_node, encode_edge, node_table, edge_table}
use Rattle.layout.specs.Records.{record_words, record_table}
use Rattle.layout.proofs.Rows.{node_width, edge_width}
use Rattle.layout.proofs.Records.{record_length}
use Rattle.layout.proofs.Table.{length_words}
use Rattle.theorems.proofs.Fits.{Fits, FitRun, refusal, outcome_is, run_fits}
use Rattle.theorems.proofs.Path.{Valid}
use Rattle.theorems.proofs.Runs.{compiled as finished-run}
use Rattle.theorems.proofs.Leads.{run_drains}
use Rattle.calls.specs.Asked.{items_in, record_of}
use Rattle.calls.specs.Refusals.{compile_refusal}
use Rattle.calls.specs.Compile.{Request, Lent, Rooms, rooms_of, Effect, effect, settings_of, run_of, compile_effect}
use Rattle.call_laws.specs.Statements.{Leaves}
use Rattle.call_laws.proofs.Accepted.{Accepted, accepted}
use Rattle.call_laws.proofs.View.{View, early, halted, overfull, done, view}

-- ---- words

pub nodes_long : (ns : List Node) → length (node_table ns) ≡ length ns * node_words
unfolding node_table
nodes_long ns = length_words encode_node node_words node_width ns

pub edges_long : (es : List Edge) → length (edge_table es) ≡ length es * edge_words
unfolding edge_table
edges_long es = length_words encode_edge edge_words edge_width es

-- the records' paths have room
abbrev pub Short : List Record → Type 0
Short rs = (r : Record) → Memᴰ r rs → length r.path ≤ path_room

pub records_long : (rs : List Record) → Short rs → length (record_table rs) ≡ length rs * record_words
unfolding record_table words_of
records_long [] h = refl
records_long (r ∷ rs) h =
    simp length-append (omega (arith, record_length r (h r (Memᴰ.head refl)), records_long rs (λ s m. h s (Memᴰ.tail m))))

-- ---- drained records

-- a run that isn't relaxed drains nothing
drain_none : (f : Found) (path : List ℕ) (o : Outcome) → o.cutset ≡ [] → drain_for f path o ≡ []
unfolding drain_for drain_rows
drain_none nowhere path o e = refl
drain_none (at b) path o e = rw e

cutset_none : (m : Mode) (k : CutsetKind) (d : Diagram) → m ≢ relaxing → (outcome m k d).cutset ≡ []
unfolding outcome cutset_for no_cutset
cutset_none exactly k d h = refl
cutset_none restricted k d h = refl
cutset_none relaxing k d h = absurd (h refl)

drained_none : (m : Mode) (k : CutsetKind) (d : Diagram) (path : List ℕ) → m ≢ relaxing → drained path (outcome m k d) ≡ []
unfolding drained
drained_none m k d path h = drain_none _ path (outcome m k d) (cutset_none m k d h)

by_mode : (P : Mode → Type 0) (m : Mode) → (m ≢ relaxing → P m) → (m ≡ relaxing → P m) → P m
by_mode P exactly f g = f (λ e. let z : ◌≡◌ {A = ℕ} 0 1 = cc in omega arith)
by_mode P restricted f g = f (λ e. let z : ◌≡◌ {A = ℕ} 0 1 = cc in omega arith)
by_mode P relaxing f g = g refl

-- the run of an accepted request
abbrev Runs : Request → Rooms → Outcome → Type 0
Runs q m o = run (settings_of q m) q.kind (items_in q.problem) (record_of q.given) ≡ finished o

drained_in : (q : Request) (m : Rooms) (o : Outcome) → Accepted q.problem q.given → Runs q m o → (settings_of q m).mode ≡ relaxing → (r : Record) → Memᴰ r (drained (record_of q.given).path o) → Valid (items_in q.problem) q.problem.page r
drained_in q m o a e h r i = (run_drains (items_in q.problem) a.small a.few (settings_of q m) h q.kind (record_of q.given) o e q.problem.page a.valid r i).0

drained_out : (q : Request) (m : Rooms) (o : Outcome) → Runs q m o → (settings_of q m).mode ≢ relaxing → drained (record_of q.given).path o ≡ []
drained_out q m o e h =
    let c = finished-run (items_in q.problem) (settings_of q m) q.kind (record_of q.given) o e in
    ap (drained (record_of q.given).path) c.is_outcome ∙ drained_none (settings_of q m).mode q.kind c.tables _ h

-- each drained record passes 7 to 9
pub drained_valid : (q : Request) (m : Rooms) (o : Outcome) → compile_refusal q.problem q.given ≡ none → run_of q m ≡ finished o → (r : Record) → Memᴰ r (drained q.given.path o) → Valid (items_in q.problem) q.problem.page r
unfolding run_of record_of
drained_valid q m o c e r i =
    by_mode (λ _. Valid (items_in q.problem) q.problem.page r) (settings_of q m).mode
    (λ h. absurd (Memᴰ.not-nil (subst (λ (l : List Record). Memᴰ r l) (drained_out q m o e h) i)))
    (λ h. drained_in q m o (accepted q.problem q.given c) e h r i)

pub drained_short : (q : Request) (m : Rooms) (o : Outcome) → compile_refusal q.problem q.given ≡ none → run_of q m ≡ finished o → Short (drained q.given.path o)
drained_short q m o c e r i = let v = drained_valid q m o c e r i in omega (arith, v.long, v.deep, (accepted q.problem q.given c).few)

-- ---- rows

stopped_fits : (a b n : ℕ) (d : Diagram) (x : Ran) → FitRun a b x → x ≡ stopped_at n d → Fits a b d
stopped_fits a b n d x (refusal {d = e} s f) q = let z : e ≡ d = cc in subst (λ (y : Diagram). Fits a b y) z f
stopped_fits a b n d x (outcome_is f) q = let z : ◌≡◌ {A = ℕ} 0 1 = cc in absurd (omega arith)

finished_fits : (a b : ℕ) (o : Outcome) (x : Ran) → FitRun a b x → x ≡ finished o → Fits a b o.diagram
finished_fits a b o x (refusal s f) q = let z : ◌≡◌ {A = ℕ} 0 1 = cc in absurd (omega arith)
finished_fits a b o x (outcome_is {o = p} f) q = let z : p ≡ o = cc in subst (λ (y : Outcome). Fits a b y.diagram) z f

pub request_fits : (q : Request) (m : Rooms) → FitRun m.nodes m.edges (run_of q m)
unfolding run_of settings_of
request_fits q m = run_fits (settings_of q m) q.kind (items_in q.problem) (record_of q.given)

-- ---- what is written is no longer than the tables

pub record InTables (l : Lent) (x : Effect) : Type 0 where
  pub nodes : length x.nodes ≤ length l.nodes
  pub edges : length x.edges ≤ length l.edges
  pub records : length (record_table x.drained) ≤ length l.records

nodes_in : (l : Lent) (d : Diagram) → Fits (rooms_of l).nodes (rooms_of l).edges d → length (node_table d.nodes) ≤ length l.nodes
unfolding rooms_of
nodes_in l d f = omega (arith, nodes_long d.nodes, f.nodes_fit)

edges_in : (l : Lent) (d : Diagram) → Fits (rooms_of l).nodes (rooms_of l).edges d → length (edge_table d.edges) ≤ length l.edges
unfolding rooms_of
edges_in l d f = omega (arith, edges_long d.edges, f.edges_fit)

records_in : (l : Lent) (rs : List Record) → Short rs → length rs ≤ (rooms_of l).records → length (record_table rs) ≤ length l.records
unfolding rooms_of
records_in l rs h k = omega (arith, records_long rs h)

no_words : (l : Lent) → length (record_table []) ≤ length l.records
unfolding record_table words_of
no_words l = omega arith

view_in : (q : Request) (l : Lent) {x : Effect} → View q (rooms_of l) x → InTables l x
unfolding effect
view_in q l (early n e) = record { nodes = omega arith; edges = omega arith; records = no_words l }
view_in q l (halted n d e f) =
    let g = stopped_fits _ _ n d _ (request_fits q (rooms_of l)) f in
    record { nodes = nodes_in l d g; edges = edges_in l d g; records = no_words l }
view_in q l (overfull o e f h) =
    let g = finished_fits _ _ o _ (request_fits q (rooms_of l)) f in
    record { nodes = nodes_in l o.diagram g; edges = edges_in l o.diagram g; records = no_words l }
view_in q l (done o e f h) =
    let g = finished_fits _ _ o _ (request_fits q (rooms_of l)) f in
    record {
      nodes = nodes_in l o.diagram g;
      edges = edges_in l o.diagram g;
      records = records_in l (drained q.given.path o) (drained_short q (rooms_of l) o e f) h;
    }

-- What a compile writes is no longer than what was lent.
pub effect_in : (q : Request) (l : Lent) → InTables l (compile_effect q (rooms_of l))
effect_in q l = view_in q l (view q (rooms_of l))

-- words within a table, laid over it
pub laid_over : (ws old : List ℕ) → length ws ≤ length old → Leaves old (over ws old) ws
unfolding over
laid_over ws old h =
    record {
      laid = refl;
      within = h;
      first = take_at ws (drop (length ws) old) (length ws) refl;
      rest = drop_at ws (drop (length ws) old) (length ws) refl;
      long = simp (length-append, length-drop) (omega arith);
    }
