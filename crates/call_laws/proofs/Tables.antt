-- What a compile leaves in the lent tables: old contents never enter, more room changes nothing, and what stands there after each kind of answer.
use mathlib.Core.Path.{◌≡◌, refl, sym, ap, subst, ◌∙◌}
use mathlib.Core.List.{List, []}
use Prim.Native.Nat.{ℕ, ◌≤◌, ◌<◌}
use native.Mathlib.Omega.{arith}
use lib.ListN.{length}
use Rattle.diagram.specs.Node.{Edge, edge_at}
use Rattle.diagram.specs.Record.{Record}
use Rattle.diagram.specs.Tables.{Diagram}
use Rattle.diagram.specs.Run.{Settings}
use Rattle.diagram.specs.After6.{Outcome, drained, refused as stopped_at, finished, run}
use Rattle.layout.specs.Table.{words_of, over}
use Rattle.layout.specs.Rows.{node_table, edge_table}
use Rattle.layout.specs.Records.{record_table}
use Rattle.layout.proofs.Records.{over_none}
use Rattle.theorems.proofs.Fits.{Stop, ten, eleven, twelve, outcome_long}
use Rattle.theorems.proofs.Links.{Wired, grown_wired, parent_smaller}
use Rattle.theorems.proofs.Rooms.{with_rooms, run_more_room}
use Rattle.theorems.proofs.Runs.{compiled as finished-run, tables_hold}
use Rattle.calls.specs.Asked.{items_in, record_of}
use Rattle.calls.specs.Compile.{Request, Lent, Rooms, rooms_of, Compiled, Answer, refused, compiled, compiled_of, Effect, effect, settings_of, run_of, compile_effect, after, compile}
use Rattle.call_laws.specs.Statements.{OneAnswer, Words, Writes, WritesWithin, Alike, SameLengths, LengthsStay, OldContentsNeverEnter, MoreRoom, EarlyWritesNothing, RefusedKeepsList, HoldsRows, StoppedHolds, ThirteenHolds, CompiledHolds, ParentsSmaller}
use Rattle.call_laws.proofs.View.{View, early, halted, overfull, done, view, done_effect}
use Rattle.call_laws.proofs.Sizes.{effect_in, laid_over}
use Rattle.call_laws.proofs.Refusals.{early_number, run_stop}

-- ---- one answer

pub one_answer : OneAnswer
one_answer q l = (compile q l, refl, λ b e. sym e)

-- ---- the words that are written

-- the words of an effect
abbrev words_in : Effect → Words
words_in x = record { nodes = x.nodes; edges = x.edges; records = record_table x.drained }

-- A compile lays its effect's words over the tables.
compile_writes : (q : Request) (l : Lent) → Writes q l (words_in (compile_effect q (rooms_of l)))
unfolding compile after
compile_writes q l =
    let i = effect_in q l in
    record { nodes = laid_over _ l.nodes i.nodes; edges = laid_over _ l.edges i.edges; records = laid_over _ l.records i.records }

pub writes_within : WritesWithin
writes_within q l = (words_in (compile_effect q (rooms_of l)), compile_writes q l)

pub lengths_stay : LengthsStay
lengths_stay q l = let w = compile_writes q l in record { nodes = w.nodes.long; edges = w.edges.long; records = w.records.long }

compile_answers : (q : Request) (l : Lent) → (compile q l).answer ≡ (compile_effect q (rooms_of l)).answer
unfolding compile after
compile_answers q l = refl

-- the same effect: the same answer, the same words
same_effect : (q : Request) (l l' : Lent) → compile_effect q (rooms_of l) ≡ compile_effect q (rooms_of l') → Alike q l l'
same_effect q l l' e =
    record {
      answers = compile_answers q l ∙ ap (λ (x : Effect). x.answer) e ∙ sym (compile_answers q l');
      words = words_in (compile_effect q (rooms_of l));
      here = compile_writes q l;
      there = subst (λ (x : Effect). Writes q l' (words_in x)) (sym e) (compile_writes q l');
    }

same_rooms : (l l' : Lent) → SameLengths l l' → rooms_of l ≡ rooms_of l'
unfolding rooms_of
same_rooms l l' s = let a = s.nodes in let b = s.edges in let c = s.records in rw (a, b, c)

pub old_contents_never_enter : OldContentsNeverEnter
old_contents_never_enter q l l' s = same_effect q l l' (ap (compile_effect q) (same_rooms l l' s))

-- ---- more room

more_runs : (q : Request) (m m' : Rooms) (o : Outcome) → m.nodes ≤ m'.nodes → m.edges ≤ m'.edges → run_of q m ≡ finished o → run_of q m' ≡ finished o
unfolding run_of settings_of with_rooms
more_runs q m m' o a b e = run_more_room (settings_of q m) m'.nodes m'.edges a b q.kind (items_in q.problem) (record_of q.given) o e

more_view : (q : Request) (m m' : Rooms) (c : Compiled) {x : Effect} → View q m x → x.answer ≡ compiled c → m.nodes ≤ m'.nodes → m.edges ≤ m'.edges → m.records ≤ m'.records → x ≡ compile_effect q m'
unfolding effect
more_view q m m' c (early n e) a h k r = let z : ◌≡◌ {A = ℕ} 0 1 = cc in absurd (omega arith)
more_view q m m' c (halted n d e f) a h k r = let z : ◌≡◌ {A = ℕ} 0 1 = cc in absurd (omega arith)
more_view q m m' c (overfull o e f g) a h k r = let z : ◌≡◌ {A = ℕ} 0 1 = cc in absurd (omega arith)
more_view q m m' c (done o e f g) a h k r = sym (done_effect q m' o e (more_runs q m m' o h k f) (omega arith))

-- the effect itself is the same
pub more_room_effect : (q : Request) (m m' : Rooms) (c : Compiled) → (compile_effect q m).answer ≡ compiled c → m.nodes ≤ m'.nodes → m.edges ≤ m'.edges → m.records ≤ m'.records → compile_effect q m ≡ compile_effect q m'
more_room_effect q m m' c e a b r = more_view q m m' c (view q m) e a b r

pub more_room_changes_nothing : MoreRoom
more_room_changes_nothing q l l' c e r =
    same_effect q l l' (more_view q (rooms_of l) (rooms_of l') c (view q (rooms_of l)) (sym (compile_answers q l) ∙ e) r.nodes r.edges r.records)

-- ---- what stands there

-- a run's number is past 9
late : {n : ℕ} → Stop n → (10 ≤ n) × (n ≤ 12)
late ten = omega arith
late eleven = omega arith
late twelve = omega arith

same_number : (i j : ℕ) → refused i ≡ refused j → i ≡ j
same_number i j e = cc

early_view : (q : Request) (l : Lent) (n : ℕ) {x : Effect} → View q (rooms_of l) x → x.answer ≡ refused n → n ≤ 9 → (after x l).lent ≡ l
unfolding effect after over record_table words_of
early_view q l n (early k e) a h = refl
early_view q l n (halted k d e f) a h = absurd (omega (arith, late (run_stop q (rooms_of l) k d f), same_number k n a))
early_view q l n (overfull o e f g) a h = let z : ◌≡◌ {A = ℕ} 13 n = cc in absurd (omega arith)
early_view q l n (done o e f g) a h = let z : ◌≡◌ {A = ℕ} 0 1 = cc in absurd (omega arith)

pub early_writes_nothing : EarlyWritesNothing
unfolding compile
early_writes_nothing q l n e h = early_view q l n (view q (rooms_of l)) (sym (compile_answers q l) ∙ e) h

list_view : (q : Request) (l : Lent) (n : ℕ) {x : Effect} → View q (rooms_of l) x → x.answer ≡ refused n → (after x l).lent.records ≡ l.records
unfolding effect after
list_view q l n (early k e) a = over_none l.records
list_view q l n (halted k d e f) a = over_none l.records
list_view q l n (overfull o e f g) a = over_none l.records
list_view q l n (done o e f g) a = let z : ◌≡◌ {A = ℕ} 0 1 = cc in absurd (omega arith)

pub refused_keeps_list : RefusedKeepsList
unfolding compile
refused_keeps_list q l n e = list_view q l n (view q (rooms_of l)) (sym (compile_answers q l) ∙ e)

-- the tables after an effect hold a diagram's rows
record Held (l : Lent) (x : Effect) (d : Diagram) : Type 0 where
  nodes : (after x l).lent.nodes ≡ over (node_table d.nodes) l.nodes
  edges : (after x l).lent.edges ≡ over (edge_table d.edges) l.edges

held_by : (a : Answer) (d : Diagram) (rs : List Record) (l : Lent) → Held l (effect a d rs) d
unfolding effect after
held_by a d rs l = record { nodes = refl; edges = refl }

held_rows : (q : Request) (l : Lent) (d : Diagram) → Held l (compile_effect q (rooms_of l)) d → HoldsRows q l d
unfolding compile
held_rows q l d h = record { nodes = h.nodes; edges = h.edges }

stopped_view : (q : Request) (l : Lent) (n : ℕ) {x : Effect} → View q (rooms_of l) x → x.answer ≡ refused n → 10 ≤ n → n ≤ 12 → (d : Diagram) × (run_of q (rooms_of l) ≡ stopped_at n d) × Held l x d
unfolding effect
stopped_view q l n (early k e) a h i = absurd (omega (arith, early_number q k e, same_number k n a))
stopped_view q l n (halted k d e f) a h i = (d, f ∙ ap (λ (j : ℕ). stopped_at j d) (same_number k n a), held_by (refused k) d [] l)
stopped_view q l n (overfull o e f g) a h i = absurd (omega (arith, same_number 13 n a))
stopped_view q l n (done o e f g) a h i = let z : ◌≡◌ {A = ℕ} 0 1 = cc in absurd (omega arith)

pub stopped_holds : StoppedHolds
stopped_holds q l n e h i =
    let s = stopped_view q l n (view q (rooms_of l)) (sym (compile_answers q l) ∙ e) h i in
    (s.0, s.1, held_rows q l s.0 s.2)

thirteen_view : (q : Request) (l : Lent) {x : Effect} → View q (rooms_of l) x → x.answer ≡ refused 13 → (o : Outcome) × (run_of q (rooms_of l) ≡ finished o) × Held l x o.diagram
unfolding effect
thirteen_view q l (early k e) a = absurd (omega (arith, early_number q k e, same_number k 13 a))
thirteen_view q l (halted k d e f) a = absurd (omega (arith, late (run_stop q (rooms_of l) k d f), same_number k 13 a))
thirteen_view q l (overfull o e f g) a = (o, f, held_by (refused 13) o.diagram [] l)
thirteen_view q l (done o e f g) a = let z : ◌≡◌ {A = ℕ} 0 1 = cc in absurd (omega arith)

pub thirteen_holds : ThirteenHolds
thirteen_holds q l e =
    let s = thirteen_view q l (view q (rooms_of l)) (sym (compile_answers q l) ∙ e) in
    (s.0, s.1, held_rows q l s.0.diagram s.2)

-- an accepted effect: its outcome, its answer, its rows, its records
record Kept (q : Request) (l : Lent) (c : Compiled) (x : Effect) : Type 0 where
  outcome_of : Outcome
  runs : run_of q (rooms_of l) ≡ finished outcome_of
  answers : c ≡ compiled_of q.given.path outcome_of
  rows : Held l x outcome_of.diagram
  records : (after x l).lent.records ≡ over (record_table (drained q.given.path outcome_of)) l.records

compiled_view : (q : Request) (l : Lent) (c : Compiled) {x : Effect} → View q (rooms_of l) x → x.answer ≡ compiled c → Kept q l c x
unfolding effect after
compiled_view q l c (early k e) a = let z : ◌≡◌ {A = ℕ} 0 1 = cc in absurd (omega arith)
compiled_view q l c (halted k d e f) a = let z : ◌≡◌ {A = ℕ} 0 1 = cc in absurd (omega arith)
compiled_view q l c (overfull o e f g) a = let z : ◌≡◌ {A = ℕ} 0 1 = cc in absurd (omega arith)
compiled_view q l c (done o e f g) a =
    record { outcome_of = o; runs = f; answers = same_compiled c (compiled_of q.given.path o) a; rows = held_by _ o.diagram (drained q.given.path o) l; records = refl }
  where
    same_compiled : (b d : Compiled) → compiled d ≡ compiled b → b ≡ d
    same_compiled b d z = cc

pub compiled_holds : CompiledHolds
unfolding compile
compiled_holds q l c e =
    let k = compiled_view q l c (view q (rooms_of l)) (sym (compile_answers q l) ∙ e) in
    (k.outcome_of, k.runs, k.answers, held_rows q l k.outcome_of.diagram k.rows, k.records)

-- ---- rows

same_edges : (es fs : List Edge) → fs ≡ es → ((e : ℕ) → e < length es → (edge_at es e).from < (edge_at es e).to) → (e : ℕ) → e < length fs → (edge_at fs e).from < (edge_at fs e).to
same_edges es fs q h = rw q h

run_parents : (opts : Settings) (q : Request) (o : Outcome) → run opts q.kind (items_in q.problem) (record_of q.given) ≡ finished o → (e : ℕ) → e < length o.diagram.edges → (edge_at o.diagram.edges e).from < (edge_at o.diagram.edges e).to
run_parents opts q o r =
    let items = items_in q.problem in
    let c = finished-run items opts q.kind (record_of q.given) o r in
    let w : Wired c.tables = tables_hold items opts q.kind (record_of q.given) o Wired c (grown_wired items opts (record_of q.given)) in
    let s : o.diagram.edges ≡ c.tables.edges = ap (λ (z : Outcome). z.diagram.edges) c.is_outcome ∙ (outcome_long opts.mode q.kind c.tables).1 in
    same_edges c.tables.edges o.diagram.edges s (parent_smaller c.tables w)

pub parents_smaller : ParentsSmaller
unfolding run_of
parents_smaller q l o e r h = run_parents (settings_of q (rooms_of l)) q o r e h
