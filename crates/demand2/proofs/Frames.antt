-- Statement 6: what a call answers and writes comes from the request and the tables' lengths, what lies beyond stays, and every answer that isn't a refusal is that of a finished compile.
use mathlib.Core.Path.{◌≡◌, refl, sym, ap, ◌∙◌}
use mathlib.Core.List.{List, [], ◌∷◌, ◌++◌, Memᴰ, map}
use Prim.Native.Nat.{ℕ, ◌*◌, ◌≤◌}
use lib.ListN.{length, drop, length-map}
use lib.Seq.{drop_at}
use Rattle.words.specs.I64.{top, InI64}
use Rattle.words.proofs.Laws.{word_number}
use Rattle.diagram.specs.After6.{Outcome, drained, finished}
use Rattle.diagram.specs.Record.{Record, path_room}
use Rattle.layout.specs.Table.{over}
use Rattle.layout.specs.Rows.{node_words, edge_words, node_table, edge_table}
use Rattle.layout.specs.Records.{record_words, record_table}
use Rattle.calls.specs.Asked.{record_of}
use Rattle.calls.specs.Compile.{Request, Lent, rooms_of, Compiled, compiled, run_of, compiled_of, compile}
use Rattle.call_laws.specs.Statements.{HoldsRows}
use Rattle.call_laws.proofs.Refusals.{compiled_exactly_if_clear}
use Rattle.call_laws.proofs.Sizes.{nodes_long, edges_long, records_long}
use Rattle.call_laws.proofs.Tables.{old_contents_never_enter, compiled_holds}
use Rattle.demand2.specs.Records.{Allowed, Valid, given_of}
use Rattle.demand2.specs.Statements.{OldContentsChangeNothing, BeyondStays, BeyondTheRunStays, Shows, AnswersAreFinished}
use Rattle.demand2.proofs.Accepted.{clear_all}
use Rattle.demand2.proofs.Outcomes.{drained_fits, drained_bounded}

-- 6, old contents
pub old_contents_change_nothing : OldContentsChangeNothing
unfolding over
old_contents_change_nothing q l k a b c =
    let z = old_contents_never_enter q l k (record { nodes = a; edges = b; records = c }) in
    let w = z.words in
    record {
      answer = z.answers;
      nodes = record { words = w.nodes; one = z.here.nodes.laid; other = z.there.nodes.laid };
      edges = record { words = w.edges; one = z.here.edges.laid; other = z.there.edges.laid };
      records = record { words = w.records; one = z.here.records.laid; other = z.there.records.laid };
    }

-- ---- an answer that isn't a refusal

-- the input was accepted, the run finished, and its rows and drained records lie over the tables
record Done (q : Request) (l : Lent) (a : Compiled) : Type 0 where
  allowed : Allowed q.problem
  valid : Valid q.problem q.given
  outcome : Outcome
  runs : run_of q (rooms_of l) ≡ finished outcome
  answers : a ≡ compiled_of q.given.path outcome
  rows : HoldsRows q l outcome.diagram
  records : (compile q l).lent.records ≡ over (record_table (drained q.given.path outcome)) l.records

beyond : (words before now : List ℕ) (n : ℕ) → now ≡ over words before → length words ≡ n → drop n now ≡ drop n before
unfolding over
beyond words before now n w e = ap (drop n) w ∙ drop_at words (drop (length words) before) n e ∙ ap (λ (k : ℕ). drop k before) e

counts_are : (pre : List ℕ) (o : Outcome) → ((compiled_of pre o).node_count ≡ length o.diagram.nodes) × ((compiled_of pre o).edge_count ≡ length o.diagram.edges) × ((compiled_of pre o).drained_count ≡ length (drained pre o))
unfolding compiled_of
counts_are pre o = (refl, refl, refl)

-- ---- a call that answers a

module _ (q : Request) (l : Lent) (a : Compiled) (e : (compile q l).answer ≡ compiled a) where
  done : Done q l a
  done =
      let h = compiled_holds q l a e in
      let v = clear_all q.problem q.given ((compiled_exactly_if_clear q l).0 a e) in
      record { allowed = v.0; valid = v.1; outcome = h.0; runs = h.1; answers = h.2; rows = h.3; records = h.4 }

  ds : List Record
  ds = drained q.given.path done.outcome

  fits : (r : Record) → Memᴰ r ds → (length r.path ≤ path_room) × (r.value ≤ top)
  unfolding ds
  fits r i = drained_fits q (rooms_of l) done.outcome done.runs done.allowed done.valid r i

  ds_words : length (record_table ds) ≡ length ds * record_words
  ds_words = records_long ds (λ r i. (fits r i).0)

  stays : BeyondStays l (compile q l).lent a
  unfolding ds
  stays =
      let o = done.outcome in
      let c = counts_are q.given.path o in
      let rows = ap (λ (z : Compiled). z.node_count) done.answers ∙ c.0 in
      let arrows = ap (λ (z : Compiled). z.edge_count) done.answers ∙ c.1 in
      let places = ap (λ (z : Compiled). z.drained_count) done.answers ∙ c.2 in
      record {
        nodes = beyond (node_table o.diagram.nodes) l.nodes _ _ done.rows.nodes (nodes_long o.diagram.nodes ∙ ap (λ (k : ℕ). k * node_words) (sym rows));
        edges = beyond (edge_table o.diagram.edges) l.edges _ _ done.rows.edges (edges_long o.diagram.edges ∙ ap (λ (k : ℕ). k * edge_words) (sym arrows));
        records = beyond (record_table ds) l.records _ _ done.records (ds_words ∙ ap (λ (k : ℕ). k * record_words) (sym places));
      }

  -- handed to the next call and back, a drained record is what it was
  given_back : (r : Record) → Memᴰ r ds → record_of (given_of r) ≡ r
  unfolding ds record_of given_of
  given_back r i = rw (word_number r.value (fits r i).1, word_number r.bound (drained_bounded q.given.path done.outcome r i).is_word)

  listed : (compile q l).lent.records ≡ record_table (map record_of (map given_of ds)) ++ drop (length (map given_of ds) * record_words) l.records
  unfolding ds over
  listed =
      let same : map record_of (map given_of ds) ≡ ds = back ds (λ r i. given_back r i) in
      done.records
      ∙ ap (λ (k : ℕ). record_table ds ++ drop k l.records) (ds_words ∙ ap (λ (k : ℕ). k * record_words) (sym (length-map ds given_of)))
      ∙ ap (λ (rs : List Record). record_table rs ++ drop (length (map given_of ds) * record_words) l.records) (sym same)
    where
      back : (rs : List Record) → ((r : Record) → Memᴰ r rs → record_of (given_of r) ≡ r) → map record_of (map given_of rs) ≡ rs
      back [] h = refl
      back (r ∷ rs) h = rw (h r (Memᴰ.head refl), back rs (λ x i. h x (Memᴰ.tail i)))

  shows : InI64 q.lower → Shows q l a
  unfolding ds
  shows i =
      record {
        drained = map given_of ds;
        finishes = record { allowed = done.allowed; valid = done.valid; lower_is_i64 = i; rooms = rooms_of l; outcome = done.outcome; runs = done.runs; answers = done.answers; drains = refl };
        listed = listed;
      }

-- 6, what lies beyond
pub beyond_the_run_stays : BeyondTheRunStays
beyond_the_run_stays q l a e = stays q l a e

-- Every answer that isn't a refusal is that of a finished compile.
pub answers_are_finished : AnswersAreFinished
answers_are_finished q l a i e = shows q l a e i
