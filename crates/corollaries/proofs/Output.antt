-- One answer, and what lies beyond the run's own rows.
use mathlib.Core.Path.{◌≡◌, ap, sym, ◌∙◌}
use mathlib.Core.List.{List}
use Prim.Native.Nat.{ℕ, ◌*◌}
use lib.ListN.{drop}
use Rattle.layout.specs.Rows.{node_words, edge_words}
use Rattle.layout.specs.Records.{record_words}
use Rattle.calls.specs.Compile as Def
use Rattle.calls.specs.Compile.{compile}
use Rattle.compile.specs.declared.Compiled.{Compiled}
use Rattle.compile.specs.Answered.{answer_from}
use Rattle.demand2.specs.Records.{SameWords}
use Rattle.demand2.proofs.Frames.{old_contents_change_nothing, beyond_the_run_stays}
use Rattle.corollaries.specs.Called.{asked}
use Rattle.corollaries.specs.Statements.{OneAnswer, BeyondTheRunStays}
use Rattle.corollaries.proofs.Reading.{read}

same_words : (b a b' a' x y : List ℕ) → a ≡ x → a' ≡ y → SameWords b x b' y → SameWords b a b' a'
same_words b a b' a' x y e f s = record { words = s.words; one = e ∙ s.one; other = f ∙ s.other }

pub one_answer : OneAnswer
one_answer c d s =
    let q = asked c in
    let g = old_contents_change_nothing q c.before d.before s.nodes s.edges s.records in
    let there : compile (asked d) d.before ≡ compile q d.before = ap (λ (x : Def.Request). compile x d.before) (sym s.asked_alike) in
    record {
      answer = c.promised.answer_is ∙ ap answer_from g.answer ∙ sym (d.promised.answer_is ∙ ap (λ (x : Def.After). answer_from x.answer) there);
      nodes = same_words _ _ _ _ _ _ c.promised.nodes_are (d.promised.nodes_are ∙ ap (λ (x : Def.After). x.lent.nodes) there) g.nodes;
      edges = same_words _ _ _ _ _ _ c.promised.edges_are (d.promised.edges_are ∙ ap (λ (x : Def.After). x.lent.edges) there) g.edges;
      records = same_words _ _ _ _ _ _ c.promised.records_are (d.promised.records_are ∙ ap (λ (x : Def.After). x.lent.records) there) g.records;
    }

-- the same words dropped from a table that is known
dropped : (n m width : ℕ) (t u before : List ℕ) → n ≡ m → t ≡ u → drop (m * width) u ≡ drop (m * width) before → drop (n * width) t ≡ drop (n * width) before
dropped n m width t u before e f h = rw (e, f) h

pub beyond_the_run : BeyondTheRunStays
beyond_the_run c a ok =
    let r = read c a ok in
    let s = beyond_the_run_stays (asked c) c.before r.compiled_as r.is_compiled_lem in
    record {
      nodes = dropped _ _ node_words _ _ _ (ap (λ (x : Compiled). x.nodes) r.answer_is) c.promised.nodes_are s.nodes;
      edges = dropped _ _ edge_words _ _ _ (ap (λ (x : Compiled). x.edges) r.answer_is) c.promised.edges_are s.edges;
      records = dropped _ _ record_words _ _ _ (ap (λ (x : Compiled). x.drained) r.answer_is) c.promised.records_are s.records;
    }
