-- A whole cutset listed, and listed again to be drained.
use mathlib.Core.Path.{◌≡◌, refl, sym, ap, subst, ◌∙◌}
use Rattle.std.specs.Prelude.{Option, Some, None, Result, Ok, Err}
use mathlib.Core.Bool.{true, false}
use mathlib.Core.List.{List}
use Prim.Native.Nat.{ℕ, ◌-◌, ◌*◌, ◌<◌, ◌≤◌}
use native.Mathlib.Omega.{arith}
use lib.Dec.{leb}
use lib.ListN.{length}
use lib.Seq.{take-nil, take_all}
use borrow.Author.Tests.{le-leb, lt-leb}
use Rattle.diagram.specs.Record.{Record}
use Rattle.diagram.specs.Node.{Node}
use Rattle.diagram.specs.Tables.{Range, LastExact, unsquashed, squashed_after, Diagram, rows_of}
use Rattle.diagram.specs.After4.{CutsetKind, last_exact_layer, frontier, Cutset, layer_cutset, frontier_layers, no_cutset, cutset_of}
use Rattle.diagram.specs.After6.{drain_rows}
use Rattle.layout.specs.Table.{over}
use Rattle.layout.specs.Rows.{node_words, node_table, edge_table}
use Rattle.layout.specs.Records.{record_words, record_table}
use Rattle.layout.proofs.Records.{over_none}
use Rattle.finish.proofs.Rewriting.{nodes_within}
use Rattle.layers.specs.declared.Layer.{Layer}
use Rattle.layers.specs.declared.Layers.{Layers}
use Rattle.layers.specs.Stored.{range_of, stored, last_of}
use Rattle.cutset.specs.declared.Wanted.{Wanted}
use Rattle.cutset.specs.declared.Kind.{Kind}
use Rattle.cutset.specs.Clearing.{Cleared}
use Rattle.cutset.specs.Trace.{drained_of, Settled, Trace, Tracing, Traced, Upto, FewRanges, listings, of_layers}
use Rattle.cutset.specs.Whole.{kind_of, LastIn, counting, Shaped, cutset_from, Bounded, Drainable, DrainedOff}
use Rattle.cutset.proofs.Commute.{of_flags}
use Rattle.cutset.proofs.Handing.{same_length}
use Rattle.cutset.proofs.Listing.{tracing_as}

-- ---- one kind or the other

pub none_last : (w : Wanted) (l : Layers) (s : Option Layer) (k₀ : ℕ) (ns es rs : List ℕ) → s ≡ None → Traced (Shaped l s) (cutset_from last_exact_layer) w k₀ ns es rs k₀ ns rs
unfolding cutset_from layer_cutset
none_last w l s k₀ ns es rs e =
    record {
      does = λ d old_n old_e old_r c z t p.
          let q : d.last ≡ unsquashed = p.last_is ∙ ap last_of e in
          subst (λ (x : LastExact). Trace w d old_n old_e old_r (layer_cutset x c) k₀ ns es rs) (sym q) t;
    }

last_upto : (n : ℕ) (s : Option Layer) (y : Layer) → s ≡ Some y → LastIn n s → y.to ≤ n
last_upto n s y e h = rw e at h

pub last_asked : (w : Wanted) (l : Layers) (s : Option Layer) (k₀ : ℕ) (ns es rs : List ℕ) (y : Layer) → s ≡ Some y → Tracing (Shaped l s) w k₀ ns es rs → Tracing (Upto y.to) w k₀ ns es rs
last_asked w l s k₀ ns es rs y e x =
    tracing_as (Shaped l s) (Upto y.to) w k₀ ns es rs (λ d c p. last_upto (length d.nodes) s y e p.last_in) x

pub last_listed : (w : Wanted) (l : Layers) (s : Option Layer) (k₀ : ℕ) (ns es rs : List ℕ) (y : Layer) (k : ℕ) (ns' rs' : List ℕ) → s ≡ Some y → Traced (Upto y.to) (listings y.from (y.to - y.from)) w k₀ ns es rs k ns' rs' → Traced (Shaped l s) (cutset_from last_exact_layer) w k₀ ns es rs k ns' rs'
unfolding cutset_from layer_cutset rows_of
last_listed w l s k₀ ns es rs y k ns' rs' e g =
    record {
      does = λ d old_n old_e old_r c z t p.
          let q : d.last ≡ squashed_after (range_of y) = p.last_is ∙ ap last_of e in
          subst (λ (x : LastExact). Trace w d old_n old_e old_r (layer_cutset x c) k ns' es rs') (sym q)
          (g.does d old_n old_e old_r c z t (last_upto (length d.nodes) s y e p.last_in));
    }

pub layers_asked : (w : Wanted) (l : Layers) (s : Option Layer) (k₀ : ℕ) (ns es rs : List ℕ) → Tracing (Shaped l s) w k₀ ns es rs → Tracing (FewRanges (stored l)) w k₀ ns es rs
layers_asked w l s k₀ ns es rs x = tracing_as (Shaped l s) (FewRanges (stored l)) w k₀ ns es rs (λ d c p. (p.ranged, p.few)) x

pub layers_listed : (w : Wanted) (l : Layers) (s : Option Layer) (k₀ : ℕ) (ns es rs : List ℕ) (k : ℕ) (ns' rs' : List ℕ) → Traced (FewRanges (stored l)) (of_layers (stored l)) w k₀ ns es rs k ns' rs' → Traced (Shaped l s) (cutset_from frontier) w k₀ ns es rs k ns' rs'
unfolding cutset_from
layers_listed w l s k₀ ns es rs k ns' rs' g =
    record {
      does = λ d old_n old_e old_r c z t p.
          subst (λ (x : List Range). Trace w d old_n old_e old_r (frontier_layers d.edges x c) k ns' es rs') (sym p.layers_are) (g.does d old_n old_e old_r c z t (p.ranged, p.few));
    }

pub of_kind : (w : Wanted) (l : Layers) (s : Option Layer) (k₀ : ℕ) (ns es rs : List ℕ) (k : Kind) (kind : CutsetKind) (n : ℕ) (ns' rs' : List ℕ) → kind_of k ≡ kind → Traced (Shaped l s) (cutset_from kind) w k₀ ns es rs n ns' rs' → Traced (Shaped l s) (cutset_from (kind_of k)) w k₀ ns es rs n ns' rs'
of_kind w l s k₀ ns es rs k kind n ns' rs' e g = rw e g

-- ---- from no row listed to the whole cutset

from_none : (k : CutsetKind) (d : Diagram) → cutset_from k d (no_cutset d) ≡ cutset_of k d
unfolding cutset_from cutset_of
from_none last_exact_layer d = refl
from_none frontier d = refl

fresh_trace : (w : Wanted) (d : Diagram) (old_n old_e old_r ns es rs : List ℕ) → ns ≡ over (node_table d.nodes) old_n → es ≡ over (edge_table d.edges) old_e → rs ≡ old_r → Trace w d old_n old_e old_r (no_cutset d) 0 ns es rs
unfolding no_cutset drain_rows
fresh_trace w d old_n old_e old_r ns es rs a b e =
    record {
      nodes_are = a;
      edges_are = b;
      same = refl;
      handed = record { count_is = refl; records_are = e ∙ sym (over_none old_r) ∙ ap (λ (x : List Record). over (record_table x) old_r) (sym (take-nil {A = Record} w.room)); roomy = tt };
    }

-- another question about the same diagram and record: the list has the places that are wanted now
pub settled_as : (w : Wanted) (room best : ℕ) (d : Diagram) (rs : List ℕ) → room * record_words ≤ length rs → Settled w d rs → Settled (record { room = room; best = best; path = w.path; depth = w.depth }) d rs
settled_as w room best d rs h z =
    record { wired = z.wired; start_in = z.start_in; bytes = z.bytes; paths = z.paths; depth_in = z.depth_in; record_room = h }

counting_settled : (w : Wanted) (d : Diagram) (rs : List ℕ) → Settled w d rs → Settled (counting w) d rs
counting_settled w d rs z = settled_as w 0 w.best d rs (omega arith) z

pub count_first : (w : Wanted) (l : Layers) (s : Option Layer) (count : ℕ) (ns es rs : List ℕ) → Drainable w l s count ns es rs → Tracing (Shaped l s) (counting w) 0 ns es rs
count_first w l s count ns es rs x =
    let b = x.bounded in
    record {
      diagram = x.diagram;
      old_n = x.old_n;
      old_e = x.old_e;
      old_r = rs;
      cut = no_cutset x.diagram;
      settled = counting_settled w x.diagram rs b.settled;
      trace = fresh_trace (counting w) x.diagram x.old_n x.old_e rs ns es rs b.nodes_are b.edges_are refl;
      asked = b.shaped;
    }

-- ---- counted, and listed again to be drained

module _ (w : Wanted) (l : Layers) (s : Option Layer) (k : Kind) (count : ℕ) (ns es rs : List ℕ) (n : ℕ) (ns₁ rs₁ : List ℕ) (g : Traced (Shaped l s) (cutset_from (kind_of k)) (counting w) 0 ns es rs n ns₁ rs₁) where
  module _ (d : Diagram) (old_n old_e : List ℕ) (b : Bounded w l s d old_n old_e count ns es rs) where
    pub counted : Trace (counting w) d old_n old_e rs (cutset_of (kind_of k) d) n ns₁ es rs₁
    counted =
        subst (λ (c : Cutset). Trace (counting w) d old_n old_e rs c n ns₁ es rs₁) (from_none (kind_of k) d)
        (g.does d old_n old_e rs (no_cutset d) (counting_settled w d rs b.settled) (fresh_trace (counting w) d old_n old_e rs ns es rs b.nodes_are b.edges_are refl) b.shaped)

    found_is : n ≡ length (drained_of w d (cutset_of (kind_of k) d).listed)
    found_is = counted.handed.count_is

    pub list_kept : rs₁ ≡ rs
    list_kept = counted.handed.records_are ∙ over_none rs

    rows_are : count ≡ length (cutset_of (kind_of k) d).nodes
    rows_are = b.count_is ∙ sym (same_length (cutset_of (kind_of k) d).nodes d.nodes (of_flags (kind_of k) d))

    flags_words : count * node_words ≤ length ns₁
    flags_words = omega (arith, rows_are, nodes_within (cutset_of (kind_of k) d).nodes old_n ns₁ counted.nodes_are)

    -- the flags cleared, the tables hold the diagram without them
    unflagged : (ns₂ : List ℕ) → Cleared ns₁ count ns₂ → Trace w d old_n old_e rs (no_cutset d) 0 ns₂ es rs₁
    unflagged ns₂ cl =
        fresh_trace w d old_n old_e rs ns₂ es rs₁
        (cl.does (cutset_of (kind_of k) d).nodes old_n counted.nodes_are rows_are ∙ ap (λ (m : List Node). over (node_table m) old_n) (of_flags (kind_of k) d ∙ b.clear))
        b.edges_are list_kept

    -- listed again, they hold the whole cutset
    again : (ns₂ : List ℕ) (m : ℕ) (ns₃ rs₃ : List ℕ) → Cleared ns₁ count ns₂ → Traced (Shaped l s) (cutset_from (kind_of k)) w 0 ns₂ es rs₁ m ns₃ rs₃ → Trace w d old_n old_e rs (cutset_of (kind_of k) d) m ns₃ es rs₃
    again ns₂ m ns₃ rs₃ cl h =
        subst (λ (c : Cutset). Trace w d old_n old_e rs c m ns₃ es rs₃) (from_none (kind_of k) d)
        (h.does d old_n old_e rs (no_cutset d) b.settled (unflagged ns₂ cl) b.shaped)

  pub too_many : w.room < n → DrainedOff w l s k count ns es rs (Err 13) ns₁ rs₁
  too_many h =
      record {
        does = λ d old_n old_e b.
            let xs = drained_of w d (cutset_of (kind_of k) d).listed in
            let t : leb (length xs) w.room ≡ false = lt-leb (length xs) w.room (omega (arith, found_is d old_n old_e b)) in
            record {
              answer_is = rw t refl;
              nodes_are = (counted d old_n old_e b).nodes_are;
              records_are = rw t (list_kept d old_n old_e b ∙ sym (over_none rs));
            };
      }

  pub clear_asked : Drainable w l s count ns es rs → count * node_words ≤ length ns₁
  clear_asked x = flags_words x.diagram x.old_n x.old_e x.bounded

  pub list_again : (ns₂ : List ℕ) → Cleared ns₁ count ns₂ → Drainable w l s count ns es rs → Tracing (Shaped l s) w 0 ns₂ es rs₁
  list_again ns₂ cl x =
      let b = x.bounded in
      record {
        diagram = x.diagram;
        old_n = x.old_n;
        old_e = x.old_e;
        old_r = rs;
        cut = no_cutset x.diagram;
        settled = b.settled;
        trace = unflagged x.diagram x.old_n x.old_e b ns₂ cl;
        asked = b.shaped;
      }

  pub all_drained : (ns₂ : List ℕ) (m : ℕ) (ns₃ rs₃ : List ℕ) → n ≤ w.room → Cleared ns₁ count ns₂ → Traced (Shaped l s) (cutset_from (kind_of k)) w 0 ns₂ es rs₁ m ns₃ rs₃ → DrainedOff w l s k count ns es rs (Ok m) ns₃ rs₃
  all_drained ns₂ m ns₃ rs₃ h cl y =
      record {
        does = λ d old_n old_e b.
            let xs = drained_of w d (cutset_of (kind_of k) d).listed in
            let z = again d old_n old_e b ns₂ m ns₃ rs₃ cl y in
            let f : length xs ≤ w.room = omega (arith, found_is d old_n old_e b) in
            let t : leb (length xs) w.room ≡ true = le-leb (length xs) w.room f in
            record {
              answer_is = rw t (ap Ok z.handed.count_is);
              nodes_are = z.nodes_are;
              records_are = rw t (z.handed.records_are ∙ ap (λ (x : List Record). over (record_table x) rs) (take_all w.room xs f));
            };
      }

-- the list that was lent holds what the traversal's list held
pub drained_at : (w : Wanted) (l : Layers) (s : Option Layer) (k : Kind) (count : ℕ) (ns es rs : List ℕ) (r : Result ℕ ℕ) (ns' rs' rs'' : List ℕ) → DrainedOff w l s k count ns es rs r ns' rs' → rs'' ≡ rs' → DrainedOff w l s k count ns es rs r ns' rs''
drained_at w l s k count ns es rs r ns' rs' rs'' d e = rw e d
