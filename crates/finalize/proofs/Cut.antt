-- The cutset of a relaxed diagram: flagged where there is no best value, else drained.
use mathlib.Core.Path.{◌≡◌, refl, sym, ap, subst, ◌∙◌}
use mathlib.Core.Bool.{Bool, true, false}
use mathlib.Core.List.{List, []}
use Prim.Native.Nat.{ℕ, ◌*◌, ◌+◌, ◌≤◌}
use native.Mathlib.Omega.{arith}
use lib.Dec.{leb}
use lib.ListN.{length}
use borrow.Author.Tests.{le-leb}
use Rattle.std.specs.Prelude.{Option, Some, None, Result, Ok}
use Rattle.diagram.specs.Record.{Record}
use Rattle.diagram.specs.Node.{node_at}
use Rattle.diagram.specs.Tables.{Diagram}
use Rattle.diagram.specs.After4.{cutset_of}
use Rattle.diagram.specs.After6.{drain_rows}
use Rattle.layout.specs.Table.{over}
use Rattle.layout.specs.Records.{record_table}
use Rattle.layout.specs.Rows.{node_words}
use Rattle.layout.proofs.Records.{over_none}
use Rattle.rows.specs.declared.NodeId.{NodeId}
use Rattle.rows.specs.Access.{FieldRead}
use Rattle.layers.specs.declared.Layers.{Layers}
use Rattle.layers.specs.declared.Layer.{Layer}
use Rattle.finish.specs.Terminals.{Within}
use Rattle.finish.proofs.Rewriting.{nodes_within}
use Rattle.cutset.specs.declared.Kind.{Kind}
use Rattle.cutset.specs.Trace.{Tracing, Traced}
use Rattle.cutset.specs.Whole.{kind_of, counting, Shaped, cutset_from, Bounded, Drainable, answer, fitting, Drains, DrainedOff}
use Rattle.cutset.proofs.Whole.{settled_as, count_first, counted, list_kept}
use Rattle.finalize.specs.declared.Given.{Given}
use Rattle.finalize.specs.Standing.{path_before, wanted, Cuttable, CutsetDone}

-- nothing is drained
pub none_answered : (room : ℕ) → answer room [] ≡ Ok 0
none_answered room = let t : leb 0 room ≡ true = le-leb 0 room (omega arith) in rw t refl

pub none_fits : (room : ℕ) → fitting room [] ≡ []
none_fits room = let t : leb 0 room ≡ true = le-leb 0 room (omega arith) in rw t refl

-- ---- the best value is no matter of what is asked of the tables

bounded_any : (given : Given) (a b : ℕ) (l : Layers) (s : Option Layer) (d : Diagram) (old_n old_e : List ℕ) (count : ℕ) (ns es rs : List ℕ) → Bounded (wanted given a) l s d old_n old_e count ns es rs → Bounded (wanted given b) l s d old_n old_e count ns es rs
bounded_any given a b l s d old_n old_e count ns es rs x =
    record { nodes_are = x.nodes_are; edges_are = x.edges_are; count_is = x.count_is; clear = x.clear; settled = settled_as (wanted given a) given.room b d rs x.settled.record_room x.settled; shaped = x.shaped }

module _ (count : ℕ) (best : Option NodeId) (given : Given) (layers : Layers) (last : Option Layer) (ns es rs : List ℕ) where
  pub drain_asked : (v : ℕ) → Cuttable count best given layers last ns es rs → Drainable (wanted given v) layers last count ns es rs
  drain_asked v x =
      let y = x.drainable in
      record { diagram = y.diagram; old_n = y.old_n; old_e = y.old_e; bounded = bounded_any given 0 v layers last y.diagram y.old_n y.old_e count ns es rs y.bounded }

  pub flag_asked : Cuttable count best given layers last ns es rs → Tracing (Shaped layers last) (counting (wanted given 0)) 0 ns es rs
  flag_asked x = count_first (wanted given 0) layers last count ns es rs x.drainable

  pub read_asked : (n : NodeId) → best ≡ Some n → Cuttable count best given layers last ns es rs → n.0 * node_words + node_words ≤ length ns
  read_asked n e x =
      let b = x.drainable.bounded in
      let i : Within 0 count (Some n) = subst (λ (y : Option NodeId). Within 0 count y) e x.inside in
      omega (arith, i.1, b.count_is, nodes_within x.drainable.diagram.nodes x.drainable.old_n ns b.nodes_are)

  -- ---- the three ways out

  pub no_cutset_lem : (kind : Kind) (relaxed : Bool) → relaxed ≡ false → CutsetDone count best given layers kind last relaxed ns es rs (Ok 0) ns rs
  no_cutset_lem kind relaxed e =
      record { does = λ t. let z : ◌≡◌ {A = ℕ} 0 1 = cc in absurd (omega arith); idle = λ t. (refl, (refl, refl)) }

  pub only_flagged : (kind : Kind) (relaxed : Bool) (n : ℕ) (ns' rs' : List ℕ) → relaxed ≡ true → best ≡ None → Traced (Shaped layers last) (cutset_from (kind_of kind)) (counting (wanted given 0)) 0 ns es rs n ns' rs' → CutsetDone count best given layers kind last relaxed ns es rs (Ok 0) ns' rs'
  only_flagged kind relaxed n ns' rs' e q t =
      subst (λ (b : Option NodeId). CutsetDone count b given layers kind last relaxed ns es rs (Ok 0) ns' rs') (sym q)
      (record {
        does = λ _ d old_n old_e b.
            record {
              answer_is = sym (none_answered given.room);
              nodes_are = (counted (wanted given 0) layers last kind count ns es rs n ns' rs' t d old_n old_e b).nodes_are;
              records_are = list_kept (wanted given 0) layers last kind count ns es rs n ns' rs' t d old_n old_e b ∙ sym (over_none rs) ∙ ap (λ (x : List Record). over (record_table x) rs) (sym (none_fits given.room));
            };
        idle = λ z. let y : ◌≡◌ {A = ℕ} 0 1 = cc in absurd (omega arith);
      })

  pub drained_off : (kind : Kind) (relaxed : Bool) (n : NodeId) (v : ℕ) (r : Result ℕ ℕ) (ns' rs' : List ℕ) → relaxed ≡ true → best ≡ Some n → Cuttable count best given layers last ns es rs → FieldRead ns n.0 (λ y. y.value) v → DrainedOff (wanted given v) layers last kind count ns es rs r ns' rs' → CutsetDone count best given layers kind last relaxed ns es rs r ns' rs'
  drained_off kind relaxed n v r ns' rs' e q x read t =
      let i : Within 0 count (Some n) = subst (λ (y : Option NodeId). Within 0 count y) q x.inside in
      subst (λ (b : Option NodeId). CutsetDone count b given layers kind last relaxed ns es rs r ns' rs') (sym q)
      (record {
        does = λ _ d old_n old_e b.
            let c = cutset_of (kind_of kind) d in
            let z : v ≡ (node_at d.nodes n.0).value = read.is_field d.nodes old_n b.nodes_are (omega (arith, i.1, b.count_is)) in
            subst (λ (y : ℕ). Drains given.room c (drain_rows (path_before given) d y c.listed) old_n rs r ns' rs') z
            (t.does d old_n old_e (bounded_any given 0 v layers last d old_n old_e count ns es rs b));
        idle = λ z. let y : ◌≡◌ {A = ℕ} 0 1 = cc in absurd (omega arith);
      })

-- what the cutset needs
pub ruleset cut = (no_cutset_lem, only_flagged, drain_asked, drained_off)
