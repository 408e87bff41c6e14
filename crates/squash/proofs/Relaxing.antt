-- The relaxed squash: what the two scans found decides between the kept twin and the new row.
use mathlib.Core.Path.{◌≡◌, refl, sym, ap, subst, ◌∙◌}
use mathlib.Core.List.{List, [], ◌∷◌, ◌++◌}
use Prim.Native.Nat.{ℕ, suc, ◌-◌, ◌<◌}
use native.Mathlib.Omega.{arith}
use lib.ListN.{length, get_or, take, drop, length-drop}
use Rattle.std.specs.Prelude.{Option, Some, None}
use Rattle.diagram.specs.Node.{update, as_relaxed}
use Rattle.diagram.specs.Tables.{Diagram, Found, at, nowhere, with_nodes}
use Rattle.diagram.specs.Run.{Settings}
use Rattle.diagram.specs.Rule6.{merged_capacity, twin_of, merge_all, squashed, keep_first, merge_into, merge, relax}
use Rattle.rows.specs.declared.NodeId.{NodeId}
use Rattle.branch.specs.declared.Counts.{Counts}
use Rattle.branch.specs.declared.Rooms.{Rooms}
use Rattle.branch.specs.State.{Said}
use Rattle.squash.specs.Places.{found_of, CapacityMerged, TwinFound}
use Rattle.squash.specs.Merging.{Merges, Sits}
use Rattle.squash.specs.Squashing.{Done, Squashes, Squashable, TwinMerged, NewMerged, Relaxed}
use Rattle.squash.proofs.Layer.{front_mem, drop_mem, rows_stay}
use Rattle.squash.proofs.Twins.{twin_mem, twin_merges}

relax_is : (s : Settings) (rows : List ℕ) (d : Diagram) (keep capacity : ℕ) (f : Found) → s.width - 1 ≡ keep → merged_capacity d.nodes (drop keep rows) ≡ capacity → twin_of d.nodes capacity (take keep rows) ≡ f → relax s rows d ≡ merge_into f s capacity (take keep rows) (drop keep rows) d
unfolding relax merge
relax_is s rows d keep capacity f a b c = rw (a, b, c)

into_twin : (s : Settings) (capacity m : ℕ) (kept rest : List ℕ) (d : Diagram) → merge_into (at m) s capacity kept rest d ≡ squashed (merge_all s m rest (with_nodes d (update as_relaxed d.nodes m))) (keep_first (get_or rest 0 0)) (kept ++ (get_or rest 0 0 ∷ []))
unfolding merge_into
into_twin s capacity m kept rest d = refl

module _ (start : ℕ) (k : Counts) (rooms : Rooms) (width : ℕ) (rows : List ℕ) (capacity : ℕ) (ns es : List ℕ) (h : 0 < width) (b : width - 1 < length rows) (most : CapacityMerged (drop (width - 1) rows) ns capacity) where
  wide : suc (width - 1) ≡ width
  wide = omega arith

  -- the scans in the definition's words
  module _ (f : Option NodeId) (found : TwinFound capacity (take (width - 1) rows) ns f) (s : Settings) (d : Diagram) (old_n old_e : List ℕ) (g : Squashes s d old_n old_e start k rooms rows ns es) where
    found_is : twin_of d.nodes capacity (take (width - 1) rows) ≡ found_of f
    found_is = sym (found.is_twin d.nodes old_n g.held.nodes_are (λ r i. g.rows_in r (front_mem (width - 1) rows r i)))

    relaxed_is : s.width ≡ width → relax s rows d ≡ merge_into (found_of f) s capacity (take (width - 1) rows) (drop (width - 1) rows) d
    relaxed_is w =
        relax_is s rows d (width - 1) capacity (found_of f) (ap (λ (n : ℕ). n - 1) w)
        (sym (most.is_merged d.nodes old_n g.held.nodes_are (λ r i. g.rows_in r (drop_mem (width - 1) rows r i)))) found_is

  pub relaxed_new : TwinFound capacity (take (width - 1) rows) ns None → (step : Said) (rows' ns' es' : List ℕ) → NewMerged start k rooms capacity (width - 1) rows ns es step rows' ns' es' → Relaxed start k rooms width rows ns es step rows' ns' es'
  relaxed_new found step rows' ns' es' did =
      record {
        does = λ s d old_n old_e w g.
            rw (relaxed_is None found s d old_n old_e g w) (subst (λ (i : ℕ). Done (merge_into nowhere s capacity (take (width - 1) rows) (drop (width - 1) rows) d) old_n old_e i step rows' ns' es') wide (did.does s d old_n old_e g));
        beyond = subst (λ (i : ℕ). drop i rows' ≡ drop i rows) wide did.beyond;
      }

  module _ (m : NodeId) (found : TwinFound capacity (take (width - 1) rows) ns (Some m)) where
    -- the twin is a row of the layer
    merges : (s : Settings) (d : Diagram) (old_n old_e : List ℕ) (g : Squashes s d old_n old_e start k rooms rows ns es) → Merges s d old_n old_e start k rooms m.0 (drop (width - 1) rows) ns es
    merges s d old_n old_e g =
        twin_merges s d old_n old_e start k rooms (width - 1) m.0 rows ns es
        (front_mem (width - 1) rows m.0 (twin_mem d.nodes capacity (take (width - 1) rows) m.0 (found_is (Some m) found s d old_n old_e g))) g

    pub relax_sits : Squashable start k rooms (width - 1) rows ns es → Sits start k rooms m.0 (drop (width - 1) rows) ns es × (0 < length (drop (width - 1) rows))
    relax_sits sit =
        let i : 0 < length (drop (width - 1) rows) = simp length-drop (omega arith) in (
          record {
            settings = sit.settings;
            diagram = sit.diagram;
            old_n = sit.old_n;
            old_e = sit.old_e;
            merges = merges sit.settings sit.diagram sit.old_n sit.old_e sit.squashes;
          },
          i,
        )

    pub relaxed_twin : (step : Said) (ns' es' : List ℕ) → TwinMerged start k rooms m.0 (drop (width - 1) rows) ns es step ns' es' → Relaxed start k rooms width rows ns es step rows ns' es'
    relaxed_twin step ns' es' did =
        let t : take (width - 1) rows ++ (get_or (drop (width - 1) rows) 0 0 ∷ []) ≡ take width rows = rows_stay rows (width - 1) b ∙ ap (λ (i : ℕ). take i rows) wide in
        record {
          does = λ s d old_n old_e w g.
              rw (relaxed_is (Some m) found s d old_n old_e g w, into_twin s capacity m.0 (take (width - 1) rows) (drop (width - 1) rows) d, t)
              (did.does s d old_n old_e (merges s d old_n old_e g) width rows);
          beyond = refl;
        }
