-- The merge into a kept row: which row the scan found, and the tables after the merge.
use mathlib.Core.Path.{◌≡◌, refl, sym, ap}
use mathlib.Core.Bool.{true, false}
use mathlib.Core.List.{List, [], ◌∷◌, Memᴰ}
use Prim.Native.Nat.{ℕ, ◌+◌, ◌*◌, ◌<◌, ◌≤◌}
use native.Mathlib.Omega.{arith}
use lib.Dec.{eqb}
use lib.ListN.{length, get_or, take, drop, length-set}
use Rattle.knapsack.proofs.Cases.{by_test}
use Rattle.diagram.specs.Node.{Node, node_at, update, with_deleted, as_relaxed}
use Rattle.diagram.specs.Tables.{Diagram, at, with_nodes}
use Rattle.diagram.specs.Run.{Settings, Run, going, stopped}
use Rattle.diagram.specs.Rule6.{twin_of, merge_all, squashed, keep_first}
use Rattle.layout.specs.Rows.{node_words}
use Rattle.theorems.proofs.Links.{SameLinks}
use Rattle.branch.specs.declared.Counts.{Counts}
use Rattle.branch.specs.declared.Rooms.{Rooms}
use Rattle.branch.specs.State as State
use Rattle.branch.specs.State.{Said, Going, Stopped, counts_of, Stepped}
use Rattle.squash.specs.Places.{RowChanged}
use Rattle.squash.specs.Merging.{Merges, Sits, AllMerged}
use Rattle.squash.specs.Squashing.{Done, Squashes, TwinMerged}
use Rattle.squash.proofs.Tables.{nodes_in}
use Rattle.squash.proofs.Changing.{place_mem}
use Rattle.squash.proofs.Absorbing.{changed_merges}
use Rattle.squash.proofs.Layer.{drop_mem, merge_long, squash_stops}

relaxed_links : (n : Node) → SameLinks n (as_relaxed n)
unfolding as_relaxed
relaxed_links n = record { depth_is = refl; newest_is = refl; best_is = refl }

-- the twin is one of the rows that were scanned
pub twin_mem : (ns : List Node) (capacity : ℕ) (rows : List ℕ) (m : ℕ) → twin_of ns capacity rows ≡ at m → Memᴰ m rows
unfolding twin_of
twin_mem ns capacity [] m e = let y : ◌≡◌ {A = ℕ} 0 1 = cc in absurd (omega arith)
twin_mem ns capacity (r ∷ rs) m e =
    (by_test (λ b. elim b [ true ↦ at r | false ↦ twin_of ns capacity rs ] ≡ at m → Memᴰ m (r ∷ rs)) (eqb (node_at ns r).capacity capacity)
    (λ q f. let y : m ≡ r = cc in Memᴰ.head y)
    (λ q f. Memᴰ.tail (twin_mem ns capacity rs m f))) e

-- rows of one depth are mergeable into any of them
pub twin_merges : (s : Settings) (d : Diagram) (old_n old_e : List ℕ) (start : ℕ) (k : Counts) (rooms : Rooms) (keep m : ℕ) (rows ns es : List ℕ) → Memᴰ m rows → Squashes s d old_n old_e start k rooms rows ns es → Merges s d old_n old_e start k rooms m (drop keep rows) ns es
twin_merges s d old_n old_e start k rooms keep m rows ns es i g =
    record {
      stands = g.stands;
      held = g.held;
      mergeable = record {
        merged_above = g.rows_above m i;
        merged_in = g.rows_in m i;
        rest_above = λ r j. g.rows_above r (drop_mem keep rows r j);
        depth = g.depth;
        wired = record {
          wired = g.wired;
          depth = g.rows_deep m i;
          rest_deps = λ r j. let z = drop_mem keep rows r j in (g.rows_in r z, g.rows_deep r z);
        };
      };
    }

module _ (start : ℕ) (k : Counts) (rooms : Rooms) (m : ℕ) (rest ns es : List ℕ) where
  -- the row that is merged into lies whole in the table
  pub twin_reads : Sits start k rooms m rest ns es → m * node_words + node_words ≤ length ns
  twin_reads sit =
      let g = sit.merges in
      omega (arith, g.mergeable.merged_in, nodes_in sit.diagram sit.old_n sit.old_e ns es g.held)

  -- and is flagged relaxed first
  relaxes : (ns₁ : List ℕ) → RowChanged as_relaxed ns m ns₁ → (s : Settings) (d : Diagram) (old_n old_e : List ℕ) → Merges s d old_n old_e start k rooms m rest ns es → Merges s (with_nodes d (update as_relaxed d.nodes m)) old_n old_e start k rooms m rest ns₁ es
  relaxes ns₁ w s d old_n old_e g = changed_merges as_relaxed relaxed_links s d old_n old_e start k rooms m rest ns es m ns₁ g.mergeable.merged_in w g

  pub twin_sits : (ns₁ : List ℕ) → RowChanged as_relaxed ns m ns₁ → Sits start k rooms m rest ns es → Sits start k rooms m rest ns₁ es
  twin_sits ns₁ w sit =
      record {
        settings = sit.settings;
        diagram = with_nodes sit.diagram (update as_relaxed sit.diagram.nodes m);
        old_n = sit.old_n;
        old_e = sit.old_e;
        merges = relaxes ns₁ w sit.settings sit.diagram sit.old_n sit.old_e sit.merges;
      }

  pub first_reads : Sits start k rooms m rest ns es → 0 < length rest → (r : ℕ) → r ≡ get_or rest 0 0 → r * node_words + node_words ≤ length ns
  first_reads sit h r q =
      let g = sit.merges in
      let i : Memᴰ r rest = rw q (place_mem rest 0 h) in
      omega (arith, (g.mergeable.wired.rest_deps r i).0, nodes_in sit.diagram sit.old_n sit.old_e ns es g.held)

  module _ (ns₁ : List ℕ) (w : RowChanged as_relaxed ns m ns₁) (step : Said) (ns₂ es₂ : List ℕ) (did : AllMerged start k rooms m rest ns₁ es step ns₂ es₂) where
    pub twin_stopped : (n : ℕ) (k' : Counts) → step ≡ Stopped n k' → TwinMerged start k rooms m rest ns es step ns₂ es₂
    twin_stopped n k' q =
        record {
          does = λ s d old_n old_e g i list. squash_stops _ _ _ old_n old_e _ step list ns₂ es₂ n k' (did.does s _ old_n old_e (relaxes ns₁ w s d old_n old_e g)) q;
        }

    module _ (h : 0 < length rest) (r : ℕ) (rq : r ≡ get_or rest 0 0) (ns₃ : List ℕ) (v : RowChanged (with_deleted false) ns₂ r ns₃) (k' : Counts) (q : step ≡ Going k') where
      -- the first merged row is kept
      kept_first : (run : Run) (old_n old_e : List ℕ) (i : ℕ) (list : List ℕ) → r < length (State.diagram_of run).nodes → Stepped run old_n old_e step ns₂ es₂ → Done (squashed run (keep_first (get_or rest 0 0)) (take i list)) old_n old_e i (Going k') list ns₃ es₂
      unfolding squashed keep_first with_nodes
      kept_first (stopped n e) old_n old_e i list b st =
          let p = st.step_is in
          let y : ◌≡◌ {A = ℕ} 0 1 = cc in
          absurd (omega arith)
      kept_first (going e) old_n old_e i list b st =
          let p = st.step_is in
          let kq : k' ≡ counts_of e = cc in
          let f : get_or rest 0 0 ≡ r = sym rq in
          let n : length (update (with_deleted false) e.nodes r) ≡ length e.nodes = length-set e.nodes r _ in
          record {
            step_is = rw (f, n) (ap Going kq);
            held = rw f (record { nodes_are = v.does e.nodes old_n st.held.nodes_are b; edges_are = st.held.edges_are });
            rows_are = refl;
          }

      pub twin_going : TwinMerged start k rooms m rest ns es (Going k') ns₃ es₂
      unfolding with_nodes
      twin_going =
          record {
            does = λ s d old_n old_e g i list.
                let a = relaxes ns₁ w s d old_n old_e g in
                let mem : Memᴰ r rest = rw rq (place_mem rest 0 h) in
                let b = (a.mergeable.wired.rest_deps r mem).0 in
                kept_first (merge_all s m rest (with_nodes d (update as_relaxed d.nodes m))) old_n old_e i list
                (rw (merge_long s m rest (with_nodes d (update as_relaxed d.nodes m))) b) (did.does s _ old_n old_e a);
          }
