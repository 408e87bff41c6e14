-- The loop that merges row after row: each is flagged deleted, then its inbound edges are copied, turn by turn.
use mathlib.Core.Path.{◌≡◌, refl, sym, ap, subst, ◌∙◌}
use mathlib.Core.Bool.{true}
use mathlib.Core.List.Memᴰ
use mathlib.Core.List.{List, [], ◌∷◌, Memᴰ}
use Prim.Native.Nat.{ℕ, suc, ◌+◌, ◌*◌, ◌<◌, ◌≤◌}
use native.Mathlib.Numerals.{add-one}
use native.Mathlib.Omega.{arith}
use lib.ListN.{length, get_or, drop, length-set, drop_of_length-le}
use Rattle.diagram.specs.Node.{Node, node_at, update, with_deleted}
use Rattle.diagram.specs.Tables.{Diagram, with_nodes, inbound}
use Rattle.diagram.specs.Run.{Settings, Run, going, stopped}
use Rattle.diagram.specs.Rule6.{copy_edges, merge_all}
use Rattle.layout.specs.Rows.{node_words}
use Rattle.theorems.proofs.Holds.{Holds, held_inv}
use Rattle.theorems.proofs.Rows.{update_at, inbound_back}
use Rattle.theorems.proofs.Merge.{MergeTrail, merging_merged, Ending, copy_trail}
use Rattle.theorems.proofs.Links.{WiredMerge, SameLinks, update_wired, copies_wired}
use Rattle.branch.specs.declared.Counts.{Counts}
use Rattle.branch.specs.declared.Rooms.{Rooms}
use Rattle.branch.specs.State.{Said, Going, Stopped, counts_of, diagram_of, Stands, Held, Stepped}
use Rattle.squash.specs.Places.{RowChanged}
use Rattle.squash.specs.Merging.{Mergeable, Merges, Sits, EdgesCopied, AllMerged}
use Rattle.squash.proofs.Changing.{place_mem, rows_next}
use Rattle.squash.proofs.Tables.{nodes_in}

-- ---- a row changed in ways that leave its links alone

changed_depth : (f : Node → Node) → ((n : Node) → SameLinks n (f n)) → (ns : List Node) (r q : ℕ) → r < length ns → (node_at (update f ns r) q).depth ≡ (node_at ns q).depth
changed_depth f same ns r q h = update_at (λ n. n.depth ≡ (node_at ns q).depth) f ns r q h (λ e. (same (node_at ns r)).depth_is ∙ ap (λ (i : ℕ). (node_at ns i).depth) (sym e)) (λ e. refl)

module _ (f : Node → Node) (same : (n : Node) → SameLinks n (f n)) where
  changed_mergeable : (m : ℕ) (rest : List ℕ) (d : Diagram) (r : ℕ) → r < length d.nodes → Mergeable m rest d → Mergeable m rest (with_nodes d (update f d.nodes r))
  unfolding with_nodes
  changed_mergeable m rest d r h g =
      let l : length (update f d.nodes r) ≡ length d.nodes = length-set d.nodes r (f (node_at d.nodes r)) in
      let w = g.wired in
      record {
        merged_above = g.merged_above;
        merged_in = omega (arith, g.merged_in);
        rest_above = g.rest_above;
        depth = g.depth;
        wired = record {
          wired = update_wired f d r same (omega (arith, g.merged_above, g.merged_in)) h w.wired;
          depth = changed_depth f same d.nodes r m h ∙ w.depth;
          rest_deps = λ q i. let z = w.rest_deps q i in (omega (arith, z.0), changed_depth f same d.nodes r q h ∙ z.1);
        };
      }

  changed_stands : (s : Settings) (d : Diagram) (old_n old_e : List ℕ) (start : ℕ) (k : Counts) (rooms : Rooms) (r : ℕ) → Stands s d old_n old_e start k rooms → Stands s (with_nodes d (update f d.nodes r)) old_n old_e start k rooms
  unfolding with_nodes
  changed_stands s d old_n old_e start k rooms r st =
      let l : length (update f d.nodes r) ≡ length d.nodes = length-set d.nodes r (f (node_at d.nodes r)) in
      record {
        first_is = st.first_is;
        start_in = omega (arith, st.start_in);
        counts_are = rw l st.counts_are;
        node_room = st.node_room;
        edge_room = st.edge_room;
        old_nodes = st.old_nodes;
        old_edges = st.old_edges;
      }

  changed_held : (d : Diagram) (old_n old_e ns es : List ℕ) (r : ℕ) (ns' : List ℕ) → r < length d.nodes → RowChanged f ns r ns' → Held d old_n old_e ns es → Held (with_nodes d (update f d.nodes r)) old_n old_e ns' es
  unfolding with_nodes
  changed_held d old_n old_e ns es r ns' h w held = record { nodes_are = w.does d.nodes old_n held.nodes_are h; edges_are = held.edges_are }

  pub changed_merges : (s : Settings) (d : Diagram) (old_n old_e : List ℕ) (start : ℕ) (k : Counts) (rooms : Rooms) (m : ℕ) (rest ns es : List ℕ) (r : ℕ) (ns' : List ℕ) → r < length d.nodes → RowChanged f ns r ns' → Merges s d old_n old_e start k rooms m rest ns es → Merges s (with_nodes d (update f d.nodes r)) old_n old_e start k rooms m rest ns' es
  changed_merges s d old_n old_e start k rooms m rest ns es r ns' h w g =
      record {
        stands = changed_stands s d old_n old_e start k rooms r g.stands;
        held = changed_held d old_n old_e ns es r ns' h w g.held;
        mergeable = changed_mergeable m rest d r h g.mergeable;
      }

deleted_links : (n : Node) → SameLinks n (with_deleted true n)
unfolding with_deleted
deleted_links n = record { depth_is = refl; newest_is = refl; best_is = refl }

-- of the rows to merge, one alone
one_mergeable : (m : ℕ) (rest : List ℕ) (d : Diagram) (r : ℕ) → Memᴰ r rest → Mergeable m rest d → Mergeable m (r ∷ []) d
one_mergeable m rest d r i g =
    let in_rest : (q : ℕ) → Memᴰ q (r ∷ []) → Memᴰ q rest = λ q j. subst (λ (x : ℕ). Memᴰ x rest) (sym (Memᴰ.eq_of_singleton j)) i in
    record {
      merged_above = g.merged_above;
      merged_in = g.merged_in;
      rest_above = λ q j. g.rest_above q (in_rest q j);
      depth = g.depth;
      wired = record { wired = g.wired.wired; depth = g.wired.depth; rest_deps = λ q j. g.wired.rest_deps q (in_rest q j) };
    }

one_merges : (s : Settings) (d : Diagram) (old_n old_e : List ℕ) (start : ℕ) (k : Counts) (rooms : Rooms) (m : ℕ) (rest ns es : List ℕ) (r : ℕ) → Memᴰ r rest → Merges s d old_n old_e start k rooms m rest ns es → Merges s d old_n old_e start k rooms m (r ∷ []) ns es
one_merges s d old_n old_e start k rooms m rest ns es r i g = record { stands = g.stands; held = g.held; mergeable = one_mergeable m rest d r i g.mergeable }

-- ---- the copies of one row's edges

ends_in : (rest : List ℕ) (r : ℕ) (d : Diagram) → Memᴰ r rest → Ending rest (inbound d.edges r) d
ends_in rest r d i e j = let z = inbound_back d.edges r e j in (z.0, rw z.1 i)

-- a run that goes on, with what it leaves
pub record Went (s : Settings) (old_n old_e : List ℕ) (start : ℕ) (k : Counts) (rooms : Rooms) (m : ℕ) (rest ns es : List ℕ) (run : Run) : Type 0 where
  pub after : Diagram
  pub is_going_lem : run ≡ going after
  pub merges : Merges s after old_n old_e start k rooms m rest ns es

went : (s : Settings) (d : Diagram) (old_n old_e : List ℕ) (start : ℕ) (k₀ k : Counts) (rooms : Rooms) (m : ℕ) (rest ns₀ es₀ ns es : List ℕ) (step : Said) (g : Merges s d old_n old_e start k₀ rooms m rest ns₀ es₀) (run : Run)
    → Holds (WiredMerge g.mergeable.depth m rest) run → Holds (MergeTrail m rest d) run → Stepped run old_n old_e step ns es → step ≡ Going k → Went s old_n old_e start k rooms m rest ns es run
went s d old_n old_e start k₀ k rooms m rest ns₀ es₀ ns es step g (stopped n e) w t st q =
    let p = st.step_is in
    let y : ◌≡◌ {A = ℕ} 0 1 = cc in
    absurd (omega arith)
went s d old_n old_e start k₀ k rooms m rest ns₀ es₀ ns es step g (going e) w t st q =
    let M = merging_merged m rest (held_inv t) in
    let p = st.step_is in
    let kq : k ≡ counts_of e = cc in
    record {
      after = e;
      is_going_lem = refl;
      merges = record {
        stands = record {
          first_is = g.stands.first_is ∙ sym M.begins;
          start_in = omega (arith, g.stands.start_in, M.begins, M.long);
          counts_are = kq;
          node_room = g.stands.node_room;
          edge_room = g.stands.edge_room;
          old_nodes = g.stands.old_nodes;
          old_edges = g.stands.old_edges;
        };
        held = st.held;
        mergeable = record {
          merged_above = omega (arith, g.mergeable.merged_above, M.begins);
          merged_in = omega (arith, g.mergeable.merged_in, M.long);
          rest_above = λ r i. omega (arith, g.mergeable.rest_above r i, M.begins);
          depth = g.mergeable.depth;
          wired = held_inv w;
        };
      };
    }

copied_went : (s : Settings) (d : Diagram) (old_n old_e : List ℕ) (start : ℕ) (k₀ k : Counts) (rooms : Rooms) (m : ℕ) (rest ns₀ es₀ ns es : List ℕ) (r : ℕ) (step : Said) → Memᴰ r rest → Merges s d old_n old_e start k₀ rooms m rest ns₀ es₀ → Stepped (copy_edges s m (inbound d.edges r) d) old_n old_e step ns es → step ≡ Going k → Went s old_n old_e start k rooms m rest ns es (copy_edges s m (inbound d.edges r) d)
copied_went s d old_n old_e start k₀ k rooms m rest ns₀ es₀ ns es r step i g st q =
    let a = g.mergeable in
    went s d old_n old_e start k₀ k rooms m rest ns₀ es₀ ns es step g (copy_edges s m (inbound d.edges r) d)
    (copies_wired s a.depth m rest (inbound d.edges r) d a.merged_above a.merged_in (ends_in rest r d i) a.wired)
    (copy_trail s m rest (inbound d.edges r) d a.merged_above a.merged_in (ends_in rest r d i)) st q

-- a run that stops
stops_at : (run : Run) (old_n old_e : List ℕ) (step : Said) (ns es : List ℕ) (n : ℕ) (k : Counts) → Stepped run old_n old_e step ns es → step ≡ Stopped n k → run ≡ stopped n (diagram_of run)
stops_at (going e) old_n old_e step ns es n k st q =
    let p = st.step_is in
    let y : ◌≡◌ {A = ℕ} 0 1 = cc in
    absurd (omega arith)
stops_at (stopped i e) old_n old_e step ns es n k st q =
    let p = st.step_is in
    let y : i ≡ n = cc in
    rw y

-- ---- one row merged, in the definition's words

abbrev flagged : Diagram → ℕ → Diagram
flagged d r = with_nodes d (update (with_deleted true) d.nodes r)

one_absorbed : (s : Settings) (m r : ℕ) (rs : List ℕ) (d e : Diagram) → copy_edges s m (inbound (flagged d r).edges r) (flagged d r) ≡ going e → merge_all s m (r ∷ rs) d ≡ merge_all s m rs e
unfolding merge_all with_nodes
one_absorbed s m r rs d e q = rw q

stopped_absorbing : (s : Settings) (m r : ℕ) (rs : List ℕ) (d : Diagram) (n : ℕ) (e : Diagram) → copy_edges s m (inbound (flagged d r).edges r) (flagged d r) ≡ stopped n e → merge_all s m (r ∷ rs) d ≡ stopped n e
unfolding merge_all with_nodes
stopped_absorbing s m r rs d n e q = rw q

-- ---- the loop

-- the tables after the turns so far, and the rows that are left
pub record Absorbed (s : Settings) (d : Diagram) (old_n old_e : List ℕ) (start : ℕ) (rooms : Rooms) (m : ℕ) (rest : List ℕ) (k : Counts) (i : ℕ) (ns es : List ℕ) : Type 0 where
  pub now : Diagram
  pub merges : Merges s now old_n old_e start k rooms m rest ns es
  pub left : merge_all s m (drop i rest) now ≡ merge_all s m rest d

pub record MergeTurn (start : ℕ) (k₀ : Counts) (rooms : Rooms) (m : ℕ) (rest ns₀ es₀ : List ℕ) (k : Counts) (i : ℕ) (ns es : List ℕ) : Type 0 where
  pub so_far : (s : Settings) (d : Diagram) (old_n old_e : List ℕ) → Merges s d old_n old_e start k₀ rooms m rest ns₀ es₀ → Absorbed s d old_n old_e start rooms m rest k i ns es

module _ (start : ℕ) (k₀ : Counts) (rooms : Rooms) (m : ℕ) (rest ns₀ es₀ : List ℕ) where
  module _ (k : Counts) (i : ℕ) (ns es : List ℕ) (turn : MergeTurn start k₀ rooms m rest ns₀ es₀ k i ns es) where
    pub merge_done : length rest ≤ i → AllMerged start k₀ rooms m rest ns₀ es₀ (Going k) ns es
    unfolding merge_all
    merge_done h =
        record {
          does = λ s d old_n old_e g.
              let a = turn.so_far s d old_n old_e g in
              let e : going a.now ≡ merge_all s m rest d = ap (λ (l : List ℕ). merge_all s m l a.now) (sym (drop_of_length-le rest h)) ∙ a.left in
              subst (λ (run : Run). Stepped run old_n old_e (Going k) ns es) e (record { step_is = ap Going a.merges.stands.counts_are; held = a.merges.held });
        }

    module _ (r : ℕ) (h : i < length rest) (rq : r ≡ get_or rest i 0) where
      mem : Memᴰ r rest
      mem = rw rq (place_mem rest i h)

      pub merge_reads : Sits start k₀ rooms m rest ns₀ es₀ → r * node_words + node_words ≤ length ns
      merge_reads sit =
          let a = turn.so_far sit.settings sit.diagram sit.old_n sit.old_e sit.merges in
          omega (arith, (a.merges.mergeable.wired.rest_deps r mem).0, nodes_in a.now sit.old_n sit.old_e ns es a.merges.held)

      module _ (ns₁ : List ℕ) (w : RowChanged (with_deleted true) ns r ns₁) where
        -- the row is flagged
        flags : (s : Settings) (d : Diagram) (old_n old_e : List ℕ) (g : Merges s d old_n old_e start k₀ rooms m rest ns₀ es₀) → Merges s (flagged (turn.so_far s d old_n old_e g).now r) old_n old_e start k rooms m rest ns₁ es
        flags s d old_n old_e g =
            let a = turn.so_far s d old_n old_e g in
            changed_merges (with_deleted true) deleted_links s a.now old_n old_e start k rooms m rest ns es r ns₁ (a.merges.mergeable.wired.rest_deps r mem).0 w a.merges

        pub merge_copies : Sits start k₀ rooms m rest ns₀ es₀ → Sits start k rooms m (r ∷ []) ns₁ es
        merge_copies sit =
            record {
              settings = sit.settings;
              diagram = flagged (turn.so_far sit.settings sit.diagram sit.old_n sit.old_e sit.merges).now r;
              old_n = sit.old_n;
              old_e = sit.old_e;
              merges = one_merges _ _ _ _ _ _ _ _ rest _ _ r mem (flags sit.settings sit.diagram sit.old_n sit.old_e sit.merges);
            }

        module _ (step : Said) (ns' es' : List ℕ) (did : EdgesCopied start k rooms m r ns₁ es step ns' es') where
          module _ (s : Settings) (d : Diagram) (old_n old_e : List ℕ) (g : Merges s d old_n old_e start k₀ rooms m rest ns₀ es₀) where
            copied : Stepped (copy_edges s m (inbound (flagged (turn.so_far s d old_n old_e g).now r).edges r) (flagged (turn.so_far s d old_n old_e g).now r)) old_n old_e step ns' es'
            copied = did.does s (flagged (turn.so_far s d old_n old_e g).now r) old_n old_e (one_merges _ _ _ _ _ _ _ _ rest _ _ r mem (flags s d old_n old_e g))

            absorbed_one : (k' : Counts) → step ≡ Going k' → Absorbed s d old_n old_e start rooms m rest k' (i + 1) ns' es'
            absorbed_one k' q =
                let a = turn.so_far s d old_n old_e g in
                let x = copied_went s (flagged a.now r) old_n old_e start k k' rooms m rest ns₁ es ns' es' r step mem (flags s d old_n old_e g) copied q in
                record {
                  now = x.after;
                  merges = x.merges;
                  left = rw add-one (sym (one_absorbed s m r (drop (suc i) rest) a.now x.after x.is_going_lem) ∙ ap (λ (l : List ℕ). merge_all s m l a.now) (sym (rows_next rest i r h rq)) ∙ a.left);
                }

            stopped_here : (n : ℕ) (k' : Counts) → step ≡ Stopped n k' → Stepped (merge_all s m rest d) old_n old_e step ns' es'
            stopped_here n k' q =
                let a = turn.so_far s d old_n old_e g in
                let c = copied in
                let y = stops_at _ old_n old_e step ns' es' n k' c q in
                let u : copy_edges s m (inbound (flagged a.now r).edges r) (flagged a.now r) ≡ merge_all s m rest d = y ∙ sym (stopped_absorbing s m r (drop (suc i) rest) a.now n _ y) ∙ ap (λ (l : List ℕ). merge_all s m l a.now) (sym (rows_next rest i r h rq)) ∙ a.left in
                subst (λ (run : Run). Stepped run old_n old_e step ns' es') u c

          pub merge_turn : (k' : Counts) → step ≡ Going k' → MergeTurn start k₀ rooms m rest ns₀ es₀ k' (i + 1) ns' es'
          merge_turn k' q = record { so_far = λ s d old_n old_e g. absorbed_one s d old_n old_e g k' q }

          pub merge_stop : (n : ℕ) (k' : Counts) → step ≡ Stopped n k' → AllMerged start k₀ rooms m rest ns₀ es₀ step ns' es'
          merge_stop n k' q = record { does = λ s d old_n old_e g. stopped_here s d old_n old_e g n k' q }
