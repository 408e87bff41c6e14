-- The growth, layer after layer: the layers left, grown from the run so far, give the whole growth.
use mathlib.Core.Path.{◌≡◌, refl, sym, ap, subst, ◌∙◌}
use mathlib.Core.Bool.{Bool, true, false}
use mathlib.Core.List.{List, [], ◌∷◌}
use Prim.Native.Nat.{ℕ, suc, ◌+◌, ◌<◌, ◌≤◌}
use native.Mathlib.Omega.{arith}
use lib.Dec.{ltb}
use lib.ListN.{length, get_or, drop}
use lib.Seq.{drop-length}
use borrow.Author.Tests.{lt-ltb, le-ltb, ltb-true}
use Rattle.std.specs.Prelude.{Result, None, Ok, Err}
use Rattle.knapsack.specs.Items.{Item, items_of}
use Rattle.knapsack.specs.Limits.{InLimits}
use Rattle.knapsack.proofs.Limits.{length_items, items_from}
use Rattle.diagram.specs.Tables.{Diagram}
use Rattle.diagram.specs.Run.{Settings, Run, going, stopped, and_then, need, only_if}
use Rattle.diagram.specs.Rule1.{blank, root_only, rooted}
use Rattle.diagram.specs.Rule2.{store_empty, store_last, has_rows, layer_step, grow, grown}
use Rattle.theorems.proofs.Layers.{first, after, comes_ready}
use Rattle.layers.specs.declared.Layers.{Layers}
use Rattle.layers.specs.Stored.{first_ones, stored, layers_from}
use Rattle.reasons.specs.Numbers.{number}
use Rattle.branch.specs.declared.Counts.{Counts}
use Rattle.branch.specs.declared.Stop.{Stop}
use Rattle.branch.specs.State.{Going, Stopped, Ready, counts_of, Stepped}
use Rattle.squash.proofs.Tables.{ready_of}
use Rattle.expand.proofs.Decisions.{stays_stopped}
use Rattle.grow.specs.declared.Task.{Task}
use Rattle.grow.specs.declared.Root.{Root}
use Rattle.grow.specs.declared.Growth.{Growth}
use Rattle.grow.specs.Told.{settings_of, record_of}
use Rattle.grow.specs.Growing.{RootPushed, Reached, Grew, Growable}
use Rattle.grow.specs.Turns.{Underway, Begun, Completed, Turn, Turned, EmptyStored, LastStored}
use Rattle.grow.proofs.Stopping.{stopped_grew}
use Rattle.grow.proofs.Turning.{layers_few}

-- ---- the definition, layer by layer

-- rows are left and items too: the next layer's step comes
grow_step : (s : Settings) (item : Item) (rest : List Item) (k : ℕ) (d : Diagram) → d.start < length d.nodes → grow s (item ∷ rest) k d ≡ and_then (layer_step s (item ∷ rest) item k d) (λ e. grow s rest (suc k) e)
unfolding grow only_if has_rows
grow_step s item rest k d h = let e : ltb d.start (length d.nodes) ≡ true = lt-ltb d.start (length d.nodes) h in rw e refl

grow_empty : (s : Settings) (item : Item) (rest : List Item) (k : ℕ) (d : Diagram) → length d.nodes ≤ d.start → grow s (item ∷ rest) k d ≡ going (store_empty d)
unfolding grow only_if has_rows
grow_empty s item rest k d h = let e : ltb d.start (length d.nodes) ≡ false = le-ltb d.start (length d.nodes) h in rw e refl

grow_last : (s : Settings) (k : ℕ) (d : Diagram) → grow s [] k d ≡ going (store_last (has_rows d) d)
unfolding grow
grow_last s k d = refl

no_layers : stored (layers_from []) ≡ []
unfolding stored first_ones
no_layers = refl

module _ (weights profits : List ℕ) (t : Task) (r : Root) (old_n old_e : List ℕ) (a : Growable weights t r old_n old_e) where
  -- there is no room for the root
  pub root_stopped : (stop : Stop) (ns : List ℕ) → RootPushed t.rooms.nodes r old_n (Stopped (number stop.refusal) stop.counts) ns → Grew (grown (settings_of t) (items_of weights profits) (record_of r)) old_n old_e (Err stop) ns old_e
  unfolding grown
  root_stopped stop ns did =
      stopped_grew (grown (settings_of t) (items_of weights profits) (record_of r)) old_n old_e stop ns old_e
      (stays_stopped (rooted (settings_of t) (record_of r)) _ old_n old_e (number stop.refusal) stop.counts ns old_e (did.does (settings_of t) old_e refl))

  -- it is written
  pub root_underway : (k : Counts) (ns : List ℕ) (l : Layers) → RootPushed t.rooms.nodes r old_n (Going k) ns → stored l ≡ [] → Underway weights profits t (record_of r) old_n old_e r.depth (record { counts = k; start = 0; layers = l; last = None }) ns old_e
  unfolding grown rooted need root_only
  root_underway k ns l did p = go (ltb 0 t.rooms.nodes) refl (did.does (settings_of t) old_e refl)
    where
      go : (b : Bool) → ltb 0 t.rooms.nodes ≡ b → Stepped (need b 11 blank (going (root_only (record_of r)))) old_n old_e (Going k) ns old_e → Underway weights profits t (record_of r) old_n old_e r.depth (record { counts = k; start = 0; layers = l; last = None }) ns old_e
      go true e st =
          let w = st.step_is in
          record {
            diagram = root_only (record_of r);
            rest = rw e refl;
            some_room = ltb-true 0 t.rooms.nodes e;
            stage =
                record {
                  comes = first;
                  stands = record { first_is = refl; start_in = omega arith; counts_are = cc; node_room = refl; edge_room = refl; old_nodes = a.nodes_in; old_edges = a.edges_in };
                  held = st.held;
                  shape = record { layers_are = p; last_is = refl };
                };
          }
      go false e st = let w = st.step_is in absurd (cc)

  -- its tables are ready
  pub root_ready : (k : Counts) (ns : List ℕ) → RootPushed t.rooms.nodes r old_n (Going k) ns → Ready 0 k t.rooms ns old_e
  root_ready k ns did =
      let u = root_underway k ns (layers_from []) did no_layers in
      ready_of u.diagram old_n old_e ns old_e u.stage.held (settings_of t) 0 k t.rooms u.stage.stands

  module _ (depth : ℕ) (g : Growth) (ns es : List ℕ) (u : Underway weights profits t (record_of r) old_n old_e depth g ns es) (lim : InLimits weights profits) where
    counted : g.counts.nodes ≡ length u.diagram.nodes
    counted = ap (λ (c : Counts). c.nodes) u.stage.stands.counts_are

    reached : Reached (going u.diagram) (Ok g)
    reached = (u.stage.stands.first_is, u.stage.shape)

    pub turn_of : depth < length weights → (list : List ℕ) → 1024 ≤ length list → Turn weights profits t depth g list ns es
    turn_of deep list places =
        record {
          root = record_of r;
          old_n = old_n;
          old_e = old_e;
          diagram = u.diagram;
          stage = u.stage;
          deep = deep;
          some_width = a.some_width;
          some_room = u.some_room;
          places = places;
        }

    -- one more layer can be stored
    pub storable : depth ≤ length weights → g.layers.count < 65
    storable h = layers_few weights profits t (record_of r) old_n old_e u.diagram depth g ns es u.stage lim h

    -- no rows are left while items are
    pub empty_grown : depth < length weights → g.counts.nodes ≤ g.start → (g' : Growth) → EmptyStored g g' → Grew (grown (settings_of t) (items_of weights profits) (record_of r)) old_n old_e (Ok g') ns es
    empty_grown deep h g' did =
        let i = items_from weights profits depth lim.paired deep in
        let q = u.rest ∙ ap (λ (l : List Item). grow (settings_of t) l depth u.diagram) i ∙ grow_empty (settings_of t) _ _ depth u.diagram (omega (arith, h, counted, u.stage.stands.first_is)) in
        subst (λ (x : Run). Grew x old_n old_e (Ok g') ns es) (sym q) (did.does u.diagram old_n old_e ns es reached u.stage.stands.counts_are u.stage.held)

    -- no items are left
    pub last_grown : depth ≤ length weights → length weights ≤ depth → (g' : Growth) → LastStored g g' → Grew (grown (settings_of t) (items_of weights profits) (record_of r)) old_n old_e (Ok g') ns es
    last_grown h h' g' did =
        let n : depth ≡ length (items_of weights profits) = omega (arith, length_items weights profits lim.paired) in
        let i : drop depth (items_of weights profits) ≡ [] = ap (λ (m : ℕ). drop m (items_of weights profits)) n ∙ drop-length (items_of weights profits) in
        let q = u.rest ∙ ap (λ (l : List Item). grow (settings_of t) l depth u.diagram) i ∙ grow_last (settings_of t) depth u.diagram in
        subst (λ (x : Run). Grew x old_n old_e (Ok g') ns es) (sym q) (did.does u.diagram old_n old_e ns es reached u.stage.stands.counts_are u.stage.held)

    -- the next layer has its turn
    module _ (deep : depth < length weights) (more : g.start < g.counts.nodes) (ns' es' : List ℕ) where
      abbrev item : Item
      item = record { weight = get_or weights depth 0; profit = get_or profits depth 0 }

      abbrev turn : Run
      turn = layer_step (settings_of t) (item ∷ drop (depth + 1) (items_of weights profits)) item depth u.diagram

      items_are : drop depth (items_of weights profits) ≡ item ∷ drop (depth + 1) (items_of weights profits)
      items_are = items_from weights profits depth lim.paired deep

      rest_is : grown (settings_of t) (items_of weights profits) (record_of r) ≡ and_then turn (λ f. grow (settings_of t) (drop (depth + 1) (items_of weights profits)) (suc depth) f)
      rest_is = u.rest ∙ ap (λ (l : List Item). grow (settings_of t) l depth u.diagram) items_are ∙ grow_step (settings_of t) item (drop (depth + 1) (items_of weights profits)) depth u.diagram (omega (arith, more, counted, u.stage.stands.first_is))

      pub turn_refused : (stop : Stop) → Turned weights profits t depth g ns es (Err stop) ns' es' → Grew (grown (settings_of t) (items_of weights profits) (record_of r)) old_n old_e (Err stop) ns' es'
      turn_refused stop did =
          let w = did.does (record_of r) old_n old_e u.diagram item (drop (depth + 1) (items_of weights profits)) u.stage items_are in
          stopped_grew (grown (settings_of t) (items_of weights profits) (record_of r)) old_n old_e stop ns' es'
          (rw rest_is (stays_stopped turn _ old_n old_e (number stop.refusal) stop.counts ns' es' w.stepped))

      pub turn_taken : (g' : Growth) → Turned weights profits t depth g ns es (Ok g') ns' es' → Underway weights profits t (record_of r) old_n old_e (depth + 1) g' ns' es'
      turn_taken g' did = go turn refl (did.does (record_of r) old_n old_e u.diagram item (drop (depth + 1) (items_of weights profits)) u.stage items_are)
        where
          next : suc depth ≡ depth + 1
          next = omega arith

          go : (run : Run) → turn ≡ run → Grew run old_n old_e (Ok g') ns' es' → Underway weights profits t (record_of r) old_n old_e (depth + 1) g' ns' es'
          go (going f) e w =
              let c = after item (drop (depth + 1) (items_of weights profits)) f u.stage.comes items_are e in
              let q : g'.counts ≡ counts_of f = let z = w.stepped.step_is in cc in
              subst (λ (n : ℕ). Underway weights profits t (record_of r) old_n old_e n g' ns' es') next
              (record {
                diagram = f;
                rest = rest_is ∙ ap (λ (x : Run). and_then x (λ h. grow (settings_of t) (drop (depth + 1) (items_of weights profits)) (suc depth) h)) e ∙ rw (← next) refl;
                some_room = u.some_room;
                stage =
                    record {
                      comes = c;
                      stands = record { first_is = w.reached.0; start_in = (comes_ready c).fits; counts_are = q; node_room = refl; edge_room = refl; old_nodes = a.nodes_in; old_edges = a.edges_in };
                      held = w.stepped.held;
                      shape = w.reached.1;
                    };
              })
          go (stopped i d) e w = let z = w.stepped.step_is in absurd (cc)

-- ---- the layers from a depth on: whatever run was underway when the loop began still is

pub record Progress (weights profits : List ℕ) (t : Task) (depth₀ : ℕ) (g₀ : Growth) (ns₀ es₀ : List ℕ) (depth : ℕ) (g : Growth) (ns es : List ℕ) : Type 0 where
  pub still : (r : Root) (old_n old_e : List ℕ) → Growable weights t r old_n old_e → Underway weights profits t (record_of r) old_n old_e depth₀ g₀ ns₀ es₀ → Underway weights profits t (record_of r) old_n old_e depth g ns es

pub begun_of : (weights profits : List ℕ) (t : Task) (r : Root) (old_n old_e : List ℕ) (a : Growable weights t r old_n old_e) (k : Counts) (ns : List ℕ) (l : Layers) → RootPushed t.rooms.nodes r old_n (Going k) ns → stored l ≡ [] → Begun weights profits t r.depth (record { counts = k; start = 0; layers = l; last = None }) ns old_e
begun_of weights profits t r old_n old_e a k ns l did p =
    record { root = r; old_n = old_n; old_e = old_e; allowed = a; underway = root_underway weights profits t r old_n old_e a k ns l did p; depth_in = a.depth_in }

-- the whole growth, with the tables as they are told when they go back to whom they were lent by
pub whole_grown : (weights profits : List ℕ) (t : Task) (r : Root) (old_n old_e : List ℕ) → Growable weights t r old_n old_e → (k : Counts) (ns : List ℕ) (l : Layers) → RootPushed t.rooms.nodes r old_n (Going k) ns → stored l ≡ [] → (g : Result Growth Stop) (ns₁ es₁ ns₂ es₂ : List ℕ) → Completed weights profits t r.depth (record { counts = k; start = 0; layers = l; last = None }) ns old_e g ns₁ es₁ → ns₂ ≡ ns₁ → es₂ ≡ es₁ → Grew (grown (settings_of t) (items_of weights profits) (record_of r)) old_n old_e g ns₂ es₂
whole_grown weights profits t r old_n old_e a k ns l did p g ns₁ es₁ ns₂ es₂ done q q' =
    rw (q, q') (done.does r old_n old_e a (root_underway weights profits t r old_n old_e a k ns l did p))

module _ (weights profits : List ℕ) (t : Task) (from : ℕ) (g₀ : Growth) (ns₀ es₀ : List ℕ) (b : Begun weights profits t from g₀ ns₀ es₀) (depth : ℕ) (g : Growth) (ns es : List ℕ) (p : Progress weights profits t from g₀ ns₀ es₀ depth g ns es) (lim : InLimits weights profits) where
  now : Underway weights profits t (record_of b.root) b.old_n b.old_e depth g ns es
  now = p.still b.root b.old_n b.old_e b.allowed b.underway

  pub can_turn : depth < length weights → (list : List ℕ) → 1024 ≤ length list → Turn weights profits t depth g list ns es
  can_turn = turn_of weights profits t b.root b.old_n b.old_e b.allowed depth g ns es now lim

  pub can_store : depth ≤ length weights → g.layers.count < 65
  can_store = storable weights profits t b.root b.old_n b.old_e b.allowed depth g ns es now lim

  pub completed_empty : depth < length weights → g.counts.nodes ≤ g.start → (g' : Growth) → EmptyStored g g' → Completed weights profits t from g₀ ns₀ es₀ (Ok g') ns es
  completed_empty deep h g' did =
      record { does = λ r old_n old_e a u. empty_grown weights profits t r old_n old_e a depth g ns es (p.still r old_n old_e a u) lim deep h g' did }

  pub completed_last : depth ≤ length weights → length weights ≤ depth → (g' : Growth) → LastStored g g' → Completed weights profits t from g₀ ns₀ es₀ (Ok g') ns es
  completed_last h h' g' did =
      record { does = λ r old_n old_e a u. last_grown weights profits t r old_n old_e a depth g ns es (p.still r old_n old_e a u) lim h h' g' did }

  module _ (deep : depth < length weights) (more : g.start < g.counts.nodes) (ns' es' : List ℕ) where
    pub completed_refused : (stop : Stop) → Turned weights profits t depth g ns es (Err stop) ns' es' → Completed weights profits t from g₀ ns₀ es₀ (Err stop) ns' es'
    completed_refused stop did =
        record { does = λ r old_n old_e a u. turn_refused weights profits t r old_n old_e a depth g ns es (p.still r old_n old_e a u) lim deep more ns' es' stop did }

    pub progress_on : (g' : Growth) → Turned weights profits t depth g ns es (Ok g') ns' es' → Progress weights profits t from g₀ ns₀ es₀ (depth + 1) g' ns' es'
    progress_on g' did =
        record { still = λ r old_n old_e a u. turn_taken weights profits t r old_n old_e a depth g ns es (p.still r old_n old_e a u) lim deep more ns' es' g' did }
