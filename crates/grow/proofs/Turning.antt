-- One layer's turn: from the run whose layer comes to the run after its step.
use mathlib.Core.Path.{◌≡◌, refl, sym, ap, subst, ◌∙◌}
use mathlib.Core.Bool.{Bool, true, false, cond}
use mathlib.Core.List.{List, [], ◌∷◌, Memᴰ}
use Prim.Native.Nat.{ℕ, zero, suc, ◌+◌, ◌-◌, ◌*◌, ◌<◌, ◌≤◌}
use native.Mathlib.Omega.{arith}
use lib.Dec.{ltb}
use lib.ListN.{length, get_or, take, drop}
use lib.Seq.{take_all, length-take-le}
use borrow.Author.Tests.{ltb-true}
use Rattle.std.specs.Prelude.{Option, Result, Err}
use Rattle.knapsack.specs.Items.{Item, items_of}
use Rattle.knapsack.specs.Limits.{InLimits}
use Rattle.diagram.specs.Record.{Record}
use Rattle.diagram.specs.Tables.{Range, Diagram}
use Rattle.diagram.specs.Run as Def
use Rattle.diagram.specs.Run.{exactly, restricted, relaxing, Settings}
use Rattle.diagram.specs.Rule2.{ordered, expand_squashed, layer_step}
use Rattle.diagram.specs.Rule5.{name_last, with_last, squash_if, squash}
use Rattle.diagram.specs.Rule6.{Squashed, layer, halted}
use Rattle.layout.specs.Rows.{node_words}
use Rattle.theorems.proofs.Bool.{and_true}
use Rattle.theorems.proofs.Holds.{SquashHolds, settled, halts}
use Rattle.theorems.proofs.Sort.{ordered_length, ordered_in}
use Rattle.theorems.proofs.Squash.{Settled, Way, squash_settled}
use Rattle.theorems.proofs.Fits.{Fits, restrict_fits, relax_fits}
use Rattle.theorems.proofs.Layers.{comes_ready, comes_few}
use Rattle.theorems.proofs.Frames.{Framed, restrict_framed, relax_framed, comes_wired, comes_fits, comes_stored}
use Rattle.layers.specs.declared.Layer as Code
use Rattle.layers.specs.declared.Layers.{Layers}
use Rattle.layers.specs.Stored.{first_ones, stored, last_of}
use Rattle.reasons.specs.Numbers.{number}
use Rattle.branch.specs.declared.Counts.{Counts}
use Rattle.branch.specs.declared.Rooms.{Rooms}
use Rattle.branch.specs.declared.Stop.{Stop}
use Rattle.reasons.specs.declared.Refusal.{Refusal}
use Rattle.branch.specs.State.{Said, Going, Stopped, counts_of, Stands, Held}
use Rattle.squash.specs.Squashing.{Done, Squashes, Squashable}
use Rattle.squash.proofs.Callers.{squashes_of}
use Rattle.squash.proofs.Tables.{nodes_in, ready_of}
use Rattle.grow.specs.declared.Task.{Task}
use Rattle.grow.specs.declared.Growth.{Growth}
use Rattle.grow.specs.Told.{mode_of, settings_of}
use Rattle.grow.specs.Growing.{too_wide, squash_wide, Grew}
use Rattle.grow.specs.Turns.{LayerOrdered, WideSquashed, Expandable, SquashedLayer, LayerExpanded, Stage, Turn, Turned}
use Rattle.grow.proofs.Squashing.{IfSquashed, below_all, squash_law, squash_spared, squash_needed}

-- ---- small facts

first_length : (rows : List Code.Layer) (n : ℕ) → length (first_ones rows n) ≡ n
unfolding first_ones
first_length rows zero = refl
first_length rows (suc n) = ap suc (first_length rows n)

-- as many layers are stored as the count says
stored_length : (l : Layers) → length (stored l) ≡ l.count
unfolding stored
stored_length l = first_length l.rows l.count

place_mem : (rows : List ℕ) (j : ℕ) → j < length rows → Memᴰ (get_or rows j 0) rows
place_mem [] j h = absurd (omega arith)
place_mem (r ∷ rows) zero h = Memᴰ.head refl
place_mem (r ∷ rows) (suc j) h = Memᴰ.tail (place_mem rows j (omega arith))

-- only a layer of more rows than the width is too wide
wide_more : (m : Def.Mode) (width count layers : ℕ) → too_wide m width count layers ≡ true → width < count
unfolding too_wide
wide_more exactly width count layers e = absurd (cc)
wide_more restricted width count layers e = ltb-true width count e
wide_more relaxing width count layers e = ltb-true width count (and_true (ltb width count) (ltb 1 layers) e)

settled_inv : {P : Diagram → List ℕ → Type 0} {d : Diagram} {l : List ℕ} → SquashHolds P (layer d l) → P d l
settled_inv (settled p) = p

-- which layer is the last exact one after a squash
last_named : (d : Diagram) {x : Squashed} → SquashHolds (λ e _. Framed (with_last d) e) x → SquashHolds (λ e _. e.last ≡ name_last d.last d.layers) x
unfolding with_last
last_named d (settled a) = settled a.last_is
last_named d halts = halts

wide_last : (m : Def.Mode) (s : Settings) (rows : List ℕ) (d : Diagram) → SquashHolds (λ e _. e.last ≡ name_last d.last d.layers) (squash_wide m s rows (with_last d))
unfolding squash_wide
wide_last exactly s rows d = last_named d (restrict_framed s _ (with_last d))
wide_last restricted s rows d = last_named d (restrict_framed s _ (with_last d))
wide_last relaxing s rows d = last_named d (relax_framed s _ (with_last d))

if_last : (wide : Bool) (m : Def.Mode) (s : Settings) (rows : List ℕ) (d : Diagram) → SquashHolds (λ e _. e.last ≡ cond wide (name_last d.last d.layers) d.last) (squash_if wide (squash_wide m s rows (with_last d)) (layer d rows))
unfolding squash_if
if_last true m s rows d = wide_last m s rows d
if_last false m s rows d = settled refl

-- and how many rows there are
name_fits : (a b : ℕ) (d : Diagram) → Fits a b d → Fits a b (with_last d)
unfolding with_last
name_fits a b d q = record { nodes_fit = q.nodes_fit; edges_fit = q.edges_fit }

wide_fits : (m : Def.Mode) (s : Settings) (rows : List ℕ) (d : Diagram) → Fits s.node_room s.edge_room d → SquashHolds (λ e _. Fits s.node_room s.edge_room e) (squash_wide m s rows d)
unfolding squash_wide
wide_fits exactly s rows d q = restrict_fits s _ d q
wide_fits restricted s rows d q = restrict_fits s _ d q
wide_fits relaxing s rows d q = relax_fits s _ d q

if_fits : (wide : Bool) (m : Def.Mode) (s : Settings) (rows : List ℕ) (d : Diagram) → Fits s.node_room s.edge_room d → SquashHolds (λ e _. Fits s.node_room s.edge_room e) (squash_if wide (squash_wide m s rows (with_last d)) (layer d rows))
unfolding squash_if
if_fits true m s rows d q = wide_fits m s rows (with_last d) (name_fits _ _ d q)
if_fits false m s rows d q = settled q

-- ---- what a squash leaves where the run goes on

record Onward (s : Settings) (depth : ℕ) (d : Diagram) (wide : Bool) (rows : List ℕ) (old_n old_e : List ℕ) (more : Counts) (ns es : List ℕ) : Type 0 where
  after : Diagram
  result_is : squash s.mode s (ordered d) d ≡ layer after rows
  counts_are : more ≡ counts_of after
  held : Held after old_n old_e ns es
  settles : Settled s.mode depth d after rows
  fits : Fits s.node_room s.edge_room after
  last_is : after.last ≡ cond wide (name_last d.last d.layers) d.last

goes_onward : (s : Settings) (depth : ℕ) (d : Diagram) (wide : Bool) (n : ℕ) (list old_n old_e : List ℕ) (more : Counts) (ns es : List ℕ) (x : Squashed) → squash s.mode s (ordered d) d ≡ x → SquashHolds (λ e l. Settled s.mode depth d e l × Way s.mode depth d e) x → SquashHolds (λ e _. Fits s.node_room s.edge_room e) x → SquashHolds (λ e _. e.last ≡ cond wide (name_last d.last d.layers) d.last) x → Done x old_n old_e n (Going more) list ns es → Onward s depth d wide (take n list) old_n old_e more ns es
goes_onward s depth d wide n list old_n old_e more ns es (layer e rows) q a b c done =
    let w = done.step_is in
    let z : more ≡ counts_of e = cc in
    record {
      after = e;
      result_is = q ∙ ap (layer e) done.rows_are;
      counts_are = z;
      held = done.held;
      settles = subst (λ (l : List ℕ). Settled s.mode depth d e l) done.rows_are (settled_inv a).0;
      fits = settled_inv b;
      last_is = settled_inv c;
    }
goes_onward s depth d wide n list old_n old_e more ns es (halted i e) q a b c done = let w = done.step_is in absurd (cc)

-- the growth after a squash
abbrev pub squashed_growth : Growth → Counts → Option Code.Layer → Growth
squashed_growth g more named = record { counts = more; start = g.start; layers = g.layers; last = named }

-- ---- the turn

module _ (weights profits : List ℕ) (t : Task) (r : Record) (old_n old_e : List ℕ) (d : Diagram) (depth : ℕ) (g : Growth) (ns es : List ℕ) (at : Stage weights profits t r old_n old_e d depth g ns es) where
  nodes_counted : g.counts.nodes ≡ length d.nodes
  nodes_counted = ap (λ (c : Counts). c.nodes) at.stands.counts_are

  pub start_low : g.start ≤ g.counts.nodes
  start_low = omega (arith, at.stands.first_is, at.stands.start_in, nodes_counted)

  count_is : g.counts.nodes - g.start ≡ length (ordered d)
  count_is = omega (arith, ordered_length d, at.stands.first_is, nodes_counted)

  pub count_few : g.counts.nodes - g.start ≤ 1024
  count_few = omega (arith, count_is, comes_few at.comes)

  pub rows_in : (g.start + (g.counts.nodes - g.start)) * node_words ≤ length ns
  rows_in = omega (arith, start_low, nodes_counted, nodes_in d old_n old_e ns es at.held)

  layers_counted : g.layers.count ≡ length d.layers
  layers_counted = sym (stored_length g.layers) ∙ ap (length {A = Range}) at.shape.layers_are

  pub layers_few : InLimits weights profits → depth ≤ length weights → g.layers.count < 65
  layers_few lim h = omega (arith, layers_counted, comes_stored at.comes, lim.few)

  module _ (count : ℕ) (lent : count ≡ g.counts.nodes - g.start) (rows : List ℕ) (o : LayerOrdered g.start count ns rows) where
    rows_are : rows ≡ ordered d
    rows_are = o.rows_are d old_n at.held.nodes_are at.stands.first_is (omega (arith, lent, at.stands.first_is, nodes_counted))

    rows_few : length rows ≤ 1024
    rows_few = rw rows_are (comes_few at.comes)

    squashes : Squashes (settings_of t) d old_n old_e g.start g.counts t.rooms rows ns es
    squashes =
        squashes_of (settings_of t) d old_n old_e g.start g.counts t.rooms rows ns es depth at.stands at.held (comes_wired at.comes) (comes_ready at.comes).now
        (λ q m. ordered_in d q (subst (λ (l : List ℕ). Memᴰ q l) rows_are m))

    module _ (wide : Bool) (w : wide ≡ too_wide (mode_of t.mode) t.width (length rows) g.layers.count) where
      squash_is : squash (mode_of t.mode) (settings_of t) (ordered d) d ≡ squash_if wide (squash_wide (mode_of t.mode) (settings_of t) rows (with_last d)) (layer d rows)
      squash_is = rw (w, rows_are, layers_counted) (squash_law (mode_of t.mode) (settings_of t) (ordered d) d)

      wide_count : wide ≡ true → t.width < length rows
      wide_count e = wide_more (mode_of t.mode) t.width (length rows) g.layers.count (sym w ∙ e)

      pub squashable : wide ≡ true → 0 < t.width → Squashable g.start g.counts t.rooms (t.width - 1) rows ns es
      squashable e h =
          record { settings = settings_of t; diagram = d; old_n = old_n; old_e = old_e; squashes = squashes; wide = omega (arith, wide_count e) }

      module _ (step : Said) (rows' ns' es' : List ℕ) (did : IfSquashed wide t.mode t.width g.start g.counts t.rooms rows ns es step rows' ns' es') where
        done : Done (squash (mode_of t.mode) (settings_of t) (ordered d) d) old_n old_e (cond wide t.width (length rows)) step rows' ns' es'
        done = rw squash_is (did.does (settings_of t) d old_n old_e refl squashes)

      -- a squash that is refused ends the run
      turn_stopped : (stop : Stop) (rows' ns' es' : List ℕ) → IfSquashed wide t.mode t.width g.start g.counts t.rooms rows ns es (Stopped (number stop.refusal) stop.counts) rows' ns' es' → (item : Item) (rest : List Item) → Grew (layer_step (settings_of t) (item ∷ rest) item depth d) old_n old_e (Err stop) ns' es'
      unfolding layer_step expand_squashed
      turn_stopped stop rows' ns' es' did item rest = stays (squash (mode_of t.mode) (settings_of t) (ordered d) d) (done (Stopped (number stop.refusal) stop.counts) rows' ns' es' did)
        where
          stays : (x : Squashed) → Done x old_n old_e (cond wide t.width (length rows)) (Stopped (number stop.refusal) stop.counts) rows' ns' es' → Grew (expand_squashed x (settings_of t) (item ∷ rest) item depth) old_n old_e (Err stop) ns' es'
          stays (layer f l) y = let w = y.step_is in absurd (cc)
          stays (halted i f) y = record { stepped = record { step_is = y.step_is; held = y.held }; reached = tt }

      -- else the layer is expanded
      module _ (some_room : 0 < t.rooms.nodes) (more : Counts) (rows' ns' es' : List ℕ) (did : IfSquashed wide t.mode t.width g.start g.counts t.rooms rows ns es (Going more) rows' ns' es') where
        onward : Onward (settings_of t) depth d wide (take (cond wide t.width (length rows)) rows') old_n old_e more ns' es'
        onward =
            goes_onward (settings_of t) depth d wide (cond wide t.width (length rows)) rows' old_n old_e more ns' es' (squash (mode_of t.mode) (settings_of t) (ordered d) d) refl
            (squash_settled (mode_of t.mode) (settings_of t) depth d (comes_ready at.comes).now at.stands.start_in)
            (rw squash_is (if_fits wide (mode_of t.mode) (settings_of t) rows d (comes_fits some_room at.comes)))
            (rw squash_is (if_last wide (mode_of t.mode) (settings_of t) rows d))
            (done (Going more) rows' ns' es' did)

        more_counted : more.nodes ≡ length onward.after.nodes
        more_counted = ap (λ (c : Counts). c.nodes) onward.counts_are

        edges_counted : more.edges ≡ length onward.after.edges
        edges_counted = ap (λ (c : Counts). c.edges) onward.counts_are

        after_stands : Stands (settings_of t) onward.after old_n old_e g.start more t.rooms
        after_stands =
            record {
              first_is = at.stands.first_is ∙ sym onward.settles.begins;
              start_in = omega (arith, at.stands.start_in, onward.settles.begins, onward.settles.longer);
              counts_are = onward.counts_are;
              node_room = refl;
              edge_room = refl;
              old_nodes = at.stands.old_nodes;
              old_edges = at.stands.old_edges;
            }

        module _ (named : Option Code.Layer) (left : List ℕ) (l : left ≡ take (cond wide t.width (length rows)) rows') where
          pub expandable : InLimits weights profits → depth < length weights → Expandable weights t (squashed_growth g more named) depth left ns' es'
          expandable lim deep =
              let ready = ready_of onward.after old_n old_e ns' es' onward.held (settings_of t) g.start more t.rooms after_stands in
              record {
                deep = deep;
                fit = record { low = omega arith; nodes = omega (arith, more_counted, onward.fits.nodes_fit); edges = omega (arith, edges_counted, onward.fits.edges_fit) };
                rooms_in = ready.rooms_in;
                edges_in = ready.edges_in;
                rows_below = rw l (below_all more.nodes (take (cond wide t.width (length rows)) rows') (λ q m. omega (arith, more_counted, (onward.settles.within q m).1)));
                few = layers_few lim (omega arith);
              }

          module _ (n : last_of named ≡ cond wide (name_last (last_of g.last) (stored g.layers)) (last_of g.last)) (item : Item) (rest : List Item) (q : drop depth (items_of weights profits) ≡ item ∷ rest) where
            squashed_layer : SquashedLayer weights profits t (squashed_growth g more named) depth left ns' es' (settings_of t) onward.after old_n old_e item rest
            squashed_layer =
                record {
                  stands = after_stands;
                  held = onward.held;
                  shape =
                      record {
                        layers_are = at.shape.layers_are ∙ sym onward.settles.layers_are;
                        last_is = n ∙ rw (at.shape.last_is, at.shape.layers_are) refl ∙ sym onward.last_is;
                      };
                  lower_is = refl;
                  left = q;
                  rows_deep = rw l (λ j h. let v = place_mem (take (cond wide t.width (length rows)) rows') j h in onward.settles.deps (get_or (take (cond wide t.width (length rows)) rows') j 0) (onward.settles.within _ v).0 (onward.settles.within _ v).1);
                }

            turn_expanded : (g' : Result Growth Stop) (ns'' es'' : List ℕ) → LayerExpanded weights profits t (squashed_growth g more named) depth left ns' es' g' ns'' es'' → Grew (layer_step (settings_of t) (item ∷ rest) item depth d) old_n old_e g' ns'' es''
            unfolding layer_step expand_squashed
            turn_expanded g' ns'' es'' did' =
                let e = onward.result_is ∙ ap (layer onward.after) (sym l) in
                subst (λ (x : Squashed). Grew (expand_squashed x (settings_of t) (item ∷ rest) item depth) old_n old_e g' ns'' es'') (sym e) (did'.does (settings_of t) onward.after old_n old_e item rest squashed_layer)

-- ---- the same as the code's promise: the layer in the list's first places, in its order, then what the squash leaves

module _ (weights profits : List ℕ) (t : Task) (depth : ℕ) (g : Growth) (list ns es : List ℕ) (turn : Turn weights profits t depth g list ns es) where
  abbrev count : ℕ
  count = g.counts.nodes - g.start

  pub begins_low : g.start ≤ g.counts.nodes
  begins_low = start_low weights profits t turn.root turn.old_n turn.old_e turn.diagram depth g ns es turn.stage

  pub count_in : count ≤ length list
  count_in = omega (arith, turn.places, count_few weights profits t turn.root turn.old_n turn.old_e turn.diagram depth g ns es turn.stage)

  pub lent : length (take count list) ≡ count
  lent = length-take-le count list count_in

  pub rows_fit : (g.start + length (take count list)) * node_words ≤ length ns
  rows_fit = rw lent (rows_in weights profits t turn.root turn.old_n turn.old_e turn.diagram depth g ns es turn.stage)

  module _ (rows : List ℕ) (o : LayerOrdered g.start (length (take count list)) ns rows) (wide : Bool) (w : wide ≡ too_wide (mode_of t.mode) t.width (length rows) g.layers.count) where
    -- a layer that is not too wide is expanded as it stands
    module _ (e : wide ≡ false) where
      is_spared : IfSquashed wide t.mode t.width g.start g.counts t.rooms rows ns es (Going g.counts) rows ns es
      is_spared = squash_spared wide t.mode t.width g.start g.counts t.rooms rows ns es e

      all_left : rows ≡ take (cond wide t.width (length rows)) rows
      all_left = let l : length rows ≤ length rows = omega arith in rw e (sym (take_all (length rows) rows l))

      pub spared_expandable : InLimits weights profits → Expandable weights t g depth rows ns es
      spared_expandable lim =
          expandable weights profits t turn.root turn.old_n turn.old_e turn.diagram depth g ns es turn.stage (length (take count list)) lent rows o wide w turn.some_room g.counts rows ns es is_spared g.last rows all_left lim turn.deep

      pub turned_spared : (g' : Result Growth Stop) (ns' es' : List ℕ) → LayerExpanded weights profits t g depth rows ns es g' ns' es' → Turned weights profits t depth g ns es g' ns' es'
      turned_spared g' ns' es' did =
          record {
            does = λ r old_n old_e d item rest at q.
                turn_expanded weights profits t r old_n old_e d depth g ns es at (length (take count list)) lent rows o wide w turn.some_room g.counts rows ns es is_spared g.last rows all_left (rw e refl) item rest q g' ns' es' did;
          }

    -- one that is too wide is squashed first
    module _ (e : wide ≡ true) (rooms : Rooms) (told : rooms ≡ t.rooms) where
      pub to_squash : Squashable g.start g.counts rooms (t.width - 1) rows ns es × (0 < t.width)
      to_squash = (
        rw told (squashable weights profits t turn.root turn.old_n turn.old_e turn.diagram depth g ns es turn.stage (length (take count list)) lent rows o wide w e turn.some_width),
        turn.some_width,
      )

      pub turned_stopped : (refusal : Refusal) (c : Counts) (rows' ns' es' : List ℕ) → WideSquashed t.mode t.width g.start g.counts rooms rows ns es (Stopped (number refusal) c) rows' ns' es' → Turned weights profits t depth g ns es (Err (record { refusal = refusal; counts = c })) ns' es'
      turned_stopped refusal c rows' ns' es' did =
          record {
            does = λ r old_n old_e d item rest at q.
                turn_stopped weights profits t r old_n old_e d depth g ns es at (length (take count list)) lent rows o wide w (record { refusal = refusal; counts = c }) rows' ns' es' (squash_needed wide t.mode t.width g.start g.counts t.rooms rows ns es e (Stopped (number refusal) c) rows' ns' es' (rw told at did)) item rest;
          }

      module _ (more : Counts) (rows' ns' es' : List ℕ) (did : WideSquashed t.mode t.width g.start g.counts rooms rows ns es (Going more) rows' ns' es') (l : length rows' ≡ length rows) where
        is_squashed : IfSquashed wide t.mode t.width g.start g.counts t.rooms rows ns es (Going more) rows' ns' es'
        is_squashed = squash_needed wide t.mode t.width g.start g.counts t.rooms rows ns es e (Going more) rows' ns' es' (rw told at did)

        pub width_in : t.width ≤ length rows'
        width_in =
            omega (arith, l, wide_count weights profits t turn.root turn.old_n turn.old_e turn.diagram depth g ns es turn.stage (length (take count list)) lent rows o wide w e)

        pub lent_width : t.width ≡ length (take t.width rows')
        lent_width = sym (length-take-le t.width rows' width_in)

        first_left : take t.width rows' ≡ take (cond wide t.width (length rows)) rows'
        first_left = rw e refl

        module _ (start : ℕ) (same : start ≡ g.start) (named : Option Code.Layer) where
          abbrev after_squash : Growth
          after_squash = record { counts = more; start = start; layers = g.layers; last = named }

          pub wide_expandable : InLimits weights profits → Expandable weights t after_squash depth (take t.width rows') ns' es'
          wide_expandable lim =
              rw same
              (expandable weights profits t turn.root turn.old_n turn.old_e turn.diagram depth g ns es turn.stage (length (take count list)) lent rows o wide w turn.some_room more rows' ns' es' is_squashed named (take t.width rows') first_left lim turn.deep)

          pub turned_on : last_of named ≡ name_last (last_of g.last) (stored g.layers) → (g' : Result Growth Stop) (ns'' es'' : List ℕ) → LayerExpanded weights profits t after_squash depth (take t.width rows') ns' es' g' ns'' es'' → Turned weights profits t depth g ns es g' ns'' es''
          turned_on n g' ns'' es'' did' =
              record {
                does = λ r old_n old_e d item rest at q.
                    turn_expanded weights profits t r old_n old_e d depth g ns es at (length (take count list)) lent rows o wide w turn.some_room more rows' ns' es' is_squashed named (take t.width rows') first_left (rw e n) item rest q g' ns'' es'' (rw same at did');
              }
