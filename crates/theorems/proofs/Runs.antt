-- What a run that is not refused promises of its outcome: values that are achieved, values that are not missed, drained records that lead on.
use mathlib.Core.Path.{◌≡◌, refl, sym, ap, subst, ◌∙◌}
use mathlib.Core.List.{List, [], ◌∷◌, ◌++◌}
use mathlib.Core.Logic.{◌⊎◌, inl, inr, ◌≢◌}
use Prim.Native.Nat.{ℕ, suc, ◌+◌, ◌≤◌, ◌<◌}
use native.Mathlib.Omega.{arith}
use lib.ListN.{length, get_or, drop, length-drop}
use Rattle.words.specs.I64.{top}
use Rattle.knapsack.specs.Best.{best}
use Rattle.knapsack.specs.Items.{Item, no_item}
use Rattle.diagram.specs.After1.{best_node, best_exact_node}
use Rattle.diagram.specs.After2.{is_exact}
use Rattle.diagram.specs.After3.{decisions_up, path_to}
use Rattle.diagram.specs.After4.{CutsetKind, cutset_for}
use Rattle.diagram.specs.After5.{local_bounds}
use Rattle.diagram.specs.After6.{Outcome, outcome, finished, finish, run}
use Rattle.diagram.specs.Node.{Node, Edge, node_at, fresh}
use Rattle.diagram.specs.Record.{Record}
use Rattle.diagram.specs.Rule1.{root_only, rooted}
use Rattle.diagram.specs.Rule2.{store_last, has_rows, grow, grown}
use Rattle.diagram.specs.Run.{Mode, exactly, restricted, relaxing, Settings, Run, going, stopped}
use Rattle.diagram.specs.Tables.{unsquashed, Diagram, Found, at, nowhere, with_nodes}
use Rattle.theorems.proofs.Holds.{Holds, held, then_holds, need_holds, held_inv}
use Rattle.theorems.proofs.Squash.{Full}
use Rattle.theorems.proofs.Tower.{root_row}
use Rattle.theorems.proofs.Steps.{finished_ends, worth_of, root_worth, root_lives}
use Rattle.theorems.proofs.Sound.{Sound}
use Rattle.theorems.proofs.Exactness.{AllExact, Exactness, relaxing_is_full, Sane, grown_sane}
use Rattle.theorems.proofs.Local.{plain, Dressed, bounds_dressed}
use Rattle.theorems.proofs.Terminals.{Tops, best_terminal}
use Rattle.theorems.proofs.Cutset.{Listing}
use Rattle.theorems.proofs.Drain.{cut_listing, plain_val, top_is}
use Rattle.theorems.proofs.Path.{Valid, up_from, sum_small, up_valid, valid_small}
use Rattle.theorems.proofs.Drained.{path_same, plain_best, root_is, empty_listing}
use Rattle.theorems.proofs.Walk.{Achieved, best_achieved, all_achieved}
use Rattle.theorems.proofs.Whole.{Whole, up_most}
use Rattle.theorems.proofs.Above.{completion_small, grown_above}

-- ---- an outcome of any mode, taken apart

pub outcome_of : (m : Mode) (k : CutsetKind) (d : Diagram) → ((outcome m k d).exact ≡ is_exact m d) × ((outcome m k d).best ≡ best_node d) × ((outcome m k d).best_exact ≡ best_exact_node m d) × ((outcome m k d).diagram.nodes ≡ local_bounds m d (cutset_for m k d).nodes) × ((outcome m k d).diagram.edges ≡ d.edges) × ((outcome m k d).diagram.last ≡ d.last)
unfolding outcome with_nodes
outcome_of m k d = (refl, refl, refl, refl, refl, refl)

for_listing : (items : List Item) (r₀ : Node) (m : Mode) (k : CutsetKind) (d : Diagram) → Sound items r₀ d → Exactness m r₀.depth d → d.start ≤ length d.nodes → Listing d.nodes (cutset_for m k d)
unfolding cutset_for
for_listing items r₀ exactly k d w x sl = empty_listing d w.clean
for_listing items r₀ restricted k d w x sl = empty_listing d w.clean
for_listing items r₀ relaxing k d w x sl = cut_listing items r₀ k d w (x.last_layer relaxing_is_full) sl

rows_plain : (m : Mode) (k : CutsetKind) (d : Diagram) → Listing d.nodes (cutset_for m k d) → Dressed d.nodes (outcome m k d).diagram.nodes
rows_plain m k d li =
    subst (λ (ns : List Node). Dressed d.nodes ns) (sym (outcome_of m k d).3)
    (let b = bounds_dressed m d (cutset_for m k d).nodes in record { long = b.long ∙ li.long; plain_is = λ r. b.plain_is r ∙ li.plain_is r })

path_of_lem : (m : Mode) (k : CutsetKind) (d : Diagram) → Listing d.nodes (cutset_for m k d) → (pre : List ℕ) (r : ℕ) → path_to pre (outcome m k d).diagram r ≡ pre ++ up_from (length d.nodes) d r
unfolding path_to
path_of_lem m k d li pre r =
    let e = (outcome m k d).diagram in
    let z = rows_plain m k d li in
    let b : (q : ℕ) → (node_at e.nodes q).best ≡ (node_at d.nodes q).best = λ q. plain_best _ _ (z.plain_is q) in
    ap (λ (l : List ℕ). pre ++ l)
    (ap (λ (n : ℕ). decisions_up n e.nodes e.edges (node_at e.nodes r).best) z.long
    ∙ ap (λ (es : List Edge). decisions_up (length d.nodes) e.nodes es (node_at e.nodes r).best) (outcome_of m k d).4
    ∙ ap (decisions_up (length d.nodes) e.nodes d.edges) (b r)
    ∙ path_same d.nodes e.nodes d.edges b (length d.nodes) (node_at d.nodes r).best)

root_sum : (items : List Item) (r : Record) → (root_row r).value + best (drop (root_row r).depth items) (root_row r).capacity ≡ worth_of items r
unfolding root_row fresh worth_of
root_sum items r = refl

-- a record without an item left: its only row is the root
root_stored : (r : Record) → ((store_last (has_rows (root_only r)) (root_only r)).nodes ≡ root_row r ∷ []) × ((store_last (has_rows (root_only r)) (root_only r)).start ≡ 0)
unfolding root_only root_row store_last has_rows
root_stored r = (refl, refl)

held_grow : (opts : Settings) (k : ℕ) (r : Record) (d : Diagram) → d ≡ root_only r → Holds (λ e. (e.nodes ≡ root_row r ∷ []) × (e.start ≡ 0)) (grow opts [] k d)
unfolding grow
held_grow opts k r d q = held (subst (λ (x : Diagram). ((store_last (has_rows x) x).nodes ≡ root_row r ∷ []) × ((store_last (has_rows x) x).start ≡ 0)) (sym q) (root_stored r))

end_tables : (items : List Item) (opts : Settings) (r : Record) → drop r.depth items ≡ [] → Holds (λ e. (e.nodes ≡ root_row r ∷ []) × (e.start ≡ 0)) (grown opts items r)
unfolding grown rooted
end_tables items opts r e =
    then_holds {P = λ d. d ≡ root_only r} _ (need_holds _ _ _ _ (λ _. held refl))
    (λ d q. subst (λ (is : List Item). Holds (λ e. (e.nodes ≡ root_row r ∷ []) × (e.start ≡ 0)) (grow opts is r.depth d)) (sym e) (held_grow opts r.depth r d q))

at_same : (a b : ℕ) → at a ≡ at b → a ≡ b
at_same a b e = cc

-- a finished run of record r
pub record Compiled (items : List Item) (opts : Settings) (k : CutsetKind) (r : Record) (o : Outcome) : Type 0 where
  pub tables : Diagram
  pub grows : grown opts items r ≡ going tables
  pub is_outcome : o ≡ outcome opts.mode k tables
  pub sane : Sane items opts.lower (root_row r) opts.mode tables

run_compiled : (items : List Item) (opts : Settings) (k : CutsetKind) (r : Record) (o : Outcome) (x : Run) → grown opts items r ≡ x → Holds (Sane items opts.lower (root_row r) opts.mode) x → finish opts.mode k x ≡ finished o → Compiled items opts k r o
unfolding finish
run_compiled items opts k r o (going d) g h e = record { tables = d; grows = g; is_outcome = cc; sane = held_inv h }
run_compiled items opts k r o (stopped n d) g h e = let z : ◌≡◌ {A = ℕ} 0 1 = cc in absurd (omega arith)

-- every finished run is one
pub compiled : (items : List Item) (opts : Settings) (k : CutsetKind) (r : Record) (o : Outcome) → run opts k items r ≡ finished o → Compiled items opts k r o
unfolding run
compiled items opts k r o e = run_compiled items opts k r o (grown opts items r) refl (grown_sane items opts r) e

-- what holds of a growth that isn't refused holds of its tables
pub tables_hold : (items : List Item) (opts : Settings) (k : CutsetKind) (r : Record) (o : Outcome) (P : Diagram → Type 0) (c : Compiled items opts k r o) → Holds P (grown opts items r) → P c.tables
tables_hold items opts k r o P c h = held_inv (subst (λ (x : Run). Holds P x) c.grows h)

-- ---- values and paths of a finished run

module _ (items : List Item) (opts : Settings) (k : CutsetKind) (r : Record) (o : Outcome) (c : Compiled items opts k r o) where
  d : Diagram
  d = c.tables

  listing : Listing d.nodes (cutset_for opts.mode k d)
  unfolding d
  listing = for_listing items (root_row r) opts.mode k d c.sane.sound c.sane.exact c.sane.fits

  plain_rows : (q : ℕ) → plain (node_at o.diagram.nodes q) ≡ plain (node_at d.nodes q)
  unfolding d
  plain_rows q = subst (λ (z : Outcome). plain (node_at z.diagram.nodes q) ≡ plain (node_at c.tables.nodes q)) (sym c.is_outcome) ((rows_plain opts.mode k c.tables listing).plain_is q)

  best_is_node : o.best ≡ best_node d
  unfolding d
  best_is_node = ap (λ (z : Outcome). z.best) c.is_outcome ∙ (outcome_of opts.mode k c.tables).1

  exact_is_node : o.best_exact ≡ best_exact_node opts.mode d
  unfolding d
  exact_is_node = ap (λ (z : Outcome). z.best_exact) c.is_outcome ∙ (outcome_of opts.mode k c.tables).2

  -- the best value is x at least, for each x above the lower bound that the record is worth
  pub value_least : (x : ℕ) → Full opts.mode → opts.lower < x → x ≤ top → x ≤ worth_of items r → Tops o.diagram.nodes x o.best
  unfolding d
  value_least x fm hb ht hx =
      let f = c.sane.finished fm in
      let e = finished_ends items opts.lower (root_row r) c.tables x f (root_lives r) hb ht (omega (arith, root_worth items r)) in
      let t = top_is c.tables x e in
      record { row = t.row; is_row = best_is_node ∙ t.is_row; least = omega (arith, t.least, (plain_val _ _ (plain_rows t.row)).0) }

  -- a node that is achieved has a whole path
  module _ (page : ℕ) (small : (i : ℕ) → (get_or items i no_item).profit ≤ 1000000) (l64 : length items ≤ 64) (v : Valid items page r) where
    terminal_deep : (q : ℕ) → Achieved items (root_row r) d q → (node_at d.nodes q).depth ≡ length items
    unfolding d
    terminal_deep q a =
        let en = c.sane.ends q a.inside.0 a.inside.1 in
        omega (arith, a.deep, length-drop (node_at c.tables.nodes q).depth items, ap (length {A = Item}) en)

    achieved_whole : (q : ℕ) → Achieved items (root_row r) d q → Whole items page (node_at o.diagram.nodes q).value (path_to r.path o.diagram q)
    unfolding d path_to
    achieved_whole q a =
        let dd = c.tables in
        let ps : path_to r.path o.diagram q ≡ r.path ++ up_from (length dd.nodes) dd q =
        subst (λ (z : Outcome). path_to r.path z.diagram q ≡ r.path ++ up_from (length dd.nodes) dd q) (sym c.is_outcome) (path_of_lem opts.mode k dd listing r.path q) in
        record { left_over = (node_at dd.nodes q).capacity; valid = up_valid items page r _ (node_at dd.nodes q) (up_from (length dd.nodes) dd q) small l64 v a.deep a.up refl (plain_val _ _ (plain_rows q)).0 (sym (terminal_deep q a)) ps }

    -- The best exact node of a run of any mode has a whole path: a selection that fits the page and earns the value.
    pub exact_whole : (q : ℕ) → o.best_exact ≡ at q → Whole items page (node_at o.diagram.nodes q).value (path_to r.path o.diagram q)
    unfolding d
    exact_whole q e =
        let fr = root_is r in
        let ht = valid_small items page r small l64 v in
        achieved_whole q (best_achieved items opts.mode (root_row r) c.tables q c.sane.sound fr.0 (omega (arith, fr.1)) fr.3 (omega (arith, fr.2, v.deep)) (sym exact_is_node ∙ e))

    unsquashed_all : (opts.mode ≢ relaxing) ⊎ (o.diagram.last ≡ unsquashed) → AllExact d
    unfolding d
    unsquashed_all (inl n) = c.sane.exact.unmerged n
    unsquashed_all (inr n) = c.sane.exact.before (sym (outcome_of opts.mode k c.tables).5 ∙ sym (ap (λ (z : Outcome). z.diagram.last) c.is_outcome) ∙ n)

    best_is_achieved : (q : ℕ) → (opts.mode ≢ relaxing) ⊎ (o.diagram.last ≡ unsquashed) → o.best ≡ at q → Achieved items (root_row r) d q
    unfolding d
    best_is_achieved q u e =
        let fr = root_is r in
        let ht = valid_small items page r small l64 v in
        let t = best_terminal c.tables q (sym best_is_node ∙ e) in
        all_achieved items (root_row r) c.tables q c.sane.sound (unsquashed_all u) fr.0 (omega (arith, fr.1)) (omega (arith, fr.2, v.deep)) t.0 t.1

    -- In exact and restricted mode, and in any run without a squash, the best node has a whole path too.
    pub best_whole : (q : ℕ) → (opts.mode ≢ relaxing) ⊎ (o.diagram.last ≡ unsquashed) → o.best ≡ at q → Whole items page (node_at o.diagram.nodes q).value (path_to r.path o.diagram q)
    best_whole q u e = achieved_whole q (best_is_achieved q u e)

    -- There the best value is at most what the record is worth.
    pub value_most : (q : ℕ) → (opts.mode ≢ relaxing) ⊎ (o.diagram.last ≡ unsquashed) → o.best ≡ at q → (node_at o.diagram.nodes q).value ≤ worth_of items r
    unfolding d
    value_most q u e =
        let fr = root_is r in
        let a = best_is_achieved q u e in
        let m = up_most items (root_row r) (node_at c.tables.nodes q) (up_from (length c.tables.nodes) c.tables q) (omega (arith, fr.2, v.deep)) (terminal_deep q a) a.up in
        omega (arith, m, root_sum items r, (plain_val _ _ (plain_rows q)).0)

    worth_small : worth_of items r ≤ top
    unfolding worth_of
    worth_small =
        let b = completion_small items small l64 (root_row r) in
        omega (arith, root_worth items r, b, (root_is r).1, v.profits, sum_small items small r.path, v.long, v.deep)

    -- There, in a relaxed or exact run, the best value is what the record is worth, where that is above the lower bound.
    pub value_is : Full opts.mode → (opts.mode ≢ relaxing) ⊎ (o.diagram.last ≡ unsquashed) → opts.lower < worth_of items r → (q : ℕ) × (o.best ≡ at q) × ((node_at o.diagram.nodes q).value ≡ worth_of items r)
    value_is fm u hb =
        let t = value_least (worth_of items r) fm hb worth_small (omega arith) in
        (t.row, t.is_row, omega (arith, t.least, value_most t.row u t.is_row))

  -- With an item left, the best value of a run of any mode is above the lower bound.
  pub value_above : (q : ℕ) → opts.lower < top → r.depth < length items → o.best ≡ at q → opts.lower < (node_at o.diagram.nodes q).value
  unfolding d
  value_above q ht hd e =
      let b = sym best_is_node ∙ e in
      let z = best_terminal c.tables q b in
      let w = tables_hold items opts k r o _ c (grown_above items opts r ht hd) (omega arith) in
      let t = top_is c.tables (suc opts.lower) w in
      let same : t.row ≡ q = at_same t.row q (sym t.is_row ∙ b) in
      omega (arith, subst (λ (x : ℕ). suc opts.lower ≤ (node_at c.tables.nodes x).value) same t.least, (plain_val _ _ (plain_rows q)).0)

  -- So in exact and restricted mode, and without a squash, there is no value where the record is worth no more than the lower bound.
  pub no_value : (page : ℕ) → ((i : ℕ) → (get_or items i no_item).profit ≤ 1000000) → length items ≤ 64 → Valid items page r → (opts.mode ≢ relaxing) ⊎ (o.diagram.last ≡ unsquashed) → opts.lower < top → r.depth < length items → worth_of items r ≤ opts.lower → o.best ≡ nowhere
  no_value page small l64 v u ht hd hw = none_found o.best refl
    where
      none_found : (f : Found) → o.best ≡ f → f ≡ nowhere
      none_found nowhere e = refl
      none_found (at q) e = absurd (omega (arith, value_above q ht hd e, value_most page small l64 v q u e))

  -- A record without an item left has its own value, whatever the lower bound.
  pub value_own : drop r.depth items ≡ [] → (o.best ≡ at 0) × ((node_at o.diagram.nodes 0).value ≡ r.value)
  unfolding d
  value_own e =
      let z = tables_hold items opts k r o _ c (end_tables items opts r e) in
      let v0 : (node_at c.tables.nodes 0).value ≡ r.value = ap (λ (n : List Node). (node_at n 0).value) z.0 ∙ (root_is r).1 in
      let ln = ap (length {A = Node}) z.0 in
      let t = top_is c.tables r.value (record { row = 0; lo_is = omega (arith, z.1); hi_is = omega arith; worth = omega arith }) in
      let i = best_terminal c.tables t.row t.is_row in
      let q : t.row ≡ 0 = omega (arith, i.1) in
      (best_is_node ∙ t.is_row ∙ ap at q, (plain_val _ _ (plain_rows 0)).0 ∙ v0)
