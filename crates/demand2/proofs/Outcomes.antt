-- What the outcome of an accepted compile promises: whole paths are achieved values, no value is missed, nothing is found where nothing beats the bound, drained records lead on.
use mathlib.Core.Path.{◌≡◌, refl, sym, ap, subst, ◌∙◌}
use mathlib.Core.Bool.{true, cond}
use mathlib.Core.List.Memᴰ
use mathlib.Core.List.{List, [], ◌∷◌, Memᴰ}
use mathlib.Core.Logic.{inl, ⊎_elim, ◌≢◌}
use Prim.Native.Nat.{ℕ, ◌+◌, ◌≤◌, ◌<◌}
use native.Mathlib.Omega.{arith}
use lib.ListN.{length, drop, drop_of_length-le}
use Rattle.words.specs.I64.{mid, top, word, number, sat_add}
use Rattle.knapsack.specs.Items.{Item}
use Rattle.knapsack.specs.Best.{best}
use Rattle.knapsack.proofs.Cases.{by_test}
use Rattle.diagram.specs.After1.{best_node, best_exact_node}
use Rattle.diagram.specs.After2.{is_exact}
use Rattle.diagram.specs.After3.{path_to}
use Rattle.diagram.specs.After4.{CutsetKind, no_cutset, cutset_for}
use Rattle.diagram.specs.After5.{local_bounds}
use Rattle.diagram.specs.After6.{Outcome, outcome, finished, drained, drain_rows, drain_for, drained_record, drained_bound}
use Rattle.diagram.specs.Node.{Node, node_at, fresh}
use Rattle.diagram.specs.Record.{Record, path_room, padded}
use Rattle.diagram.specs.Run.{Mode, exactly, restricted, relaxing}
use Rattle.diagram.specs.Tables.{Diagram, Found, at, nowhere}
use Rattle.calls.specs.Asked.{Given, record_of}
use Rattle.calls.specs.Compile.{Request, Rooms, settings_of, run_of}
use Rattle.theorems.proofs.Path.{Valid as ValidRecord, sum_small, valid_small}
use Rattle.theorems.proofs.Steps.{completion, finished_ends, worth_of, root_worth, root_lives}
use Rattle.theorems.proofs.Tower.{root_row}
use Rattle.theorems.proofs.Terminals.{Tops, best_terminal}
use Rattle.theorems.proofs.Drain.{top_is}
use Rattle.theorems.proofs.Whole.{Whole}
use Rattle.theorems.proofs.Above.{completion_small}
use Rattle.theorems.proofs.Runs.{Compiled, compiled, tables_hold, outcome_of, value_least, exact_whole, best_whole, value_above, value_own}
use Rattle.theorems.proofs.Leads.{Ensures, run_ensures, run_drains}
use Rattle.demand2.specs.Records.{items_in, item_count, Allowed, Valid, Achieved}
use Rattle.demand2.proofs.Accepted.{count_is, few_items, small_profits, valid_record}
use Rattle.demand2.proofs.Selections.{most, worth_is, whole_achieved}
use Rattle.demand2.proofs.Unsquashed.{unsquashed_finished, exact_unsquashed, grown_beatable, unwalked_exact, never_squashed_is_exact, exact_same_best}

-- the items, the settings and the record of a request
abbrev items : Request → List Item
items q = items_in q.problem

abbrev start : Request → Record
start q = record_of q.given

settings_are : (q : Request) (m : Rooms) → ((settings_of q m).mode ≡ q.mode) × ((settings_of q m).lower ≡ word q.lower)
unfolding settings_of
settings_are q m = (refl, refl)

pub record_are : (g : Given) → ((record_of g).depth ≡ g.depth) × ((record_of g).value ≡ word g.value) × ((record_of g).path ≡ g.path)
unfolding record_of
record_are g = (refl, refl, refl)

completion_is : (is : List Item) (r : Record) → completion is (root_row r) ≡ best (drop r.depth is) r.capacity
unfolding completion root_row fresh
completion_is is r = refl

-- in restricted mode the outcome's rows are the growth's
restricted_rows : (k : CutsetKind) (d : Diagram) → (outcome restricted k d).diagram.nodes ≡ d.nodes
unfolding local_bounds cutset_for no_cutset
restricted_rows k d = (outcome_of restricted k d).3

-- in exact and restricted mode nothing is drained
nothing_drained : (pre : List ℕ) (o : Outcome) → o.cutset ≡ [] → drained pre o ≡ []
unfolding drained drain_for drain_rows
nothing_drained pre o e = by_best o.best
  where
    by_best : (f : Found) → drain_for f pre o ≡ []
    by_best nowhere = refl
    by_best (at j) = ap (drain_rows pre o.diagram (node_at o.diagram.nodes j).value) e

no_cutset_lem : (w : Mode) (k : CutsetKind) (d : Diagram) → w ≢ relaxing → (outcome w k d).cutset ≡ []
unfolding outcome cutset_for no_cutset
no_cutset_lem exactly k d h = refl
no_cutset_lem restricted k d h = refl
no_cutset_lem relaxing k d h = absurd (h refl)

-- A path lists the record's path first.
starts_with : (pre : List ℕ) (d : Diagram) (j b : ℕ) → Memᴰ b pre → Memᴰ b (path_to pre d j)
unfolding path_to
starts_with pre d j b i = Memᴰ.append_left _ i

module _ (q : Request) (m : Rooms) (o : Outcome) (runs : run_of q m ≡ finished o) (a : Allowed q.problem) (v : Valid q.problem q.given) where
  valid : ValidRecord (items q) q.problem.page (start q)
  valid = valid_record q.problem q.given a v

  ran : Compiled (items q) (settings_of q m) q.kind (start q) o
  unfolding run_of
  ran = compiled (items q) (settings_of q m) q.kind (start q) o runs

  mode_is : (settings_of q m).mode ≡ q.mode
  mode_is = (settings_are q m).0

  exact_is : o.exact ≡ is_exact (settings_of q m).mode ran.tables
  exact_is = ap (λ (z : Outcome). z.exact) ran.is_outcome ∙ (outcome_of (settings_of q m).mode q.kind ran.tables).0

  best_is : o.best ≡ best_node ran.tables
  best_is = ap (λ (z : Outcome). z.best) ran.is_outcome ∙ (outcome_of (settings_of q m).mode q.kind ran.tables).1

  best_exact_is : o.best_exact ≡ best_exact_node (settings_of q m).mode ran.tables
  best_exact_is = ap (λ (z : Outcome). z.best_exact) ran.is_outcome ∙ (outcome_of (settings_of q m).mode q.kind ran.tables).2

  -- ---- achieved values

  achieved : (j : ℕ) → Whole (items q) q.problem.page (node_at o.diagram.nodes j).value (path_to (start q).path o.diagram j) → Achieved q.problem q.given (padded (path_to q.given.path o.diagram j)) (number (node_at o.diagram.nodes j).value)
  unfolding record_of
  achieved j w = whole_achieved q.problem q.given _ _ a (λ b i. starts_with q.given.path o.diagram j b i) w

  pub exact_achieved : (j : ℕ) → o.best_exact ≡ at j → Achieved q.problem q.given (padded (path_to q.given.path o.diagram j)) (number (node_at o.diagram.nodes j).value)
  exact_achieved j e =
      achieved j (exact_whole (items q) (settings_of q m) q.kind (start q) o ran q.problem.page (small_profits q.problem a) (few_items q.problem a) valid j e)

  pub restricted_achieved : q.mode ≡ restricted → (j : ℕ) → o.best ≡ at j → Achieved q.problem q.given (padded (path_to q.given.path o.diagram j)) (number (node_at o.diagram.nodes j).value)
  restricted_achieved h j e =
      achieved j (best_whole (items q) (settings_of q m) q.kind (start q) o ran q.problem.page (small_profits q.problem a) (few_items q.problem a) valid j (inl (λ z. let y : ◌≡◌ {A = ℕ} 0 1 = cc (mode_is) in omega arith)) e)

  -- ---- values that aren't missed

  -- no sum saturates
  pub most_small : most (items q) (start q) ≤ 128000000
  unfolding most
  most_small =
      omega (arith, sum_small (items q) (small_profits q.problem a) (start q).path, completion_small (items q) (small_profits q.problem a) (few_items q.problem a) (root_row (start q)), completion_is (items q) (start q), valid.long, valid.deep, few_items q.problem a)

  -- a run that is exact or isn't restricted finds every value above the bound that the record is worth
  pub finds : (q.mode ≡ restricted → o.exact ≡ true) → (x : ℕ) → word q.lower < x → x ≤ mid + most (items q) (start q) → Tops o.diagram.nodes x o.best
  finds exact x hb hx = by_mode (settings_of q m).mode refl
    where
      worth : x ≤ worth_of (items q) (start q)
      worth = omega (arith, worth_is (items q) q.problem.page (start q) valid)

      below : (settings_of q m).lower < x
      below = omega (arith, (settings_are q m).1)

      full : (settings_of q m).mode ≢ restricted → Tops o.diagram.nodes x o.best
      full f = value_least (items q) (settings_of q m) q.kind (start q) o ran x f below (omega (arith, most_small)) worth

      unsquashed_finds : (settings_of q m).mode ≡ restricted → Tops o.diagram.nodes x o.best
      unsquashed_finds e =
          let d = ran.tables in
          let rows : o.diagram.nodes ≡ d.nodes = ap (λ (z : Outcome). z.diagram.nodes) ran.is_outcome ∙ ap (λ (w : Mode). (outcome w q.kind d).diagram.nodes) e ∙ restricted_rows q.kind d in
          let ex : is_exact (settings_of q m).mode d ≡ true = sym exact_is ∙ exact (sym mode_is ∙ e) in
          let f = tables_hold (items q) (settings_of q m) q.kind (start q) o _ ran (unsquashed_finished (items q) (settings_of q m) (start q) e) (unwalked_exact (settings_of q m).mode d e ex) in
          let t = top_is d x (finished_ends (items q) (settings_of q m).lower (root_row (start q)) d x f (root_lives (start q)) below (omega (arith, most_small)) (omega (arith, root_worth (items q) (start q), worth))) in
          record { row = t.row; is_row = best_is ∙ t.is_row; least = subst (λ (ns : List Node). x ≤ (node_at ns t.row).value) (sym rows) t.least }

      by_mode : (w : Mode) → (settings_of q m).mode ≡ w → Tops o.diagram.nodes x o.best
      by_mode exactly e = full (λ z. let y : ◌≡◌ {A = ℕ} 0 1 = cc in omega arith)
      by_mode restricted e = unsquashed_finds e
      by_mode relaxing e = full (λ z. let y : ◌≡◌ {A = ℕ} 0 1 = cc in omega arith)

  -- ---- exact outcomes

  pub same_best : o.exact ≡ true → o.best_exact ≡ o.best
  same_best e = best_exact_is ∙ exact_same_best (settings_of q m).mode ran.tables ran.sane.exact.before (sym exact_is ∙ e) ∙ sym best_is

  pub exact_mode : q.mode ≡ exactly → o.exact ≡ true
  exact_mode e =
      exact_is ∙ never_squashed_is_exact (settings_of q m).mode ran.tables (tables_hold (items q) (settings_of q m) q.kind (start q) o _ ran (exact_unsquashed (items q) (settings_of q m) (start q) (mode_is ∙ e)))

  -- with an item left, a best value is above the lower bound
  pub found_above : (j : ℕ) → q.given.depth < item_count q.problem → o.best ≡ at j → word q.lower < (node_at o.diagram.nodes j).value
  found_above j h e =
      let left : (start q).depth < length (items q) = omega (arith, (record_are q.given).0, count_is q.problem a) in
      let t = best_terminal ran.tables j (sym best_is ∙ e) in
      let b = tables_hold (items q) (settings_of q m) q.kind (start q) o _ ran (grown_beatable (items q) (settings_of q m) (start q) left) (omega (arith, t)) in
      omega (arith, (settings_are q m).1, value_above (items q) (settings_of q m) q.kind (start q) o ran j b left e)

  -- without one, the record's own value is found
  pub found_own : q.given.depth ≡ item_count q.problem → (o.best ≡ at 0) × ((node_at o.diagram.nodes 0).value ≡ word q.given.value)
  found_own h =
      let none_left : drop (start q).depth (items q) ≡ [] = drop_of_length-le (items q) {i = (start q).depth} (omega (arith, (record_are q.given).0, count_is q.problem a)) in
      let z = value_own (items q) (settings_of q m) q.kind (start q) o ran none_left in
      (z.0, z.1 ∙ (record_are q.given).1)

  -- ---- drained records of a relaxed run

  pub drained_is_valid : q.mode ≡ relaxing → (r : Record) → Memᴰ r (drained q.given.path o) → ValidRecord (items q) q.problem.page r × (q.given.depth < r.depth)
  unfolding record_of run_of
  drained_is_valid e r i =
      run_drains (items q) (small_profits q.problem a) (few_items q.problem a) (settings_of q m) (mode_is ∙ e) q.kind (start q) o runs q.problem.page valid r i

  -- In any mode: a drained record's path has room, and its value is an i64.
  pub drained_fits : (r : Record) → Memᴰ r (drained q.given.path o) → (length r.path ≤ path_room) × (r.value ≤ top)
  drained_fits r i = by_mode q.mode refl
    where
      none : q.mode ≢ relaxing → (length r.path ≤ path_room) × (r.value ≤ top)
      none h =
          let e = nothing_drained q.given.path o (ap (λ (z : Outcome). z.cutset) ran.is_outcome ∙ no_cutset_lem (settings_of q m).mode q.kind ran.tables (λ z. h (sym mode_is ∙ z))) in
          absurd (Memᴰ.not-nil (subst (λ (l : List Record). Memᴰ r l) e i))

      by_mode : (w : Mode) → q.mode ≡ w → (length r.path ≤ path_room) × (r.value ≤ top)
      by_mode exactly e = none (λ z. let y : ◌≡◌ {A = ℕ} 0 1 = cc in omega arith)
      by_mode restricted e = none (λ z. let y : ◌≡◌ {A = ℕ} 0 1 = cc in omega arith)
      by_mode relaxing e =
          let z = (drained_is_valid e r i).0 in
          (omega (arith, z.long, z.deep, few_items q.problem a), valid_small (items q) q.problem.page r (small_profits q.problem a) (few_items q.problem a) z)

  pub ensures : q.mode ≡ relaxing → (x : ℕ) → word q.lower < x → x ≤ mid + most (items q) (start q) → Ensures (items q) x q.given.path o
  unfolding record_of run_of
  ensures e x hb hx =
      run_ensures (items q) (small_profits q.problem a) (few_items q.problem a) (settings_of q m) (mode_is ∙ e) q.kind (start q) o runs x (omega (arith, (settings_are q m).1)) (omega (arith, most_small)) (omega (arith, worth_is (items q) q.problem.page (start q) valid))

-- ---- a drained record's bound is at most the best value

pub record AtMostBest (o : Outcome) (r : Record) : Type 0 where
  pub row : ℕ
  pub is_best : o.best ≡ at row
  pub bounded : r.bound ≤ (node_at o.diagram.nodes row).value
  pub is_word : r.bound ≤ top

least_of : (pre : List ℕ) (d : Diagram) (value row : ℕ) → ((drained_record pre d value row).bound ≤ value) × ((drained_record pre d value row).bound ≤ top)
unfolding drained_record drained_bound sat_add
least_of pre d value row = (omega arith, omega arith)

rows_bounded : (pre : List ℕ) (d : Diagram) (value : ℕ) (rows : List ℕ) (r : Record) → Memᴰ r (drain_rows pre d value rows) → (r.bound ≤ value) × (r.bound ≤ top)
unfolding drain_rows
rows_bounded pre d value [] r i = absurd (Memᴰ.not-nil i)
rows_bounded pre d value (j ∷ rows) r i =
    (by_test (λ b. Memᴰ r (cond b (drained_record pre d value j ∷ drain_rows pre d value rows) (drain_rows pre d value rows)) → (r.bound ≤ value) × (r.bound ≤ top)) (node_at d.nodes j).marked
    (λ _ k. ⊎_elim (λ e. rw e (least_of pre d value j)) (λ k. rows_bounded pre d value rows r k) (Memᴰ.cases_cons k))
    (λ _ k. rows_bounded pre d value rows r k)) i

pub drained_bounded : (pre : List ℕ) (o : Outcome) (r : Record) → Memᴰ r (drained pre o) → AtMostBest o r
unfolding drained drain_for
drained_bounded pre o r i = by_best o.best refl i
  where
    by_best : (f : Found) → o.best ≡ f → Memᴰ r (drain_for f pre o) → AtMostBest o r
    by_best nowhere e i = absurd (Memᴰ.not-nil i)
    by_best (at j) e i = let z = rows_bounded pre o.diagram _ o.cutset r i in record { row = j; is_best = e; bounded = z.0; is_word = z.1 }
