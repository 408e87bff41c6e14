-- A relaxed run of a valid record: its best exact value is x at least, or a drained record leads to x; every drained record is valid and strictly deeper.
use mathlib.Core.Path.{◌≡◌, refl, sym, ap, subst, ◌∙◌}
use mathlib.Core.Bool.{false, ◌||◌}
use mathlib.Core.List.{List, Memᴰ}
use mathlib.Core.Logic.{⊎_elim}
use Prim.Native.Nat.{ℕ, ◌≤◌, ◌<◌}
use native.Mathlib.Omega.{arith}
use lib.ListN.{length, get_or}
use Rattle.words.specs.I64.{top}
use Rattle.knapsack.specs.Items.{Item, no_item}
use Rattle.knapsack.proofs.Cases.{by_test}
use Rattle.diagram.specs.After1.{exact_path}
use Rattle.diagram.specs.After2.{never_squashed}
use Rattle.diagram.specs.After4.{CutsetKind}
use Rattle.diagram.specs.After6.{Outcome, outcome, drained, finished, run}
use Rattle.diagram.specs.Record.{Record}
use Rattle.diagram.specs.Run.{Mode, relaxing, Settings}
use Rattle.diagram.specs.Tables.{LastExact, unsquashed, squashed_after, Diagram}
use Rattle.theorems.proofs.Tower.{Finished, root_row}
use Rattle.theorems.proofs.Steps.{potential, finished_ends, worth_of, root_worth, root_lives}
use Rattle.theorems.proofs.Exactness.{relaxing_is_full, Sane}
use Rattle.theorems.proofs.Terminals.{Tops}
use Rattle.theorems.proofs.Drain.{LeadsTo, outcome_leads, outcome_exact, exact_ensures}
use Rattle.theorems.proofs.Path.{Valid, valid_small}
use Rattle.theorems.proofs.Drained.{drained_valid, drained_deeper}
use Rattle.theorems.proofs.Above.{completion_small}
use Rattle.theorems.proofs.Runs.{Compiled, compiled}

-- the outcome's best exact value is x at least, or, if it is not exact, a drained record leads to x
pub data Ensures (items : List Item) (x : ℕ) (pre : List ℕ) (o : Outcome) : Type 0 where
  reached : Tops o.diagram.nodes x o.best_exact → Ensures items x pre o
  leads : o.exact ≡ false → LeadsTo items x (drained pre o) → Ensures items x pre o

clash : (k : CutsetKind) (d : Diagram) → (outcome relaxing k d).exact ≡ false → d.last ≡ unsquashed → ⊥
unfolding never_squashed
clash k d q e =
    let z : (never_squashed unsquashed || exact_path relaxing d) ≡ false = ap (λ (l : LastExact). never_squashed l || exact_path relaxing d) (sym e) ∙ sym (outcome_exact k d) ∙ q in
    let y : ◌≡◌ {A = ℕ} 0 1 = cc in omega arith

-- of the tables of a relaxed run
module _ (items : List Item) (small : (i : ℕ) → (get_or items i no_item).profit ≤ 1000000) (l64 : length items ≤ 64) (lower : ℕ) (k : CutsetKind) (r : Record) (d : Diagram) (w : Sane items lower (root_row r) relaxing d) where
  tables_ensure : (x : ℕ) → lower < x → x ≤ top → x ≤ worth_of items r → Ensures items x r.path (outcome relaxing k d)
  tables_ensure x hb ht hx =
      let f = w.finished relaxing_is_full in
      let hx' : x ≤ potential items (root_row r) = omega (arith, root_worth items r) in
      by_test (λ b. (outcome relaxing k d).exact ≡ b → Ensures items x r.path (outcome relaxing k d)) (outcome relaxing k d).exact
      (λ _ q. reached (exact_ensures items (root_row r) k d x w.sound w.exact (finished_ends items lower (root_row r) d x f (root_lives r) hb ht hx') q))
      (λ _ q. squashed_ensures q d.last refl f hx') refl
    where
      squashed_ensures : (outcome relaxing k d).exact ≡ false → (l : LastExact) → d.last ≡ l → Finished items lower (root_row r) d → x ≤ potential items (root_row r) → Ensures items x r.path (outcome relaxing k d)
      squashed_ensures q unsquashed e f hx' = absurd (clash k d q e)
      squashed_ensures q (squashed_after s) e f hx' =
          ⊎_elim (λ t. reached t) (λ t. leads q t)
          (outcome_leads items lower (root_row r) d x s (λ n. omega (arith, completion_small items small l64 n)) hb ht f w.sound (w.exact.last_layer relaxing_is_full) e (root_lives r) hx' k r.path)

  tables_drain : (page : ℕ) → Valid items page r → (r' : Record) → Memᴰ r' (drained r.path (outcome relaxing k d)) → Valid items page r' × (r.depth < r'.depth)
  tables_drain page v r' m = (
    drained_valid items page r d k w.sound (w.exact.last_layer relaxing_is_full) w.fits r' m small l64 v,
    drained_deeper items r r' d k (valid_small items page r small l64 v) w.fits w.sound w.wired w.exact m,
  )

-- a relaxed run, whatever the rest of its settings
module _ (items : List Item) (small : (i : ℕ) → (get_or items i no_item).profit ≤ 1000000) (l64 : length items ≤ 64) (opts : Settings) (relaxed : opts.mode ≡ relaxing) (k : CutsetKind) (r : Record) (o : Outcome) (fin : run opts k items r ≡ finished o) where
  c : Compiled items opts k r o
  c = compiled items opts k r o fin

  is_relaxed : o ≡ outcome relaxing k c.tables
  is_relaxed = c.is_outcome ∙ ap (λ (m : Mode). outcome m k c.tables) relaxed

  sane : Sane items opts.lower (root_row r) relaxing c.tables
  sane = subst (λ (m : Mode). Sane items opts.lower (root_row r) m c.tables) relaxed c.sane

  -- For each x above the lower bound that the record is worth: the best exact value is x at least, or a drained record leads to x.
  pub run_ensures : (x : ℕ) → opts.lower < x → x ≤ top → x ≤ worth_of items r → Ensures items x r.path o
  run_ensures x hb ht hx = subst (λ (z : Outcome). Ensures items x r.path z) (sym is_relaxed) (tables_ensure items small l64 opts.lower k r c.tables sane x hb ht hx)

  -- Each drained record passes the checks 7 to 9 and is strictly deeper.
  pub run_drains : (page : ℕ) → Valid items page r → (r' : Record) → Memᴰ r' (drained r.path o) → Valid items page r' × (r.depth < r'.depth)
  run_drains page v r' m = tables_drain items small l64 opts.lower k r c.tables sane page v r' (subst (λ (z : Outcome). Memᴰ r' (drained r.path z)) is_relaxed m)
