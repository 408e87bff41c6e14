-- What the theorems leave open of runs that say exact: a restricted run that was never squashed finds what an exact one does, exact mode never squashes, an exact outcome's best node is its best exact node.
use mathlib.Core.Path.{◌≡◌, refl, sym, ap, subst, ◌∙◌}
use mathlib.Core.Bool.{Bool, true, false, cond, ◌||◌}
use mathlib.Core.List.{List, [], ◌∷◌, Memᴰ}
use mathlib.Core.Logic.{◌⊎◌, inl, inr, ⊎_elim}
use Prim.Native.Nat.{ℕ, suc, ◌≤◌, ◌<◌}
use native.Mathlib.Omega.{arith}
use lib.ListN.{length, length-drop}
use borrow.Author.Tests.{ltb-false}
use Rattle.words.specs.I64.{top, sat_add}
use Rattle.knapsack.specs.Items.{Item}
use Rattle.diagram.specs.After1.{terminals, best_of, best_node, exact_path, best_exact_node}
use Rattle.diagram.specs.After2.{never_squashed, is_exact}
use Rattle.diagram.specs.Node.{Node, node_at}
use Rattle.diagram.specs.Record.{Record}
use Rattle.diagram.specs.Rule1.{root_only}
use Rattle.diagram.specs.Rule2.{store, store_empty, store_last, has_rows, grown}
use Rattle.diagram.specs.Rule5.{name_last, with_last}
use Rattle.diagram.specs.Run.{Mode, exactly, restricted, relaxing, Settings}
use Rattle.diagram.specs.Tables.{Range, LastExact, unsquashed, squashed_after, Diagram, with_nodes}
use Rattle.theorems.proofs.Bool.{or_true}
use Rattle.theorems.proofs.Holds.{Holds, holds_map}
use Rattle.theorems.proofs.Move.{trail_later}
use Rattle.theorems.proofs.Arc.{outlook, Layered}
use Rattle.theorems.proofs.Squash.{Settled, Way, untouched, merges, deletes}
use Rattle.theorems.proofs.Growth.{Ready, Step, store_is, Ended, through, died, grown_keeps}
use Rattle.theorems.proofs.Tower.{Built, step_built, Finished, last_finished, empty_finished, root_row, root_built}
use Rattle.theorems.proofs.Exactness.{AllExact, exactly_is_full, stored_fits, empty_fits}
use Rattle.theorems.proofs.Terminals.{terminal_in}

-- ---- the last exact layer: named by a squash, and never forgotten

named_never : (l : LastExact) (ls : List Range) → name_last l ls ≡ unsquashed → ⊥
unfolding name_last
named_never unsquashed [] e = let z : ◌≡◌ {A = ℕ} 0 1 = cc in omega arith
named_never unsquashed (l ∷ ls) e = let z : ◌≡◌ {A = ℕ} 0 1 = cc in omega arith
named_never (squashed_after s) ls e = let z : ◌≡◌ {A = ℕ} 0 1 = cc in omega arith

expanded_last : (items : List Item) (lower k : ℕ) (l : List ℕ) (e f : Diagram) → Layered items lower k l (store e) f → f.last ≡ e.last
expanded_last items lower k l e f y = (trail_later items y.trail).last_is ∙ (store_is e).4

stored_last : (b : Bool) (d : Diagram) → (store_last b d).last ≡ d.last
unfolding store_last
stored_last true d = refl
stored_last false d = refl

empty_last : (d : Diagram) → (store_empty d).last ≡ d.last
unfolding store_empty
empty_last d = refl

root_last : (r : Record) → (root_only r).last ≡ unsquashed
unfolding root_only
root_last r = refl

-- ---- a step of a restricted run that squashes nothing is a step of an exact one

untouched_settled : (k : ℕ) (d : Diagram) (l : List ℕ) → Settled restricted k d d l → Settled exactly k d d l
untouched_settled k d l z =
    record { begins = z.begins; layers_are = z.layers_are; old = z.old; longer = z.longer; more = z.more; edges_are = z.edges_are; deps = z.deps; within = z.within; lives = z.lives; arcs = λ _ s c capacity h a. a }

as_exact : (items : List Item) (lower k : ℕ) (d e f : Diagram) (l : List ℕ) → k < length items → Settled restricted k d e l → Way restricted k d e → Layered items lower k l (store e) f → f.last ≡ unsquashed → (d.last ≡ unsquashed) × Step items lower exactly k d f
unfolding with_nodes with_last
as_exact items lower k d e f l h z untouched y q = (
  sym (expanded_last items lower k l d f y) ∙ q,
  record { deep = h; after = d; order = l; squash = untouched_settled k d l z; way = untouched; layer = y },
)
as_exact items lower k d e f l h z (merges m n w) y q = let c : ◌≡◌ {A = ℕ} 0 1 = cc in absurd (omega arith)
as_exact items lower k d e f l h z (deletes rest m i) y q = absurd (named_never d.last d.layers (sym (expanded_last items lower k l _ f y) ∙ q))

-- so the tower is built in a restricted run too, as long as nothing is squashed
record BuiltIf (items : List Item) (lower : ℕ) (r₀ : Node) (k : ℕ) (d : Diagram) : Type 0 where
  built : d.last ≡ unsquashed → Built items lower r₀ k d

step_built_if : (items : List Item) (lower : ℕ) (r₀ : Node) (k : ℕ) (d f : Diagram) → Ready k d → Step items lower restricted k d f → BuiltIf items lower r₀ k d → BuiltIf items lower r₀ (suc k) f
step_built_if items lower r₀ k d f g t w =
    record { built = λ q. let x = as_exact items lower k d t.after f t.order t.deep t.squash t.way t.layer q in step_built items lower r₀ exactly exactly_is_full k d f g x.1 (w.built x.0) }

ended_built : (items : List Item) (lower : ℕ) (r₀ : Node) (e : Diagram) → Ended items (BuiltIf items lower r₀) e → e.last ≡ unsquashed → Finished items lower r₀ e
unfolding has_rows
ended_built items lower r₀ e (through k d z g p) q = last_finished (has_rows d) items lower r₀ k d refl z g (p.built (sym (stored_last (has_rows d) d) ∙ q))
ended_built items lower r₀ e (died k d z g p) q = empty_finished items lower r₀ k d z g (p.built (sym (empty_last d) ∙ q))

-- A restricted run that was never squashed leaves finished tables.
pub unsquashed_finished : (items : List Item) (opts : Settings) (r : Record) → opts.mode ≡ restricted → Holds (λ e. e.last ≡ unsquashed → Finished items opts.lower (root_row r) e) (grown opts items r)
unsquashed_finished items opts r m =
    holds_map (λ e z. ended_built items opts.lower (root_row r) e z)
    (grown_keeps items opts (BuiltIf items opts.lower (root_row r))
    (λ k d f g t w. step_built_if items opts.lower (root_row r) k d f g (subst (λ (x : Mode). Step items opts.lower x k d f) m t) w) r
    (record { built = λ _. root_built items opts.lower r }))

-- ---- exact mode squashes nothing

exact_way : (k : ℕ) (d e : Diagram) → Way exactly k d e → e.last ≡ d.last
exact_way k d e untouched = refl
exact_way k d e (merges m n w) = let c : ◌≡◌ {A = ℕ} 0 1 = cc in absurd (omega arith)
exact_way k d e (deletes rest m i) = let c : ◌≡◌ {A = ℕ} 0 1 = cc in absurd (omega arith)

record Untouched (k : ℕ) (d : Diagram) : Type 0 where
  last_is : d.last ≡ unsquashed

ended_untouched : (items : List Item) (e : Diagram) → Ended items Untouched e → e.last ≡ unsquashed
ended_untouched items e (through k d z g p) = stored_last (has_rows d) d ∙ p.last_is
ended_untouched items e (died k d z g p) = empty_last d ∙ p.last_is

pub exact_unsquashed : (items : List Item) (opts : Settings) (r : Record) → opts.mode ≡ exactly → Holds (λ e. e.last ≡ unsquashed) (grown opts items r)
exact_unsquashed items opts r m =
    holds_map (λ e z. ended_untouched items e z)
    (grown_keeps items opts Untouched
    (λ k d f g t w. record { last_is = expanded_last items opts.lower k t.order t.after f t.layer ∙ exact_way k d t.after (subst (λ (x : Mode). Way x k d t.after) m t.way) ∙ w.last_is }) r
    (record { last_is = root_last r }))

-- ---- a lower bound of i64 maximum: nothing is branched

outlook_top : (items : List Item) (n : Node) → outlook items n ≤ top
unfolding outlook sat_add
outlook_top items n = omega arith

record Beatable (lower d₀ k : ℕ) (d : Diagram) : Type 0 where
  beatable : d₀ < k → d.start < length d.nodes → lower < top

step_beatable : (items : List Item) (lower : ℕ) (md : Mode) (k : ℕ) (d f : Diagram) → Step items lower md k d f → f.start < length f.nodes → lower < top
step_beatable items lower md k d f t h =
    let s = store_is t.after in
    let w = t.layer.made (omega (arith, (trail_later items t.layer.trail).begins, s.2, ap (length {A = Node}) s.0)) in
    omega (arith, w.seen, outlook_top items (node_at f.nodes w.row))

ended_beatable : (items : List Item) (lower d₀ : ℕ) (e : Diagram) → d₀ < length items → Ended items (Beatable lower d₀) e → e.start < length e.nodes → lower < top
unfolding has_rows
ended_beatable items lower d₀ e hd (through k d z g p) h =
    let i = stored_fits (has_rows d) d in
    p.beatable (omega (arith, length-drop k items, ap (length {A = Item}) z)) (omega (arith, i.0, ap (length {A = Node}) i.1))
ended_beatable items lower d₀ e hd (died k d z g p) h =
    let i = empty_fits d in
    absurd (omega (arith, i.0, ap (length {A = Node}) i.1, ltb-false d.start (length d.nodes) z))

-- A finished run of a record with an item left, if it has a terminal at all, has a lower bound below i64 maximum.
pub grown_beatable : (items : List Item) (opts : Settings) (r : Record) → r.depth < length items → Holds (λ e. e.start < length e.nodes → opts.lower < top) (grown opts items r)
grown_beatable items opts r hd =
    holds_map (λ e z. ended_beatable items opts.lower r.depth e hd z)
    (grown_keeps items opts (Beatable opts.lower r.depth) (λ k d f g t w. record { beatable = λ _ h. step_beatable items opts.lower opts.mode k d f t h }) r
    (record { beatable = λ z. absurd (omega arith) }))

-- ---- an exact outcome

-- why a diagram is exact
pub exact_because : (m : Mode) (d : Diagram) → is_exact m d ≡ true → (d.last ≡ unsquashed) ⊎ (exact_path m d ≡ true)
unfolding is_exact never_squashed
exact_because m d e = ⊎_elim (λ n. inl (never d.last n)) (λ x. inr x) (or_true (never_squashed d.last) (exact_path m d) e)
  where
    never : (l : LastExact) → never_squashed l ≡ true → l ≡ unsquashed
    never unsquashed q = refl
    never (squashed_after s) q = let z : ◌≡◌ {A = ℕ} 0 1 = cc in absurd (omega arith)

-- without a walk: because nothing was squashed
pub unwalked_exact : (m : Mode) (d : Diagram) → m ≡ restricted → is_exact m d ≡ true → d.last ≡ unsquashed
unfolding exact_path
unwalked_exact m d q e = ⊎_elim (λ u. u) (λ x. absurd (no_walk m q x)) (exact_because m d e)
  where
    no_walk : (w : Mode) → w ≡ restricted → exact_path w d ≡ true → ⊥
    no_walk exactly c x = let z : ◌≡◌ {A = ℕ} 0 1 = cc in omega arith
    no_walk restricted c x = let z : ◌≡◌ {A = ℕ} 0 1 = cc in omega arith
    no_walk relaxing c x = let z : ◌≡◌ {A = ℕ} 0 1 = cc in omega arith

pub never_squashed_is_exact : (m : Mode) (d : Diagram) → d.last ≡ unsquashed → is_exact m d ≡ true
unfolding is_exact never_squashed
never_squashed_is_exact m d e = ap (λ (l : LastExact). never_squashed l || exact_path m d) e

-- among exact rows only, the best exact one is the best one
best_of_exact : (ns : List Node) (rs : List ℕ) → ((r : ℕ) → Memᴰ r rs → (node_at ns r).exact ≡ true) → best_of (λ n. n.exact) ns rs ≡ best_of (λ n. true) ns rs
unfolding best_of
best_of_exact ns [] h = refl
best_of_exact ns (r ∷ rs) h = rw (h r (Memᴰ.head refl), best_of_exact ns rs (λ q m. h q (Memᴰ.tail m)))

cond_same : {A : Type 0} (b : Bool) (x y : A) → y ≡ x → cond b x y ≡ x
cond_same true x y e = refl
cond_same false x y e = e

-- The best exact node of an exact diagram is its best node.
pub exact_same_best : (m : Mode) (d : Diagram) → (d.last ≡ unsquashed → AllExact d) → is_exact m d ≡ true → best_exact_node m d ≡ best_node d
unfolding best_exact_node best_node
exact_same_best m d before e =
    ⊎_elim
    (λ u. cond_same (exact_path m d) (best_node d) _ (best_of_exact d.nodes (terminals d) (λ r i. before u r (terminal_in d r i).1)))
    (λ x. ap (λ (b : Bool). cond b (best_node d) (best_of (λ n. n.exact) d.nodes (terminals d))) x)
    (exact_because m d e)
