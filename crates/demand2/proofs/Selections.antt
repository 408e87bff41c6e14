-- Selections and paths: the selection that a path says, what a record's path leaves to its completions, a whole path as a selection that fits the page, and the record's optimum.
use mathlib.Core.Path.{◌≡◌, refl, sym, ap, subst, subst₂, ◌∙◌}
use mathlib.Core.Bool.{Bool, false}
use mathlib.Core.List.Memᴰ
use mathlib.Core.List.{List, [], ◌∷◌, ◌++◌, Memᴰ}
use Prim.Native.Nat.{ℕ, zero, suc, ◌+◌, ◌-◌, ◌≤◌, ◌<◌}
use native.Mathlib.Omega.{arith}
use lib.Dec.{eqb, ltb}
use lib.IntN.{ℤ, pos}
use lib.ListN.{length, get_or, take, drop, replicate, length-append, length-drop, get_or-append}
use lib.Signed.{◌≤ℤ◌}
use lib.Seq.{take_at, drop_at, drop-length}
use borrow.Author.Tests.{eqb-true, eqb-false, eq-eqb, ltb-true, ltb-false}
use Rattle.words.specs.I64.{mid, number}
use Rattle.knapsack.specs.Items.{Item, counted, item_of, is_take}
use Rattle.knapsack.specs.Knapsack.{weight_of, profit_of, SelectionFits, Optimum}
use Rattle.knapsack.specs.Best.{best}
use Rattle.knapsack.proofs.Best.{best_is_earned, best_is_most}
use Rattle.knapsack.proofs.Cases.{by_test}
use Rattle.diagram.specs.Record.{Record, path_room, padded}
use Rattle.calls.specs.Asked.{Problem, Given, record_of}
use Rattle.calls.specs.Rows.{namings}
use Rattle.theorems.proofs.Path.{sum_taken, times_named, named_is, names_none, Valid as ValidRecord}
use Rattle.theorems.proofs.Steps.{worth_of}
use Rattle.theorems.proofs.Whole.{takes_item, Whole}
use Rattle.call_laws.proofs.Accepted.{same_namings}
use Rattle.demand2.specs.Records.{items_in, item_count, Allowed, Valid, Keeps, RecordOptimum, decisions, Achieved}
use Rattle.demand2.proofs.Numbers.{number_natural, at_most_natural, natural_at_most}
use Rattle.demand2.proofs.Accepted.{count_is, valid_record}
use Rattle.demand2.proofs.Sums.{total, weight_total, profit_total, total_split, path_sum}

-- ---- the selection that a path says

-- of the n items from item k on
unfoldable said : ℕ → ℕ → List ℕ → List Bool
said k zero p = []
said k (suc n) p = takes_item k p ∷ said (suc k) n p

said_length : (k n : ℕ) (p : List ℕ) → length (said k n p) ≡ n
unfolding said
said_length k zero p = refl
said_length k (suc n) p = ap suc (said_length (suc k) n p)

said_at : (k n : ℕ) (p : List ℕ) (j : ℕ) → j < n → get_or (said k n p) j false ≡ takes_item (k + j) p
unfolding said
said_at k zero p j h = absurd (omega arith)
said_at k (suc n) p zero h = let e : k + 0 ≡ k = omega arith in rw e
said_at k (suc n) p (suc j) h = let e : k + suc j ≡ suc k + j = omega arith in rw e (said_at (suc k) n p j (omega arith))

-- a byte of a path names its item
named_by : (b : ℕ) (p : List ℕ) → Memᴰ b p → 1 ≤ times_named (item_of b) p
unfolding times_named
named_by b p (Memᴰ.head {x = c} {xs = rest} e) = omega (arith, (named_is (item_of b) c (item_of c) refl).0 (ap item_of e))
named_by b p (Memᴰ.tail {x = c} {xs = rest} m) = omega (arith, named_by b rest m)

-- and is the byte that says whether it is taken, if the item is named once
byte_says : (b : ℕ) (p : List ℕ) → Memᴰ b p → times_named (item_of b) p ≡ 1 → takes_item (item_of b) p ≡ is_take b
unfolding times_named takes_item
byte_says b p (Memᴰ.head {x = c} {xs = rest} e) h = rw (eq-eqb (item_of c) (item_of b) (ap item_of (sym e))) (ap is_take (sym e))
byte_says b p (Memᴰ.tail {x = c} {xs = rest} m) h =
    by_test (λ _. takes_item (item_of b) (c ∷ rest) ≡ is_take b) (eqb (item_of c) (item_of b))
    (λ t. absurd (omega (arith, (named_is (item_of b) c (item_of c) refl).0 (sym (eqb-true (item_of c) (item_of b) t)), named_by b rest m)))
    (λ t. let e = eqb-false (item_of c) (item_of b) t in rw t (byte_says b rest m (omega (arith, (named_is (item_of b) c (item_of c) refl).1 (λ q. e (sym q))))))

-- A path that names each of the first n items once, and no other, is kept by what it says of them, whatever is said of the rest.
said_keeps : (n : ℕ) (p : List ℕ) (rest : List Bool) → ((k : ℕ) → k < n → times_named k p ≡ 1) → ((k : ℕ) → n ≤ k → times_named k p ≡ 0) → Keeps p (said 0 n p ++ rest)
said_keeps n p rest once none b m =
    let below : item_of b < n = by_test (λ _. item_of b < n) (ltb (item_of b) n) (λ t. ltb-true _ _ t) (λ t. absurd (omega (arith, none (item_of b) (ltb-false _ _ t), named_by b p m))) in
    let z : 0 + item_of b ≡ item_of b = omega arith in
    get_or-append (said 0 n p) rest false (item_of b) (omega (arith, said_length 0 n p))
    ∙ said_at 0 n p (item_of b) below
    ∙ ap (λ (k : ℕ). takes_item k p) z
    ∙ byte_says b p m (once (item_of b) below)

-- ---- a valid record: what its path takes, and what is left to a completion

-- the most that a selection earns that keeps the record's path
unfoldable pub most : List Item → Record → ℕ
most items r = sum_taken (λ i. i.profit) items r.path + best (drop r.depth items) r.capacity

pub worth_is : (items : List Item) (page : ℕ) (r : Record) → ValidRecord items page r → worth_of items r ≡ mid + most items r
unfolding worth_of most
worth_is items page r v = omega (arith, v.profits)

module _ (items : List Item) (page : ℕ) (r : Record) (v : ValidRecord items page r) where
  -- a selection that keeps the path, item by item and from the record's depth on
  parts : (f : Item → ℕ) (sel : List Bool) → length sel ≡ length items → Keeps r.path sel → total f items sel ≡ sum_taken f items r.path + total f (drop r.depth items) (drop r.depth sel)
  parts f sel l keeps =
      total_split f items sel r.depth v.deep l
      ∙ ap (λ (s : ℕ). s + total f (drop r.depth items) (drop r.depth sel)) (sym (path_sum f items sel r.depth r.path v.once (names_none items page r v) keeps))

  weight_parts : (sel : List Bool) → length sel ≡ length items → Keeps r.path sel → weight_of items sel ≡ sum_taken (λ i. counted i.weight) items r.path + weight_of (drop r.depth items) (drop r.depth sel)
  weight_parts sel l keeps =
      rw (weight_total items sel, weight_total (drop r.depth items) (drop r.depth sel)) (parts (λ i. counted i.weight) sel l keeps)

  profit_parts : (sel : List Bool) → length sel ≡ length items → Keeps r.path sel → profit_of items sel ≡ sum_taken (λ i. i.profit) items r.path + profit_of (drop r.depth items) (drop r.depth sel)
  profit_parts sel l keeps =
      rw (profit_total items sel, profit_total (drop r.depth items) (drop r.depth sel)) (parts (λ i. i.profit) sel l keeps)

  -- no selection that fits and keeps the path earns more
  pub kept_most : (sel : List Bool) → SelectionFits items page sel → Keeps r.path sel → profit_of items sel ≤ most items r
  unfolding most
  kept_most sel fits keeps =
      let rest = drop r.depth sel in
      let w = weight_parts sel fits.each_item keeps in
      let b = best_is_most (drop r.depth items) r.capacity rest
      (record { each_item = rw (length-drop r.depth sel, length-drop r.depth items, fits.each_item); in_capacity = omega (arith, v.weights, fits.in_capacity) }) in
      omega (arith, profit_parts sel fits.each_item keeps)

  -- and one earns it: what the path says, and then the best completion
  best_kept : List Bool
  best_kept = said 0 r.depth r.path ++ (best_is_earned (drop r.depth items) r.capacity).selection

  best_keeps : Keeps r.path best_kept
  unfolding best_kept
  best_keeps = said_keeps r.depth r.path _ v.once (names_none items page r v)

  best_length : length best_kept ≡ length items
  unfolding best_kept
  best_length =
      let e = best_is_earned (drop r.depth items) r.capacity in
      omega (arith, length-append (said 0 r.depth r.path) e.selection, said_length 0 r.depth r.path, e.fits.each_item, length-drop r.depth items, v.deep)

  best_rest : drop r.depth best_kept ≡ (best_is_earned (drop r.depth items) r.capacity).selection
  unfolding best_kept
  best_rest = drop_at (said 0 r.depth r.path) _ r.depth (said_length 0 r.depth r.path)

  best_fits : SelectionFits items page best_kept
  best_fits =
      let e = best_is_earned (drop r.depth items) r.capacity in
      let w = weight_parts best_kept best_length best_keeps in
      let z = ap (weight_of (drop r.depth items)) best_rest in
      record { each_item = best_length; in_capacity = omega (arith, e.fits.in_capacity, v.weights) }

  best_earns : profit_of items best_kept ≡ most items r
  unfolding most
  best_earns =
      let e = best_is_earned (drop r.depth items) r.capacity in
      let z = ap (profit_of (drop r.depth items)) best_rest in
      omega (arith, profit_parts best_kept best_length best_keeps, e.earns)

-- ---- the record's optimum

pub optimum_is_most : (p : Problem) (g : Given) → Allowed p → Valid p g → RecordOptimum p g (pos (most (items_in p) (record_of g)))
unfolding record_of
optimum_is_most p g a v =
    let w = valid_record p g a v in
    let items = items_in p in
    record {
      selection = best_kept items p.page (record_of g) w;
      completes = record { fits = best_fits items p.page (record_of g) w; keeps = best_keeps items p.page (record_of g) w };
      earned = ap pos (best_earns items p.page (record_of g) w);
      most = λ other c. at_most_natural _ _ (kept_most items p.page (record_of g) w other c.fits c.keeps);
    }

-- there is no other
pub optimum_is : (p : Problem) (g : Given) (x : ℤ) → Allowed p → Valid p g → RecordOptimum p g x → pos (most (items_in p) (record_of g)) ≡ x
optimum_is p g x a v o =
    let n = optimum_is_most p g a v in
    let k = profit_of (items_in p) o.selection in
    let up : k ≤ most (items_in p) (record_of g) = natural_at_most _ _ (n.most o.selection o.completes) in
    let down : pos (most (items_in p) (record_of g)) ≤ℤ pos k = subst₂ (λ (s t : ℤ). s ≤ℤ t) n.earned (sym o.earned) (o.most n.selection n.completes) in
    let e : most (items_in p) (record_of g) ≡ k = omega (arith, natural_at_most _ _ down) in
    ap pos e ∙ o.earned

-- of a record without a decision it is the public optimum
pub root_optimum : (p : Problem) (g : Given) (x : ℕ) → g.path ≡ [] → Optimum (items_in p) p.page x → RecordOptimum p g (pos x)
root_optimum p g x e o =
    record {
      selection = o.earned.selection;
      completes = record { fits = o.earned.fits; keeps = λ b i. absurd (Memᴰ.not-nil (subst (λ (l : List ℕ). Memᴰ b l) e i)) };
      earned = ap pos o.earned.earns;
      most = λ other c. at_most_natural _ _ (o.most other c.fits);
    }

-- ---- a whole path is a selection that fits the page

padded_take : (path : List ℕ) (n : ℕ) → length path ≡ n → take n (padded path) ≡ path
unfolding padded
padded_take path n h = take_at path (replicate (path_room - length path) 0) n h

none_left : (items : List Item) (sel : List Bool) → (weight_of (drop (length items) items) sel ≡ 0) × (profit_of (drop (length items) items) sel ≡ 0)
unfolding weight_of profit_of
none_left items sel = (rw (drop-length items), rw (drop-length items))

pub whole_achieved : (p : Problem) (g : Given) (v : ℕ) (path : List ℕ) → Allowed p → ((b : ℕ) → Memᴰ b g.path → Memᴰ b path) → Whole (items_in p) p.page v path → Achieved p g (padded path) (number v)
whole_achieved p g v path a holds w =
    let items = items_in p in
    let r = w.valid in
    let n = length items in
    let count = count_is p a in
    let sel = said 0 n path ++ [] in
    let keeps : Keeps path sel = said_keeps n path [] r.once (names_none items p.page _ r) in
    let long : length sel ≡ length items = omega (arith, length-append (said 0 n path) [], said_length 0 n path) in
    let read : decisions p (padded path) ≡ path = padded_take path (item_count p) (r.long ∙ count) in
    let weight = weight_parts items p.page _ r sel long keeps in
    let profit = profit_parts items p.page _ r sel long keeps in
    let value : mid + profit_of items sel ≡ v = omega (arith, none_left items (drop n sel), r.profits) in
    record {
      selection = sel;
      names_each_once = λ d h. ap (namings d) read ∙ same_namings d path ∙ r.once d (omega arith);
      says = subst (λ (l : List ℕ). Keeps l sel) (sym read) keeps;
      completes = record { fits = record { each_item = long; in_capacity = omega (arith, none_left items (drop n sel), r.weights) }; keeps = λ b m. keeps b (holds b m) };
      earned = sym (number_natural (profit_of items sel)) ∙ ap number value;
    }
