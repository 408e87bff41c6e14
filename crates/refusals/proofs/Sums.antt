-- The sums of 9 over the rest of a path, as a loop adds them up, and 9's two comparisons as the code makes them.
use Prim.Native.Nat.{ℕ, ◌+◌, ◌-◌, ◌*◌, ◌^◌, ◌≤◌, ◌<◌}
use mathlib.Core.Path.{◌≡◌, refl, sym, ap, ◌∙◌}
use mathlib.Core.Logic.{by_cases}
use mathlib.Core.Bool.{true, false, cond}
use mathlib.Core.List.{List, [], ◌∷◌}
use native.Mathlib.Decide.{ℕ_discrete}
use native.Mathlib.Omega.{arith}
use lib.Dec.{eqb}
use lib.IntN.{ℤ, pos, negsuc, nat_abs}
use mir.Syntax.{w64}
use mir.Val.{SFits}
use Rattle.std.specs.Int.{FitsUnsignedBits}
use lib.ListN.{length, get_or, drop, drop_of_length-le}
use lib.Seq.{drop-cons}
use native.Mathlib.Numerals.{add-one}
use borrow.Author.Tests.{eq-eqb, ne_eqb}
use Rattle.knapsack.specs.Items.{Item, items_of, counted, item_of, is_take}
use Rattle.knapsack.specs.Limits.{InLimits}
use Rattle.knapsack.proofs.Cases.{by_test}
use Rattle.knapsack.proofs.Limits.{item_at, counted_in_limits}
use Rattle.calls.specs.Rows.{taken_weight, taken_profit}
use Rattle.calls.specs.Refusals.{is_natural}

-- the rest of a list from i on: its first number, and the rest behind that
rest : (xs : List ℕ) (i : ℕ) → i < length xs → drop i xs ≡ get_or xs i 0 ∷ drop (i + 1) xs
rest xs i h = rw (add-one, drop-cons xs i 0 h)

module _ (ws ps : List ℕ) (limits : InLimits ws ps) where
  -- what one byte takes and earns
  byte_weighs : (b : ℕ) → cond (is_take b) (counted (get_or ws (item_of b) 0)) 0 ≤ 65536
  byte_weighs b =
      by_test (λ t. cond t (counted (get_or ws (item_of b) 0)) 0 ≤ 65536) (is_take b)
      (λ e. counted_in_limits (get_or ws (item_of b) 0) (limits.light (item_of b)))
      (λ e. omega arith)

  byte_earns : (b : ℕ) → cond (is_take b) (get_or ps (item_of b) 0) 0 ≤ 1000000
  byte_earns b =
      by_test (λ t. cond t (get_or ps (item_of b) 0) 0 ≤ 1000000) (is_take b) (λ e. limits.cheap (item_of b)) (λ e. omega arith)

  weight_cons : (b : ℕ) (bs : List ℕ) → taken_weight (items_of ws ps) (b ∷ bs) ≡ cond (is_take b) (counted (get_or ws (item_of b) 0)) 0 + taken_weight (items_of ws ps) bs
  unfolding taken_weight
  weight_cons b bs = rw (item_at ws ps (item_of b) limits.paired)

  profit_cons : (b : ℕ) (bs : List ℕ) → taken_profit (items_of ws ps) (b ∷ bs) ≡ cond (is_take b) (get_or ps (item_of b) 0) 0 + taken_profit (items_of ws ps) bs
  unfolding taken_profit
  profit_cons b bs = rw (item_at ws ps (item_of b) limits.paired)

  pub weight_limit : (path : List ℕ) → taken_weight (items_of ws ps) path ≤ 65536 * length path
  unfolding taken_weight
  weight_limit [] = omega arith
  weight_limit (b ∷ bs) = omega (arith, weight_cons b bs, byte_weighs b, weight_limit bs)

  pub profit_limit : (path : List ℕ) → taken_profit (items_of ws ps) path ≤ 1000000 * length path
  unfolding taken_profit
  profit_limit [] = omega arith
  profit_limit (b ∷ bs) = omega (arith, profit_cons b bs, byte_earns b, profit_limit bs)

  -- the sums of a path from byte i on: what the byte adds, where it takes its item, and those behind it
  module _ (path : List ℕ) (i : ℕ) (h : i < length path) where
    pub weight_taken : is_take (get_or path i 0) ≡ true → (item weight counts : ℕ) → item ≡ item_of (get_or path i 0) → weight ≡ get_or ws item 0 → counts ≡ counted weight → taken_weight (items_of ws ps) (drop i path) ≡ counts + taken_weight (items_of ws ps) (drop (i + 1) path)
    weight_taken t item weight counts d e f =
        ap (taken_weight (items_of ws ps)) (rest path i h) ∙ weight_cons (get_or path i 0) (drop (i + 1) path) ∙ rw (t, f, e, d) refl

    pub weight_skipped : is_take (get_or path i 0) ≡ false → taken_weight (items_of ws ps) (drop i path) ≡ taken_weight (items_of ws ps) (drop (i + 1) path)
    weight_skipped t = ap (taken_weight (items_of ws ps)) (rest path i h) ∙ weight_cons (get_or path i 0) (drop (i + 1) path) ∙ rw t (omega arith)

    pub profit_taken : is_take (get_or path i 0) ≡ true → (item profit : ℕ) → item ≡ item_of (get_or path i 0) → profit ≡ get_or ps item 0 → taken_profit (items_of ws ps) (drop i path) ≡ profit + taken_profit (items_of ws ps) (drop (i + 1) path)
    profit_taken t item profit d e =
        ap (taken_profit (items_of ws ps)) (rest path i h) ∙ profit_cons (get_or path i 0) (drop (i + 1) path) ∙ rw (t, e, d) refl

    pub profit_skipped : is_take (get_or path i 0) ≡ false → taken_profit (items_of ws ps) (drop i path) ≡ taken_profit (items_of ws ps) (drop (i + 1) path)
    profit_skipped t = ap (taken_profit (items_of ws ps)) (rest path i h) ∙ profit_cons (get_or path i 0) (drop (i + 1) path) ∙ rw t (omega arith)

pub weight_done : (items : List Item) (path : List ℕ) (i : ℕ) → length path ≤ i → taken_weight items (drop i path) ≡ 0
unfolding taken_weight
weight_done items path i h = rw (drop_of_length-le path {i = i} h)

pub profit_done : (items : List Item) (path : List ℕ) (i : ℕ) → length path ≤ i → taken_profit items (drop i path) ≡ 0
unfolding taken_profit
profit_done items path i h = rw (drop_of_length-le path {i = i} h)

-- ---- 9's comparisons

-- equations that hold together test alike
same_eqb : (a b c d : ℕ) → (a ≡ b → c ≡ d) → (c ≡ d → a ≡ b) → eqb a b ≡ eqb c d
same_eqb a b c d f g =
    by_cases (ℕ_discrete a b)
    (λ e. eq-eqb a b e ∙ sym (eq-eqb c d (f e)))
    (λ n. ne_eqb a b n ∙ sym (ne_eqb c d (λ e. n (g e))))

pub page_made : (taken left page : ℕ) → left ≤ page → eqb taken (page - left) ≡ eqb (taken + left) page
page_made taken left page h = same_eqb taken (page - left) (taken + left) page (λ e. omega arith) (λ e. omega arith)

pub page_passed : (taken left page : ℕ) → page < left → false ≡ eqb (taken + left) page
page_passed taken left page h = sym (ne_eqb (taken + left) page (λ e. omega arith))

-- a number that an i64 is, and an i64 that is no number of u64
pub natural_is : (z : ℤ) (m n : ℕ) → FitsUnsignedBits 64 z → m ≡ nat_abs z → eqb m n ≡ is_natural z n
unfolding is_natural
natural_is (pos k) m n h e = ap (λ (x : ℕ). eqb x n) e
natural_is (negsuc k) m n h e = absurd h

pub natural_none : (z : ℤ) (n : ℕ) → SFits w64 z → (FitsUnsignedBits 64 z → ⊥) → false ≡ is_natural z n
unfolding is_natural
natural_none (pos k) n f h = let l : k < 2 ^ 63 = f.sfits in absurd (h (omega arith))
natural_none (negsuc k) n f h = refl
