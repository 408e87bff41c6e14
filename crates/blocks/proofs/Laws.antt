-- The fast bound of the items from d on, as a loop over the pairs of their weights and profits adds it up.
use Rattle.std.proofs.Common.{ℕ, ◌≡◌, ◌+◌, ◌≤◌, ◌<◌, cond, leb, min, List, length, get_or, drop, refl, sym, ap, ◌∙◌, arith, length-drop}
use Rattle.std.proofs.Math.ListN.{drop_of_length-le}
use Rattle.std.specs.List.{zip}
use Rattle.std.proofs.lemmas.List.{drop_min, get_or-drop, get_or_read}
use Rattle.std.proofs.lemmas.Slice.Zip.{length-zip, get_or-zip}
use borrow.Author.Tests.{le-leb, lt-leb}
use Rattle.knapsack.specs.Items.{items_of, counted}
use Rattle.knapsack.specs.FastBound.{fast_bound}
use Rattle.knapsack.specs.Limits.{InLimits}
use Rattle.knapsack.proofs.FastBound.{fast_bound_at_most_total, fast_bound_none_left}
use Rattle.knapsack.proofs.Limits.{length_items, items_from, total_in_limits}

module _ (ws ps : List ℕ) (limits : InLimits ws ps) (capacity : ℕ) where
  bound_from : (d : ℕ) → d < length ws → fast_bound (drop d (items_of ws ps)) capacity ≡ cond (leb (counted (get_or ws d 0)) capacity) (get_or ps d 0) 0 + fast_bound (drop (d + 1) (items_of ws ps)) capacity
  unfolding fast_bound
  bound_from d h = rw (items_from ws ps d limits.paired h)

  -- the pair that a loop from item d on has behind k others
  module _ (d k w p : ℕ) (t : (k < length (zip (drop d ws) (drop d ps))) × (◌≡◌ {A = ℕ × ℕ} (w, p) (get_or (zip (drop d ws) (drop d ps)) k (w, p)))) where
    in_weights : k < length (drop d ws)
    in_weights = omega (arith, t.0, length-zip (drop d ws) (drop d ps))

    in_profits : k < length (drop d ps)
    in_profits = omega (arith, t.0, length-zip (drop d ws) (drop d ps))

    within : d + k < length ws
    within = omega (arith, in_weights, length-drop d ws)

    pair : ◌≡◌ {A = ℕ × ℕ} (w, p) (get_or ws (d + k) w, get_or ps (d + k) p)
    pair = t.1 ∙ get_or-zip (drop d ws) (drop d ps) k (w, p) in_weights in_profits ∙ rw (get_or-drop d ws k w, get_or-drop d ps k p) refl

    weight : get_or ws (d + k) 0 ≡ w
    weight = sym (get_or_read ws (d + k) w within (ap (λ (x : ℕ × ℕ). x.0) pair) 0)

    profit : get_or ps (d + k) 0 ≡ p
    profit = sym (get_or_read ps (d + k) p (omega (arith, within, limits.paired)) (ap (λ (x : ℕ × ℕ). x.1) pair) 0)

    pub fits_more : counted w ≤ capacity → p + fast_bound (drop (d + (k + 1)) (items_of ws ps)) capacity ≡ fast_bound (drop (d + k) (items_of ws ps)) capacity
    fits_more h = let e : d + (k + 1) ≡ d + k + 1 = omega arith in
        sym (bound_from (d + k) within ∙ rw (weight, profit, le-leb (counted w) capacity h, e) refl)

    pub fits_not : capacity < counted w → fast_bound (drop (d + (k + 1)) (items_of ws ps)) capacity ≡ fast_bound (drop (d + k) (items_of ws ps)) capacity
    fits_not h = let e : d + (k + 1) ≡ d + k + 1 = omega arith in
        sym (bound_from (d + k) within ∙ rw (weight, lt-leb (counted w) capacity h, e) (omega arith))

  -- behind the last item there is as little left as behind all items
  pub bound_begun : (d from : ℕ) → from ≡ min d (length ws) → fast_bound (drop (from + 0) (items_of ws ps)) capacity ≡ fast_bound (drop d (items_of ws ps)) capacity
  bound_begun d from e =
      let at : from + 0 ≡ min d (length (items_of ws ps)) = omega (arith, e, length_items ws ps limits.paired) in
      ap (λ n. fast_bound (drop n (items_of ws ps)) capacity) at ∙ ap (λ left. fast_bound left capacity) (drop_min d (items_of ws ps))

  pub bound_done : (d k : ℕ) → k ≡ length (zip (drop d ws) (drop d ps)) → fast_bound (drop (d + k) (items_of ws ps)) capacity ≡ 0
  bound_done d k e =
      let l : length (items_of ws ps) ≤ d + k = omega (arith, length_items ws ps limits.paired, length-drop d ws, length-drop d ps, length-zip (drop d ws) (drop d ps), limits.paired) in
      rw (drop_of_length-le (items_of ws ps) {i = d + k} l) (fast_bound_none_left capacity)

  pub bound_limit : (d : ℕ) → fast_bound (drop d (items_of ws ps)) capacity ≤ 64000000
  bound_limit d = omega (arith, fast_bound_at_most_total (drop d (items_of ws ps)) capacity, total_in_limits ws ps d limits)
