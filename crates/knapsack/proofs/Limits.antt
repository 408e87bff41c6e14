-- The laws of items given as two lists: how many there are, which one stands where, and how much they weigh and earn within the limits.
use Prim.Native.Nat.{ℕ, zero, suc, ◌+◌, ◌*◌, ◌≤◌, ◌<◌}
use mathlib.Core.Path.{◌≡◌, refl, ap}
use mathlib.Core.List.{List, [], ◌∷◌}
use native.Mathlib.Omega.{arith}
use native.Mathlib.Numerals.{add-one}
use lib.ListN.{length, get_or, drop}
use lib.Seq.{drop-cons}
use Rattle.knapsack.specs.Items.{Item, no_item, items_of, counted}
use Rattle.knapsack.specs.FastBound.{total_profit}
use Rattle.knapsack.specs.Limits.{InLimits}

pub length_items : (ws ps : List ℕ) → length ws ≡ length ps → length (items_of ws ps) ≡ length ws
unfolding items_of
length_items [] ps e = refl
length_items (w ∷ ws) [] e = absurd (omega arith)
length_items (w ∷ ws) (p ∷ ps) e = ap suc (length_items ws ps (omega arith))

-- item d has weight d and profit d; past the end both are 0
pub item_at : (ws ps : List ℕ) (d : ℕ) → length ws ≡ length ps → get_or (items_of ws ps) d no_item ≡ record { weight = get_or ws d 0; profit = get_or ps d 0 }
unfolding items_of
item_at [] [] d e = refl
item_at [] (p ∷ ps) d e = absurd (omega arith)
item_at (w ∷ ws) [] d e = absurd (omega arith)
item_at (w ∷ ws) (p ∷ ps) zero e = refl
item_at (w ∷ ws) (p ∷ ps) (suc d) e = item_at ws ps d (omega arith)

-- the items from d on: item d, and the items behind it
pub items_from : (ws ps : List ℕ) (d : ℕ) → length ws ≡ length ps → d < length ws → drop d (items_of ws ps) ≡ record { weight = get_or ws d 0; profit = get_or ps d 0 } ∷ drop (d + 1) (items_of ws ps)
items_from ws ps d e h =
    let l : d < length (items_of ws ps) = omega (arith, length_items ws ps e) in
    rw (add-one, drop-cons (items_of ws ps) d no_item l, item_at ws ps d e)

-- a limit for each profit is one for their sum
total_limit : (ws ps : List ℕ) → ((d : ℕ) → get_or ps d 0 ≤ 1000000) → total_profit (items_of ws ps) ≤ 1000000 * length ws
unfolding items_of total_profit
total_limit [] ps h = omega arith
total_limit (w ∷ ws) [] h = omega arith
total_limit (w ∷ ws) (p ∷ ps) h = omega (arith, h 0, total_limit ws ps (λ d. h (suc d)))

drop_less : (is : List Item) (d : ℕ) → total_profit (drop d is) ≤ total_profit is
unfolding total_profit
drop_less is zero = omega arith
drop_less [] (suc d) = omega arith
drop_less (i ∷ is) (suc d) = omega (arith, drop_less is d)

-- at most 64 profits of at most 1,000,000
pub total_in_limits : (ws ps : List ℕ) (d : ℕ) → InLimits ws ps → total_profit (drop d (items_of ws ps)) ≤ 64000000
total_in_limits ws ps d h = omega (arith, drop_less (items_of ws ps) d, total_limit ws ps h.cheap, h.few)

-- a weight in its limit counts for 65,536 at most: sums of 64 of them stay small, and a rule that rounds weights up has room
pub counted_in_limits : (w : ℕ) → w ≤ 65535 → counted w ≤ 65536
unfolding counted
counted_in_limits w h = omega arith
