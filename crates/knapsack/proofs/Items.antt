-- The laws of decision bytes: what is written is read back, and every byte takes or skips the item that it names.
use Prim.Native.Nat.{ℕ, ◌%◌}
use mathlib.Core.Path.{◌≡◌}
use mathlib.Core.Logic.{◌⊎◌, inl, inr}
use mathlib.Core.Bool.{true, false}
use native.Mathlib.Omega.{arith}
use borrow.Author.Tests.{eq-eqb, ne_eqb, eqb-true, eqb-false}
use Rattle.knapsack.specs.Items.{takes, skips, item_of, is_take}
use Rattle.knapsack.proofs.Cases.{by_test}

pub item_of_takes : (d : ℕ) → item_of (takes d) ≡ d
unfolding item_of takes
item_of_takes d = omega arith

pub item_of_skips : (d : ℕ) → item_of (skips d) ≡ d
unfolding item_of skips
item_of_skips d = omega arith

pub is_take_takes : (d : ℕ) → is_take (takes d) ≡ true
unfolding is_take takes
is_take_takes d = eq-eqb (takes d % 2) 1 (omega arith)

pub is_take_skips : (d : ℕ) → is_take (skips d) ≡ false
unfolding is_take skips
is_take_skips d = ne_eqb (skips d % 2) 1 (omega arith)

pub byte_takes : (b : ℕ) → is_take b ≡ true → b ≡ takes (item_of b)
unfolding is_take takes item_of
byte_takes b e = omega (arith, eqb-true)

pub byte_skips : (b : ℕ) → is_take b ≡ false → b ≡ skips (item_of b)
unfolding is_take skips item_of
byte_skips b e = omega (arith, eqb-false)

pub byte_takes_or_skips : (b : ℕ) → (b ≡ takes (item_of b)) ⊎ (b ≡ skips (item_of b))
byte_takes_or_skips b =
    by_test (λ t. (b ≡ takes (item_of b)) ⊎ (b ≡ skips (item_of b))) (is_take b)
    (λ e. inl (byte_takes b e))
    (λ e. inr (byte_skips b e))
