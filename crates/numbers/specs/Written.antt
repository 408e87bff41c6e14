-- A buffer into which a number's digits were put.
use Rattle.std.specs.Prelude.{◌≡◌, List, ◌++◌, ℕ, ◌+◌, ◌≤◌, length, take, drop}
use Rattle.numbers.specs.Decimal.{decimal}

-- n's digits stand from place `at` on, r is the place behind them, and the rest is as before.
pub record Written (n at : ℕ) (before : List ℕ) (r : ℕ) (after : List ℕ) : Type 0 where
  pub digits_stand : after ≡ take at before ++ (decimal n ++ drop r before)
  pub behind : r ≡ at + length (decimal n)
  pub few : r ≤ at + 20
