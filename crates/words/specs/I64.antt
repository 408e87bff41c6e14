-- How a number of i64 stands in a word of the 'lent tables of plain 64-bit numbers': the word is the number plus 2 ^ 63, so words are ordered as their numbers are.
use Rattle.std.specs.Prelude.{ℕ, suc, ◌+◌, ◌-◌, ◌^◌, min, cond, ℤ, pos, negsuc, ◌≤ℤ◌}
use Rattle.std.proofs.Math.IntN.{sub_ℕ}
use Rattle.std.specs.Int.Signed.{lt_z}

-- the word that 0 stands as
abbrev pub mid : ℕ
mid = 2 ^ 63

-- the largest word
abbrev pub top : ℕ
top = 2 ^ 64 - 1

-- 'i64 minimum'
abbrev pub i64_min : ℤ
i64_min = negsuc (2 ^ 63 - 1)

-- 'i64 maximum'
abbrev pub i64_max : ℤ
i64_max = pos (2 ^ 63 - 1)

-- 'any i64'
pub record InI64 (z : ℤ) : Type 0 where
  pub low : i64_min ≤ℤ z
  pub high : z ≤ℤ i64_max

-- the word that a number stands as: the number plus 2 ^ 63
unfoldable pub word : ℤ → ℕ
word (pos n) = mid + n
word (negsuc n) = mid - suc n

-- the number that a word stands for: the word minus 2 ^ 63
unfoldable pub number : ℕ → ℤ
number w = sub_ℕ w mid

-- A number outside i64 becomes i64 minimum or i64 maximum, as a sum does in the Rust's `saturating_add`.
unfoldable pub clamp : ℤ → ℤ
clamp z = cond (lt_z z i64_min) i64_min (cond (lt_z i64_max z) i64_max z)

-- The Rust's `saturating_add`, of words: the law `sat_add_clamps` says that it is the sum of the numbers, clamped.
unfoldable pub sat_add : ℕ → ℕ → ℕ
sat_add a b = min top (a + b - mid)
