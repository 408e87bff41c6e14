-- A number's decimal digits, and the number that digits stand for.
use Rattle.std.specs.Prelude.{Bool, cond, ◌&&◌, List, [], ◌∷◌, ◌++◌, ℕ, zero, suc, ◌+◌, ◌-◌, ◌*◌, ◌/◌, ◌%◌, leb, ltb}
use Rattle.std.proofs.Math.Option.{Option, none, some}

-- The digits of n, the first one first and without zeros in front, as ASCII bytes; k is at least their number.
unfoldable pub digits_in : ℕ → ℕ → List ℕ
digits_in zero n = []
digits_in (suc k) n = cond (ltb n 10) ((48 + n) ∷ []) (digits_in k (n / 10) ++ ((48 + n % 10) ∷ []))

-- A u64 has at most 20 digits.
unfoldable pub decimal : ℕ → List ℕ
decimal n = digits_in 20 n

-- an ASCII digit, '0' to '9'
unfoldable pub is_digit : ℕ → Bool
is_digit b = leb 48 b && leb b 57

-- the number whose digits are those of v and then the byte b; none where the byte is no digit or a u64 can't hold the number
unfoldable pub pushed : ℕ → ℕ → Option ℕ
pushed v b = cond (is_digit b && ltb (v * 10 + (b - 48)) 18446744073709551616) (some (v * 10 + (b - 48))) none

-- one byte more, where a number was read before it
unfoldable pub and_then : Option ℕ → ℕ → Option ℕ
and_then none b = none
and_then (some v) b = pushed v b

-- byte after byte, from the number that was read before them
unfoldable pub push_all : List ℕ → Option ℕ → Option ℕ
push_all [] read = read
push_all (b ∷ bs) read = push_all bs (and_then read b)

-- The number that a text of digits stands for. A text without a digit is none.
unfoldable pub number_of : List ℕ → Option ℕ
number_of [] = none
number_of (b ∷ bs) = push_all (b ∷ bs) (some 0)
