-- A table's rows as words, for any kind of row, and words over what a table held before.
use Rattle.std.specs.Prelude.{List, [], ◌∷◌, ◌++◌, ℕ, length, drop}

-- the words of the rows, one row behind the other
unfoldable pub words_of : {R : Type 0} → (R → List ℕ) → List R → List ℕ
words_of encode [] = []
words_of encode (r ∷ rs) = encode r ++ words_of encode rs

-- words written from a table's start on, over what was there; the rest stays
unfoldable pub over : List ℕ → List ℕ → List ℕ
over ws old = ws ++ drop (length ws) old
