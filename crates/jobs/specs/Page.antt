-- What a job's run is written as: best, a line for each item, picks; or the refusal alone.
use Rattle.std.specs.Prelude.{Bool, false, cond, ◌||◌, List, [], ◌∷◌, ◌++◌, ℕ, zero, suc, eqb, ℤ, pos, negsuc, take}
use Rattle.knapsack.specs.Items.{takes}
use Rattle.numbers.specs.Decimal.{decimal}
use Rattle.searches.specs.Search.{Search}
use Rattle.jobs.specs.Text.{line, line3, item}
use Rattle.jobs.specs.Run.{Ending, refused, ended}

-- the words of an answer, as ASCII bytes
abbrev pub best : List ℕ
best = 98 ∷ 101 ∷ 115 ∷ 116 ∷ []

abbrev pub picks : List ℕ
picks = 112 ∷ 105 ∷ 99 ∷ 107 ∷ 115 ∷ []

abbrev pub refused_word : List ℕ
refused_word = 114 ∷ 101 ∷ 102 ∷ 117 ∷ 115 ∷ 101 ∷ 100 ∷ []

-- whether one of a path's bytes takes item d
unfoldable pub taken : ℕ → List ℕ → Bool
taken d [] = false
taken d (b ∷ bs) = eqb b (takes d) || taken d bs

-- `item`, the item's number, 1 or 0: n lines from item d on
unfoldable pub item_lines : ℕ → ℕ → List ℕ → List ℕ
item_lines zero d path = []
item_lines (suc n) d path = line3 item (decimal d) (decimal (cond (taken d path) 1 0)) ++ item_lines n (suc d) path

-- a best value that is no natural number is never written: the empty selection earns 0
unfoldable pub natural : ℤ → ℕ
natural (pos n) = n
natural (negsuc n) = 0

-- 'best→7 / item→0→1 / item→1→1 / item→2→0 / picks→3, each a line'
unfoldable pub page_of : ℕ → Search → List ℕ
page_of n s = line best (decimal (natural s.best)) ++ item_lines n 0 (take n s.path) ++ line picks (decimal s.picks)

-- 'A refusal writes only refused→number.'
unfoldable pub refusal_of : ℕ → List ℕ
refusal_of n = line refused_word (decimal n)

unfoldable pub answer_of : ℕ → Ending → List ℕ
answer_of n (refused k) = refusal_of k
answer_of n (ended s) = page_of n s
