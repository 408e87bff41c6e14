-- The text of an answer from what it says of a search: `page_of`, asked with the search's best value, path and picks alone.
use Rattle.std.specs.Prelude.{◌≡◌, true, List, ◌++◌, ℕ, ◌<◌, ◌≤◌, ℤ, pos, length, take, replicate}
use Rattle.numbers.specs.Decimal.{decimal}
use Rattle.searches.specs.Search.{Search, most_picks}
use Rattle.jobs.specs.Text.{line}
use Rattle.jobs.specs.Page as Words
use Rattle.jobs.specs.Page.{natural, item_lines, page_of}

unfoldable pub page_from : ℤ → List ℕ → ℕ → ℕ → List ℕ
page_from best path n picks = line Words.best (decimal (natural best)) ++ item_lines n 0 (take n path) ++ line Words.picks (decimal picks)

-- it is the page of every search that holds these
abbrev pub PageOfSearch : Type 0
PageOfSearch = (n : ℕ) (s : Search) → page_of n s ≡ page_from s.best s.path n s.picks

-- The longest page: 5 + 8 + 1 bytes for `best`, ten lines of 9 and 54 of 10 for the items, 6 + 20 + 1 for `picks`.
abbrev pub LongestPage : Type 0
LongestPage = (n : ℕ) (s : Search) → n ≤ 64 → natural s.best < 100000000 → length (page_of n s) ≤ 671

-- a search whose page is that long
abbrev pub longest : Search
longest = record { best = pos 99999999; held = true; path = replicate 64 0; opened = 0; picks = most_picks }

abbrev pub LongestReached : Type 0
LongestReached = length (page_of 64 longest) ≡ 671
