-- The code's answer for each answer of start and pick, a refusal as its number.
use Rattle.std.specs.Prelude.{ℕ, Result, Ok, Err}
use Rattle.searches.specs.Search.{Search}
use Rattle.searches.specs.Start as Start
use Rattle.searches.specs.Start.{refused, started}
use Rattle.searches.specs.Pick as Pick
use Rattle.searches.specs.Pick.{refused_by, accepted}
use Rattle.search.specs.declared.Search as Code
use Rattle.search.specs.Held.{search_from}

-- 'refused, it gives no search'
abbrev pub started_from : Start.Started → Result Code.Search ℕ
started_from (refused n) = Err n
started_from (started s) = Ok (search_from s)

-- a pick's answer, where s is the search after it: 'A refused pick changes neither search nor open list', so it answers none
abbrev pub picked_from : Pick.Picked → Search → Result Code.Search ℕ
picked_from (refused_by n) s = Err n
picked_from accepted s = Ok (search_from s)

-- the search that a host holds after an answer: the one that it gives, or the one before
abbrev pub search_after : Result Code.Search ℕ → Code.Search → Code.Search
search_after (Ok t) s = t
search_after (Err n) s = s
