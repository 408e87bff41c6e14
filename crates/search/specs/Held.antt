-- Which search of the definitions a search struct of the code stands for, and back; a value or none as an option.
use Rattle.std.specs.Prelude.{ℤ, Option, Some, None}
use Rattle.std.proofs.Math.Option as Math
use Rattle.std.proofs.Math.Option.{none, some}
use Rattle.searches.specs.Search as Def
use Rattle.search.specs.declared.Search.{Search}

abbrev pub search_of : Search → Def.Search
search_of s = record { best = s.best; held = s.held; path = s.path; opened = s.opened; picks = s.picks }

abbrev pub search_from : Def.Search → Search
search_from s = record { best = s.best; held = s.held; path = s.path; opened = s.opened; picks = s.picks }

abbrev pub option_of : Option ℤ → Math.Option ℤ
option_of (Some x) = some x
option_of None = none
