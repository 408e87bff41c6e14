-- What start and pick are asked, in the words of the definitions.
use Rattle.std.specs.Prelude.{List, ℕ}
use Rattle.calls.specs.Asked.{Problem}
use Rattle.cutset.specs.declared.Kind.{Kind}
use Rattle.cutset.specs.Whole.{kind_of}
use Rattle.searches.specs.Pick.{Asked}

abbrev pub problem_of : List ℕ → List ℕ → ℕ → ℕ → Problem
problem_of weights profits page width = record { weights = weights; profits = profits; page = page; width = width }

abbrev pub asked_of : Problem → Kind → ℕ → Asked
asked_of p kind place = record { problem = p; kind = kind_of kind; place = place }
