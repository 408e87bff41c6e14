-- What the calls on a lent list promise of its places, in the words of the search's definitions.
use Rattle.std.specs.Prelude.{◌≡◌, List, ◌++◌, ℕ, ◌+◌, ◌-◌, length, take, drop}
use Rattle.searches.specs.Places.{Place}
use Rattle.searches.specs.Search.{without}

-- The first n places hold what they held but for the one at `at`, 'later ones moving down by one'; from the new count on all keep what they held.
abbrev pub Removed : ℕ → ℕ → List Place → List Place → Type 0
Removed at n before after = after ≡ without at (take n before) ++ drop (n - 1) before

-- The places ps stand at place `at` and behind it, count is the place behind them, and the others keep what they held.
abbrev pub Appended : ℕ → List Place → List Place → ℕ → List Place → Type 0
Appended at ps before count after = (count ≡ at + length ps) × (after ≡ take at before ++ ps ++ drop (at + length ps) before)
