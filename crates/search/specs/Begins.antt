-- What the call start promises: the answer and the list after it are the definition's.
use Rattle.std.specs.Prelude.{◌≡◌, true, false, List, ℕ, take, drop, Result, is_ok}
use Rattle.searches.specs.Places.{Place}
use Rattle.searches.specs.Start.{After}
use Rattle.search.specs.declared.Search.{Search}
use Rattle.search.specs.Answered.{started_from}

-- the answer, and what the list's places hold after the call
pub record Begins (d : After) (answer : Result Search ℕ) (list : List Place) : Type 0 where
  pub answered : answer ≡ started_from d.answer
  pub written : list ≡ d.list

-- two starts with their lists before and after: equal answers; started, the same record in the first place; refused, each list as it was; the places behind the first as they were
pub record Alike (a b : Result Search ℕ) (l₁ l₂ m₁ m₂ : List Place) : Type 0 where
  pub answers : a ≡ b
  pub written : is_ok a ≡ true → take 1 l₂ ≡ take 1 m₂
  pub kept : is_ok a ≡ false → (l₂ ≡ l₁) × (m₂ ≡ m₁)
  pub beyond : (drop 1 l₂ ≡ drop 1 l₁) × (drop 1 m₂ ≡ drop 1 m₁)
