-- Two starts on equal input, over lists of one length: whatever their places held, they answer the same and write the same.
use mathlib.Core.Path.{◌≡◌, refl, sym, ap, subst, ◌∙◌}
use mathlib.Core.Bool.{true, false, false≢true, true≢false}
use mathlib.Core.List.{List, [], ◌∷◌}
use mathlib.Core.Option.{Option, none, some}
use Prim.Native.Nat.{ℕ}
use lib.IntN.{ℤ}
use Rattle.std.specs.Prelude.{Result, is_ok}
use lib.ListN.{length, take, drop}
use Rattle.calls.specs.Asked.{Problem}
use Rattle.searches.specs.Places.{Place, root_place, over_places}
use Rattle.searches.specs.Start.{start, unless, start_refusal, Started}
use Rattle.search.specs.declared.Search.{Search}
use Rattle.search.specs.Answered.{started_from}
use Rattle.search.specs.Begins.{Begins, Alike}

module _ (p : Problem) (bound : ℤ) where
  abbrev answer_to : Option ℕ → Started
  answer_to o = (unless o p bound []).answer

  answer_is : (o : Option ℕ) (l : List Place) → (unless o p bound l).answer ≡ answer_to o
  unfolding unless
  answer_is none l = refl
  answer_is (some n) l = refl

  first_is : (o : Option ℕ) (l : List Place) → is_ok (started_from (answer_to o)) ≡ true → take 1 (unless o p bound l).list ≡ root_place p.page ∷ []
  unfolding unless over_places
  first_is none l h = refl
  first_is (some n) l h = absurd (false≢true h)

  kept_is : (o : Option ℕ) (l : List Place) → is_ok (started_from (answer_to o)) ≡ false → (unless o p bound l).list ≡ l
  unfolding unless
  kept_is none l h = absurd (true≢false h)
  kept_is (some n) l h = refl

  beyond_is : (o : Option ℕ) (l : List Place) → drop 1 (unless o p bound l).list ≡ drop 1 l
  unfolding unless over_places
  beyond_is none l = refl
  beyond_is (some n) l = refl

  alike_by : (o : Option ℕ) (a b : Result Search ℕ) (l₁ l₂ m₁ m₂ : List Place) → Begins (unless o p bound l₁) a l₂ → Begins (unless o p bound m₁) b m₂ → Alike a b l₁ l₂ m₁ m₂
  alike_by o a b l₁ l₂ m₁ m₂ x y =
      let a-is : a ≡ started_from (answer_to o) = x.answered ∙ ap started_from (answer_is o l₁) in
      let b-is : b ≡ started_from (answer_to o) = y.answered ∙ ap started_from (answer_is o m₁) in
      record {
        answers = a-is ∙ sym b-is;
        written = λ h. let g = sym (ap is_ok a-is) ∙ h in ap (take 1) x.written ∙ first_is o l₁ g ∙ sym (ap (take 1) y.written ∙ first_is o m₁ g);
        kept = λ h. let g = sym (ap is_ok a-is) ∙ h in (x.written ∙ kept_is o l₁ g, y.written ∙ kept_is o m₁ g);
        beyond = (ap (drop 1) x.written ∙ beyond_is o l₁, ap (drop 1) y.written ∙ beyond_is o m₁);
      }

  pub starts_alike : (a b : Result Search ℕ) (l₁ l₂ m₁ m₂ : List Place) → length l₁ ≡ length m₁ → Begins (start p bound l₁) a l₂ → Begins (start p bound m₁) b m₂ → Alike a b l₁ l₂ m₁ m₂
  unfolding start
  starts_alike a b l₁ l₂ m₁ m₂ e x y =
      alike_by (start_refusal p (length l₁)) a b l₁ l₂ m₁ m₂ x (subst (λ (n : ℕ). Begins (unless (start_refusal p n) p bound m₁) b m₂) (sym e) y)
