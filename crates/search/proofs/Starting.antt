-- The call start: refused or not, its answer and its list are the definition's.
use mathlib.Core.Path.{◌≡◌, refl, sym, ap, ◌∙◌}
use mathlib.Core.List.{List, [], ◌∷◌}
use mathlib.Core.Option.{Option, none, some}
use Prim.Native.Nat.{ℕ, ◌<◌}
use native.Mathlib.Nat.{not-suc-le-zero}
use lib.IntN.{ℤ}
use lib.ListN.{length, set}
use Rattle.std.specs.Prelude.{Ok, Err}
use Rattle.calls.specs.Asked.{Problem}
use Rattle.records.specs.declared.Record.{Record}
use Rattle.records.specs.Structs.{place_from, places}
use Rattle.records.proofs.Places.{places_length}
use Rattle.searches.specs.Search as Def
use Rattle.searches.specs.Places.{Place, root_place, over_places}
use Rattle.searches.specs.Start.{start, unless, start_refusal, begun}
use Rattle.search.specs.declared.Search.{Search}
use Rattle.search.specs.Held.{search_of, search_from}
use Rattle.search.specs.Begins.{Begins}

-- the root goes into the first place
root_over : (r : Record) (page : ℕ) (ys : List Record) → place_from r ≡ root_place page → 0 < length ys → places (set ys 0 r) ≡ over_places (root_place page ∷ []) (places ys)
unfolding places over_places
root_over r page [] e h = absurd (not-suc-le-zero h)
root_over r page (y ∷ ys) e h = ap (λ (p : Place). p ∷ places ys) e

module _ (p : Problem) (bound : ℤ) (ys : List Record) where
  refusal_is : (o : Option ℕ) → o ≡ start_refusal p (length ys) → start p bound (places ys) ≡ unless o p bound (places ys)
  unfolding start
  refusal_is o e = ap (λ (n : ℕ). unless (start_refusal p n) p bound (places ys)) (places_length ys) ∙ ap (λ (x : Option ℕ). unless x p bound (places ys)) (sym e)

  pub refused_begins : (n : ℕ) → some n ≡ start_refusal p (length ys) → Begins (start p bound (places ys)) (Err n) (places ys)
  unfolding unless
  refused_begins n e = rw (refusal_is (some n) e) (record { answered = refl; written = refl })

  pub started_begins : (s : Search) (r : Record) (b : ℤ) → none ≡ start_refusal p (length ys) → search_of s ≡ begun b → b ≡ bound → place_from r ≡ root_place p.page → 0 < length ys → Begins (start p bound (places ys)) (Ok s) (places (set ys 0 r))
  unfolding unless
  started_begins s r b e f g h l =
      rw (refusal_is none e) (record {
        answered = ap (λ (d : Def.Search). Ok (search_from d)) (f ∙ ap begun g);
        written = root_over r p.page ys h l;
      })
