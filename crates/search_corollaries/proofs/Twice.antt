-- Two picks on equal input answer the same, leave the same search and open records, and write the same.
use mathlib.Core.Path.{◌≡◌, refl, sym, ap, ap₂, subst, ◌∙◌}
use mathlib.Core.Bool.{Bool, true, false}
use mathlib.Core.List.{List, [], ◌∷◌, ◌++◌}
use mathlib.Core.Option.{Option, none, some}
use Prim.Native.Nat.{ℕ, zero, suc, ◌+◌, ◌<◌}
use native.Mathlib.Nat.{le_of_suc-le-suc, not-suc-le-zero}
use native.Mathlib.Omega.{arith}
use lib.Dec.{leb}
use lib.ListN.{length, get_or, take, drop}
use lib.Seq.{take_at, drop-append-add}
use lib.Signed.{lt_z}
use Rattle.std.specs.Prelude.{Result}
use Rattle.calls.specs.Asked.{Given}
use Rattle.calls.specs.Refusals.{first_of, record_checks}
use Rattle.layout.specs.Table.{words_of, over}
use Rattle.layout.specs.Records.{record_table}
use Rattle.calls.specs.Compile as Call
use Rattle.calls.specs.Compile.{Lent, Rooms, rooms_of, refused, compiled, Effect, compile_effect, after}
use Rattle.searches.specs.Places.{Place, given_at, no_place, over_places}
use Rattle.searches.specs.Search.{Search, open_in, without}
use Rattle.searches.specs.Pick.{Asked, Held, After, pick_refusal, picked_from, request_for, refusing, accepting, better, one_pick_more, if_room, appended, drained_places, after_compile, if_above, unless, pick}
use Rattle.search.specs.Refused.{pick_first}
use Rattle.search.proofs.Firsts.{refused_first, then_record, allowed}
use Rattle.search.specs.declared.Search as Code
use Rattle.search.specs.Answered as Answers
use Rattle.compile.specs.Asked.{lent_of}
use Rattle.pick.specs.Picks.{Picks}
use Rattle.pick.proofs.Kept.{search_after_is}
use Rattle.search_corollaries.specs.Twice.{SameInput, opened_after, PickedAlike, OnePick}

-- a place among the first n is the same in two lists whose first n are
same_place : (n i : ℕ) (xs ys : List Place) → i < n → take n xs ≡ take n ys → get_or xs i no_place ≡ get_or ys i no_place
same_place n i xs ys h e = sym (among n i xs h) ∙ ap (λ (l : List Place). get_or l i no_place) e ∙ among n i ys h
  where
    among : (n i : ℕ) (xs : List Place) → i < n → get_or (take n xs) i no_place ≡ get_or xs i no_place
    among zero i xs h = absurd (not-suc-le-zero h)
    among (suc n) i [] h = refl
    among (suc n) zero (x ∷ xs) h = refl
    among (suc n) (suc i) (x ∷ xs) h = among n i xs (le_of_suc-le-suc h)

-- nothing is written
abbrev nothing : Effect
nothing = record { answer = refused 0; nodes = []; edges = []; drained = [] }

module _ (q : Asked) (s : Search) (h k : Held) (same : SameInput s h k) where
  first_same : pick_first q.problem s q.place (length h.list) ≡ pick_first q.problem s q.place (length k.list)
  first_same = ap (λ (n : ℕ). pick_first q.problem s q.place n) same.long

  picked_same : pick_first q.problem s q.place (length h.list) ≡ none → picked_from h.list q.place ≡ picked_from k.list q.place
  unfolding picked_from open_in
  picked_same e = ap given_at (same_place s.opened q.place h.list k.list (allowed q.problem s q.place (length h.list) e).below same.opened)

  refusal_same : pick_refusal q s h.list ≡ pick_refusal q s k.list
  refusal_same = go (pick_first q.problem s q.place (length h.list)) refl
    where
      go : (x : Option ℕ) → pick_first q.problem s q.place (length h.list) ≡ x → pick_refusal q s h.list ≡ pick_refusal q s k.list
      go (some n) e = refused_first q s h.list n e ∙ sym (refused_first q s k.list n (sym first_same ∙ e))
      go none e =
          then_record q s h.list e ∙ ap (λ (g : Given). first_of (record_checks q.problem g)) (picked_same e)
          ∙ sym (then_record q s k.list (sym first_same ∙ e))

  allowed_none : pick_refusal q s h.list ≡ none → pick_first q.problem s q.place (length h.list) ≡ none
  allowed_none e = go (pick_first q.problem s q.place (length h.list)) refl
    where
      go : (x : Option ℕ) → pick_first q.problem s q.place (length h.list) ≡ x → pick_first q.problem s q.place (length h.list) ≡ none
      go none f = f
      go (some n) f = let y : some n ≡ none = sym (refused_first q s h.list n f) ∙ e in let z : ◌≡◌ {A = ℕ} 0 1 = cc in absurd (omega arith)

  -- refused: search and lists as they were, tables with what was written
  refused_alike : (n : ℕ) (w : Effect) → PickedAlike (refusing n s h.list (after w h.lent).lent) (refusing n s k.list (after w k.lent).lent) h k
  unfolding refusing over_places
  refused_alike n w =
      record {
        answers = refl;
        searches = refl;
        opened = same.opened;
        beyond = (refl, refl);
        placed = [];
        first_list = refl;
        second_list = refl;
        written = w;
        first_lent = refl;
        second_lent = refl;
      }

  left_open : (left list : List Place) → take (length left) (over_places left list) ≡ left
  unfolding over_places
  left_open left list = take_at left (drop (length left) list) (length left) refl

  behind_left : (left list : List Place) → drop (length left) (over_places left list) ≡ drop (length left) list
  unfolding over_places
  behind_left left list =
      let z : length left ≡ length left + 0 = omega arith in
      ap (λ (m : ℕ). drop m (left ++ drop (length left) list)) z ∙ drop-append-add left (drop (length left) list) 0

  accepted_alike : (s₁ : Search) (left : List Place) (w : Effect) → PickedAlike (accepting s₁ left h.list (after w h.lent).lent) (accepting s₁ left k.list (after w k.lent).lent) h k
  unfolding accepting open_in one_pick_more
  accepted_alike s₁ left w =
      record {
        answers = refl;
        searches = refl;
        opened = left_open left h.list ∙ sym (left_open left k.list);
        beyond = (behind_left left h.list, behind_left left k.list);
        placed = left;
        first_list = refl;
        second_list = refl;
        written = w;
        first_lent = refl;
        second_lent = refl;
      }

  room_alike : (b : Bool) (s₁ : Search) (left : List Place) (w : Effect) → PickedAlike (if_room b s s₁ left h.list (after w h.lent).lent) (if_room b s s₁ left k.list (after w k.lent).lent) h k
  unfolding if_room
  room_alike true s₁ left w = accepted_alike s₁ left w
  room_alike false s₁ left w = refused_alike 13 w

  compiled_alike : (a : Call.Answer) (w : Effect) (rest : List Place) → PickedAlike (after_compile a w s rest h) (after_compile a w s rest k) h k
  unfolding after_compile
  compiled_alike (refused n) w rest = refused_alike n w
  compiled_alike (compiled c) w rest =
      let s₁ = better c.best_exact c.exact_path s in
      let left = rest ++ appended c.exact s₁.best (drained_places w) in
      subst (λ (n : ℕ). PickedAlike (if_room (leb (length left) (length h.list)) s s₁ left h.list (after w h.lent).lent) (if_room (leb (length left) n) s s₁ left k.list (after w k.lent).lent) h k) same.long
      (room_alike (leb (length left) (length h.list)) s₁ left w)

  kept : (l : Lent) → (after nothing l).lent ≡ l
  unfolding after over record_table words_of
  kept l = refl

  above_alike : (b : Bool) (g : Given) (rest : List Place) → PickedAlike (if_above b q s g rest h) (if_above b q s g rest k) h k
  unfolding if_above
  above_alike false g rest =
      subst (λ (l : Lent). PickedAlike (accepting s rest h.list l) (accepting s rest k.list k.lent) h k) (kept h.lent)
      (subst (λ (l : Lent). PickedAlike (accepting s rest h.list (after nothing h.lent).lent) (accepting s rest k.list l) h k) (kept k.lent) (accepted_alike s rest nothing))
  above_alike true g rest =
      let w = compile_effect (request_for q s g) (rooms_of h.lent) in
      subst (λ (m : Rooms). let v = compile_effect (request_for q s g) m in PickedAlike (after_compile w.answer w s rest h) (after_compile v.answer v s rest k) h k) same.rooms (compiled_alike w.answer w rest)

  unless_alike : (x : Option ℕ) → pick_refusal q s h.list ≡ x → PickedAlike (unless x q s h) (unless x q s k) h k
  unfolding unless
  unless_alike (some n) e =
      subst (λ (l : Lent). PickedAlike (refusing n s h.list l) (refusing n s k.list k.lent) h k) (kept h.lent)
      (subst (λ (l : Lent). PickedAlike (refusing n s h.list (after nothing h.lent).lent) (refusing n s k.list l) h k) (kept k.lent) (refused_alike n nothing))
  unless_alike none e =
      let g = picked_from h.list q.place in
      let f = picked_from k.list q.place in
      let rest = without q.place (open_in s h.list) in
      subst (λ (l : List Place). PickedAlike (if_above (lt_z s.best g.bound) q s g rest h) (if_above (lt_z s.best f.bound) q s f (without q.place l) k) h k) same.opened
      (subst (λ (f : Given). PickedAlike (if_above (lt_z s.best g.bound) q s g rest h) (if_above (lt_z s.best f.bound) q s f rest k) h k) (picked_same (allowed_none e))
      (above_alike (lt_z s.best g.bound) g rest))

  pub picks_alike : PickedAlike (pick q s h) (pick q s k) h k
  unfolding pick
  picks_alike =
      subst (λ (x : Option ℕ). PickedAlike (unless (pick_refusal q s h.list) q s h) (unless x q s k) h k) refusal_same (unless_alike (pick_refusal q s h.list) refl)

-- ---- of calls

lent_of_lem : (d : After) (p : Result Code.Search ℕ) (ns es r : List ℕ) (l : List Place) → Picks d p ns es l r → lent_of ns es r ≡ d.held.lent
lent_of_lem d p ns es r l x = rw (x.nodes_are, x.edges_are, x.scratch_is) refl

pub one_pick : OnePick
unfolding open_in
one_pick q s h k same p p' ns es r ns' es' r' l l' x y =
    let d = pick q s h in
    let e = pick q s k in
    let z = picks_alike q s h k same in
    let n : opened_after p s ≡ d.search.opened = ap (λ (u : Search). u.opened) (search_after_is q s h p x.answered) in
    let n' : opened_after p' s ≡ e.search.opened = ap (λ (u : Search). u.opened) (search_after_is q s k p' y.answered) in
    record {
      answers = x.answered ∙ ap₂ Answers.picked_from z.answers z.searches ∙ sym y.answered;
      opened = ap₂ (take {A = Place}) n x.list_is ∙ z.opened ∙ sym (ap₂ (take {A = Place}) n' y.list_is);
      beyond =
          (ap₂ (drop {A = Place}) n x.list_is ∙ z.beyond.0 ∙ ap (λ (m : ℕ). drop m h.list) (sym n), ap₂ (drop {A = Place}) n' y.list_is ∙ z.beyond.1 ∙ ap (λ (m : ℕ). drop m k.list) (sym n'));
      placed = z.placed;
      first_list = x.list_is ∙ z.first_list;
      second_list = y.list_is ∙ z.second_list;
      written = z.written;
      first_lent = lent_of_lem d p ns es r l x ∙ z.first_lent;
      second_lent = lent_of_lem e p' ns' es' r' l' y ∙ z.second_lent;
    }
