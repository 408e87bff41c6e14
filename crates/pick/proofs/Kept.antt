-- A refused pick leaves the search: the definition's is the one that was asked, so a lent one may stay as it is.
use mathlib.Core.Path.{◌≡◌, refl, sym, ap, ◌∙◌}
use mathlib.Core.Bool.{Bool, true, false}
use mathlib.Core.List.{List, ◌++◌}
use mathlib.Core.Option.{Option, none, some}
use Prim.Native.Nat.{ℕ}
use native.Mathlib.Omega.{arith}
use lib.Dec.{leb}
use lib.ListN.{length}
use lib.Signed.{lt_z}
use Rattle.std.specs.Prelude.{Result, Err}
use Rattle.calls.specs.Asked.{Given}
use Rattle.calls.specs.Compile as Call
use Rattle.calls.specs.Compile.{Lent, rooms_of, refused, compiled, Effect, compile_effect, after}
use Rattle.searches.specs.Places.{Place}
use Rattle.searches.specs.Search as Def
use Rattle.searches.specs.Search.{open_in, without}
use Rattle.searches.specs.Pick.{Picked, refused_by, accepted, Asked, Held, pick_refusal, picked_from, request_for, refusing, accepting, better, if_room, appended, drained_places, after_compile, if_above, unless, pick}
use Rattle.search.specs.declared.Search.{Search}
use Rattle.search.specs.Held.{search_of, search_from}
use Rattle.search.specs.Answered as Code
use Rattle.search.specs.Answered.{search_after}
use Rattle.pick.specs.Picks.{Picks, PicksIn, verdict_of}

module _ (n : ℕ) (s : Def.Search) where
  room_kept : (b : Bool) (s₁ : Def.Search) (left list : List Place) (l : Lent) → (if_room b s s₁ left list l).answer ≡ refused_by n → (if_room b s s₁ left list l).search ≡ s
  unfolding if_room accepting refusing
  room_kept true s₁ left list l e = let z : ◌≡◌ {A = ℕ} 0 1 = cc in absurd (omega arith)
  room_kept false s₁ left list l e = refl

  compile_kept : (a : Call.Answer) (w : Effect) (rest : List Place) (h : Held) → (after_compile a w s rest h).answer ≡ refused_by n → (after_compile a w s rest h).search ≡ s
  unfolding after_compile refusing
  compile_kept (refused m) w rest h e = refl
  compile_kept (compiled c) w rest h e =
      let s₁ = better c.best_exact c.exact_path s in
      let left = rest ++ appended c.exact s₁.best (drained_places w) in
      room_kept (leb (length left) (length h.list)) s₁ left h.list (after w h.lent).lent e

  above_kept : (b : Bool) (q : Asked) (g : Given) (rest : List Place) (h : Held) → (if_above b q s g rest h).answer ≡ refused_by n → (if_above b q s g rest h).search ≡ s
  unfolding if_above accepting
  above_kept true q g rest h e = let w = compile_effect (request_for q s g) (rooms_of h.lent) in compile_kept w.answer w rest h e
  above_kept false q g rest h e = let z : ◌≡◌ {A = ℕ} 0 1 = cc in absurd (omega arith)

  unless_kept : (o : Option ℕ) (q : Asked) (h : Held) → (unless o q s h).answer ≡ refused_by n → (unless o q s h).search ≡ s
  unfolding unless refusing
  unless_kept (some m) q h e = refl
  unless_kept none q h e =
      let g = picked_from h.list q.place in
      above_kept (lt_z s.best g.bound) q g (without q.place (open_in s h.list)) h e

  -- 'A refused pick changes neither search nor open list'
  pub search_kept : (q : Asked) (h : Held) → (pick q s h).answer ≡ refused_by n → (pick q s h).search ≡ s
  unfolding pick
  search_kept q h e = unless_kept (pick_refusal q s h.list) q h e

-- an answer that is a refusal is the definition's
pub refused_is : (n : ℕ) (x : Picked) (s : Def.Search) → Code.picked_from x s ≡ Err n → x ≡ refused_by n
refused_is n (refused_by m) s e = cc
refused_is n accepted s e = let z : ◌≡◌ {A = ℕ} 0 1 = cc in absurd (omega arith)

-- the search that a host holds after a pick of search s is the definition's
pub search_after_is : (q : Asked) (s : Def.Search) (h : Held) (p : Result Search ℕ) → p ≡ Code.picked_from (pick q s h).answer (pick q s h).search → search_of (search_after p (search_from s)) ≡ (pick q s h).search
search_after_is q s h p e = go (pick q s h).answer refl
  where
    go : (x : Picked) → (pick q s h).answer ≡ x → search_of (search_after p (search_from s)) ≡ (pick q s h).search
    go (refused_by n) a = rw (e, a) (sym (search_kept n s q h a))
    go accepted a = rw (e, a) refl

-- a refused pick by value is one over the lent search, which stays
pub refused_in : (q : Asked) (s : Search) (h : Held) (n : ℕ) (p : Result Search ℕ) (ns es : List ℕ) (list : List Place) (scratch : List ℕ) → p ≡ Err n → Picks (pick q (search_of s) h) p ns es list scratch → PicksIn (pick q (search_of s) h) (Err n) s ns es list scratch
refused_in q s h n p ns es list scratch e k =
    let d = pick q (search_of s) h in
    let answer : Code.picked_from d.answer d.search ≡ Err n = sym k.answered ∙ e in
    record {
      answered = ap verdict_of (sym answer);
      search_is = sym (search_kept n (search_of s) q h (refused_is n d.answer d.search answer));
      nodes_are = k.nodes_are;
      edges_are = k.edges_are;
      list_is = k.list_is;
      scratch_is = k.scratch_is;
    }
