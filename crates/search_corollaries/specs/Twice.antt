-- Two picks on equal input: the same question, search and open records in lists of one length, as many whole rows and scratch places; all else that is lent may differ.
use Rattle.std.specs.Prelude.{◌≡◌, List, ℕ, length, take, drop, Result}
use Rattle.calls.specs.Compile.{Lent, Effect, rooms_of, after}
use Rattle.searches.specs.Places.{Place, over_places}
use Rattle.searches.specs.Search.{Search, open_in}
use Rattle.searches.specs.Pick.{Asked, Held, After, pick}
use Rattle.compile.specs.Asked.{lent_of}
use Rattle.search.specs.declared.Search as Code
use Rattle.search.specs.Held.{search_from}
use Rattle.search.specs.Answered.{search_after}
use Rattle.pick.specs.Picks.{Picks}

pub record SameInput (s : Search) (h k : Held) : Type 0 where
  pub opened : open_in s h.list ≡ open_in s k.list
  pub long : length h.list ≡ length k.list
  pub rooms : rooms_of h.lent ≡ rooms_of k.lent

-- Equal answers and searches, the same open records; the list's places behind them as they were. What is written from the start of list, tables and scratch list on is the same, over what each held.
pub record PickedAlike (d e : After) (h k : Held) : Type 0 where
  pub answers : d.answer ≡ e.answer
  pub searches : d.search ≡ e.search
  pub opened : open_in d.search d.held.list ≡ open_in e.search e.held.list
  pub beyond : (drop d.search.opened d.held.list ≡ drop d.search.opened h.list) × (drop e.search.opened e.held.list ≡ drop e.search.opened k.list)
  pub placed : List Place
  pub first_list : d.held.list ≡ over_places placed h.list
  pub second_list : e.held.list ≡ over_places placed k.list
  pub written : Effect
  pub first_lent : d.held.lent ≡ (after written h.lent).lent
  pub second_lent : e.held.lent ≡ (after written k.lent).lent

-- ---- of calls

-- how many records are open after an answer to a pick of search s: a refused one leaves them
abbrev pub opened_after : Result Code.Search ℕ → Search → ℕ
opened_after p s = (search_after p (search_from s)).opened

-- what two calls of search s answered and left: list and lent tables after each, and before it
pub record AnsweredAlike (s : Search) (p p' : Result Code.Search ℕ) (l l' : List Place) (t t' : Lent) (h k : Held) : Type 0 where
  pub answers : p ≡ p'
  pub opened : take (opened_after p s) l ≡ take (opened_after p' s) l'
  pub beyond : (drop (opened_after p s) l ≡ drop (opened_after p s) h.list) × (drop (opened_after p' s) l' ≡ drop (opened_after p' s) k.list)
  pub placed : List Place
  pub first_list : l ≡ over_places placed h.list
  pub second_list : l' ≡ over_places placed k.list
  pub written : Effect
  pub first_lent : t ≡ (after written h.lent).lent
  pub second_lent : t' ≡ (after written k.lent).lent

abbrev pub OnePick : Type 0
OnePick =
    (q : Asked) (s : Search) (h k : Held) → SameInput s h k → (p p' : Result Code.Search ℕ) (ns es r ns' es' r' : List ℕ) (l l' : List Place) →
    Picks (pick q s h) p ns es l r → Picks (pick q s k) p' ns' es' l' r' → AnsweredAlike s p p' l l' (lent_of ns es r) (lent_of ns' es' r') h k
