-- The call `pick`: its answer, and the search, the list, the scratch list and the tables after it, for every input and every old content.
use Rattle.std.specs.Prelude.{Bool, true, false, not, cond, ◌||◌, List, [], ◌∷◌, ◌++◌, map, ℕ, suc, leb, ltb, eqb, ℤ, length, get_or}
use Rattle.std.proofs.Math.Option.{Option, none, some}
use Rattle.std.specs.Int.Signed.{lt_z}
use Rattle.diagram.specs.Run.{relaxing}
use Rattle.diagram.specs.After4.{CutsetKind}
use Rattle.calls.specs.Asked.{Problem, Given}
use Rattle.calls.specs.Refusals.{Check, first_of, problem_checks, record_checks}
use Rattle.calls.specs.Compile as Call
use Rattle.calls.specs.Compile.{Request, Lent, rooms_of, refused, compiled, Effect, compile_effect, after}
use Rattle.searches.specs.Places.{Place, given_at, place_of, no_place, over_places}
use Rattle.searches.specs.Search.{Search, most_picks, open_in, without, above_best}

-- What a pick is asked: the block problem, the cutset kind and which open record, by its place.
pub record Asked : Type 0 where
  pub problem : Problem
  pub kind : CutsetKind
  pub place : ℕ

-- What is lent: the list of open records; the tables and the scratch list, which is the compile's record list.
pub record Held : Type 0 where
  pub list : List Place
  pub lent : Lent

-- 14 'the pick is not below the open count, the open count is above the lent list's length, or accepted picks stand at the u64 maximum'
unfoldable pub pick_check : Search → ℕ → ℕ → Check
pick_check s place places =
    record { number = 14; applies = not (ltb place s.opened) || (ltb places s.opened || eqb s.picks most_picks) }

-- the record that is picked
unfoldable pub picked_from : List Place → ℕ → Given
picked_from list place = given_at (get_or list place no_place)

-- the numbers before anything is written, in the table's order: 1 to 6, 14, 7 to 9
unfoldable pub pick_refusal : Asked → Search → List Place → Option ℕ
pick_refusal q s list =
    first_of (problem_checks q.problem ++ (pick_check s q.place (length list) ∷ record_checks q.problem (picked_from list q.place)))

-- 'compiled relaxed with the best value as lower bound'
unfoldable pub request_for : Asked → Search → Given → Request
request_for q s g = record { problem = q.problem; mode = relaxing; kind = q.kind; lower = s.best; given = g }

-- What a pick answers, and what is then in the search and in what was lent.
pub data Picked : Type 0 where
  refused_by : ℕ → Picked
  accepted : Picked

pub record After : Type 0 where
  pub answer : Picked
  pub search : Search
  pub held : Held

-- 'A refused pick changes neither search nor open list, nor its scratch list': all stays but what tables and scratch list hold now
unfoldable pub refusing : ℕ → Search → List Place → Lent → After
refusing n s list l = record { answer = refused_by n; search = s; held = record { list = list; lent = l } }

-- 'a strictly larger best exact value replaces best and path'
unfoldable pub better : Option ℤ → List ℕ → Search → Search
better none path s = s
better (some v) path s =
    elim (lt_z s.best v) [ true ↦ record { best = v; held = true; path = path; opened = s.opened; picks = s.picks } | false ↦ s ]

-- one accepted pick more, with that many records open
unfoldable pub one_pick_more : ℕ → Search → Search
one_pick_more opened s = record { best = s.best; held = s.held; path = s.path; opened = opened; picks = suc s.picks }

-- the open records are these now; 'list places from the new open count on keep what they held before the pick'
unfoldable pub accepting : Search → List Place → List Place → Lent → After
accepting s left list l = record { answer = accepted; search = one_pick_more (length left) s; held = record { list = over_places left list; lent = l } }

-- 13 'the open list after the pick would outgrow its room'
unfoldable pub if_room : Bool → Search → Search → List Place → List Place → Lent → After
if_room true s s₁ left list l = accepting s₁ left list l
if_room false s s₁ left list l = refusing 13 s list l

-- 'if the diagram isn't exact, drained records with a bound above the best value are appended in order'
unfoldable pub appended : Bool → ℤ → List Place → List Place
appended exact best drained = cond exact [] (above_best best drained)

-- the drained records, as they stand in places
unfoldable pub drained_places : Effect → List Place
drained_places e = map place_of e.drained

-- after the compile of the picked record: rest are the other open records
unfoldable pub after_compile : Call.Answer → Effect → Search → List Place → Held → After
after_compile (refused n) e s rest h = refusing n s h.list (after e h.lent).lent
after_compile (compiled c) e s rest h =
    let s₁ = better c.best_exact c.exact_path s in
    let left = rest ++ appended c.exact s₁.best (drained_places e) in
    if_room (leb (length left) (length h.list)) s s₁ left h.list (after e h.lent).lent

-- 'If its bound is at most the best value, that is all, and tables and scratch list are untouched. Else it is compiled'
unfoldable pub if_above : Bool → Asked → Search → Given → List Place → Held → After
if_above false q s g rest h = accepting s rest h.list h.lent
if_above true q s g rest h =
    let e = compile_effect (request_for q s g) (rooms_of h.lent) in
    after_compile e.answer e s rest h

-- 'After checks 1 to 9 and 14, a pick removes one open record'
unfoldable pub unless : Option ℕ → Asked → Search → Held → After
unless (some n) q s h = refusing n s h.list h.lent
unless none q s h =
    let g = picked_from h.list q.place in
    if_above (lt_z s.best g.bound) q s g (without q.place (open_in s h.list)) h

unfoldable pub pick : Asked → Search → Held → After
pick q s h = unless (pick_refusal q s h.list) q s h
