-- Demand 3 as statements, for every trace of a search: any starting bound, any picks, refused ones included, each with its own width, cutset kind and lent lists and tables.
use Rattle.std.specs.Prelude.{◌≡◌, true, false, ◌⊎◌, ℕ, zero, suc, ◌+◌, ◌≤◌, ◌<◌, ℤ, pos, length, ◌<ℤ◌}
use mathlib.Core.List.{List, [], ◌∷◌, Memᴰ}
use Rattle.words.specs.I64.{InI64}
use Rattle.knapsack.specs.Knapsack.{Optimum}
use Rattle.diagram.specs.After4.{CutsetKind}
use Rattle.calls.specs.Compile.{Lent, rooms_of}
use Rattle.demand2.specs.Records.{items_in, Valid}
use Rattle.searches.specs.Places.{Place, given_at}
use Rattle.searches.specs.Search.{Search, most_picks, open_in}
use Rattle.searches.specs.Start.{start, started}
use Rattle.searches.specs.Pick as Pick
use Rattle.searches.specs.Pick.{Picked, refused_by, accepted, pick}
use Rattle.searches.specs.Trace.{Blocks, problem_at, Attempt, picked_by, Trace}
use Rattle.demand3.specs.Searches.{problem_of, item_count, geometric, larger, Leads, IsSelection, nodes_for, Roomy}

-- ---- 1 'With at most C places in the scratch list at every pick and n items there are at most 1 + C + C² + … + Cⁿ accepted picks.'

abbrev pub PicksAreFew : Type 0
PicksAreFew =
    (b : Blocks) (bound : ℤ) (most : ℕ) (s : Search) (list : List Place) → InI64 bound → Trace b bound most s list → s.picks ≤ geometric most (item_count b)

-- ---- 2 whenever the list is empty, the search holds the optimum, or the starting bound where that is larger

pub record Ended (b : Blocks) (bound : ℤ) (s : Search) (x : ℕ) : Type 0 where
  pub best : s.best ≡ larger bound (pos x)
  pub held : bound <ℤ pos x → s.held ≡ true
  pub unheld : s.held ≡ true → bound <ℤ pos x
  pub selection : s.held ≡ true → IsSelection b s.path s.best

abbrev pub EmptyMeansOptimal : Type 0
EmptyMeansOptimal =
    (b : Blocks) (bound : ℤ) (most : ℕ) (s : Search) (list : List Place) → InI64 bound → Trace b bound most s list → s.opened ≡ 0 →
    (x : ℕ) → Optimum (items_in (problem_of b)) b.page x → Ended b bound s x

-- ---- 3 at every moment: the invariant

pub record Stands (b : Blocks) (bound : ℤ) (s : Search) (list : List Place) : Type 0 where
  -- the open records lie in the list, and each is valid
  pub listed : s.opened ≤ length list
  pub valid : (p : Place) → Memᴰ p (open_in s list) → Valid (problem_of b) (given_at p)
  -- the held selection fits and earns best; without one, best is the starting bound
  pub selection : s.held ≡ true → IsSelection b s.path s.best
  pub beats : s.held ≡ true → bound <ℤ s.best
  pub unheld : s.held ≡ false → s.best ≡ bound
  -- where the optimum beats best, some open record leads to it
  pub leads : (x : ℕ) → Optimum (items_in (problem_of b)) b.page x → s.best <ℤ pos x → Leads b (open_in s list) (pos x)

abbrev pub AlwaysStands : Type 0
AlwaysStands = (b : Blocks) (bound : ℤ) (most : ℕ) (s : Search) (list : List Place) → InI64 bound → Trace b bound most s list → Stands b bound s list

-- ---- 4 not vacuous

-- a pick of an open record of a reachable search is refused by 11 to 13 alone, for want of room
abbrev pub RefusedForRoomAlone : Type 0
RefusedForRoomAlone =
    (b : Blocks) (bound : ℤ) (most : ℕ) (s : Search) (list : List Place) → InI64 bound → Trace b bound most s list →
    (a : Attempt) → open_in s a.held.list ≡ open_in s list → a.place < s.opened → 1 ≤ a.width → a.width ≤ 256 → s.picks < most_picks →
    (n : ℕ) → (picked_by b s a).answer ≡ refused_by n → (n ≡ 11) ⊎ ((n ≡ 12) ⊎ (n ≡ 13))

-- with enough room it is accepted
abbrev pub RoomIsEnough : Type 0
RoomIsEnough =
    (b : Blocks) (bound : ℤ) (most : ℕ) (s : Search) (list : List Place) → InI64 bound → Trace b bound most s list →
    (a : Attempt) → open_in s a.held.list ≡ open_in s list → Roomy b s a → s.picks < most_picks → (picked_by b s a).answer ≡ accepted

-- what a host picks next, of a search and its list: anything
abbrev pub Strategy : Type 0
Strategy = Search → List Place → Attempt

-- the search and its list after n picks
pub record Moment : Type 0 where
  pub search : Search
  pub list : List Place

unfoldable pub after_picks : Blocks → Strategy → ℕ → Moment → Moment
after_picks b host zero m = m
after_picks b host (suc n) m = let p = picked_by b m.search (host m.search m.list) in after_picks b host n (record { search = p.search; list = p.held.list })

-- a host that leaves the open records as they are, and lends enough room and at most `most` scratch places, wherever a record is open
pub record Keeps (b : Blocks) (most : ℕ) (host : Strategy) : Type 0 where
  pub as_left : (s : Search) (list : List Place) → s.opened ≤ length list → open_in s (host s list).held.list ≡ open_in s list
  pub scratch : (s : Search) (list : List Place) → (rooms_of (host s list).held.lent).records ≤ most
  pub roomy : (s : Search) (list : List Place) → s.opened ≤ length list → 0 < s.opened → Roomy b s (host s list)

-- there are such hosts, for every width that passes
abbrev pub SomeHostKeeps : Type 0
SomeHostKeeps = (b : Blocks) (width : ℕ) → 1 ≤ width → width ≤ 256 → (host : Strategy) × Keeps b (nodes_for width (item_count b)) host

-- Whatever such a host picks, its picks empty the list within the sum of statement 1, unless accepted picks come to stand at the u64 maximum before.
abbrev pub PickingEnds : Type 0
PickingEnds =
    (b : Blocks) (bound : ℤ) (most : ℕ) (s : Search) (list : List Place) → InI64 bound → Trace b bound most s list → (host : Strategy) → Keeps b most host →
    (n : ℕ) × (n ≤ geometric most (item_count b)) × (((after_picks b host n (record { search = s; list = list })).search.opened ≡ 0) ⊎ ((after_picks b host n (record { search = s; list = list })).search.picks ≡ most_picks))

-- So they empty it where that sum is below the u64 maximum.
abbrev pub PickingEmpties : Type 0
PickingEmpties =
    (b : Blocks) (bound : ℤ) (most : ℕ) (s : Search) (list : List Place) → InI64 bound → Trace b bound most s list →
    (host : Strategy) → Keeps b most host → geometric most (item_count b) < most_picks →
    (n : ℕ) × (n ≤ geometric most (item_count b)) × ((after_picks b host n (record { search = s; list = list })).search.opened ≡ 0)

-- ---- 5 demand 3 in its own words: 'blocks, page, width and cutset kind unchanged, search and list touched by picks only'

-- a turn: which open record anyone picks, and the tables and scratch list that are lent for it
pub record Turn : Type 0 where
  pub place : ℕ
  pub lent : Lent

unfoldable pub turned : Blocks → ℕ → CutsetKind → Turn → Moment → Pick.After
turned b width kind t m = pick (record { problem = problem_at b width; kind = kind; place = t.place }) m.search (record { list = m.list; lent = t.lent })

-- the search and the list after some turns, and how many of them were accepted
unfoldable pub after_turns : Blocks → ℕ → CutsetKind → List Turn → Moment → Moment
after_turns b width kind [] m = m
after_turns b width kind (t ∷ ts) m = let p = turned b width kind t m in after_turns b width kind ts (record { search = p.search; list = p.held.list })

unfoldable pub count_of : Picked → ℕ
count_of (refused_by n) = 0
count_of accepted = 1

unfoldable pub accepted_in : Blocks → ℕ → CutsetKind → List Turn → Moment → ℕ
accepted_in b width kind [] m = 0
accepted_in b width kind (t ∷ ts) m = let p = turned b width kind t m in count_of p.answer + accepted_in b width kind ts (record { search = p.search; list = p.held.list })

-- what demand 3 asks of a search s that comes of `count` accepted picks
pub record Demanded (b : Blocks) (bound : ℤ) (most count : ℕ) (s : Search) : Type 0 where
  pub counted : s.picks ≡ count
  pub bounded : count ≤ geometric most (item_count b)
  pub empty : s.opened ≡ 0 → (x : ℕ) → Optimum (items_in (problem_of b)) b.page x → Ended b bound s x

abbrev pub OneSearch : Type 0
OneSearch =
    (b : Blocks) (width : ℕ) (kind : CutsetKind) (bound : ℤ) (list : List Place) (s : Search) → InI64 bound → (start (problem_at b width) bound list).answer ≡ started s →
    (turns : List Turn) (most : ℕ) → ((t : Turn) → Memᴰ t turns → (rooms_of t.lent).records ≤ most) →
    let m : Moment = record { search = s; list = (start (problem_at b width) bound list).list } in
    Demanded b bound most (accepted_in b width kind turns m) (after_turns b width kind turns m).search
