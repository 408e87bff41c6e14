-- Two runs of one problem end alike: each pick answers the same, and leaves the same open records.
use mathlib.Core.Path.{◌≡◌, refl, sym, ap, ap₂, subst, ◌∙◌}
use mathlib.Core.Bool.{Bool, true, false}
use mathlib.Core.List.{List, [], ◌∷◌, ◌++◌}
use mathlib.Core.Option.{Option, none, some}
use Prim.Native.Nat.{ℕ, zero, suc}
use lib.Dec.{eqb}
use lib.ListN.{length, drop, length-append, length-drop}
use Rattle.words.specs.I64.{i64_min}
use Rattle.diagram.specs.After4.{CutsetKind}
use Rattle.calls.specs.Asked.{Problem}
use Rattle.calls.specs.Compile.{Lent, rooms_of}
use Rattle.searches.specs.Places.{Place, root_place, over_places}
use Rattle.searches.specs.Search.{Search, open_in}
use Rattle.searches.specs.Start as Start
use Rattle.searches.specs.Start.{start, start_refusal}
use Rattle.searches.specs.Pick.{Asked, Held, After, pick}
use Rattle.search_corollaries.specs.Twice.{SameInput, PickedAlike}
use Rattle.search_corollaries.proofs.Twice.{picks_alike}
use Rattle.jobs.specs.Run.{Ending, problem_of, ended, largest, asked_for, unless_refused, picking, all_turns, started_on, run_of, run}
use Rattle.job_run.specs.Twice.{OneRun, OneJobRun}

-- the same laid over two lists of one length
pub over_long : {A : Type 0} (w a b : List A) → length a ≡ length b → length (w ++ drop (length w) a) ≡ length (w ++ drop (length w) b)
over_long w a b e = simp (length-append, length-drop) (rw e refl)

pub asked_alike : (p : Problem) (kind : CutsetKind) (s : Search) (list other : List Place) → open_in s list ≡ open_in s other → asked_for p kind s list ≡ asked_for p kind s other
unfolding asked_for
asked_alike p kind s list other e = ap (λ (ps : List Place). record { problem = p; kind = kind; place = largest ps }) e

module _ (p : Problem) (kind : CutsetKind) (l m : Lent) (rooms : rooms_of l ≡ rooms_of m) where
  abbrev given : List Place → Lent → Held
  given list t = record { list = list; lent = t }

  -- after a pick the lists are alike again
  still_alike : (d e : After) (list other : List Place) → length list ≡ length other → PickedAlike d e (given list l) (given other m) → SameInput d.search (given d.held.list l) (given e.held.list m)
  unfolding over_places
  still_alike d e list other long a =
      record {
        opened = a.opened ∙ ap (λ (s : Search). open_in s e.held.list) (sym a.searches);
        long = ap (length {A = Place}) a.first_list ∙ over_long a.placed list other long ∙ sym (ap (length {A = Place}) a.second_list);
        rooms = rooms;
      }

  abbrev picked : Search → List Place → Lent → After
  picked s list t = pick (asked_for p kind s list) s (given list t)

  -- a search without open records has ended
  abbrev unless_empty : Search → Bool → Ending → Ending
  unless_empty s b x = elim b [ true ↦ ended s | false ↦ x ]

  first_alike : (list other : List Place) → length list ≡ length other → SameInput (Start.begun i64_min) (given (over_places (root_place p.page ∷ []) list) l) (given (over_places (root_place p.page ∷ []) other) m)
  unfolding open_in Start.begun over_places
  first_alike list other e =
      record { opened = refl; long = over_long (root_place p.page ∷ []) list other e; rooms = rooms }

  picking_alike : (turns : ℕ) (s : Search) (list other : List Place) → SameInput s (given list l) (given other m) → picking turns p kind l s list ≡ picking turns p kind m s other
  unfolding picking
  picking_alike zero s list other a = refl
  picking_alike (suc turns) s list other a =
      let q : asked_for p kind s list ≡ asked_for p kind s other = asked_alike p kind s list other a.opened in
      let z : PickedAlike (picked s list l) (pick (asked_for p kind s list) s (given other m)) (given list l) (given other m) = picks_alike (asked_for p kind s list) s (given list l) (given other m) a in
      let w : PickedAlike (picked s list l) (picked s other m) (given list l) (given other m) = subst (λ (x : Asked). PickedAlike (picked s list l) (pick x s (given other m)) (given list l) (given other m)) q z in
      let next : picking turns p kind l (picked s list l).search (picked s list l).held.list ≡ picking turns p kind m (picked s other m).search (picked s other m).held.list =
      picking_alike turns (picked s list l).search (picked s list l).held.list (picked s other m).held.list (still_alike (picked s list l) (picked s other m) list other a.long w)
      ∙ ap (λ (t : Search). picking turns p kind m t (picked s other m).held.list) w.searches in
      ap (unless_empty s (eqb s.opened 0)) (ap₂ unless_refused w.answers next)

  -- both lists hold the root record alone
  begun_alike : (x : Option ℕ) (list other : List Place) → length list ≡ length other → started_on p kind l (Start.unless x p i64_min list).list (Start.unless x p i64_min list).answer ≡ started_on p kind m (Start.unless x p i64_min other).list (Start.unless x p i64_min other).answer
  unfolding started_on Start.unless
  begun_alike (some n) list other e = refl
  begun_alike none list other e = picking_alike all_turns (Start.begun i64_min) (over_places (root_place p.page ∷ []) list) (over_places (root_place p.page ∷ []) other) (first_alike list other e)

pub one_run : OneRun
unfolding run_of start
one_run p kind l m list other rooms long =
    begun_alike p kind l m rooms (start_refusal p (length list)) list other long
    ∙ ap (λ (n : ℕ). let d = Start.unless (start_refusal p n) p i64_min other in started_on p kind m d.list d.answer) long

pub one_job_run : OneJobRun
unfolding run
one_job_run j l m list other rooms long = one_run (problem_of j) j.kind l m list other rooms long
