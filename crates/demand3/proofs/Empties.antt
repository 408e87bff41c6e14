-- PickingEnds and PickingEmpties: with room enough each pick is accepted and counted, and the count can't pass the sum, so the list becomes empty.
use mathlib.Core.Path.{◌≡◌, refl, ap, ◌∙◌}
use mathlib.Core.List.{List}
use mathlib.Core.Logic.{◌⊎◌, inl, inr, ⊎_elim}
use Prim.Native.Nat.{ℕ, zero, suc, ◌+◌, ◌≤◌, ◌<◌}
use native.Mathlib.Decide.{ℕ_discrete}
use native.Mathlib.Omega.{arith}
use lib.IntN.{ℤ}
use Rattle.words.specs.I64.{InI64}
use Rattle.searches.specs.Places.{Place}
use Rattle.searches.specs.Search.{Search, most_picks}
use Rattle.searches.specs.Start.{begun}
use Rattle.searches.specs.Pick.{Asked, Held, After, refusing, one_pick_more, accepting, pick}
use Rattle.searches.specs.Trace.{Blocks, problem_at, asked_by, picked_by, Trace, begins, goes_on}
use Rattle.demand3.specs.Searches.{item_count, geometric}
use Rattle.demand3.specs.Statements.{RoomIsEnough, Strategy, Moment, after_picks, Keeps, PickingEnds, PickingEmpties, count_of}
use Rattle.demand3.proofs.Picks.{bettered, bettered_picks, Went, early, halted, outgrown, dropped, grown, went}
use Rattle.demand3.proofs.Always.{start_accepted, always_holds}
use Rattle.demand3.proofs.Few.{picks_are_few}

-- ---- accepted picks are counted

went_counted : (q : Asked) (s : Search) (h : Held) (r : After) → Went q s h r → r.search.picks ≡ count_of r.answer + s.picks
unfolding refusing accepting one_pick_more count_of
went_counted q s h r (early n e) = omega arith
went_counted q s h r (halted n p e) = omega arith
went_counted q s h r (outgrown c p e o) = omega arith
went_counted q s h r (dropped p low) = omega arith
went_counted q s h r (grown c p e l) = omega (arith, bettered_picks (bettered c.best_exact c.exact_path s))

-- The search counts the picks that are accepted, and no other.
pub pick_counted : (q : Asked) (s : Search) (h : Held) → (pick q s h).search.picks ≡ count_of (pick q s h).answer + s.picks
pick_counted q s h = went_counted q s h (pick q s h) (went q s h)

-- and the count stays a u64
went_u64 : (q : Asked) (s : Search) (h : Held) → s.picks ≤ most_picks → (r : After) → Went q s h r → r.search.picks ≤ most_picks
unfolding refusing accepting one_pick_more
went_u64 q s h l r (early n e) = l
went_u64 q s h l r (halted n p e) = l
went_u64 q s h l r (outgrown c p e o) = l
went_u64 q s h l r (dropped p low) = omega (arith, p.countable)
went_u64 q s h l r (grown c p e m) = let k = p.passed.countable in omega (arith, bettered_picks (bettered c.best_exact c.exact_path s))

pub pick_u64 : (q : Asked) (s : Search) (h : Held) → s.picks ≤ most_picks → (pick q s h).search.picks ≤ most_picks
pick_u64 q s h l = went_u64 q s h l (pick q s h) (went q s h)

pub begun_picks : (bound : ℤ) → (begun bound).picks ≡ 0
unfolding begun
begun_picks bound = refl

pub picks_are_u64 : (b : Blocks) (bound : ℤ) (most : ℕ) {s : Search} {list : List Place} → Trace b bound most s list → s.picks ≤ most_picks
picks_are_u64 b bound most (begins width list s e) =
    let y = start_accepted (problem_at b width) bound list s e in
    omega (arith, ap (λ (t : Search). t.picks) y.search, begun_picks bound)
picks_are_u64 b bound most (goes_on {s = s} t a e few) = went_u64 (asked_by b a) s a.held (picks_are_u64 b bound most t) (picked_by b s a) (went (asked_by b a) s a.held)

-- ---- a host that picks on

-- after at most f picks the list is empty, or the count stands at the u64 maximum
record Ends (b : Blocks) (bound : ℤ) (most : ℕ) (host : Strategy) (m : Moment) (f : ℕ) : Type 0 where
  count : ℕ
  within : count ≤ f
  trace : Trace b bound most (after_picks b host count m).search (after_picks b host count m).list
  then : ((after_picks b host count m).search.opened ≡ 0) ⊎ ((after_picks b host count m).search.picks ≡ most_picks)

module _ (enough : RoomIsEnough) (b : Blocks) (bound : ℤ) (most : ℕ) (i : InI64 bound) (host : Strategy) (keeps : Keeps b most host) where
  -- one pick of the host, where a record is open and the count can grow
  record Next (s : Search) (list : List Place) : Type 0 where
    trace : let r = picked_by b s (host s list) in Trace b bound most r.search r.held.list
    picks : (picked_by b s (host s list)).search.picks ≡ suc s.picks

  next : (s : Search) (list : List Place) → Trace b bound most s list → 0 < s.opened → s.picks < most_picks → Next s list
  unfolding count_of
  next s list t some few =
      let listed = (always_holds b bound most i t).listed in
      let a = host s list in
      let same = keeps.as_left s list listed in
      let yes = enough b bound most s list i t a same (keeps.roomy s list listed some) few in
      record {
        trace = goes_on t a same (keeps.scratch s list);
        picks = pick_counted (asked_by b a) s a.held ∙ ap (λ (r : _). count_of r + s.picks) yes ∙ omega arith;
      }

  -- nothing more to pick, or one more pick and then as many as that leaves
  abbrev Over : Search → Type 0
  Over s = (s.opened ≡ 0) ⊎ (s.picks ≡ most_picks)

  over_or_not : (s : Search) → s.picks ≤ most_picks → Over s ⊎ ((0 < s.opened) × (s.picks < most_picks))
  over_or_not s l =
      elim (ℕ_discrete s.opened 0) [
        | yes e ↦ inl (inl e)
        | no n ↦ elim (ℕ_discrete s.picks most_picks) [ yes e ↦ inl (inr e) | no k ↦ inr (omega arith, omega arith) ]
      ]

  ends_here : (f : ℕ) (s : Search) (list : List Place) → Trace b bound most s list → Over s → Ends b bound most host (record { search = s; list = list }) f
  unfolding after_picks
  ends_here f s list t o = record { count = 0; within = omega arith; trace = t; then = o }

  ends_later : (f : ℕ) (s : Search) (list : List Place) → (let r = picked_by b s (host s list) in Ends b bound most host (record { search = r.search; list = r.held.list }) f) → Ends b bound most host (record { search = s; list = list }) (suc f)
  unfolding after_picks
  ends_later f s list e = record { count = suc e.count; within = omega (arith, e.within); trace = e.trace; then = e.then }

  -- f picks are enough where picks made and f reach the sum
  ends : (f : ℕ) (s : Search) (list : List Place) → Trace b bound most s list → geometric most (item_count b) ≤ s.picks + f → Ends b bound most host (record { search = s; list = list }) f
  ends zero s list t h =
      ⊎_elim (ends_here zero s list t)
      (λ z. let n = next s list t z.0 z.1 in absurd (omega (arith, n.picks, picks_are_few b bound most _ _ i n.trace)))
      (over_or_not s (picks_are_u64 b bound most t))
  ends (suc f) s list t h =
      ⊎_elim (ends_here (suc f) s list t)
      (λ z. let n = next s list t z.0 z.1 in ends_later f s list (ends f _ _ n.trace (omega (arith, n.picks))))
      (over_or_not s (picks_are_u64 b bound most t))

-- Statement 4, picking on.
pub picking_ends_if : RoomIsEnough → PickingEnds
picking_ends_if enough b bound most s list i t host keeps =
    let e = ends enough b bound most i host keeps (geometric most (item_count b)) s list t (omega arith) in
    (e.count, e.within, e.then)

pub picking_empties_if : RoomIsEnough → PickingEmpties
picking_empties_if enough b bound most s list i t host keeps below =
    let e = ends enough b bound most i host keeps (geometric most (item_count b)) s list t (omega arith) in
    (e.count, e.within, ⊎_elim (λ o. o) (λ full. absurd (omega (arith, picks_are_few b bound most _ _ i e.trace))) e.then)
