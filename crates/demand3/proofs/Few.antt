-- PicksAreFew: every open record is worth the picks that may come of it, 1 + C + … to the power of its items left, and each accepted pick is paid from that.
use mathlib.Core.Path.{◌≡◌, refl, sym, ap, subst, ◌∙◌}
use mathlib.Core.List.{List, [], ◌∷◌, ◌++◌, Memᴰ}
use Prim.Native.Nat.{ℕ, zero, suc, ◌+◌, ◌-◌, ◌*◌, ◌≤◌, ◌<◌}
use native.Mathlib.Nat.{mul-le-mul_left, mul-le-mul_right}
use native.Mathlib.Omega.{arith}
use lib.IntN.{ℤ}
use lib.ListN.{length, take, drop}
use lib.Seq.{split_at}
use Rattle.words.specs.I64.{InI64}
use Rattle.calls.specs.Asked.{Given}
use Rattle.calls.specs.Compile.{Lent, rooms_of, Compiled, compiled}
use Rattle.searches.specs.Places.{Place, no_place, given_at, root_place, over_places}
use Rattle.searches.specs.Search.{Search, open_in, without}
use Rattle.searches.specs.Start.{begun, start}
use Rattle.searches.specs.Pick.{After, picked_from, request_for, refusing, one_pick_more, accepting, appended, drained_places}
use Rattle.searches.specs.Trace.{Blocks, problem_at, Attempt, asked_by, picked_by, Trace, begins, goes_on}
use Rattle.demand3.specs.Searches.{item_count, geometric}
use Rattle.demand3.specs.Statements.{PicksAreFew}
use Rattle.demand3.proofs.Lists.{place_in, appended_in, appended_length}
use Rattle.demand3.proofs.Picks.{Passed, bettered, bettered_picks, others, effect_for, better_by, left_by, Went, early, halted, outgrown, dropped, grown, went}
use Rattle.demand3.proofs.Sound.{Holds}
use Rattle.demand3.proofs.Grown.{open_length, picked_is, answer, drained_place}
use Rattle.demand3.proofs.Always.{start_accepted, begun_open, accepting_open, relisted, always_holds}

-- ---- the sum

pub geometric_some : (c n : ℕ) → 1 ≤ geometric c n
unfolding geometric
geometric_some c zero = omega arith
geometric_some c (suc n) = omega arith

geometric_grows : (c m n : ℕ) → m ≤ n → geometric c m ≤ geometric c n
unfolding geometric
geometric_grows c zero zero h = omega arith
geometric_grows c zero (suc n) h = omega arith
geometric_grows c (suc m) zero h = absurd (omega arith)
geometric_grows c (suc m) (suc n) h = omega (arith, mul-le-mul_left c (geometric_grows c m n (omega arith)))

geometric_next : (c n : ℕ) → geometric c (suc n) ≡ 1 + c * geometric c n
unfolding geometric
geometric_next c n = refl

-- ---- what open records are worth

unfoldable pub worth : ℕ → ℕ → List Place → ℕ
worth c n [] = 0
worth c n (p ∷ ps) = geometric c (n - p.depth) + worth c n ps

worth_append : (c n : ℕ) (ps rs : List Place) → worth c n (ps ++ rs) ≡ worth c n ps + worth c n rs
unfolding worth
worth_append c n [] rs = omega arith
worth_append c n (p ∷ ps) rs = omega (arith, worth_append c n ps rs)

-- a record taken out takes its worth along
worth_without : (c n : ℕ) (ps : List Place) (k : ℕ) → k < length ps → worth c n ps ≡ worth c n (without k ps) + geometric c (n - (place_in ps k).depth)
unfolding worth without
worth_without c n ps k h =
    ap (worth c n) (split_at ps k no_place h)
    ∙ omega (arith, worth_append c n (take k ps) (place_in ps k ∷ drop (suc k) ps), worth_append c n (take k ps) (drop (suc k) ps))

-- so many records, each deeper than depth d of n items
worth_deeper : (c n d : ℕ) (ps : List Place) → ((p : Place) → Memᴰ p ps → d < p.depth) → worth c n ps ≤ length ps * geometric c (n - suc d)
unfolding worth
worth_deeper c n d [] h = omega arith
worth_deeper c n d (p ∷ ps) h =
    let deeper = h p (Memᴰ.head refl) in
    omega (arith, geometric_grows c (n - p.depth) (n - suc d) (omega arith), worth_deeper c n d ps (λ r i. h r (Memᴰ.tail i)))

-- At most c records, deeper than depth d and at most n deep, are worth less than a record of depth d.
worth_less : (c n d : ℕ) (ps : List Place) → length ps ≤ c → ((p : Place) → Memᴰ p ps → (d < p.depth) × (p.depth ≤ n)) → suc (worth c n ps) ≤ geometric c (n - d)
unfolding worth
worth_less c n d [] few h = omega (arith, geometric_some c (n - d))
worth_less c n d (p ∷ ps) few h =
    let deep = h p (Memᴰ.head refl) in
    let e : n - d ≡ suc (n - suc d) = omega (arith, deep) in
    let most = mul-le-mul_right (geometric c (n - suc d)) few in
    omega (arith, ap (geometric c) e, geometric_next c (n - suc d), worth_deeper c n d (p ∷ ps) (λ r i. (h r i).0))

-- ---- a start and a pick

given_depth : (p : Place) → (given_at p).depth ≡ p.depth
unfolding given_at
given_depth p = refl

-- picks made and picks that may come
abbrev pub Paid : ℕ → ℕ → Search → List Place → Type 0
Paid c n s list = s.picks + worth c n (open_in s list) ≤ geometric c n

begun_paid : (c n page : ℕ) (bound : ℤ) (list : List Place) → Paid c n (begun bound) (over_places (root_place page ∷ []) list)
unfolding worth begun root_place
begun_paid c n page bound list =
    let whole : n - 0 ≡ n = omega arith in
    omega (arith, ap (worth c n) (begun_open bound (root_place page) list), ap (geometric c) whole)

accepting_paid : (c n : ℕ) (s : Search) (left list : List Place) (l : Lent) → suc s.picks + worth c n left ≤ geometric c n → Paid c n (accepting s left list l).search (accepting s left list l).held.list
unfolding accepting one_pick_more
accepting_paid c n s left list l h = omega (arith, ap (worth c n) (accepting_open s left list l))

module _ (b : Blocks) (bound : ℤ) (most : ℕ) (s : Search) (a : Attempt) (h : Holds b bound s a.held.list) (few : (rooms_of a.held.lent).records ≤ most) (paid : Paid most (item_count b) s a.held.list) where
  abbrev n : ℕ
  n = item_count b

  abbrev ps : List Place
  ps = open_in s a.held.list

  -- the picked record's worth, and the others'
  split : Passed (asked_by b a) s a.held.list → worth most n ps ≡ worth most n (others (asked_by b a) s a.held.list) + geometric most (n - (place_in ps a.place).depth)
  split p = worth_without most n ps a.place (omega (arith, p.is_open, open_length s a.held.list p.listed))

  -- what is appended is worth less than the picked record
  appended_less : (c : Compiled) (p : Passed (asked_by b a) s a.held.list) → (effect_for (asked_by b a) s a.held).answer ≡ compiled c → suc (worth most n (appended c.exact (better_by c s).best (drained_places (effect_for (asked_by b a) s a.held)))) ≤ geometric most (n - (place_in ps a.place).depth)
  unfolding request_for
  appended_less c p e =
      let records = drained_places (effect_for (asked_by b a) s a.held) in
      let best = (better_by c s).best in
      let fits = (answer b bound s a c p e h.sound).few in
      let depth : (picked_from a.held.list a.place).depth ≡ (place_in ps a.place).depth = ap (λ (g : Given). g.depth) (picked_is s a.held.list a.place p.is_open) ∙ given_depth (place_in ps a.place) in
      worth_less most n (place_in ps a.place).depth (appended c.exact best records) (omega (arith, appended_length c.exact best records, fits))
      (λ r i. let d = drained_place b bound s a c p e h.sound r (appended_in c.exact best records r i) in
      (omega (arith, d.deeper, depth, given_depth r), omega (arith, d.deep, given_depth r)))

  went_paid : (r : After) → Went (asked_by b a) s a.held r → Paid most n r.search r.held.list
  unfolding refusing
  went_paid r (early k e) = paid
  went_paid r (halted k p e) = paid
  went_paid r (outgrown c p e o) = paid
  went_paid r (dropped p low) =
      accepting_paid most n s (others (asked_by b a) s a.held.list) a.held.list _ (omega (arith, paid, split p, geometric_some most (n - (place_in ps a.place).depth)))
  went_paid r (grown c p e l) =
      let records = drained_places (effect_for (asked_by b a) s a.held) in
      accepting_paid most n (better_by c s) (left_by (asked_by b a) s a.held c) a.held.list _
      (omega (arith, paid, split p.passed, appended_less c p.passed e, bettered_picks (bettered c.best_exact c.exact_path s), worth_append most n (others (asked_by b a) s a.held.list) (appended c.exact (better_by c s).best records)))

  pub pick_paid : Paid most n (picked_by b s a).search (picked_by b s a).held.list
  pick_paid = went_paid (picked_by b s a) (went (asked_by b a) s a.held)

-- ---- every moment of a trace

pub always_paid : (b : Blocks) (bound : ℤ) (most : ℕ) {s : Search} {list : List Place} → InI64 bound → Trace b bound most s list → Paid most (item_count b) s list
always_paid b bound most i (begins width list s e) =
    let y = start_accepted (problem_at b width) bound list s e in
    subst (λ (t : Search). Paid most (item_count b) t (start (problem_at b width) bound list).list) (sym y.search)
    (subst (λ (l : List Place). Paid most (item_count b) (begun bound) l) (sym y.written) (begun_paid most (item_count b) b.page bound list))
always_paid b bound most i (goes_on {s = s} {list = list} t a e few) =
    let h = relisted b bound s list a.held.list e (always_holds b bound most i t) in
    pick_paid b bound most s a h few (subst (λ (ps : List Place). s.picks + worth most (item_count b) ps ≤ geometric most (item_count b)) (sym e) (always_paid b bound most i t))

-- Statement 1.
pub picks_are_few : PicksAreFew
picks_are_few b bound most s list i t = omega (arith, always_paid b bound most i t)
