-- What a pick does, one of five ways, and what then is in the search: refused early, refused by the compile, refused for want of room, a record dropped, a record compiled.
use mathlib.Core.Path.{◌≡◌, refl, subst}
use mathlib.Core.Bool.{Bool, true, false}
use mathlib.Core.List.{List}
use mathlib.Core.Logic.{◌≢◌, inl, inr, ⊎_elim}
use mathlib.Core.Option.{Option, none, some}
use Prim.Native.Nat.{ℕ, ◌≤◌, ◌<◌}
use native.Mathlib.Decide.{dec_lt}
use native.Mathlib.Omega.{arith}
use lib.Dec.{leb}
use lib.IntN.{ℤ}
use lib.ListN.{length}
use lib.Signed.{◌≤ℤ◌, ◌<ℤ◌, lt_z, ≤ℤ_refl}
use borrow.Author.Tests.{leb-true, leb-false}
use Rattle.knapsack.proofs.Cases.{by_test}
use Rattle.calls.specs.Compile as Call
use Rattle.calls.specs.Compile.{rooms_of, Compiled, refused, compiled, Effect, compile_effect, after}
use Rattle.calls.specs.Table.{Clear, end, past}
use Rattle.calls.proofs.Refusals.{none_clear, clear_none}
use Rattle.demand2.specs.Records.{Allowed, Valid}
use Rattle.searches.specs.Places.{Place}
use Rattle.searches.specs.Search.{Search, most_picks, open_in, without}
use Rattle.searches.specs.Pick.{Asked, Held, After, picked_from, pick_refusal, refusing, better, accepting, if_room, drained_places, after_compile, if_above, unless, pick}
use Rattle.searches.specs.Rows.{Row14, check_rows, request_of, Runs, open_after}
use Rattle.searches.proofs.Refusals.{pick_checked}
use Rattle.demand3.proofs.Order.{below_if, at_most_if, at_most_of_below}

-- ---- 1 to 9 and 14

-- none of them applies
pub record Passed (q : Asked) (s : Search) (list : List Place) : Type 0 where
  pub allowed : Allowed q.problem
  pub is_open : q.place < s.opened
  pub listed : s.opened ≤ length list
  pub countable : s.picks ≢ most_picks
  pub valid : Valid q.problem (picked_from list q.place)

rows_passed : (q : Asked) (s : Search) (list : List Place) → Clear (check_rows q s list) → Passed q s list
rows_passed q s list (past a1 (past a2 (past a3 (past a4 (past a5 (past a6 (past a14 (past a7 (past a8 (past a9 end)))))))))) =
    record {
      allowed = record { passes1 = a1; passes2 = a2; passes3 = a3; passes4 = a4; passes5 = a5; passes6 = a6 };
      is_open = elim (dec_lt q.place s.opened) [ yes h ↦ h | no n ↦ absurd (a14 (inl n)) ];
      listed = elim (dec_lt (length list) s.opened) [ yes h ↦ absurd (a14 (inr (inl h))) | no n ↦ omega arith ];
      countable = λ e. a14 (inr (inr e));
      valid = record { passes7 = a7; passes8 = a8; passes9 = a9 };
    }

pub passes : (q : Asked) (s : Search) (list : List Place) → pick_refusal q s list ≡ none → Passed q s list
unfolding pick_refusal
passes q s list e = rows_passed q s list (none_clear (pick_checked q s list) e)

pub passed_rows : (q : Asked) (s : Search) (list : List Place) → Passed q s list → Clear (check_rows q s list)
passed_rows q s list p =
    let a = p.allowed in
    let v = p.valid in
    let fourteen : ¬ Row14 s q.place (length list) = ⊎_elim (λ h. h p.is_open) (⊎_elim (λ h. omega (arith, p.listed)) (λ h. p.countable h)) in
    past a.passes1 (past a.passes2 (past a.passes3 (past a.passes4 (past a.passes5 (past a.passes6 (past fourteen (past v.passes7 (past v.passes8 (past v.passes9 end)))))))))

pub passed : (q : Asked) (s : Search) (list : List Place) → Passed q s list → pick_refusal q s list ≡ none
unfolding pick_refusal
passed q s list p = clear_none (pick_checked q s list) (passed_rows q s list p)

-- ---- best and path

-- 'a strictly larger best exact value replaces best and path': it does, or there is none
pub data Bettered (found : Option ℤ) (path : List ℕ) (s : Search) : Search → Type 0 where
  replaced : (v : ℤ) → found ≡ some v → s.best <ℤ v → Bettered found path s (record { best = v; held = true; path = path; opened = s.opened; picks = s.picks })
  stayed : ((v : ℤ) → found ≡ some v → v ≤ℤ s.best) → Bettered found path s s

pub bettered : (found : Option ℤ) (path : List ℕ) (s : Search) → Bettered found path s (better found path s)
unfolding better
bettered none path s = stayed (λ v e. let z : ◌≡◌ {A = ℕ} 0 1 = cc in absurd (omega arith))
bettered (some v) path s =
    by_test (λ t. Bettered (some v) path s (elim t [ true ↦ record { best = v; held = true; path = path; opened = s.opened; picks = s.picks } | false ↦ s ])) (lt_z s.best v)
    (λ e. replaced v refl (below_if s.best v e))
    (λ e. stayed (λ w q. let z : v ≡ w = cc in subst (λ (u : ℤ). u ≤ℤ s.best) z (at_most_if s.best v e)))

-- the best value never falls, and is at least what was found
pub bettered_up : {found : Option ℤ} {path : List ℕ} {s t : Search} → Bettered found path s t → s.best ≤ℤ t.best
bettered_up (replaced v e h) = at_most_of_below _ v h
bettered_up {s = s} (stayed h) = ≤ℤ_refl s.best

pub bettered_least : {found : Option ℤ} {path : List ℕ} {s t : Search} → Bettered found path s t → (v : ℤ) → found ≡ some v → v ≤ℤ t.best
bettered_least (replaced w e h) v q = let z : v ≡ w = cc in subst (λ (u : ℤ). v ≤ℤ u) z (≤ℤ_refl v)
bettered_least (stayed h) v q = h v q

pub bettered_picks : {found : Option ℤ} {path : List ℕ} {s t : Search} → Bettered found path s t → t.picks ≡ s.picks
bettered_picks (replaced w e h) = refl
bettered_picks (stayed h) = refl

-- ---- the five ways

-- the other open records
abbrev pub others : Asked → Search → List Place → List Place
others q s list = without q.place (open_in s list)

-- the compile of the picked record
abbrev pub effect_for : Asked → Search → Held → Effect
effect_for q s h = compile_effect (request_of q s h) (rooms_of h.lent)

-- the search with its best value after it, and the open records then
abbrev pub better_by : Compiled → Search → Search
better_by c s = better c.best_exact c.exact_path s

abbrev pub left_by : Asked → Search → Held → Compiled → List Place
left_by q s h c = open_after q s h.list c (drained_places (effect_for q s h))

-- a pick that passes, and whose record is compiled
pub record Compiles (q : Asked) (s : Search) (h : Held) : Type 0 where
  pub passed : Passed q s h.list
  pub runs : Runs q s h

pub data Went (q : Asked) (s : Search) (h : Held) : After → Type 0 where
  early : (n : ℕ) → pick_refusal q s h.list ≡ some n → Went q s h (refusing n s h.list h.lent)
  halted : (n : ℕ) → Compiles q s h → (effect_for q s h).answer ≡ refused n → Went q s h (refusing n s h.list (after (effect_for q s h) h.lent).lent)
  outgrown : (c : Compiled) → Compiles q s h → (effect_for q s h).answer ≡ compiled c → length h.list < length (left_by q s h c) → Went q s h (refusing 13 s h.list (after (effect_for q s h) h.lent).lent)
  dropped : Passed q s h.list → (picked_from h.list q.place).bound ≤ℤ s.best → Went q s h (accepting s (others q s h.list) h.list h.lent)
  grown : (c : Compiled) → Compiles q s h → (effect_for q s h).answer ≡ compiled c → length (left_by q s h c) ≤ length h.list → Went q s h (accepting (better_by c s) (left_by q s h c) h.list (after (effect_for q s h) h.lent).lent)

room_went : (q : Asked) (s : Search) (h : Held) (c : Compiled) → Compiles q s h → (effect_for q s h).answer ≡ compiled c → (b : Bool) → leb (length (left_by q s h c)) (length h.list) ≡ b → Went q s h (if_room b s (better_by c s) (left_by q s h c) h.list (after (effect_for q s h) h.lent).lent)
unfolding if_room
room_went q s h c p e true t = grown c p e (leb-true (length (left_by q s h c)) (length h.list) t)
room_went q s h c p e false t = outgrown c p e (leb-false (length (left_by q s h c)) (length h.list) t)

compile_went : (q : Asked) (s : Search) (h : Held) → Compiles q s h → (a : Call.Answer) → (effect_for q s h).answer ≡ a → Went q s h (after_compile a (effect_for q s h) s (others q s h.list) h)
unfolding after_compile
compile_went q s h p (refused n) e = halted n p e
compile_went q s h p (compiled c) e = room_went q s h c p e _ refl

above_went : (q : Asked) (s : Search) (h : Held) → Passed q s h.list → (b : Bool) → lt_z s.best (picked_from h.list q.place).bound ≡ b → Went q s h (if_above b q s (picked_from h.list q.place) (others q s h.list) h)
unfolding if_above
above_went q s h p false e = dropped p (at_most_if _ _ e)
above_went q s h p true e = compile_went q s h (record { passed = p; runs = below_if _ _ e }) (effect_for q s h).answer refl

pick_went : (q : Asked) (s : Search) (h : Held) (n : Option ℕ) → pick_refusal q s h.list ≡ n → Went q s h (unless n q s h)
unfolding unless
pick_went q s h (some n) e = early n e
pick_went q s h none e = above_went q s h (passes q s h.list e) _ refl

pub went : (q : Asked) (s : Search) (h : Held) → Went q s h (pick q s h)
unfolding pick
went q s h = pick_went q s h (pick_refusal q s h.list) refl
