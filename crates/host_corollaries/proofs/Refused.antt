-- What a call that didn't return 0 leaves: it was refused, and its definition says what then stays.
use mathlib.Core.Path.{◌≡◌, refl, ◌∙◌}
use mathlib.Core.List.{List}
use mathlib.Core.Logic.{◌≢◌}
use mathlib.Core.Option.{Option, none, some}
use Prim.Native.Nat.{ℕ}
use lib.IntN.{ℤ}
use lib.ListN.{length}
use Rattle.calls.specs.Asked.{Problem}
use Rattle.calls.specs.Compile as Call
use Rattle.calls.specs.Compile.{refused, compiled, compile}
use Rattle.compile.specs.Answered.{answer_from}
use Rattle.searches.specs.Places.{Place}
use Rattle.searches.specs.Search.{Search}
use Rattle.searches.specs.Start as Start
use Rattle.searches.specs.Start.{started, start_refusal, unless, start}
use Rattle.searches.specs.Pick as Pick
use Rattle.searches.specs.Pick.{refused_by, accepted, refusing, accepting, pick}
use Rattle.search.specs.Answered.{started_from, picked_from}
use Rattle.demand3.proofs.Picks.{Went, early, halted, outgrown, dropped, grown, went}
use Rattle.border.specs.declared.Found.{Found}
use Rattle.border.specs.declared.HostSearch.{HostSearch}
use Rattle.border.specs.Border.{number_of, nothing_found, found_of, host_search_after}
use Rattle.host_corollaries.specs.Refused.{RefusedCompileFindsNothing, RefusedStartKeeps, RefusedPickKeeps}

nothing_found_lem : (x : Call.Answer) (n : ℕ) (found : Found) → n ≡ number_of (answer_from x) → found ≡ found_of (answer_from x) → n ≢ 0 → found ≡ nothing_found
nothing_found_lem (refused k) n found m f h = f
nothing_found_lem (compiled c) n found m f h = absurd (h m)

pub refused_compile_finds_nothing : RefusedCompileFindsNothing
refused_compile_finds_nothing q l n found ns es rs k h = nothing_found_lem (compile q l).answer n found k.number_is k.found_is h

-- ---- a start

kept_start : (x : Start.Started) (n : ℕ) (old s : HostSearch) → n ≡ number_of (started_from x) → s ≡ host_search_after (started_from x) old → n ≢ 0 → s ≡ old
kept_start (Start.refused k) n old s m f h = f
kept_start (started t) n old s m f h = absurd (h m)

kept_list : (p : Problem) (bound : ℤ) (l : List Place) (n : ℕ) → n ≡ number_of (started_from (start p bound l).answer) → n ≢ 0 → (start p bound l).list ≡ l
unfolding start unless
kept_list p bound l n m h = by_refusal (start_refusal p (length l)) m
  where
    by_refusal : (o : Option ℕ) → n ≡ number_of (started_from (unless o p bound l).answer) → (unless o p bound l).list ≡ l
    by_refusal (some k) e = refl
    by_refusal none e = absurd (h e)

pub refused_start_keeps : RefusedStartKeeps
refused_start_keeps p bound l n old s list k h = (kept_start (start p bound l).answer n old s k.number_is k.search_is h, k.list_is ∙ kept_list p bound l n k.number_is h)

-- ---- a pick

kept_pick : (x : Pick.Picked) (t : Search) (n : ℕ) (old s : HostSearch) → n ≡ number_of (picked_from x t) → s ≡ host_search_after (picked_from x t) old → n ≢ 0 → s ≡ old
kept_pick (refused_by k) t n old s m f h = f
kept_pick accepted t n old s m f h = absurd (h m)

went_kept : (q : Pick.Asked) (t : Search) (h : Pick.Held) (n : ℕ) (r : Pick.After) → Went q t h r → n ≡ number_of (picked_from r.answer r.search) → n ≢ 0 → r.held.list ≡ h.list
unfolding refusing accepting
went_kept q t h n r (early k e) m z = refl
went_kept q t h n r (halted k y e) m z = refl
went_kept q t h n r (outgrown c y e o) m z = refl
went_kept q t h n r (dropped y low) m z = absurd (z m)
went_kept q t h n r (grown c y e l) m z = absurd (z m)

pub refused_pick_keeps : RefusedPickKeeps
refused_pick_keeps q t h n old s ns es list scratch k z =
    (kept_pick (pick q t h).answer (pick q t h).search n old s k.number_is k.search_is z, k.list_is ∙ went_kept q t h n (pick q t h) (went q t h) k.number_is z)
