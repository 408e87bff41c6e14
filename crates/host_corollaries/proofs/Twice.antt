-- Two calls of a host on equal input: what they return and leave is made of one answer, and they write what the calls below write.
use mathlib.Core.Path.{◌≡◌, refl, sym, ap, ap₂, subst, ◌∙◌}
use mathlib.Core.List.{List, [], ◌∷◌}
use mathlib.Core.Option.{Option, none, some}
use Rattle.std.specs.Prelude.{Result}
use Prim.Native.Nat.{ℕ}
use lib.IntN.{ℤ}
use lib.ListN.{length}
use Rattle.calls.specs.Asked.{Problem}
use Rattle.calls.specs.Compile as Compile
use Rattle.calls.specs.Compile.{Rooms, rooms_of, compile_effect}
use Rattle.compile.specs.Asked.{lent_of}
use Rattle.searches.specs.Places.{Place, root_place, over_places}
use Rattle.searches.specs.Start as Start
use Rattle.searches.specs.Start.{start_refusal, unless, start}
use Rattle.searches.specs.Pick as Pick
use Rattle.searches.specs.Pick.{pick}
use Rattle.search.specs.declared.Search as Code
use Rattle.search.specs.Answered.{started_from, picked_from}
use Rattle.search.specs.Begins.{Begins}
use Rattle.search.proofs.Twice.{starts_alike}
use Rattle.pick_steps.specs.Tried.{held_in}
use Rattle.pick.specs.Picks.{Picks}
use Rattle.search_corollaries.proofs.Twice as Below
use Rattle.jobs.specs.Run.{Ending, run}
use Rattle.jobs.specs.Page.{refusal_of, answer_of}
use Rattle.page_text.specs.declared.Output.{Output}
use Rattle.page_text.proofs.Says.{one_output}
use Rattle.job_text.proofs.Accepted.{Told, a_job, no_job, told}
use Rattle.job_run.proofs.Twice.{one_job_run}
use Rattle.job_run.proofs.Leaving.{effect_left}
use Rattle.job_corollaries.proofs.Alike.{leaves_alike}
use Rattle.border.specs.declared.Found.{Found}
use Rattle.border.specs.declared.HostSearch.{HostSearch}
use Rattle.border.specs.declared.Page.{Page}
use Rattle.border.specs.Border.{number_of, host_search_after, ending_number, output_in}
use Rattle.host.specs.Promises.{CompilesFor, StartsFor, PicksFor, Shows}
use Rattle.host_corollaries.specs.Twice.{PlacedAlike, OneCompile, OneStart, OnePick, OneJob, OneJobLeaves}

-- ---- what a host's call leaves is what the call below it leaves

pub begins_below : (d : Start.After) (n : ℕ) (old s : HostSearch) (list : List Place) → StartsFor d n old s list → Begins d (started_from d.answer) list
begins_below d n old s list h = record { answered = refl; written = h.list_is }

pub picks_below : (d : Pick.After) (n : ℕ) (old s : HostSearch) (ns es : List ℕ) (list : List Place) (scratch : List ℕ) → PicksFor d n old s ns es list scratch → Picks d (picked_from d.answer d.search) ns es list scratch
picks_below d n old s ns es list scratch h = record { answered = refl; nodes_are = h.nodes_are; edges_are = h.edges_are; list_is = h.list_is; scratch_is = h.scratch_is }

-- ---- two calls

compiled_lent : (d : Compile.After) (n : ℕ) (found : Found) (ns es rs : List ℕ) → CompilesFor d n found ns es rs → lent_of ns es rs ≡ d.lent
compiled_lent d n found ns es rs h = rw (h.nodes_are, h.edges_are, h.records_are) refl

pub one_compile : OneCompile
unfolding Compile.compile Compile.after
one_compile q t t' rooms n n' found found' ns es r ns' es' r' h k =
    let w = compile_effect q (rooms_of t) in
    let k₁ : CompilesFor (Compile.after w t') n' found' ns' es' r' = subst (λ (m : Rooms). CompilesFor (Compile.after (compile_effect q m) t') n' found' ns' es' r') (sym rooms) k in (
      h.number_is ∙ sym k₁.number_is,
      h.found_is ∙ sym k₁.found_is,
      record { written = w; first = compiled_lent (Compile.after w t) n found ns es r h; second = compiled_lent (Compile.after w t') n' found' ns' es' r' k₁ },
    )

-- a start writes the root record alone, or nothing
placed_by : (x : Option ℕ) (p : Problem) (bound : ℤ) (l l' : List Place) → PlacedAlike (unless x p bound l).list (unless x p bound l').list l l'
unfolding unless over_places
placed_by (some n) p bound l l' = record { placed = []; first = refl; second = refl }
placed_by none p bound l l' = record { placed = root_place p.page ∷ []; first = refl; second = refl }

placed : (p : Problem) (bound : ℤ) (l l' : List Place) → length l ≡ length l' → PlacedAlike (start p bound l).list (start p bound l').list l l'
unfolding start
placed p bound l l' long = subst (λ (k : ℕ). PlacedAlike (unless (start_refusal p (length l)) p bound l).list (unless (start_refusal p k) p bound l').list l l') long (placed_by (start_refusal p (length l)) p bound l l')

pub one_start : OneStart
one_start p bound l l' long n n' old s s' m m' h k =
    let same = (starts_alike p bound _ _ l m l' m' long (begins_below (start p bound l) n old s m h) (begins_below (start p bound l') n' old s' m' k)).answers in
    let z = placed p bound l l' long in (
      h.number_is ∙ ap (λ (a : Result Code.Search ℕ). number_of a) same ∙ sym k.number_is,
      h.search_is ∙ ap (λ (a : Result Code.Search ℕ). host_search_after a old) same ∙ sym k.search_is,
      record { placed = z.placed; first = h.list_is ∙ z.first; second = k.list_is ∙ z.second },
    )

pub one_pick : OnePick
one_pick q t h k input n n' old s s' ns es r ns' es' r' l l' x y =
    let z = Below.one_pick q t h k input _ _ ns es r ns' es' r' l l' (picks_below (pick q t h) n old s ns es l r x) (picks_below (pick q t k) n' old s' ns' es' l' r' y) in (
      x.number_is ∙ ap (λ (a : Result Code.Search ℕ). number_of a) z.answers ∙ sym y.number_is,
      x.search_is ∙ ap (λ (a : Result Code.Search ℕ). host_search_after a old) z.answers ∙ sym y.search_is,
      effect_left z.placed z.written (held_in l ns es r) (held_in l' ns' es' r') h k z.first_list z.first_lent z.second_list z.second_lent,
    )

-- one text shows as one page
shown_alike : (number : ℕ) (text : List ℕ) (n n' : ℕ) (page page' : Page) → Shows number text n page → Shows number text n' page' → (n ≡ n') × (page ≡ page')
shown_alike number text n n' page page' s s' = (
  s.number_is ∙ sym s'.number_is,
  ap₂ (λ (o : Output) (e : ℕ). record { count = o.count; bytes = o.bytes; end = e }) (one_output text 671 671 (output_in page) (output_in page') s.says s'.says) (s.end_zero ∙ sym s'.end_zero),
)

-- it is a job's text or none, and a job's run ends alike in both
pub one_job : OneJob
one_job text h k rooms long n n' page page' after after' x y = by_text (told text)
  where
    by_text : Told text → (n ≡ n') × (page ≡ page')
    by_text (a_job j is) =
        let other = run j k.lent k.list in
        shown_alike (ending_number other) (answer_of (length j.items) other) n n' page page'
        (subst (λ (e : Ending). Shows (ending_number e) (answer_of (length j.items) e) n page) (one_job_run j h.lent k.lent h.list k.list rooms long) (x.of_job j is)) (y.of_job j is)
    by_text (no_job not-one) = shown_alike 15 (refusal_of 15) n n' page page' (x.outside not-one) (y.outside not-one)

pub one_job_leaves : OneJobLeaves
one_job_leaves text h k same n n' page page' after after' x y = leaves_alike text h k after after' same x.leaves y.leaves
