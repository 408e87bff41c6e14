-- A pick's steps, with the list that its record stands in, are the definition's pick.
use mathlib.Core.Path.{◌≡◌, refl, sym, ap, ap₂, ◌∙◌}
use mathlib.Core.Bool.{Bool, true, false, cond}
use mathlib.Core.List.{List, [], ◌∷◌, ◌++◌, append-nil}
use mathlib.Core.Option.{Option, none, some}
use Prim.Native.Nat.{ℕ, zero, suc, ◌+◌, ◌-◌, ◌*◌, ◌^◌, ◌<◌, ◌≤◌}
use native.Mathlib.Omega.{arith}
use lib.Dec.{leb}
use lib.IntN.{ℤ}
use lib.ListN.{length, get_or, length-append}
use lib.Signed.{lt_z}
use borrow.Author.Tests.{le-leb, lt-leb, leb-true}
use Rattle.std.specs.Prelude.{Result, Ok, Err}
use Rattle.layout.specs.Records.{record_words}
use Rattle.calls.specs.Asked.{Problem, Given}
use Rattle.calls.specs.Compile as Call
use Rattle.calls.specs.Compile.{Request, Lent, rooms_of, refused, compiled, compile_effect, after}
use Rattle.compile.specs.Asked.{lent_of}
use Rattle.records.specs.declared.Record.{Record}
use Rattle.records.specs.Structs.{place_from, places, no_record, places_in}
use Rattle.records.proofs.Places.{places_length}
use Rattle.records.proofs.Lists.{length_without}
use Rattle.records.proofs.Drained.{read_back}
use Rattle.query.specs.Queried.{asked_by}
use Rattle.searches.specs.Places.{Place, given_at, over_places}
use Rattle.searches.specs.Search as Def
use Rattle.searches.specs.Search.{open_in, without, above_best, most_picks}
use Rattle.searches.specs.Pick as Pick
use Rattle.searches.specs.Pick.{Asked, Held, picked_from, pick_refusal, request_for, refusing, accepting, if_room, appended, drained_places, after_compile, if_above, unless, pick, one_pick_more, better}
use Rattle.search.specs.declared.Search.{Search}
use Rattle.search.specs.declared.Ask.{Ask}
use Rattle.search.specs.Held.{search_of, search_from}
use Rattle.search.specs.Asked.{problem_of}
use Rattle.search.specs.Answered as Code
use Rattle.search.proofs.Firsts.{Allowed, allowed}
use Rattle.pick_steps.specs.declared.Found.{Found}
use Rattle.pick_steps.specs.declared.Change.{Change}
use Rattle.pick_steps.specs.Steps.{numbers_of, query_from, wanted, compile_if, finding, Explores}
use Rattle.pick_steps.specs.Changed.{added_from}
use Rattle.pick_steps.specs.Tried.{asked_in, held_in, Changes, Tries}
use Rattle.pick_steps.proofs.Numbers.{first_none}
use Rattle.pick_steps.proofs.Ways as Ways
use Rattle.pick_steps.proofs.Ways.{Way, idle, stopped, grown, way, there, same_picks, unchanged}

-- the record in a place, or what stands for one beyond the list's end
picked_is : (rs : List Record) (place : ℕ) → given_at (place_from (get_or rs place no_record)) ≡ picked_from (places rs) place
unfolding picked_from places given_at place_from
picked_is [] place = refl
picked_is (r ∷ rs) zero = refl
picked_is (r ∷ rs) (suc place) = picked_is rs place

-- what is looked at in the scratch list are the records that are appended
looked_at : (exact : Bool) (best : ℤ) (ds : List Place) (scratch : List ℕ) (n : ℕ) → places_in n scratch ≡ ds → added_from best (cond exact 0 n) scratch ≡ appended exact best ds
unfolding appended places_in above_best
looked_at true best ds scratch n e = refl
looked_at false best ds scratch n e = ap (above_best best) e

none_added : (best : ℤ) (scratch : List ℕ) → added_from best 0 scratch ≡ []
unfolding places_in above_best
none_added best scratch = refl

-- an accepted pick's change, with that many records open after it
abbrev pub accepted_by : Search → Found → ℕ → Change
accepted_by s f opened = record { search = search_from (one_pick_more opened (search_of f.search)); opened = s.opened; drained = f.drained }

-- 13 'the open list after the pick would outgrow its room'
abbrev pub conclude_if : Bool → Search → Found → ℕ → Result Change ℕ
conclude_if true s f opened = Ok (accepted_by s f opened)
conclude_if false s f opened = Err 13

-- ---- the end: what search s found, the scratch list and the open list

module _ (place : ℕ) (s : Search) (ns es scratch : List ℕ) (list : List Place) where
  abbrev others : List Place
  others = without place (open_in (search_of s) list)

  abbrev lent : Lent
  lent = lent_of ns es scratch

  -- a refused one leaves the list
  pub refused_changes : (n : ℕ) (d : Pick.After) → d ≡ refusing n (search_of s) list lent → Changes d place list (Err n) ns es scratch
  unfolding refusing
  refused_changes n d w =
      record {
        answered = sym (ap (λ (x : Pick.After). Code.picked_from x.answer x.search) w);
        nodes_are = sym (ap (λ (x : Pick.After). x.held.lent.nodes) w);
        edges_are = sym (ap (λ (x : Pick.After). x.held.lent.edges) w);
        scratch_is = sym (ap (λ (x : Pick.After). x.held.lent.records) w);
        replaceable = λ x e. let z : ◌≡◌ {A = ℕ} 0 1 = cc in absurd (omega arith);
        list_after_lem = sym (ap (λ (x : Pick.After). x.held.list) w);
      }

  module _ (f : Found) (k room : ℕ) (k-is : k ≡ length (added_from f.search.best f.drained scratch)) (room-is : room ≡ length list) (added : List Place) (added_is : added_from f.search.best f.drained scratch ≡ added) (s₁ : Def.Search) (s₁_is : search_of f.search ≡ s₁) (below : place < s.opened) (listed : s.opened ≤ length list) (present : f.drained * record_words ≤ length scratch) where
    abbrev left : List Place
    left = others ++ added

    left_long : length left ≡ s.opened - 1 + k
    unfolding open_in
    left_long = omega (arith, length-append others added, length_without place s.opened list below listed, k-is ∙ ap length added_is)

    accepted_ends : (d : Pick.After) → length left ≤ length list → d ≡ accepting s₁ left list lent → Changes d place list (Ok (accepted_by s f (s.opened - 1 + k))) ns es scratch
    unfolding accepting one_pick_more open_in
    accepted_ends d fits w =
        record {
          answered =
              ap₂ (λ (n : ℕ) (x : Def.Search). Code.picked_from Pick.accepted (one_pick_more n x)) (sym left_long) s₁_is
              ∙ sym (ap (λ (x : Pick.After). Code.picked_from x.answer x.search) w);
          nodes_are = sym (ap (λ (x : Pick.After). x.held.lent.nodes) w);
          edges_are = sym (ap (λ (x : Pick.After). x.held.lent.edges) w);
          scratch_is = sym (ap (λ (x : Pick.After). x.held.lent.records) w);
          replaceable = λ x e.
              let same : accepted_by s f (s.opened - 1 + k) ≡ x = cc in
              rw (sym same) (record { is_open = below; listed = listed; there = present; room = omega (arith, fits, left_long, k-is) });
          list_after_lem = ap (λ (ds : List Place). over_places (others ++ ds) list) added_is ∙ sym (ap (λ (x : Pick.After). x.held.list) w);
        }

    by_room : (b : Bool) → leb (length left) (length list) ≡ b → (d : Pick.After) → d ≡ if_room b (search_of s) s₁ left list lent → Changes d place list (conclude_if b s f (s.opened - 1 + k)) ns es scratch
    unfolding if_room
    by_room true l d w = accepted_ends d (leb-true (length left) (length list) l) w
    by_room false l d w = refused_changes 13 d w

    pub accepted_changes : (b : Bool) (d : Pick.After) → leb (s.opened - 1 + k) room ≡ b → d ≡ if_room (leb (length left) (length list)) (search_of s) s₁ left list lent → Changes d place list (conclude_if b s f (s.opened - 1 + k)) ns es scratch
    accepted_changes b d e w =
        let l : leb (length left) (length list) ≡ b = ap₂ leb left_long (sym room-is) ∙ e in
        by_room b l d (w ∙ ap (λ (x : Bool). if_room x (search_of s) s₁ left list lent) l)

-- ---- the definition's pick, by what the steps found

module _ (ws ps : List ℕ) (ask : Ask) (place : ℕ) (s : Search) (r : Record) (room : ℕ) where
  abbrev problem : Problem
  problem = problem_of ws ps ask.page ask.width

  abbrev pub numbers : Option ℕ
  numbers = numbers_of problem (search_of s) place room (given_at (place_from r))

  pub may_pick : none ≡ numbers → Allowed problem (search_of s) place room
  may_pick e = allowed problem (search_of s) place room (first_none problem (search_of s) place room (given_at (place_from r)) (sym e))

module _ (ws ps : List ℕ) (ask : Ask) (place : ℕ) (s : Search) (r : Record) (room : ℕ) (ns es scratch : List ℕ) where
  abbrev before : Lent
  before = lent_of ns es scratch

  abbrev made : Call.Effect
  made = Ways.made ws ps ask s r ns es scratch

  abbrev passes : Option ℕ
  passes = numbers ws ps ask place s r room

  may : none ≡ passes → Allowed (problem ws ps ask place s r room) (search_of s) place room
  may = may_pick ws ps ask place s r room

  module _ (rs : List Record) (got : r ≡ get_or rs place no_record) (room-is : room ≡ length rs) where
    abbrev list : List Place
    list = places rs

    abbrev asked : Asked
    asked = asked_in ws ps ask place

    abbrev held : Held
    held = held_in list ns es scratch

    abbrev given : Given
    given = picked_from list place

    abbrev whole : Pick.After
    whole = pick asked (search_of s) held

    abbrev rest : List Place
    rest = without place (open_in (search_of s) list)

    long : room ≡ length list
    long = room-is ∙ sym (places_length rs)

    given_is : given_at (place_from r) ≡ given
    given_is = ap (λ (x : Record). given_at (place_from x)) got ∙ picked_is rs place

    refusal_is : pick_refusal asked (search_of s) list ≡ passes
    unfolding pick_refusal
    refusal_is = sym (ap₂ (λ (n : ℕ) (g : Given). numbers_of (problem ws ps ask place s r room) (search_of s) place n g) long given_is)

    above_is : wanted s r ≡ lt_z s.best given.bound
    unfolding given_at place_from
    above_is = ap (λ (g : Given). lt_z s.best g.bound) given_is

    asked_is : asked_by ws ps (query_from ask s r) ≡ request_for asked (search_of s) given
    unfolding request_for given_at place_from
    asked_is = ap (request_for asked (search_of s)) given_is

    by_refusal : (x : Option ℕ) → x ≡ passes → whole ≡ unless x asked (search_of s) held
    unfolding pick
    by_refusal x e = ap (λ (y : Option ℕ). unless y asked (search_of s) held) (refusal_is ∙ sym e)

    pub early_changes : (n : ℕ) → some n ≡ passes → Changes whole place list (Err n) ns es scratch
    unfolding unless
    early_changes n e = refused_changes place s ns es scratch list n whole (by_refusal (some n) e)

    module _ (passed : none ≡ passes) (x : Result Found ℕ) (ns' es' scratch' : List ℕ) where
      abbrev afterwards : Lent
      afterwards = lent_of ns' es' scratch'

      abbrev Went : Type 0
      Went = Way ws ps ask s r ns es scratch x afterwards

      by_wanted : (b : Bool) → wanted s r ≡ b → whole ≡ if_above b asked (search_of s) given rest held
      unfolding unless
      by_wanted b w = by_refusal none passed ∙ ap (λ (y : Bool). if_above y asked (search_of s) given rest held) (sym above_is ∙ w)

      by_answer : (a : Call.Answer) → wanted s r ≡ true → made.answer ≡ a → whole ≡ after_compile a made (search_of s) rest held
      unfolding if_above
      by_answer a w m =
          by_wanted true w
          ∙ ap (λ (y : Request). let f = compile_effect y (rooms_of before) in after_compile f.answer f (search_of s) rest held) (sym asked_is)
          ∙ ap (λ (y : Call.Answer). after_compile y made (search_of s) rest held) m

      pub stopped_changes : (n : ℕ) → x ≡ Err n → Went → Changes whole place list (Err n) ns' es' scratch'
      unfolding after_compile
      stopped_changes n e (idle w y l) = let z : ◌≡◌ {A = ℕ} 0 1 = cc in absurd (omega arith)
      stopped_changes n e (grown c w m y l) = let z : ◌≡◌ {A = ℕ} 0 1 = cc in absurd (omega arith)
      stopped_changes n e (stopped m w a y l) =
          let same : m ≡ n = cc in
          refused_changes place s ns' es' scratch' list n whole
          (by_answer (refused m) w a ∙ ap₂ (λ (k : ℕ) (t : Lent). refusing k (search_of s) list t) same (sym l))

      rest_fits : place < s.opened → s.opened ≤ length list → length rest ≤ length list
      unfolding open_in
      rest_fits b g = omega (arith, length_without place s.opened list b g)

      module _ (h : Explores (compile_if (wanted s r) (asked_by ws ps (query_from ask s r)) before) s x ns' es' scratch') (f : Found) (is : x ≡ Ok f) (k : ℕ) (k-is : k ≡ length (added_from f.search.best f.drained scratch')) (b : Bool) (fits : leb (s.opened - 1 + k) room ≡ b) where
        open_there : place < s.opened
        open_there = (may passed).below

        listed_there : s.opened ≤ length list
        listed_there = omega (arith, (may passed).room, long)

        present_there : f.drained * record_words ≤ length scratch'
        present_there = there ws ps ask s r ns es scratch x afterwards h f is

        changes_on : Went → Changes whole place list (conclude_if b s f (s.opened - 1 + k)) ns' es' scratch'
        unfolding if_above after_compile accepting if_room
        changes_on (stopped n w m y l) = let z : ◌≡◌ {A = ℕ} 0 1 = cc in absurd (omega arith)
        changes_on (idle w y l) =
            let f-is : f ≡ unchanged s = cc in
            let none_more : added_from f.search.best f.drained scratch' ≡ [] = ap (λ (n : ℕ). added_from f.search.best n scratch') (ap (λ (g : Found). g.drained) f-is) ∙ none_added f.search.best scratch' in
            let same : rest ++ [] ≡ rest = append-nil rest in
            let room : leb (length (rest ++ [])) (length list) ≡ true = ap (λ (l : List Place). leb (length l) (length list)) same ∙ le-leb (length rest) (length list) (rest_fits open_there listed_there) in
            accepted_changes place s ns' es' scratch' list f k _ k-is long [] none_more (search_of s) (ap (λ (g : Found). search_of g.search) f-is) open_there listed_there present_there b whole fits
            (by_wanted false w ∙ ap₂ (λ (ds : List Place) (t : Lent). accepting (search_of s) ds list t) (sym same) (sym l) ∙ ap (λ (b : Bool). if_room b (search_of s) (search_of s) (rest ++ []) list afterwards) (sym room))
        changes_on (grown c w m y l) =
            let f-is : f ≡ finding s c = cc in
            let s₁ : Def.Search = better c.best_exact c.exact_path (search_of s) in
            let best : f.search.best ≡ s₁.best = ap (λ (g : Found). g.search.best) f-is in
            let drained : f.drained ≡ cond c.exact 0 c.drained_count = ap (λ (g : Found). g.drained) f-is in
            let stands : places_in c.drained_count scratch' ≡ drained_places made = ap (λ (t : Lent). places_in c.drained_count t.records) l ∙ (read_back (asked_by ws ps (query_from ask s r)) before c m).places_are in
            let more : added_from f.search.best f.drained scratch' ≡ appended c.exact s₁.best (drained_places made) =
            ap₂ (λ (z : ℤ) (n : ℕ). added_from z n scratch') best drained ∙ looked_at c.exact s₁.best (drained_places made) scratch' c.drained_count stands in
            accepted_changes place s ns' es' scratch' list f k _ k-is long (appended c.exact s₁.best (drained_places made)) more s₁ (ap (λ (g : Found). search_of g.search) f-is) open_there listed_there present_there b whole fits
            (by_answer (compiled c) w m
            ∙ ap (λ (t : Lent). let left = rest ++ appended c.exact s₁.best (drained_places made) in if_room (leb (length left) (length list)) (search_of s) s₁ left list t) (sym l))

        pub found_changes : Changes whole place list (conclude_if b s f (s.opened - 1 + k)) ns' es' scratch'
        found_changes = changes_on (way ws ps ask s r ns es scratch x afterwards h)

  -- ---- the promise of a pick but for its list, at each of its ends

  pub early_tries : (n : ℕ) → some n ≡ passes → Tries ws ps ask place s r room ns es scratch (Err n) ns es scratch
  early_tries n e = record { does = λ rs got long. early_changes rs got long n e }

  module _ (passed : none ≡ passes) (x : Result Found ℕ) (ns' es' scratch' : List ℕ) (h : Explores (compile_if (wanted s r) (asked_by ws ps (query_from ask s r)) before) s x ns' es' scratch') where
    pub stopped_tries : (n : ℕ) → x ≡ Err n → Tries ws ps ask place s r room ns es scratch (Err n) ns' es' scratch'
    stopped_tries n e =
        record { does = λ rs got long. stopped_changes rs got long passed x ns' es' scratch' n e (way ws ps ask s r ns es scratch x (lent_of ns' es' scratch') h) }

    module _ (f : Found) (is : x ≡ Ok f) where
      pub present : f.drained * record_words ≤ length scratch'
      present = there ws ps ask s r ns es scratch x (lent_of ns' es' scratch') h f is

      pub countable : s.picks < 2 ^ 64 → f.search.picks < most_picks
      countable c = omega (arith, same_picks ws ps ask s r ns es scratch x (lent_of ns' es' scratch') h f is, c, (may passed).countable)

      module _ (k : ℕ) (k-is : k ≡ length (added_from f.search.best f.drained scratch')) where
        found_tries : (b : Bool) → leb (s.opened - 1 + k) room ≡ b → Tries ws ps ask place s r room ns es scratch (conclude_if b s f (s.opened - 1 + k)) ns' es' scratch'
        found_tries b e = record { does = λ rs got long. found_changes rs got long passed x ns' es' scratch' h f is k k-is b e }

        pub full_tries : room < s.opened - 1 + k → Tries ws ps ask place s r room ns es scratch (Err 13) ns' es' scratch'
        full_tries l = found_tries false (lt-leb (s.opened - 1 + k) room l)

        pub accepted_tries : (t : Search) → s.opened - 1 + k ≤ room → search_of t ≡ one_pick_more (s.opened - 1 + k) (search_of f.search) → Tries ws ps ask place s r room ns es scratch (Ok (record { search = t; opened = s.opened; drained = f.drained })) ns' es' scratch'
        accepted_tries t l e =
            let same : record { search = t; opened = s.opened; drained = f.drained } ≡ accepted_by s f (s.opened - 1 + k) = ap (λ (d : Def.Search). record { search = search_from d; opened = s.opened; drained = f.drained }) e in
            rw same (found_tries true (le-leb (s.opened - 1 + k) room l))

-- the goals of `tried` where it is refused early or by the compile, and its differences
pub ruleset trying = (may_pick, early_tries, stopped_tries)
