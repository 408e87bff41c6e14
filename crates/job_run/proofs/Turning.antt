-- A run turn by turn, on the definitions alone: what its picks still come to, and leave, stays what the whole run comes to and leaves.
--     GoesOn           what is known before each turn
--     picks_largest    a turn's pick is that of the largest bound
--     turns_left       how many turns are left, by the picks that were counted
--     first_left, first_refused      the picks go on after the start, or the run ends
--     turned_left, turned_refused    they go on after a turn, with fewer turns left, or the run ends
--     is_over          where no record is open, the answer is the run's, and so is what lists and tables hold
use mathlib.Core.Path.{◌≡◌, refl, sym, ap, ap₂, subst, ◌∙◌}
use mathlib.Core.Logic.{◌≢◌}
use mathlib.Core.Bool.{Bool, true, false}
use mathlib.Core.List.{List, ◌++◌}
use mathlib.Core.Option.{Option, none, some}
use Prim.Native.Nat.{ℕ, zero, suc, ◌+◌, ◌-◌, ◌<◌, ◌≤◌}
use native.Mathlib.Omega.{arith}
use lib.Dec.{leb, eqb}
use lib.IntN.{ℤ}
use lib.ListN.{length, take, drop, length-append}
use lib.Signed.{lt_z}
use borrow.Author.Tests.{eq-eqb, ne_eqb}
use Rattle.std.specs.Prelude.{Result, Ok, Err}
use Rattle.words.specs.I64.{i64_min}
use Rattle.diagram.specs.After4.{CutsetKind}
use Rattle.calls.specs.Asked.{Problem, Given}
use Rattle.calls.specs.Compile as Call
use Rattle.calls.specs.Compile.{Lent, rooms_of, refused, compiled, Effect, compile_effect}
use Rattle.compile.specs.Asked.{lent_of}
use Rattle.records.specs.declared.Record.{Record}
use Rattle.records.specs.Structs.{places}
use Rattle.records.proofs.Places.{places_take}
use Rattle.searches.specs.Places.{Place, over_places}
use Rattle.searches.specs.Search as Def
use Rattle.searches.specs.Search.{most_picks, open_in, without}
use Rattle.searches.specs.Start as Start
use Rattle.searches.specs.Start.{start, begun}
use Rattle.searches.specs.Pick as Pick
use Rattle.searches.specs.Pick.{Asked, Held, After, refused_by, accepted, pick_refusal, picked_from, request_for, refusing, accepting, better, one_pick_more, if_room, appended, drained_places, after_compile, if_above, unless, pick}
use Rattle.search.specs.declared.Search.{Search}
use Rattle.search.specs.Held.{search_of}
use Rattle.search.specs.Answered as Code
use Rattle.search.specs.Answered.{started_from}
use Rattle.search.specs.Begins.{Begins}
use Rattle.search.specs.Refused.{pick_first}
use Rattle.search.proofs.Firsts.{refused_first, allowed}
use Rattle.search.specs.declared.Ask.{Ask}
use Rattle.search.specs.Asked.{problem_of}
use Rattle.cutset.specs.Whole.{kind_of}
use Rattle.pick_steps.specs.Tried.{asked_in, held_in}
use Rattle.pick.specs.Picks.{Picks}
use Rattle.search_corollaries.proofs.Twice.{picks_alike}
use Rattle.jobs.specs.Run as Run
use Rattle.jobs.specs.Run.{Ending, ended, largest, asked_for, unless_refused, picking, all_turns, started_on, run_of}
use Rattle.jobs.specs.Left.{unless_last, picking_leaves, started_leaves, run_leaves, left, left_of}
use Rattle.job_run.specs.Runs.{left_in}

-- ---- an accepted pick: the list has its open records, and one pick more is counted

-- what an accepted pick leaves, from the search before it
pub record Counts (s : Def.Search) (d : After) : Type 0 where
  pub room : d.search.opened ≤ length d.held.list
  pub more : d.search.picks ≡ suc s.picks

abbrev IfAccepted : Def.Search → After → Type 0
IfAccepted s d = d.answer ≡ accepted → Counts s d

no_refusal : (n : ℕ) {X : Type 0} → refused_by n ≡ accepted → X
no_refusal n e = let z : ◌≡◌ {A = ℕ} 0 1 = cc in absurd (omega arith)

refusing_counts : (n : ℕ) (s s₀ : Def.Search) (list : List Place) (l : Lent) → IfAccepted s₀ (refusing n s list l)
unfolding refusing
refusing_counts n s s₀ list l e = no_refusal n e

accepting_counts : (s s₁ : Def.Search) (left list : List Place) (l : Lent) → s₁.picks ≡ s.picks → IfAccepted s (accepting s₁ left list l)
unfolding accepting one_pick_more over_places
accepting_counts s s₁ left list l e a =
    record { room = omega (arith, length-append left (drop (length left) list)); more = ap suc e }

abbrev chosen_search : Bool → Def.Search → Def.Search → Def.Search
chosen_search b s₁ s = elim b [ true ↦ s₁ | false ↦ s ]

chosen_picks : (b : Bool) (s₁ s : Def.Search) → s₁.picks ≡ s.picks → (chosen_search b s₁ s).picks ≡ s.picks
chosen_picks true s₁ s e = e
chosen_picks false s₁ s e = refl

better_picks : (v : Option ℤ) (path : List ℕ) (s : Def.Search) → (better v path s).picks ≡ s.picks
unfolding better
better_picks none path s = refl
better_picks (some v) path s = chosen_picks (lt_z s.best v) (record { best = v; held = true; path = path; opened = s.opened; picks = s.picks }) s refl

room_counts : (b : Bool) (s s₁ : Def.Search) (left list : List Place) (l : Lent) → s₁.picks ≡ s.picks → IfAccepted s (if_room b s s₁ left list l)
unfolding if_room
room_counts true s s₁ left list l e = accepting_counts s s₁ left list l e
room_counts false s s₁ left list l e = refusing_counts 13 s s list l

compiled_counts : (a : Call.Answer) (w : Effect) (s : Def.Search) (rest : List Place) (h : Held) → IfAccepted s (after_compile a w s rest h)
unfolding after_compile
compiled_counts (refused n) w s rest h = refusing_counts n s s h.list (Call.after w h.lent).lent
compiled_counts (compiled c) w s rest h =
    let s₁ = better c.best_exact c.exact_path s in
    let left = rest ++ appended c.exact s₁.best (drained_places w) in
    room_counts (leb (length left) (length h.list)) s s₁ left h.list (Call.after w h.lent).lent (better_picks c.best_exact c.exact_path s)

above_counts : (b : Bool) (q : Asked) (s : Def.Search) (g : Given) (rest : List Place) (h : Held) → IfAccepted s (if_above b q s g rest h)
unfolding if_above
above_counts false q s g rest h = accepting_counts s s rest h.list h.lent refl
above_counts true q s g rest h =
    let w = compile_effect (request_for q s g) (rooms_of h.lent) in
    compiled_counts w.answer w s rest h

unless_counts : (x : Option ℕ) (q : Asked) (s : Def.Search) (h : Held) → IfAccepted s (unless x q s h)
unfolding unless
unless_counts (some n) q s h = refusing_counts n s s h.list h.lent
unless_counts none q s h =
    let g = picked_from h.list q.place in
    above_counts (lt_z s.best g.bound) q s g (without q.place (open_in s h.list)) h

pick_counts : (q : Asked) (s : Def.Search) (h : Held) → IfAccepted s (pick q s h)
unfolding pick
pick_counts q s h = unless_counts (pick_refusal q s h.list) q s h

-- the pick that would be one too many is refused: 14
refused_by_lem : (x : Option ℕ) (n : ℕ) (q : Asked) (s : Def.Search) (h : Held) → x ≡ some n → (unless x q s h).answer ≡ refused_by n
unfolding unless refusing
refused_by_lem none n q s h e = let z : ◌≡◌ {A = ℕ} 0 1 = cc in absurd (omega arith)
refused_by_lem (some m) n q s h e = cc

refused_so : (q : Asked) (s : Def.Search) (h : Held) (n : ℕ) → pick_refusal q s h.list ≡ some n → (pick q s h).answer ≡ refused_by n
unfolding pick
refused_so q s h n e = refused_by_lem (pick_refusal q s h.list) n q s h e

pick_countable : (q : Asked) (s : Def.Search) (h : Held) → (pick q s h).answer ≡ accepted → s.picks ≢ most_picks
pick_countable q s h a = go (pick_first q.problem s q.place (length h.list)) refl
  where
    go : (x : Option ℕ) → pick_first q.problem s q.place (length h.list) ≡ x → s.picks ≢ most_picks
    go none e = (allowed q.problem s q.place (length h.list) e).countable
    go (some n) e = no_refusal n (sym (refused_so q s h n (refused_first q s h.list n e)) ∙ a)

-- ---- two picks from one list, whatever tables and scratch list hold: the whole list is the same after them

pub record Same (d e : After) : Type 0 where
  pub answers : d.answer ≡ e.answer
  pub searches : d.search ≡ e.search
  pub lists : d.held.list ≡ e.held.list

same_picks : (q : Asked) (s : Def.Search) (list : List Place) (l m : Lent) → rooms_of l ≡ rooms_of m → Same (pick q s (record { list = list; lent = l })) (pick q s (record { list = list; lent = m }))
same_picks q s list l m e =
    let z = picks_alike q s (record { list = list; lent = l }) (record { list = list; lent = m }) (record { opened = refl; long = refl; rooms = e }) in
    record { answers = z.answers; searches = z.searches; lists = z.first_list ∙ sym z.second_list }

pub same_rooms : (ns ns' es es' xs xs' : List ℕ) → length ns' ≡ length ns → length es' ≡ length es → length xs' ≡ length xs → rooms_of (lent_of ns es xs) ≡ rooms_of (lent_of ns' es' xs')
unfolding rooms_of
same_rooms ns ns' es es' xs xs' a b c = rw (a, b, c) refl

-- ---- the run

-- the four slices after a pick are what it leaves
held_is : (d : After) (r : Result Search ℕ) (ns es : List ℕ) (list : List Place) (scratch : List ℕ) → Picks d r ns es list scratch → d.held ≡ held_in list ns es scratch
held_is d r ns es list scratch x = rw (x.list_is, x.nodes_are, x.edges_are, x.scratch_is) refl

module _ (p : Problem) (kind : CutsetKind) (l : Lent) (e : Ending) (k : Held) where
  -- the picks that are left come to e, and leave k: they start from this search over what is lent; each accepted one takes one of the turns that are left
  pub record GoesOn (turns : ℕ) (s : Def.Search) (h : Held) : Type 0 where
    pub comes_to : e ≡ picking turns p kind l s h.list
    pub leaves : k ≡ picking_leaves turns p kind s h
    pub room : s.opened ≤ length h.list
    pub left : turns + s.picks ≡ all_turns
    pub countable : s.picks ≤ most_picks

  -- behind a call: it was refused, and so ended the run, or the picks go on
  abbrev pub Going : ℕ → Result Search ℕ → Held → Type 0
  Going turns (Ok s) h = GoesOn turns (search_of s) h
  Going turns (Err n) h = (e ≡ Run.refused n) × (k ≡ h)

  -- ---- after the start

  begun_by : (x : Option ℕ) (list : List Place) (m : Lent) → let d = Start.unless x p i64_min list in e ≡ started_on p kind l d.list d.answer → k ≡ started_leaves p kind (record { list = d.list; lent = m }) d.answer → Going all_turns (started_from d.answer) (record { list = d.list; lent = m })
  unfolding Start.unless started_on started_leaves begun over_places
  begun_by (some n) list m h g = (h, g)
  begun_by none list m h g = record { comes_to = h; leaves = g; room = omega arith; left = omega arith; countable = omega arith }

  begun_so : (h : Held) → e ≡ run_of p kind l h.list → k ≡ run_leaves p kind h → Going all_turns (started_from (start p i64_min h.list).answer) (record { list = (start p i64_min h.list).list; lent = h.lent })
  unfolding run_of run_leaves start
  begun_so h x y = begun_by (Start.start_refusal p (length h.list)) h.list h.lent x y

  begins : (h : Held) → e ≡ run_of p kind l h.list → k ≡ run_leaves p kind h → (a : Result Search ℕ) (after : List Place) → Begins (start p i64_min h.list) a after → Going all_turns a (record { list = after; lent = h.lent })
  begins h x y a after z =
      subst (λ (b : Result Search ℕ). Going all_turns b (record { list = after; lent = h.lent })) (sym z.answered)
      (subst (λ (ps : List Place). Going all_turns (started_from (start p i64_min h.list).answer) (record { list = ps; lent = h.lent })) (sym z.written) (begun_so h x y))

  -- ---- a turn

  picking_next : (turns : ℕ) (s : Def.Search) (list : List Place) → eqb s.opened 0 ≡ false
      → let d = pick (asked_for p kind s list) s (record { list = list; lent = l }) in picking (suc turns) p kind l s list ≡ unless_refused d.answer (picking turns p kind l d.search d.held.list)
  unfolding picking
  picking_next turns s list o =
      let d = pick (asked_for p kind s list) s (record { list = list; lent = l }) in
      ap (λ (b : Bool). elim b [ true ↦ ended s | false ↦ unless_refused d.answer (picking turns p kind l d.search d.held.list) ]) o

  leaves_next : (turns : ℕ) (s : Def.Search) (h : Held) → eqb s.opened 0 ≡ false
      → let d = pick (asked_for p kind s h.list) s h in picking_leaves (suc turns) p kind s h ≡ unless_last d.answer d.held (picking_leaves turns p kind d.search d.held)
  unfolding picking_leaves
  leaves_next turns s h o =
      let d = pick (asked_for p kind s h.list) s h in
      ap (λ (b : Bool). elim b [ true ↦ h | false ↦ unless_last d.answer d.held (picking_leaves turns p kind d.search d.held) ]) o

  module _ (turns : ℕ) (s : Def.Search) (h : Held) (g : GoesOn (suc turns) s h) (o : eqb s.opened 0 ≡ false) (rooms : rooms_of l ≡ rooms_of h.lent) where
    abbrev d : After
    d = pick (asked_for p kind s h.list) s h

    comes_to_it : e ≡ unless_refused d.answer (picking turns p kind l d.search d.held.list)
    comes_to_it =
        let z = same_picks (asked_for p kind s h.list) s h.list l h.lent rooms in
        g.comes_to ∙ picking_next turns s h.list o
        ∙ rw (z.answers, z.searches, z.lists) refl

    leaves_it : k ≡ unless_last d.answer d.held (picking_leaves turns p kind d.search d.held)
    leaves_it = g.leaves ∙ leaves_next turns s h o

    next_by : (a : Pick.Picked) → d.answer ≡ a → Going turns (Code.picked_from a d.search) d.held
    unfolding unless_refused unless_last
    next_by (refused_by n) a =
        (comes_to_it ∙ ap (λ (x : Pick.Picked). unless_refused x (picking turns p kind l d.search d.held.list)) a, leaves_it ∙ ap (λ (x : Pick.Picked). unless_last x d.held (picking_leaves turns p kind d.search d.held)) a)
    next_by accepted a =
        let c = pick_counts (asked_for p kind s h.list) s h a in
        record {
          comes_to = comes_to_it ∙ ap (λ (x : Pick.Picked). unless_refused x (picking turns p kind l d.search d.held.list)) a;
          leaves = leaves_it ∙ ap (λ (x : Pick.Picked). unless_last x d.held (picking_leaves turns p kind d.search d.held)) a;
          room = c.room;
          left = omega (arith, c.more, g.left);
          countable = omega (arith, c.more, g.countable, pick_countable (asked_for p kind s h.list) s h a);
        }

    next : Going turns (Code.picked_from d.answer d.search) d.held
    next = next_by d.answer refl

  -- the answer r of a turn, what is lent after it, and that a turn less is to go
  pub record Turned (turns : ℕ) (r : Result Search ℕ) (after : Held) : Type 0 where
    pub rest : ℕ
    pub less : rest < turns
    pub going : Going rest r after

  module _ (h : Held) (rooms : rooms_of l ≡ rooms_of h.lent) (r : Result Search ℕ) (ns es : List ℕ) (after : List Place) (scratch : List ℕ) where
    turned_on : (turns : ℕ) (s : Def.Search) → GoesOn turns s h → eqb s.opened 0 ≡ false
        → Picks (pick (asked_for p kind s h.list) s h) r ns es after scratch → Turned turns r (held_in after ns es scratch)
    turned_on zero s g o x = absurd (omega (arith, g.left, g.countable))
    turned_on (suc turns) s g o x =
        let z = d turns s h g o rooms in
        record {
          rest = turns;
          less = omega arith;
          going =
              subst (λ (y : Result Search ℕ). Going turns y (held_in after ns es scratch)) (sym x.answered)
              (subst (Going turns (Code.picked_from z.answer z.search)) (held_is z r ns es after scratch x) (next turns s h g o rooms));
        }

  -- ---- the end

  nothing_open : (turns : ℕ) (s : Def.Search) (h : Held) → eqb s.opened 0 ≡ true → (picking turns p kind l s h.list ≡ ended s) × (picking_leaves turns p kind s h ≡ h)
  unfolding picking picking_leaves
  nothing_open zero s h o = (refl, refl)
  nothing_open (suc turns) s h o =
      let d = pick (asked_for p kind s h.list) s (record { list = h.list; lent = l }) in
      let f = pick (asked_for p kind s h.list) s h in (
        ap (λ (b : Bool). elim b [ true ↦ ended s | false ↦ unless_refused d.answer (picking turns p kind l d.search d.held.list) ]) o,
        ap (λ (b : Bool). elim b [ true ↦ h | false ↦ unless_last f.answer f.held (picking_leaves turns p kind f.search f.held) ]) o,
      )

  -- where no record is open the run has come to its end
  none_left : (turns : ℕ) (s : Search) (h : Held) → GoesOn turns (search_of s) h → s.opened ≡ 0 → left_in (Ok s) h ≡ left e k
  none_left turns s h g o =
      let y = nothing_open turns (search_of s) h (eq-eqb s.opened 0 o) in
      ap₂ left (sym (g.comes_to ∙ y.0)) (sym (g.leaves ∙ y.1))

  -- a refused call ends it
  is_refused : (turns n : ℕ) (h : Held) → Going turns (Err n) h → left_in (Err n) h ≡ left e k
  is_refused turns n h g = ap₂ left (sym g.0) (sym g.1)

-- the pick that a turn makes is the definition's: place m is that of the largest bound of the first records, which are the open ones
module _ (weights profits : List ℕ) (ask : Ask) (s : Search) (m : ℕ) (rs : List Record) (nodes edges scratch : List ℕ) where
  pub picks_largest : m ≡ largest (places (take s.opened rs)) → (r : Result Search ℕ) (ns es : List ℕ) (after : List Place) (left : List ℕ)
      → Picks (pick (asked_in weights profits ask m) (search_of s) (held_in (places rs) nodes edges scratch)) r ns es after left
      → Picks (pick (asked_for (problem_of weights profits ask.page ask.width) (kind_of ask.kind) (search_of s) (places rs)) (search_of s) (held_in (places rs) nodes edges scratch)) r ns es after left
  unfolding asked_for open_in
  picks_largest chosen r ns es after left x =
      subst (λ (n : ℕ). Picks (pick (asked_in weights profits ask n) (search_of s) (held_in (places rs) nodes edges scratch)) r ns es after left)
      (chosen ∙ ap largest (places_take s.opened rs)) x

-- ---- how many turns are left, by the picks that were counted

abbrev pub turns_left : Search → ℕ
turns_left s = all_turns - s.picks

-- A run over h₀: what is known before each turn, and what the run's end is to be.
module _ (p : Problem) (kind : CutsetKind) (h₀ : Held) where
  abbrev pub Goes : Search → Held → Type 0
  Goes s h = GoesOn p kind h₀.lent (run_of p kind h₀.lent h₀.list) (run_leaves p kind h₀) (turns_left s) (search_of s) h

  abbrev pub Over : Result Search ℕ → Held → Type 0
  Over r h = left_in r h ≡ left_of p kind h₀

  settled : (turns : ℕ) (s : Search) (h : Held) → GoesOn p kind h₀.lent (run_of p kind h₀.lent h₀.list) (run_leaves p kind h₀) turns (search_of s) h → (turns_left s ≡ turns) × Goes s h
  settled turns s h g =
      let z : turns_left s ≡ turns = omega (arith, g.left) in
      (z, subst (λ (t : ℕ). GoesOn p kind h₀.lent (run_of p kind h₀.lent h₀.list) (run_leaves p kind h₀) t (search_of s) h) (sym z) g)

  -- after the start the picks go on, or the run ends
  pub first_left : (s : Search) (after : List Place) → Begins (start p i64_min h₀.list) (Ok s) after → Goes s (record { list = after; lent = h₀.lent })
  first_left s after z =
      (settled all_turns s _ (begins p kind h₀.lent _ _ h₀ refl refl (Ok s) after z)).1

  pub first_refused : (n : ℕ) (after : List Place) → Begins (start p i64_min h₀.list) (Err n) after → Over (Err n) (record { list = after; lent = h₀.lent })
  first_refused n after z = is_refused p kind h₀.lent _ _ all_turns n _ (begins p kind h₀.lent _ _ h₀ refl refl (Err n) after z)

  -- after a turn they go on, with fewer turns left, or the run ends
  module _ (h : Held) (rooms : rooms_of h₀.lent ≡ rooms_of h.lent) (s : Search) (g : Goes s h) (o : 0 < s.opened) (ns es : List ℕ) (after : List Place) (scratch : List ℕ) where
    turn : (r : Result Search ℕ) → Picks (pick (asked_for p kind (search_of s) h.list) (search_of s) h) r ns es after scratch → Turned p kind h₀.lent (run_of p kind h₀.lent h₀.list) (run_leaves p kind h₀) (turns_left s) r (held_in after ns es scratch)
    turn r x =
        turned_on p kind h₀.lent _ _ h rooms r ns es after scratch (turns_left s) (search_of s) g (ne_eqb s.opened 0 (λ z. absurd (omega (arith, z)))) x

    pub turned_left : (t : Search) → Picks (pick (asked_for p kind (search_of s) h.list) (search_of s) h) (Ok t) ns es after scratch → (turns_left t < turns_left s) × Goes t (held_in after ns es scratch)
    turned_left t x =
        let y = turn (Ok t) x in
        let z = settled y.rest t (held_in after ns es scratch) y.going in
        (omega (arith, z.0, y.less), z.1)

    pub turned_refused : (n : ℕ) → Picks (pick (asked_for p kind (search_of s) h.list) (search_of s) h) (Err n) ns es after scratch → Over (Err n) (held_in after ns es scratch)
    turned_refused n x =
        let y = turn (Err n) x in
        is_refused p kind h₀.lent _ _ y.rest n (held_in after ns es scratch) y.going

  -- where no record is open the run is over
  pub is_over : (s : Search) (h : Held) → Goes s h → s.opened ≡ 0 → Over (Ok s) h
  is_over s h g o = none_left p kind h₀.lent _ _ (turns_left s) s h g o
