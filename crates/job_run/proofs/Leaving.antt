-- Two runs of one problem write the same over what was lent: each pick does, and what one pick writes over what another wrote is one writing.
use mathlib.Core.Path.{◌≡◌, refl, sym, ap, ap₂, subst, ◌∙◌}
use mathlib.Core.Bool.{Bool, true, false}
use mathlib.Core.List.{List, [], ◌∷◌, ◌++◌, append-nil}
use mathlib.Core.Option.{Option, none, some}
use Prim.Native.Nat.{ℕ, zero, suc}
use lib.Dec.{eqb}
use lib.ListN.{length, drop}
use Rattle.words.specs.I64.{i64_min}
use Rattle.diagram.specs.After4.{CutsetKind}
use Rattle.layout.specs.Table.{over}
use Rattle.layout.specs.Records.{record_table}
use Rattle.calls.specs.Asked.{Problem}
use Rattle.calls.specs.Compile as Call
use Rattle.calls.specs.Compile.{Lent, rooms_of, Effect}
use Rattle.call_laws.specs.Statements.{Words, SameLengths}
use Rattle.searches.specs.Places.{Place, root_place, over_places}
use Rattle.searches.specs.Search.{Search, open_in}
use Rattle.searches.specs.Start as Start
use Rattle.searches.specs.Start.{start, start_refusal}
use Rattle.searches.specs.Pick.{Asked, Held, After, Picked, refused_by, accepted, pick}
use Rattle.search_corollaries.specs.Twice.{PickedAlike}
use Rattle.search_corollaries.proofs.Twice.{picks_alike}
use Rattle.jobs.specs.Run.{asked_for, all_turns}
use Rattle.jobs.specs.Left.{unless_last, picking_leaves, started_leaves, run_leaves}
use Rattle.job_run.specs.Twice.{SameSizes, written_over, LeftAlike, OneRunLeaves}
use Rattle.job_run.proofs.Twice.{over_long, asked_alike}

-- ---- one writing over another

over_twice : {A : Type 0} (a b x : List A) → a ++ drop (length a) (b ++ drop (length b) x) ≡ (a ++ drop (length a) b) ++ drop (length (a ++ drop (length a) b)) x
over_twice [] b x = refl
over_twice {A} (y ∷ a) [] x = ap (λ (l : List A). l ++ drop (length l) x) (sym (append-nil (y ∷ a)))
over_twice {A} (y ∷ a) (z ∷ b) [] = ap (λ (l : List A). (y ∷ a) ++ drop (length (y ∷ a)) l) (append-nil (z ∷ b)) ∙ sym (append-nil ((y ∷ a) ++ drop (length (y ∷ a)) (z ∷ b)))
over_twice {A} (y ∷ a) (z ∷ b) (u ∷ x) = ap (λ (l : List A). y ∷ l) (over_twice a b x)

abbrev both : Words → Words → Words
both v w = record { nodes = over v.nodes w.nodes; edges = over v.edges w.edges; records = over v.records w.records }

written_twice : (ps qs : List Place) (v w : Words) (h : Held) → written_over ps v (written_over qs w h) ≡ written_over (over_places ps qs) (both v w) h
unfolding over_places over
written_twice ps qs v w h =
    rw (over_twice ps qs h.list, over_twice v.nodes w.nodes h.lent.nodes, over_twice v.edges w.edges h.lent.edges, over_twice v.records w.records h.lent.records) refl

still_sized : (ps : List Place) (w : Words) (h k : Held) → SameSizes h k → SameSizes (written_over ps w h) (written_over ps w k)
unfolding over_places over
still_sized ps w h k z =
    record {
      list = over_long ps h.list k.list z.list;
      lent = record {
        nodes = over_long w.nodes h.lent.nodes k.lent.nodes z.lent.nodes;
        edges = over_long w.edges h.lent.edges k.lent.edges z.lent.edges;
        records = over_long w.records h.lent.records k.lent.records z.lent.records;
      };
    }

-- ---- what is left, step by step

abbrev nothing : Words
nothing = record { nodes = []; edges = []; records = [] }

-- nothing is written
pub unwritten : (h k : Held) → LeftAlike h k h k
unfolding over_places over
unwritten h k = record { placed = []; written = nothing; first = refl; second = refl }

then_left : (d e x y h k : Held) → LeftAlike d e h k → LeftAlike x y d e → LeftAlike x y h k
then_left d e x y h k a b =
    record {
      placed = over_places b.placed a.placed;
      written = both b.written a.written;
      first = b.first ∙ ap (written_over b.placed b.written) a.first ∙ written_twice b.placed a.placed b.written a.written h;
      second = b.second ∙ ap (written_over b.placed b.written) a.second ∙ written_twice b.placed a.placed b.written a.written k;
    }

sized_after : (d e h k : Held) → LeftAlike d e h k → SameSizes h k → SameSizes d e
sized_after d e h k a z =
    subst (λ (x : Held). SameSizes x e) (sym a.first) (subst (λ (x : Held). SameSizes (written_over a.placed a.written h) x) (sym a.second) (still_sized a.placed a.written h k z))

-- what a compile's effect writes, and places over the lists
pub effect_left : (ps : List Place) (w : Effect) (d e h k : Held) → d.list ≡ over_places ps h.list → d.lent ≡ (Call.after w h.lent).lent → e.list ≡ over_places ps k.list → e.lent ≡ (Call.after w k.lent).lent → LeftAlike d e h k
unfolding Call.after
effect_left ps w d e h k a b f g =
    let held : List Place → Lent → Held = λ list lent. record { list = list; lent = lent } in
    record { placed = ps; written = record { nodes = w.nodes; edges = w.edges; records = record_table w.drained }; first = ap₂ held a b; second = ap₂ held f g }

pick_left : (d e : After) (h k : Held) → PickedAlike d e h k → LeftAlike d.held e.held h k
pick_left d e h k a = effect_left a.placed a.written d.held e.held h k a.first_list a.first_lent a.second_list a.second_lent

-- a refused pick is the last; a search without open records has ended
by_answer : (a : Picked) (d e x y h k : Held) → LeftAlike d e h k → LeftAlike x y h k → LeftAlike (unless_last a d x) (unless_last a e y) h k
unfolding unless_last
by_answer (refused_by n) d e x y h k a b = a
by_answer accepted d e x y h k a b = b

by_open : (b : Bool) (x y h k : Held) → LeftAlike x y h k → LeftAlike (elim b [ true ↦ h | false ↦ x ]) (elim b [ true ↦ k | false ↦ y ]) h k
by_open true x y h k a = unwritten h k
by_open false x y h k a = a

same_rooms : (l m : Lent) → SameLengths l m → rooms_of l ≡ rooms_of m
unfolding rooms_of
same_rooms l m z = rw (z.nodes, z.edges, z.records) refl

module _ (p : Problem) (kind : CutsetKind) where
  picks_left : (turns : ℕ) (s : Search) (h k : Held) → open_in s h.list ≡ open_in s k.list → SameSizes h k → LeftAlike (picking_leaves turns p kind s h) (picking_leaves turns p kind s k) h k
  unfolding picking_leaves
  picks_left zero s h k o z = unwritten h k
  picks_left (suc turns) s h k o z =
      let q = asked_for p kind s h.list in
      let d = pick q s h in
      let e = pick (asked_for p kind s k.list) s k in
      let a : PickedAlike d e h k =
      subst (λ (x : Asked). PickedAlike d (pick x s k) h k) (asked_alike p kind s h.list k.list o) (picks_alike q s h k (record { opened = o; long = z.list; rooms = same_rooms h.lent k.lent z.lent })) in
      let one = pick_left d e h k a in
      let rest : LeftAlike (picking_leaves turns p kind d.search d.held) (picking_leaves turns p kind e.search e.held) d.held e.held =
      subst (λ (t : Search). LeftAlike (picking_leaves turns p kind d.search d.held) (picking_leaves turns p kind t e.held) d.held e.held) a.searches
      (picks_left turns d.search d.held e.held (a.opened ∙ ap (λ (t : Search). open_in t e.held.list) (sym a.searches)) (sized_after d.held e.held h k one z)) in
      by_open (eqb s.opened 0) _ _ h k
      (subst (λ (x : Picked). LeftAlike (unless_last d.answer d.held (picking_leaves turns p kind d.search d.held)) (unless_last x e.held (picking_leaves turns p kind e.search e.held)) h k) a.answers
      (by_answer d.answer d.held e.held _ _ h k one (then_left d.held e.held _ _ h k one rest)))

  -- the root record alone is written before the first pick
  abbrev rooted : Held → Held
  rooted h = record { list = over_places (root_place p.page ∷ []) h.list; lent = h.lent }

  start_left : (h k : Held) → LeftAlike (rooted h) (rooted k) h k
  unfolding over over_places
  start_left h k = record { placed = root_place p.page ∷ []; written = nothing; first = refl; second = refl }

  both_open : (h k : Held) → open_in (Start.begun i64_min) (rooted h).list ≡ open_in (Start.begun i64_min) (rooted k).list
  unfolding open_in Start.begun over_places
  both_open h k = refl

  abbrev after : Start.After → Held → Held
  after d h = started_leaves p kind (record { list = d.list; lent = h.lent }) d.answer

  begun_left : (x : Option ℕ) (h k : Held) → SameSizes h k → LeftAlike (after (Start.unless x p i64_min h.list) h) (after (Start.unless x p i64_min k.list) k) h k
  unfolding started_leaves Start.unless
  begun_left (some n) h k z = unwritten h k
  begun_left none h k z =
      let one = start_left h k in
      then_left (rooted h) (rooted k) _ _ h k one (picks_left all_turns (Start.begun i64_min) (rooted h) (rooted k) (both_open h k) (sized_after (rooted h) (rooted k) h k one z))

pub one_run_leaves : OneRunLeaves
unfolding run_leaves start
one_run_leaves p kind h k z =
    subst (λ (n : ℕ). LeftAlike (after p kind (Start.unless (start_refusal p (length h.list)) p i64_min h.list) h) (after p kind (Start.unless (start_refusal p n) p i64_min k.list) k) h k) z.list
    (begun_left p kind (start_refusal p (length h.list)) h k z)
