-- The compile inside a pick: an accepted one is a finished compile of demand 2, whose drained records are the places that may be appended.
use mathlib.Core.Path.{◌≡◌, refl, sym, ap, ◌∙◌}
use mathlib.Core.List.Memᴰ
use mathlib.Core.List.{List, [], ◌∷◌, Memᴰ, map}
use mathlib.Core.Logic.{inr}
use mathlib.Core.Option.{none}
use Prim.Native.Nat.{ℕ, ◌≤◌}
use native.Mathlib.Decide.{ℕ_discrete}
use native.Mathlib.Omega.{arith}
use lib.ListN.{length, length-map}
use lib.Seq.{take_at}
use Rattle.words.specs.I64.{InI64}
use Rattle.diagram.specs.Record.{Record, padded}
use Rattle.diagram.specs.Run.{relaxing}
use Rattle.diagram.specs.After6.{Outcome, drained, finished}
use Rattle.calls.specs.Asked.{Problem, Given}
use Rattle.calls.specs.Refusals.{compile_refusal}
use Rattle.calls.specs.Compile.{Request, Rooms, Compiled, compiled, compiled_of, run_of, Effect, effect, compile_effect}
use Rattle.call_laws.proofs.View.{View, early, halted, overfull, done, view}
use Rattle.demand2.specs.Records.{Finished, given_of, Valid}
use Rattle.demand2.proofs.Accepted.{accepted_is}
use Rattle.demand2.proofs.Drained.{drained_records}
use Rattle.searches.specs.Places.{given_at, place_of}
use Rattle.searches.specs.Pick.{drained_places}

-- it finished with outcome o, answers that, and drains its records
pub record DoneWith (q : Request) (m : Rooms) (e : Effect) (c : Compiled) (o : Outcome) : Type 0 where
  pub accepts : compile_refusal q.problem q.given ≡ none
  pub runs : run_of q m ≡ finished o
  pub answers : c ≡ compiled_of q.given.path o
  pub drains : e.drained ≡ drained q.given.path o
  pub few : length (drained q.given.path o) ≤ m.records

done_by : (q : Request) (m : Rooms) (c : Compiled) (e : Effect) → View q m e → e.answer ≡ compiled c → (o : Outcome) × DoneWith q m e c o
unfolding effect
done_by q m c e (early n a) x = let z : ◌≡◌ {A = ℕ} 0 1 = cc in absurd (omega arith)
done_by q m c e (halted n d a b) x = let z : ◌≡◌ {A = ℕ} 0 1 = cc in absurd (omega arith)
done_by q m c e (overfull o a b h) x = let z : ◌≡◌ {A = ℕ} 0 1 = cc in absurd (omega arith)
done_by q m c e (done o a b h) x = (o, record { accepts = a; runs = b; answers = cc; drains = refl; few = h })

pub done_with : (q : Request) (m : Rooms) (c : Compiled) → (compile_effect q m).answer ≡ compiled c → (o : Outcome) × DoneWith q m (compile_effect q m) c o
done_with q m c e = done_by q m c (compile_effect q m) (view q m) e

-- a drained record, written in a place and read again, is what demand 2 hands to the next call
read_back : (r : Record) → length r.path ≡ r.depth → given_at (place_of r) ≡ given_of r
unfolding given_at place_of given_of padded
read_back r h = rw (take_at r.path _ r.depth h)

all_read_back : (rs : List Record) → ((r : Record) → Memᴰ r rs → length r.path ≡ r.depth) → map given_at (map place_of rs) ≡ map given_of rs
all_read_back [] h = refl
all_read_back (r ∷ rs) h = rw (read_back r (h r (Memᴰ.head refl)), all_read_back rs (λ x i. h x (Memᴰ.tail i)))

-- what demand 2 says of an accepted compile: it is finished, and its drained records are those in the places
pub record Answered (q : Request) (m : Rooms) (e : Effect) (c : Compiled) : Type 0 where
  pub finishes : Finished q c (map given_at (drained_places e))
  pub few : length (drained_places e) ≤ m.records

-- a valid record's path is as long as it is deep
pub path_long : (p : Problem) (g : Given) → Valid p g → length g.path ≡ g.depth
path_long p g v = elim (ℕ_discrete (length g.path) g.depth) [ yes e ↦ e | no n ↦ absurd (v.passes7 (inr n)) ]

given_fields : (r : Record) → ((given_of r).path ≡ r.path) × ((given_of r).depth ≡ r.depth)
unfolding given_of
given_fields r = (refl, refl)

module _ (q : Request) (m : Rooms) (c : Compiled) (relaxed : q.mode ≡ relaxing) (i64 : InI64 q.lower) where
  finished_as : (o : Outcome) → compile_refusal q.problem q.given ≡ none → run_of q m ≡ finished o → c ≡ compiled_of q.given.path o → (rs : List Given) → rs ≡ map given_of (drained q.given.path o) → Finished q c rs
  finished_as o none-applies runs e rs d =
      let v = (accepted_is q.problem q.given).0 none-applies in
      record { allowed = v.0; valid = v.1; lower_is_i64 = i64; rooms = m; outcome = o; runs = runs; answers = e; drains = d }

  drained_long : (o : Outcome) → compile_refusal q.problem q.given ≡ none → run_of q m ≡ finished o → c ≡ compiled_of q.given.path o → (r : Record) → Memᴰ r (drained q.given.path o) → length r.path ≡ r.depth
  drained_long o n runs e r i =
      let ds = drained q.given.path o in
      let z = drained_records q c (map given_of ds) (finished_as o n runs e (map given_of ds) refl) relaxed (given_of r) (Memᴰ.map given_of i) in
      let g = given_fields r in
      sym (ap (length {A = ℕ}) g.0) ∙ path_long q.problem (given_of r) z.valid ∙ g.1

  -- An accepted relaxed compile is finished, with the places' records as its drained ones.
  pub answered : (compile_effect q m).answer ≡ compiled c → Answered q m (compile_effect q m) c
  unfolding drained_places
  answered e =
      let d = done_with q m c e in
      let o = d.0 in
      let w = d.1 in
      let ds = drained q.given.path o in
      let back = all_read_back ds (drained_long o w.accepts w.runs w.answers) in
      record {
        finishes = finished_as o w.accepts w.runs w.answers _ (ap (λ (rs : List Record). map given_at (map place_of rs)) w.drains ∙ back);
        few = omega (arith, w.few, ap (length {A = Record}) w.drains, length-map (compile_effect q m).drained place_of);
      }
