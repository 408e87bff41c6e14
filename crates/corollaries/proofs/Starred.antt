-- The starred table for calls of `compile`: computed once in the rooms that each case needs; more room changes nothing.
use mathlib.Core.Path.{◌≡◌, refl, ap, sym, ◌∙◌}
use mathlib.Core.List.{List, [], ◌∷◌, Memᴰ, map}
use Prim.Native.Nat.{ℕ}
use Rattle.layout.specs.Table.{over}
use Rattle.layout.specs.Records.{record_table}
use Rattle.calls.specs.Compile as Def
use Rattle.calls.specs.Compile.{Effect, Compiled, refused, compiled, rooms_of, compile_effect, after, compile}
use Rattle.calls.proofs.Computing.{computing}
use Rattle.call_laws.proofs.Tables.{more_room_effect}
use Rattle.std.specs.Prelude.{Result, Ok, Err}
use Rattle.compile.specs.declared.Compiled as Code
use Rattle.compile.specs.Asked.{request_of}
use Rattle.compile.specs.Answered.{answer_from}
use Rattle.corollaries.specs.Called.{asked}
use Rattle.corollaries.specs.Starred.{Case, cases, Starred}

-- what is seen of a case: its answer and its records' words
record Seen : Type 0 where
  answer : Result Code.Compiled ℕ
  records : List ℕ

case_effect : Case → Effect
case_effect k = compile_effect (request_of k.weights k.profits k.request []) k.rooms

seen_of : Case → Seen
seen_of k = record { answer = answer_from (case_effect k).answer; records = record_table (case_effect k).drained }

wanted : Case → Seen
wanted k = record { answer = Ok k.answer; records = k.records }

-- the table, computed
computed : map seen_of cases ≡ map wanted cases
unfolding computing cases case_effect seen_of wanted
computed = refl

-- each of its rows
map_at : (ks : List Case) → map seen_of ks ≡ map wanted ks → (k : Case) → Memᴰ k ks → seen_of k ≡ wanted k
map_at [] e k h = elim h [ ]
map_at (x ∷ ks) e k (Memᴰ.head h) = let z : seen_of x ≡ wanted x = cc in rw h z
map_at (x ∷ ks) e k (Memᴰ.tail h) = let z : map seen_of ks ≡ map wanted ks = cc in map_at ks z k h

record Row (k : Case) : Type 0 where
  compiled_as : Compiled
  is_compiled_lem : (case_effect k).answer ≡ compiled compiled_as
  answer_is : answer_from (case_effect k).answer ≡ Ok k.answer
  records_are : record_table (case_effect k).drained ≡ k.records

row : (k : Case) → Memᴰ k cases → Row k
unfolding seen_of wanted
row k i = go (case_effect k).answer refl
  where
    e : seen_of k ≡ wanted k
    e = map_at cases computed k i

    go : (x : Def.Answer) → (case_effect k).answer ≡ x → Row k
    go (refused n) h =
        let v : ◌≡◌ {A = Result Code.Compiled ℕ} (Err n) (Ok k.answer) = sym (ap answer_from h) ∙ ap (λ (s : Seen). s.answer) e in
        absurd cc
    go (compiled a) h = record { compiled_as = a; is_compiled_lem = h; answer_is = ap (λ (s : Seen). s.answer) e; records_are = ap (λ (s : Seen). s.records) e }

-- a call lays its effect's words over the tables
pub starred : Starred
unfolding compile after case_effect
starred k i c a =
    let r = row k i in
    let q = request_of k.weights k.profits k.request [] in
    let same : case_effect k ≡ compile_effect (asked c) (rooms_of c.before) =
    more_room_effect q k.rooms (rooms_of c.before) r.compiled_as r.is_compiled_lem a.nodes a.edges a.records ∙ ap (λ (x : Def.Request). compile_effect x (rooms_of c.before)) (sym a.asked_is) in
    record {
      answer = c.promised.answer_is ∙ ap (λ (x : Effect). answer_from x.answer) (sym same) ∙ r.answer_is;
      records = c.promised.records_are ∙ ap (λ (x : Effect). over (record_table x.drained) c.before.records) (sym same) ∙ ap (λ (ws : List ℕ). over ws c.before.records) r.records_are;
    }
