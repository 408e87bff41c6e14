-- The three ways that a picked record can go: nothing compiled, refused by the compile, compiled; and what the counting and the answer ask on each.
use mathlib.Core.Path.{◌≡◌, refl, ap, subst, ◌∙◌}
use mathlib.Core.Bool.{Bool, true, false, cond}
use mathlib.Core.List.{List}
use mathlib.Core.Option.{Option, none, some}
use Prim.Native.Nat.{ℕ, ◌*◌, ◌≤◌}
use native.Mathlib.Nat.{mul-le-mul_right}
use native.Mathlib.Omega.{arith}
use lib.IntN.{ℤ}
use lib.ListN.{length}
use lib.Signed.{lt_z, le_z}
use Rattle.std.specs.Prelude.{Result, Ok, Err}
use Rattle.layout.specs.Records.{record_words}
use Rattle.calls.specs.Compile as Call
use Rattle.calls.specs.Compile.{Lent, rooms_of, Compiled, refused, compiled, Effect, compile_effect, after, compile}
use Rattle.compile.specs.Asked.{lent_of}
use Rattle.records.specs.declared.Record.{Record}
use Rattle.records.proofs.Drained.{read_back}
use Rattle.query.specs.Queried.{asked_by}
use Rattle.searches.specs.Search as Def
use Rattle.searches.specs.Pick.{better}
use Rattle.search.specs.declared.Search.{Search}
use Rattle.search.specs.declared.Ask.{Ask}
use Rattle.search.specs.Held.{search_of, search_from}
use Rattle.pick_steps.specs.declared.Found.{Found}
use Rattle.pick_steps.specs.Steps.{query_from, wanted, compile_if, finding, found_from, Explores}

-- a better value leaves the count of picks
better_picks : (x : Option ℤ) (path : List ℕ) (s : Def.Search) → (better x path s).picks ≡ s.picks
unfolding better
better_picks none path s = refl
better_picks (some z) path s = go (lt_z s.best z)
  where
    found : Bool → Def.Search
    found b = elim b [ true ↦ record { best = z; held = true; path = path; opened = s.opened; picks = s.picks } | false ↦ s ]

    go : (b : Bool) → (found b).picks ≡ s.picks
    go true = refl
    go false = refl

at_most : (b : Bool) (n : ℕ) → cond b 0 n ≤ n
at_most true n = omega arith
at_most false n = omega arith

not_above : (a b : ℤ) → le_z b a ≡ true → lt_z a b ≡ false
not_above a b h = grind arith

-- nothing found: the search as it was, no record looked at
abbrev pub unchanged : Search → Found
unchanged s = record { search = search_from (search_of s); drained = 0 }

module _ (ws ps : List ℕ) (ask : Ask) (s : Search) (r : Record) (ns es scratch : List ℕ) where
  abbrev lent : Lent
  lent = lent_of ns es scratch

  -- the compile of the record
  abbrev pub made : Effect
  made = compile_effect (asked_by ws ps (query_from ask s r)) (rooms_of lent)

  -- a record that isn't wanted; the code compares bits, whose numbers b and z are
  pub idles : (b z : ℤ) → b ≡ s.best → z ≡ r.bound → le_z z b ≡ true → Explores (compile_if (wanted s r) (asked_by ws ps (query_from ask s r)) lent) s (Ok (unchanged s)) ns es scratch
  unfolding better
  idles b z e f h =
      let l : le_z r.bound s.best ≡ true = cc in
      let w : wanted s r ≡ false = not_above s.best r.bound l in
      rw w (record { found_is = refl; nodes_are = refl; edges_are = refl; scratch_is = refl })

  pub data Way (x : Result Found ℕ) (lent' : Lent) : Type 0 where
    idle : wanted s r ≡ false → x ≡ Ok (unchanged s) → lent' ≡ lent → Way x lent'
    stopped : (n : ℕ) → wanted s r ≡ true → made.answer ≡ refused n → x ≡ Err n → lent' ≡ (after made lent).lent → Way x lent'
    grown : (c : Compiled) → wanted s r ≡ true → made.answer ≡ compiled c → x ≡ Ok (finding s c) → lent' ≡ (after made lent).lent → Way x lent'

  module _ (x : Result Found ℕ) (lent' : Lent) (h : Explores (compile_if (wanted s r) (asked_by ws ps (query_from ask s r)) lent) s x lent'.nodes lent'.edges lent'.records) where
    explored_by : (b : Bool) → wanted s r ≡ b → Explores (compile_if b (asked_by ws ps (query_from ask s r)) lent) s x lent'.nodes lent'.edges lent'.records
    explored_by b e = subst (λ (y : Bool). Explores (compile_if y (asked_by ws ps (query_from ask s r)) lent) s x lent'.nodes lent'.edges lent'.records) e h

    lent_is : (d : Call.After) → Explores d s x lent'.nodes lent'.edges lent'.records → lent' ≡ d.lent
    lent_is d c = rw (c.nodes_are, c.edges_are, c.scratch_is) refl

    told : wanted s r ≡ true → Explores (after made lent) s x lent'.nodes lent'.edges lent'.records
    unfolding compile
    told w = explored_by true w

    found_is : (a : Call.Answer) → wanted s r ≡ true → made.answer ≡ a → x ≡ found_from s a
    unfolding after
    found_is a w k = (told w).found_is ∙ ap (found_from s) k

    by_answer : (a : Call.Answer) → wanted s r ≡ true → made.answer ≡ a → Way x lent'
    by_answer (refused n) w k = stopped n w k (found_is (refused n) w k) (lent_is _ (told w))
    by_answer (compiled c) w k = grown c w k (found_is (compiled c) w k) (lent_is _ (told w))

    by_wanted : (b : Bool) → wanted s r ≡ b → Way x lent'
    unfolding better
    by_wanted true w = by_answer made.answer w refl
    by_wanted false w = let c = explored_by false w in idle w c.found_is (lent_is _ c)

    pub way : Way x lent'
    way = by_wanted (wanted s r) refl

    module _ (f : Found) (is : x ≡ Ok f) where
      found_by : (g : Found) → x ≡ Ok g → f ≡ g
      found_by g e = cc

      no_err : (n : ℕ) → x ≡ Err n → ◌≡◌ {A = ℕ} 0 1
      no_err n e = cc

      there_on : Way x lent' → f.drained * record_words ≤ length lent'.records
      there_on (idle w e l) = let d : f.drained ≡ 0 = ap (λ (g : Found). g.drained) (found_by _ e) in omega (arith, d)
      there_on (stopped n w k e l) = absurd (omega (arith, no_err n e))
      there_on (grown c w k e l) =
          let d : f.drained ≡ cond c.exact 0 c.drained_count = ap (λ (g : Found). g.drained) (found_by _ e) in
          omega (arith, d, mul-le-mul_right record_words (at_most c.exact c.drained_count), (read_back (asked_by ws ps (query_from ask s r)) lent c k).within, ap (λ (y : Lent). length y.records) l)

      -- the records that are looked at stand in the scratch list
      pub there : f.drained * record_words ≤ length lent'.records
      there = there_on way

      same_picks_on : Way x lent' → f.search.picks ≡ s.picks
      same_picks_on (idle w e l) = ap (λ (g : Found). g.search.picks) (found_by _ e)
      same_picks_on (stopped n w k e l) = absurd (omega (arith, no_err n e))
      same_picks_on (grown c w k e l) = ap (λ (g : Found). g.search.picks) (found_by _ e) ∙ better_picks c.best_exact c.exact_path (search_of s)

      -- what is found counts no pick
      pub same_picks : f.search.picks ≡ s.picks
      same_picks = same_picks_on way
