-- The search for the best terminal, turn by turn.
use mathlib.Core.Path.{◌≡◌, refl, sym, ap, subst, ◌∙◌}
use mathlib.Core.Bool.{Bool, true, false, cond, ◌&&◌, ◌||◌}
use mathlib.Core.List.{List}
use Prim.Native.Nat.{ℕ, suc, ◌+◌, ◌-◌, ◌*◌, ◌<◌, ◌≤◌}
use native.Mathlib.Omega.{arith}
use lib.Dec.{ltb, leb, eqb}
use lib.ListN.{length}
use Rattle.std.specs.Prelude.{Option, Some, None}
use Rattle.diagram.specs.Node as Def
use Rattle.diagram.specs.Node.{node_at}
use Rattle.diagram.specs.Tables.{at, nowhere, rows_from}
use Rattle.diagram.specs.Rule6.{by_squash}
use Rattle.diagram.specs.After1.{better, best_of}
use Rattle.layout.specs.Rows.{node_words}
use Rattle.rows.specs.declared.NodeId.{NodeId}
use Rattle.rows.specs.Access.{NodeRead}
use Rattle.finish.specs.Terminals.{row_of, Within, Readable, among, with_row, Bettered, BestFound}

-- ---- one row

kind_is : (e : Bool) (n : Def.Node) → among e n ≡ cond e n.exact true
kind_is true n = refl
kind_is false n = refl

asked : (e v : Bool) (n m : Def.Node) → n ≡ m → cond e n.exact true ≡ v → among e m ≡ v
asked e v n m q z = kind_is e m ∙ ap (λ (x : Def.Node). cond e x.exact true) (sym q) ∙ z

-- the row is not asked for
pub row_left_out : (t : List ℕ) (r : ℕ) (behind : Option NodeId) (e : Bool) (n : Def.Node) → NodeRead t r n → cond e n.exact true ≡ false → Bettered t r behind e behind
row_left_out t r behind e n read z =
    record {
      does = λ ns old q h l. sym (ap (λ (a : Bool). cond a (better ns r (row_of behind)) (row_of behind)) (asked e false n (node_at ns r) (read.is_row ns old q h) z));
      inside = λ lo hi a c l. l;
    }

-- it is the first that is
pub row_alone : (t : List ℕ) (r : NodeId) (behind : Option NodeId) (e : Bool) (n : Def.Node) → NodeRead t r.0 n → cond e n.exact true ≡ true → behind ≡ None → Bettered t r.0 behind e (Some r)
unfolding better
row_alone t r behind e n read z k =
    subst (λ (x : Option NodeId). Bettered t r.0 x e (Some r)) (sym k)
    (record {
      does = λ ns old q h l. sym (ap (λ (a : Bool). cond a (better ns r.0 nowhere) nowhere) (asked e true n (node_at ns r.0) (read.is_row ns old q h) z));
      inside = λ lo hi a c l. (a, c);
    })

-- the words of the other row are there
pub readable : (words : ℕ) (b : Option NodeId) (q : NodeId) → b ≡ Some q → Readable words b → q.0 * node_words + node_words ≤ words
readable words b q e h = subst (λ (x : Option NodeId). Readable words x) e h

-- squash order of two rows by value
abbrev rank : Def.Node → Def.Node → Bool
rank n m = ltb m.value n.value || (eqb m.value n.value && leb m.capacity n.capacity)

pick : Bool → NodeId → NodeId → Option NodeId
pick true r q = Some r
pick false r q = Some q

-- beside another, the one that stands first
chosen : (t : List ℕ) (r q : NodeId) (e s : Bool) (n m : Def.Node) → NodeRead t r.0 n → NodeRead t q.0 m → cond e n.exact true ≡ true → s ≡ rank n m → (v : Bool) → s ≡ v → Bettered t r.0 (Some q) e (pick v r q)
unfolding better by_squash pick
chosen t r q e s n m readn readm z k v y =
    record {
      does = λ ns old g h l.
          let x : n ≡ node_at ns r.0 = readn.is_row ns old g h in
          let u : m ≡ node_at ns q.0 = readm.is_row ns old g l.1 in
          let f : by_squash ns r.0 q.0 ≡ v = ap (λ (a : Def.Node). rank a (node_at ns q.0)) (sym x) ∙ ap (λ (a : Def.Node). rank n a) (sym u) ∙ sym k ∙ y in
          picked v ns q.0
          ∙ sym (ap (λ (a : Bool). cond a (at r.0) (at q.0)) f)
          ∙ sym (ap (λ (a : Bool). cond a (better ns r.0 (at q.0)) (at q.0)) (asked e true n (node_at ns r.0) x z));
      inside = λ lo hi a c l. within v lo hi (a, c) l;
    }
  where
    picked : (v : Bool) (ns : List Def.Node) (k : ℕ) → row_of (pick v r q) ≡ cond v (at r.0) (at q.0)
    picked true ns k = refl
    picked false ns k = refl

    within : (v : Bool) (lo hi : ℕ) → Within lo hi (Some r) → Within lo hi (Some q) → Within lo hi (pick v r q)
    within true lo hi a c = a
    within false lo hi a c = c

pub row_first : (t : List ℕ) (r q : NodeId) (behind : Option NodeId) (e s : Bool) (n m : Def.Node) → behind ≡ Some q → NodeRead t r.0 n → NodeRead t q.0 m → cond e n.exact true ≡ true → s ≡ rank n m → s ≡ true → Bettered t r.0 behind e (Some r)
unfolding pick
row_first t r q behind e s n m g x u z k y = subst (λ (o : Option NodeId). Bettered t r.0 o e (Some r)) (sym g) (chosen t r q e s n m x u z k true y)

pub row_second : (t : List ℕ) (r q : NodeId) (behind : Option NodeId) (e s : Bool) (n m : Def.Node) → behind ≡ Some q → NodeRead t r.0 n → NodeRead t q.0 m → cond e n.exact true ≡ true → s ≡ rank n m → s ≡ false → Bettered t r.0 behind e (Some q)
unfolding pick
row_second t r q behind e s n m g x u z k y = subst (λ (o : Option NodeId). Bettered t r.0 o e (Some q)) (sym g) (chosen t r q e s n m x u z k false y)

-- ---- the rows from the last one on

pub none_yet : (t : List ℕ) (count : ℕ) (e : Bool) → BestFound t count count e None
unfolding best_of rows_from
none_yet t count e =
    record {
      does = λ ns old q h. let z : count - count ≡ 0 = omega arith in sym (ap (λ (k : ℕ). best_of (among e) ns (rows_from count k)) z);
      inside = tt;
    }

pub within_wider : (lo hi lo₁ hi₁ : ℕ) (b : Option NodeId) → lo₁ ≤ lo → hi ≤ hi₁ → Within lo hi b → Within lo₁ hi₁ b
within_wider lo hi lo₁ hi₁ (Some n) p q w = (omega (arith, w.0), omega (arith, w.1))
within_wider lo hi lo₁ hi₁ None p q w = tt

next_row : (kind : Def.Node → Bool) (ns : List Def.Node) (j count : ℕ) → j < count → best_of kind ns (rows_from j (count - j)) ≡ with_row kind ns j (best_of kind ns (rows_from (suc j) (count - suc j)))
unfolding best_of rows_from
next_row kind ns j count h =
    let z : count - j ≡ suc (count - suc j) = omega arith in
    ap (λ (k : ℕ). best_of kind ns (rows_from j k)) z

-- the row before them
pub one_row_more : (t : List ℕ) (count i j : ℕ) (e : Bool) (best b : Option NodeId) → i ≡ suc j → j < count → BestFound t i count e best → Bettered t j best e b → BestFound t j count e b
one_row_more t count i j e best b z h p q =
    let f : BestFound t (suc j) count e best = subst (λ (k : ℕ). BestFound t k count e best) z p in
    record {
      does = λ ns old g l.
          q.does ns old g (omega arith) (within_wider (suc j) count 0 (length ns) best (omega arith) l f.inside)
          ∙ ap (with_row (among e) ns j) (f.does ns old g l)
          ∙ sym (next_row (among e) ns j count h);
      inside = q.inside j count (omega arith) h (within_wider (suc j) count j count best (omega arith) (omega arith) f.inside);
    }

-- the best row so far can be read
pub best_readable : (t : List ℕ) (i count : ℕ) (e : Bool) (best : Option NodeId) → BestFound t i count e best → count * node_words ≤ length t → Readable (length t) best
best_readable t i count e best f h = go best f.inside
  where
    go : (b : Option NodeId) → Within i count b → Readable (length t) b
    go (Some n) w = omega (arith, w.1)
    go None w = tt

-- no row is left
pub all_rows : (t : List ℕ) (start count i : ℕ) (e : Bool) (best : Option NodeId) → start ≤ i → i ≤ start → BestFound t i count e best → BestFound t start count e best
all_rows t start count i e best a b f = let z : i ≡ start = omega arith in subst (λ (k : ℕ). BestFound t k count e best) z f

-- what comparing one row needs
pub ruleset one_row = (row_left_out, row_alone, readable, row_first, row_second)

-- what going through the rows needs
pub ruleset all_the_rows = (best_readable, all_rows)
