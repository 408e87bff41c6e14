-- The walk up the best path, row by row.
use mathlib.Core.Path.{◌≡◌, refl, sym, ap, subst, ◌∙◌}
use mathlib.Core.Bool.{Bool, true, false, not, ◌&&◌, ◌||◌}
use mathlib.Core.List.{List}
use Prim.Native.Nat.{ℕ, zero, suc, ◌+◌, ◌*◌, ◌<◌, ◌≤◌}
use native.Mathlib.Omega.{arith}
use lib.ListN.{length}
use Rattle.std.specs.Prelude.{Option, Some, None}
use Rattle.diagram.specs.Node.{Node, Edge, node_at, edge_at}
use Rattle.diagram.specs.Run.{Mode, exactly, restricted, relaxing, is_relaxing}
use Rattle.diagram.specs.Tables.{Diagram, Found, at, nowhere}
use Rattle.diagram.specs.After1.{best_node, parent_by, walk_up, exact_path}
use Rattle.layout.specs.Rows.{edge_words, node_words}
use Rattle.rows.specs.declared.NodeId.{NodeId}
use Rattle.rows.specs.Access.{NodeRead, EdgeRead}
use Rattle.branch.specs.declared.Counts.{Counts}
use Rattle.theorems.proofs.Links.{best_parent_smaller}
use Rattle.theorems.proofs.Terminals.{best_terminal}
use Rattle.finish.specs.Terminals.{row_of, Within}
use Rattle.finish.specs.Sits.{Sits, Row}
use Rattle.finish.specs.Walks.{WalkedUp, Ranked, PathJudged}

-- ---- what is read is a row of the diagram

pub node_is : {k : Counts} {ns es : List ℕ} (h : Sits k ns es) (r : ℕ) (n : Node) → NodeRead ns r n → r < length h.diagram.nodes → n ≡ node_at h.diagram.nodes r
node_is h r n read l = read.is_row h.diagram.nodes h.old_n h.held.nodes_are l

pub edge_is : {k : Counts} {ns es : List ℕ} (h : Sits k ns es) (e : ℕ) (x : Edge) → EdgeRead es e x → e < length h.diagram.edges → x ≡ edge_at h.diagram.edges e
edge_is h e x read l = read.is_row h.diagram.edges h.old_e h.held.edges_are l

pub row_words : {k : Counts} {ns es : List ℕ} (h : Sits k ns es) (r : ℕ) → r < length h.diagram.nodes → r * node_words + node_words ≤ length ns
row_words h r l = omega (arith, h.nodes_in)

pub edge_words_lem : {k : Counts} {ns es : List ℕ} (h : Sits k ns es) (e : ℕ) → e < length h.diagram.edges → e * edge_words + edge_words ≤ length es
edge_words_lem h e l = omega (arith, h.edges_in)

-- the parent over best edge i
pub record Parent (d : Diagram) (r i : ℕ) : Type 0 where
  pub edge_in : i < length d.edges
  pub smaller : (edge_at d.edges i).from < r
  pub one_more : (node_at d.nodes r).best ≡ suc i

pub parent_of : {k : Counts} {ns es : List ℕ} (h : Sits k ns es) (r i : ℕ) (n : Node) → NodeRead ns r n → r < length h.diagram.nodes → n.best ≡ i + 1 → Parent h.diagram r i
parent_of h r i n read l b =
    let q : n.best ≡ (node_at h.diagram.nodes r).best = ap (λ (x : Node). x.best) (node_is h r n read l) in
    let z : (node_at h.diagram.nodes r).best ≡ suc i = omega arith in
    let p = best_parent_smaller h.diagram h.wired r i l z in
    record { edge_in = p.0; smaller = p.1; one_more = z }

-- ---- the four ways of a row

walk_row : {k : Counts} {ns es : List ℕ} (h : Sits k ns es) (r f : ℕ) (n : Node) → NodeRead ns r n → r < length h.diagram.nodes → walk_up (suc f) h.diagram.nodes h.diagram.edges (at r) ≡ (n.exact || (not n.relaxed && walk_up f h.diagram.nodes h.diagram.edges (parent_by h.diagram.edges n.best)))
unfolding walk_up
walk_row h r f n read l =
    ap (λ (x : Node). x.exact || (not x.relaxed && walk_up f h.diagram.nodes h.diagram.edges (parent_by h.diagram.edges x.best))) (sym (node_is h r n read l))

pub walk_exact : (ns es : List ℕ) (r : ℕ) (n : Node) → NodeRead ns r n → n.exact ≡ true → WalkedUp ns es r true
walk_exact ns es r n read x = record { does = λ k h l f q. go h l f q }
  where
    go : {k : Counts} (h : Sits k ns es) → r < length h.diagram.nodes → (f : ℕ) → r + 2 ≤ f → true ≡ walk_up f h.diagram.nodes h.diagram.edges (at r)
    go h l zero q = absurd (omega arith)
    go h l (suc f) q = sym (walk_row h r f n read l ∙ rw x refl)

pub walk_relaxed : (ns es : List ℕ) (r : ℕ) (n : Node) → NodeRead ns r n → n.exact ≡ false → n.relaxed ≡ true → WalkedUp ns es r false
walk_relaxed ns es r n read x y = record { does = λ k h l f q. go h l f q }
  where
    go : {k : Counts} (h : Sits k ns es) → r < length h.diagram.nodes → (f : ℕ) → r + 2 ≤ f → false ≡ walk_up f h.diagram.nodes h.diagram.edges (at r)
    go h l zero q = absurd (omega arith)
    go h l (suc f) q = sym (walk_row h r f n read l ∙ rw (x, y) refl)

pub walk_top : (ns es : List ℕ) (r : ℕ) (n : Node) → NodeRead ns r n → n.exact ≡ false → n.relaxed ≡ false → n.best ≡ 0 → WalkedUp ns es r true
unfolding walk_up parent_by
walk_top ns es r n read x y z = record { does = λ k h l f q. go h l f q }
  where
    go : {k : Counts} (h : Sits k ns es) → r < length h.diagram.nodes → (f : ℕ) → r + 2 ≤ f → true ≡ walk_up f h.diagram.nodes h.diagram.edges (at r)
    go h l zero q = absurd (omega arith)
    go h l (suc zero) q = absurd (omega arith)
    go h l (suc (suc f)) q = sym (walk_row h r (suc f) n read l ∙ rw (x, y, z) refl)

pub walk_on : (ns es : List ℕ) (r i : ℕ) (n : Node) (e : Edge) (b : Bool) → NodeRead ns r n → n.exact ≡ false → n.relaxed ≡ false → n.best ≡ i + 1 → EdgeRead es i e → WalkedUp ns es e.from b → WalkedUp ns es r b
unfolding parent_by
walk_on ns es r i n e b read x y z edge w = record { does = λ k h l f q. go h l f q }
  where
    go : {k : Counts} (h : Sits k ns es) → r < length h.diagram.nodes → (f : ℕ) → r + 2 ≤ f → b ≡ walk_up f h.diagram.nodes h.diagram.edges (at r)
    go h l zero q = absurd (omega arith)
    go {k} h l (suc f) q =
        let p = parent_of h r i n read l z in
        let u : e.from ≡ (edge_at h.diagram.edges i).from = ap (λ (a : Edge). a.from) (edge_is h i e edge p.edge_in) in
        let v : n.best ≡ suc i = omega arith in
        let o : parent_by h.diagram.edges n.best ≡ at e.from = ap (parent_by h.diagram.edges) v ∙ ap at (sym u) in
        w.does k h (omega (arith, p.smaller)) f (omega (arith, p.smaller))
        ∙ ap (walk_up f h.diagram.nodes h.diagram.edges) (sym o)
        ∙ sym (walk_row h r f n read l ∙ rw (x, y) refl)

-- ---- what the next step asks

pub edge_readable : (ns es : List ℕ) (r i : ℕ) (n : Node) → Row ns es r → NodeRead ns r n → n.best ≡ i + 1 → i * edge_words + edge_words ≤ length es
edge_readable ns es r i n row read z = edge_words_lem row.sits i (parent_of row.sits r i n read row.inside z).edge_in

pub parent_row : (ns es : List ℕ) (r i : ℕ) (n : Node) (e : Edge) → Row ns es r → NodeRead ns r n → n.best ≡ i + 1 → EdgeRead es i e → (e.from < r) × Row ns es e.from
parent_row ns es r i n e row read z edge =
    let h = row.sits in
    let p = parent_of h r i n read row.inside z in
    let u : e.from ≡ (edge_at h.diagram.edges i).from = ap (λ (a : Edge). a.from) (edge_is h i e edge p.edge_in) in
    (omega (arith, p.smaller), record { counts = row.counts; sits = h; inside = omega (arith, p.smaller, row.inside) })

-- ---- over the best node

pub not_relaxed : (ns es : List ℕ) (best : Option NodeId) (relaxed : Bool) → relaxed ≡ false → PathJudged ns es best relaxed false
unfolding exact_path
not_relaxed ns es best relaxed z = record { does = λ k h m q w. go h m (sym q ∙ z) }
  where
    go : {k : Counts} (h : Sits k ns es) (m : Mode) → is_relaxing m ≡ false → false ≡ exact_path m h.diagram
    go h exactly q = refl
    go h restricted q = refl
    go h relaxing q = let y : ◌≡◌ {A = ℕ} 0 1 = cc in absurd (omega arith)

judged : {k : Counts} {ns es : List ℕ} (h : Sits k ns es) (m : Mode) (relaxed : Bool) (f : Found) (b : Bool) → relaxed ≡ is_relaxing m → relaxed ≡ true → f ≡ best_node h.diagram → b ≡ walk_up (suc (length h.diagram.nodes)) h.diagram.nodes h.diagram.edges f → b ≡ exact_path m h.diagram
unfolding exact_path
judged h exactly relaxed f b q z e w = let y : ◌≡◌ {A = ℕ} 0 1 = cc in absurd (omega arith)
judged h restricted relaxed f b q z e w = let y : ◌≡◌ {A = ℕ} 0 1 = cc in absurd (omega arith)
judged h relaxing relaxed f b q z e w = w ∙ ap (walk_up (suc (length h.diagram.nodes)) h.diagram.nodes h.diagram.edges) e

pub no_best_node : (ns es : List ℕ) (best : Option NodeId) (relaxed : Bool) → relaxed ≡ true → best ≡ None → PathJudged ns es best relaxed true
unfolding walk_up
no_best_node ns es best relaxed z e =
    record { does = λ k h m q w. judged h m relaxed nowhere true q z (ap row_of (sym e) ∙ w) refl }

pub best_node_walked : (ns es : List ℕ) (best : Option NodeId) (n : NodeId) (relaxed b : Bool) → relaxed ≡ true → best ≡ Some n → WalkedUp ns es n.0 b → PathJudged ns es best relaxed b
best_node_walked ns es best n relaxed b z e u =
    record {
      does = λ k h m q w.
          let v : at n.0 ≡ best_node h.diagram = ap row_of (sym e) ∙ w in
          let i = best_terminal h.diagram n.0 (sym v) in
          judged h m relaxed (at n.0) b q z v (u.does k h i.1 (suc (length h.diagram.nodes)) (omega (arith, i.1)));
    }

pub best_row : (ns es : List ℕ) (best : Option NodeId) (n : NodeId) → best ≡ Some n → Ranked ns es best → Row ns es n.0
best_row ns es best n e p =
    let i = subst (λ (x : Option NodeId). Within 0 (length p.sits.diagram.nodes) x) e p.inside in
    record { counts = p.counts; sits = p.sits; inside = i.1 }

-- what the walk from a row needs
pub ruleset walk = (row_words, walk_exact, walk_relaxed, walk_top, walk_on, edge_readable)

-- what the walk from the best node needs
pub ruleset best_walk = (not_relaxed, no_best_node, best_node_walked, best_row)
