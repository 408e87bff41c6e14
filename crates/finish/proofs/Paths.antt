-- A best path written out, byte by byte.
use mathlib.Core.Path.{◌≡◌, refl, sym, ap, ◌∙◌}
use mathlib.Core.List.{List, [], ◌∷◌, ◌++◌, append_assoc, append-nil}
use Prim.Native.Nat.{ℕ, suc, ◌+◌, ◌-◌, ◌<◌, ◌≤◌}
use native.Mathlib.Omega.{arith}
use lib.ListN.{length, set, take, drop, replicate, length-append}
use lib.Seq.{set_at, length-take-le}
use Rattle.std.proofs.lemmas.List.{drop-replicate}
use Rattle.diagram.specs.Node.{Node, Edge, node_at, edge_at}
use Rattle.diagram.specs.Record.{path_room, padded}
use Rattle.diagram.specs.After3.{path_to}
use Rattle.rows.specs.Access.{NodeRead, EdgeRead}
use Rattle.branch.specs.declared.Counts.{Counts}
use Rattle.theorems.proofs.Path.{up_from, path_root, path_via}
use Rattle.theorems.proofs.Walk.{path_enough}
use Rattle.finish.specs.Sits.{Sits, Row}
use Rattle.finish.specs.Paths.{PathFits, PathWritten}
use Rattle.finish.proofs.Walks.{node_is, edge_is, parent_of}

-- ---- one byte more

pushed : (p : List ℕ) (b : ℕ) → length p < path_room → set (padded p) (length p) b ≡ padded (p ++ (b ∷ []))
unfolding padded
pushed p b h =
    let l : length (p ++ (b ∷ [])) ≡ suc (length p) = simp length-append (omega arith) in
    let z : path_room - length p ≡ suc (path_room - suc (length p)) = omega arith in
    rw (l, z, set_at p 0 (replicate (path_room - suc (length p)) 0) b (length p) refl) (sym (append_assoc p (b ∷ []) (replicate (path_room - suc (length p)) 0)))

-- a record's path in 64 places that were 0
pub kept : (path bytes : List ℕ) (depth : ℕ) → depth ≤ length path → bytes ≡ take depth path → bytes ++ drop depth (replicate path_room 0) ≡ padded (take depth path)
unfolding padded
kept path bytes depth h e = rw (drop-replicate, length-take-le depth path h) (ap (λ (l : List ℕ). l ++ replicate (path_room - depth) 0) e)

-- ---- the walk

-- what is written when the walk has come to row y, and that what is left above y ends the path
pub record Climbed (ns es : List ℕ) (r : ℕ) (record_path bytes : List ℕ) (len y : ℕ) : Type 0 where
  pub done : List ℕ
  pub bytes_are : bytes ≡ padded done
  pub len_is : len ≡ length done
  pub below : y ≤ r
  pub left : (k : Counts) (h : Sits k ns es) → r < length h.diagram.nodes → done ++ up_from (length h.diagram.nodes) h.diagram y ≡ path_to record_path h.diagram r

pub at_bottom : (ns es : List ℕ) (r : ℕ) (path bytes : List ℕ) (depth : ℕ) → depth ≤ length path → bytes ≡ padded (take depth path) → Climbed ns es r (take depth path) bytes depth r
unfolding path_to
at_bottom ns es r path bytes depth h e =
    record { done = take depth path; bytes_are = e; len_is = sym (length-take-le depth path h); below = omega arith; left = λ k h i. refl }

up_one : {k : Counts} {ns es : List ℕ} (h : Sits k ns es) (y i : ℕ) (n : Node) (e : Edge) → NodeRead ns y n → y < length h.diagram.nodes → n.best ≡ i + 1 → EdgeRead es i e → up_from (length h.diagram.nodes) h.diagram y ≡ e.decision ∷ up_from (length h.diagram.nodes) h.diagram e.from
up_one h y i n e read l z edge =
    let d = h.diagram in
    let p = parent_of h y i n read l z in
    let x = edge_is h i e edge p.edge_in in
    let f : length d.nodes ≡ suc (length d.nodes - 1) = omega arith in
    ap (λ (k : ℕ). up_from k d y) f
    ∙ path_via (length d.nodes - 1) d y i p.one_more
    ∙ ap (λ (t : List ℕ). (edge_at d.edges i).decision ∷ t) (path_enough d h.wired (length d.nodes - 1) (length d.nodes) (edge_at d.edges i).from (omega (arith, p.smaller)) (omega (arith, p.smaller)) (omega (arith, p.smaller)))
    ∙ ap (λ (a : Edge). a.decision ∷ up_from (length d.nodes) d a.from) (sym x)

-- there is room for one byte more, and the edge's decision is one
pub record Room (len y decision from : ℕ) : Type 0 where
  pub free : len < path_room
  pub byte : decision < 256
  pub falls : from < y

pub has_room : (ns es : List ℕ) (r : ℕ) (record_path bytes : List ℕ) (len y i : ℕ) (n : Node) (e : Edge) → PathFits ns es r record_path → Climbed ns es r record_path bytes len y → NodeRead ns y n → n.best ≡ i + 1 → EdgeRead es i e → Room len y e.decision e.from
has_room ns es r record_path bytes len y i n e f c read z edge =
    let h = f.row.sits in
    let l : y < length h.diagram.nodes = omega (arith, c.below, f.row.inside) in
    let p = parent_of h y i n read l z in
    let x = edge_is h i e edge p.edge_in in
    let q : c.done ++ (e.decision ∷ up_from (length h.diagram.nodes) h.diagram e.from) ≡ path_to record_path h.diagram r = ap (λ (t : List ℕ). c.done ++ t) (sym (up_one h y i n e read l z edge)) ∙ c.left f.row.counts h f.row.inside in
    record {
      free = omega (arith, f.room, c.len_is, simp length-append at (ap (length {A = ℕ}) q));
      byte = rw x (h.bytes i p.edge_in);
      falls = rw x p.smaller;
    }

pub one_up : (ns es : List ℕ) (r : ℕ) (record_path bytes : List ℕ) (len y i : ℕ) (n : Node) (e : Edge) → PathFits ns es r record_path → Climbed ns es r record_path bytes len y → NodeRead ns y n → n.best ≡ i + 1 → EdgeRead es i e → Climbed ns es r record_path (set bytes len e.decision) (len + 1) e.from
one_up ns es r record_path bytes len y i n e f c read z edge =
    let w = has_room ns es r record_path bytes len y i n e f c read z edge in
    let s = e.decision ∷ [] in
    record {
      done = c.done ++ s;
      bytes_are = ap (λ (x : List ℕ). set x len e.decision) c.bytes_are ∙ ap (λ (k : ℕ). set (padded c.done) k e.decision) c.len_is ∙ pushed c.done e.decision (omega (arith, w.free, c.len_is));
      len_is = simp length-append (omega (arith, c.len_is));
      below = omega (arith, w.falls, c.below);
      left = λ k h l.
          append_assoc c.done s (up_from (length h.diagram.nodes) h.diagram e.from)
          ∙ ap (λ (t : List ℕ). c.done ++ t) (sym (up_one h y i n e read (omega (arith, c.below)) z edge))
          ∙ c.left k h l;
    }

pub at_top : (ns es : List ℕ) (r : ℕ) (record_path bytes : List ℕ) (len y : ℕ) (n : Node) → Climbed ns es r record_path bytes len y → NodeRead ns y n → n.best ≡ 0 → PathWritten ns es r record_path (record { bytes = bytes; len = len })
at_top ns es r record_path bytes len y n c read z =
    record {
      does = λ k h i.
          let b : (node_at h.diagram.nodes y).best ≡ 0 = ap (λ (x : Node). x.best) (sym (node_is h y n read (omega (arith, c.below)))) ∙ z in
          let q : c.done ≡ path_to record_path h.diagram r =
          sym (append-nil c.done) ∙ ap (λ (t : List ℕ). c.done ++ t) (sym (path_root (length h.diagram.nodes) h.diagram y b)) ∙ c.left k h i in
          (c.bytes_are ∙ ap padded q, c.len_is ∙ ap (length {A = ℕ}) q);
    }

-- ---- what the next step reads

pub row_there : (ns es : List ℕ) (r : ℕ) (record_path bytes : List ℕ) (len y : ℕ) → PathFits ns es r record_path → Climbed ns es r record_path bytes len y → Row ns es y
row_there ns es r record_path bytes len y f c = record { counts = f.row.counts; sits = f.row.sits; inside = omega (arith, c.below, f.row.inside) }

-- what the climb needs
pub ruleset climb = (at_bottom, row_there)
