-- No row is listed twice in a cutset, so a relaxed run drains no more records than it has node rows.
use mathlib.Core.Path.{◌≡◌, refl, ap}
use mathlib.Core.Bool.{true, false, not, cond, ◌&&◌}
use mathlib.Core.List.{List, [], ◌∷◌}
use Prim.Native.Nat.{ℕ, zero, suc, ◌+◌, ◌-◌, ◌≤◌}
use native.Mathlib.Omega.{arith}
use lib.ListN.{length, length-append}
use borrow.Author.Tests.{not-true}
use Rattle.knapsack.proofs.Cases.{by_test}
use Rattle.diagram.specs.After4.{CutsetKind, last_exact_layer, frontier, Cutset, list_row, list_rows, layer_cutset, frontier_edges, frontier_rows, frontier_layers, no_cutset, cutset_of, cutset_for}
use Rattle.diagram.specs.After6.{Outcome, outcome, drained_record, drain_rows, drain_for, drained}
use Rattle.diagram.specs.Node.{Node, Edge, node_at, edge_at, update, in_cutset}
use Rattle.diagram.specs.Run.{relaxing}
use Rattle.diagram.specs.Tables.{Range, LastExact, unsquashed, squashed_after, Diagram, Found, at, nowhere, rows_from, rows_of, inbound}
use Rattle.theorems.proofs.Bool.{and_both}
use Rattle.theorems.proofs.Sort.{rows_length}
use Rattle.theorems.proofs.Exactness.{LastLayer}
use Rattle.theorems.proofs.Cutset.{add}
use Rattle.theorems.proofs.Fits.{of_long}

-- how many rows are flagged
unfoldable pub flags : List Node → ℕ
flags [] = 0
flags (n ∷ ns) = cond n.cutset (suc (flags ns)) (flags ns)

pub flags_few : (ns : List Node) → flags ns ≤ length ns
unfolding flags
flags_few [] = omega arith
flags_few (n ∷ ns) = by_test (λ b. cond b (suc (flags ns)) (flags ns) ≤ suc (length ns)) n.cutset (λ _. omega (arith, flags_few ns)) (λ _. omega (arith, flags_few ns))

-- a row that is exact is there; one flag more if it had none
pub flags_more : (ns : List Node) (s : ℕ) → (node_at ns s).exact ≡ true → (node_at ns s).cutset ≡ false → flags (update in_cutset ns s) ≡ suc (flags ns)
unfolding flags in_cutset
flags_more [] s x u = let z : ◌≡◌ {A = ℕ} 0 1 = cc in absurd (omega arith)
flags_more (n ∷ ns) zero x u = rw u
flags_more (n ∷ ns) (suc s) x u =
    by_test (λ b. cond b (suc (flags (update in_cutset ns s))) (flags (update in_cutset ns s)) ≡ suc (cond b (suc (flags ns)) (flags ns))) n.cutset
    (λ _. ap suc (flags_more ns s x u))
    (λ _. flags_more ns s x u)

-- no row is listed twice: there are as many flags as rows listed, at least
abbrev pub Few : Cutset → Type 0
Few c = length c.listed ≤ flags c.nodes

pub add_few : (s : ℕ) (c : Cutset) → Few c → Few (add c s)
unfolding list_row
add_few s c h =
    by_test (λ b. Few (cond b (list_row s c) c)) ((node_at c.nodes s).exact && not (node_at c.nodes s).cutset)
    (λ t. let z = and_both (node_at c.nodes s).exact (not (node_at c.nodes s).cutset) t in
    simp length-append (omega (arith, flags_more c.nodes s z.0 (not-true (node_at c.nodes s).cutset z.1))))
    (λ t. h)

pub edges_few : (es : List Edge) (l : List ℕ) (c : Cutset) → Few c → Few (frontier_edges es l c)
unfolding frontier_edges
edges_few es [] c h = h
edges_few es (e ∷ l) c h = edges_few es l (add c (edge_at es e).from) (add_few (edge_at es e).from c h)

pub rows_few : (es : List Edge) (rs : List ℕ) (c : Cutset) → Few c → Few (frontier_rows es rs c)
unfolding frontier_rows
rows_few es [] c h = h
rows_few es (r ∷ rs) c h =
    rows_few es rs (cond (node_at c.nodes r).exact c (frontier_edges es (inbound es r) c))
    (by_test (λ b. Few (cond b c (frontier_edges es (inbound es r) c))) (node_at c.nodes r).exact (λ _. h) (λ _. edges_few es (inbound es r) c h))

pub layers_few : (es : List Edge) (ls : List Range) (c : Cutset) → Few c → Few (frontier_layers es ls c)
unfolding frontier_layers
layers_few es [] c h = h
layers_few es (l ∷ ls) c h = layers_few es ls (frontier_rows es (rows_of l) c) (rows_few es (rows_of l) c h)

listed_all : (rs : List ℕ) (c : Cutset) → length (list_rows rs c).listed ≡ length c.listed + length rs
unfolding list_rows list_row
listed_all [] c = omega arith
listed_all (r ∷ rs) c = omega (arith, listed_all rs (list_row r c), length-append c.listed (r ∷ []))

-- the last exact layer's rows are rows of the diagram
layer_few : (d : Diagram) (l : LastExact) → d.last ≡ l → d.start ≤ length d.nodes → ((s : Range) → d.last ≡ squashed_after s → LastLayer d s) → length (layer_cutset l (no_cutset d)).listed ≤ length d.nodes
unfolding layer_cutset no_cutset rows_of
layer_few d unsquashed e h q = omega arith
layer_few d (squashed_after s) e h q = omega (arith, listed_all (rows_from s.lo (s.hi - s.lo)) (record { nodes = d.nodes; listed = [] }), rows_length s.lo (s.hi - s.lo), (q s e).done)

start_few : (d : Diagram) → Few (no_cutset d)
unfolding no_cutset
start_few d = omega arith

pub cut_few : (k : CutsetKind) (d : Diagram) → d.start ≤ length d.nodes → ((s : Range) → d.last ≡ squashed_after s → LastLayer d s) → length (cutset_of k d).listed ≤ length d.nodes
unfolding cutset_of
cut_few last_exact_layer d h q = layer_few d d.last refl h q
cut_few frontier d h q =
    omega (arith, layers_few d.edges d.layers (no_cutset d) (start_few d), flags_few (cutset_of frontier d).nodes, of_long frontier d)

pub drain_few : (pre : List ℕ) (d : Diagram) (best : ℕ) (rs : List ℕ) → length (drain_rows pre d best rs) ≤ length rs
unfolding drain_rows
drain_few pre d best [] = omega arith
drain_few pre d best (r ∷ rs) =
    by_test (λ b. length (cond b (drained_record pre d best r ∷ drain_rows pre d best rs) (drain_rows pre d best rs)) ≤ suc (length rs)) (node_at d.nodes r).marked
    (λ _. omega (arith, drain_few pre d best rs))
    (λ _. omega (arith, drain_few pre d best rs))

drain_for_few : (f : Found) (pre : List ℕ) (o : Outcome) → length (drain_for f pre o) ≤ length o.cutset
unfolding drain_for
drain_for_few nowhere pre o = omega arith
drain_for_few (at b) pre o = drain_few pre o.diagram (node_at o.diagram.nodes b).value o.cutset

-- A relaxed run drains no more records than it has node rows.
pub drained_few : (pre : List ℕ) (k : CutsetKind) (d : Diagram) → d.start ≤ length d.nodes → ((s : Range) → d.last ≡ squashed_after s → LastLayer d s) → length (drained pre (outcome relaxing k d)) ≤ length d.nodes
unfolding drained outcome cutset_for
drained_few pre k d h q = omega (arith, drain_for_few (outcome relaxing k d).best pre (outcome relaxing k d), cut_few k d h q)
