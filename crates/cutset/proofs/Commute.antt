-- The cutset and local bounds commute: the one changes cutset flags and reads none of the other's fields, the other changes marks and bottom values and reads no cutset flag.
use mathlib.Core.Path.{◌≡◌, refl, sym, ap, ◌∙◌}
use mathlib.Core.Bool.{Bool, true, false, not, cond, ◌&&◌}
use mathlib.Core.List.{List, [], ◌∷◌, ◌++◌, map}
use Prim.Native.Nat.{ℕ, zero, suc, ◌+◌}
use native.Mathlib.Omega.{arith}
use lib.ListN.{get_or, set, get_or-map}
use lib.Seq.{map-set_same}
use Rattle.words.specs.I64.{mid, sat_add}
use Rattle.diagram.specs.Node.{Node, Edge, no_node, node_at, edge_at, update, in_cutset, marked_with}
use Rattle.diagram.specs.Tables.{Range, LastExact, unsquashed, squashed_after, Diagram, with_nodes, rows_of, inbound}
use Rattle.diagram.specs.Run.{Mode, exactly, restricted, relaxing}
use Rattle.diagram.specs.After4.{CutsetKind, last_exact_layer, frontier, Cutset, list_row, list_rows, layer_cutset, frontier_edges, frontier_rows, frontier_layers, no_cutset, cutset_of, cutset_for}
use Rattle.diagram.specs.After5.{ground_rows, ground_layer, raise, raise_parents, raise_rows, raise_layers, bounds_if, local_bounds}
use Rattle.cutset.specs.Views.{with_cutset, uncut, uncuts, unmarked, unmarkeds}

-- ---- a view of a table of which one row was changed

map_set : (f : Node → Node) (ns : List Node) (s : ℕ) (y : Node) → map f (set ns s y) ≡ set (map f ns) s (f y)
map_set f [] s y = refl
map_set f (n ∷ ns) zero y = refl
map_set f (n ∷ ns) (suc s) y = ap (λ (l : List Node). f n ∷ l) (map_set f ns s y)

-- rows of tables that look alike look alike
pub view_at : (f : Node → Node) (ns ms : List Node) (r : ℕ) → map f ns ≡ map f ms → f (node_at ns r) ≡ f (node_at ms r)
view_at f ns ms r e =
    sym (get_or-map f ns r no_node) ∙ ap (λ (l : List Node). get_or l r (f no_node)) e ∙ get_or-map f ms r no_node

-- a change that goes by what the view shows
view_update : (f g : Node → Node) → ((n m : Node) → f n ≡ f m → f (g n) ≡ f (g m)) → (ns ms : List Node) (s : ℕ) → map f ns ≡ map f ms → map f (update g ns s) ≡ map f (update g ms s)
view_update f g k ns ms s e =
    rw (map_set f ns s (g (node_at ns s)), map_set f ms s (g (node_at ms s)), e, k (node_at ns s) (node_at ms s) (view_at f ns ms s e))

-- a change that the view doesn't show
view_kept : (f g : Node → Node) → ((n : Node) → f (g n) ≡ f n) → (ns : List Node) (s : ℕ) → map f (update g ns s) ≡ map f ns
view_kept f g k ns s = map-set_same f ns s (g (node_at ns s)) no_node (k (node_at ns s))

-- ---- what each view hides and shows

cut_hidden : (n : Node) → uncut (in_cutset n) ≡ uncut n
unfolding with_cutset in_cutset
cut_hidden n = refl

cut_shown : (n m : Node) → unmarked n ≡ unmarked m → unmarked (in_cutset n) ≡ unmarked (in_cutset m)
unfolding unmarked in_cutset
cut_shown n m e = ap in_cutset e

mark_hidden : (b : ℕ) (n : Node) → unmarked (marked_with b n) ≡ unmarked n
unfolding unmarked marked_with
mark_hidden b n = refl

mark_shown : (b : ℕ) (n m : Node) → uncut n ≡ uncut m → uncut (marked_with b n) ≡ uncut (marked_with b m)
unfolding with_cutset marked_with
mark_shown b n m e = ap (marked_with b) e

raise_shown : (b : ℕ) (n m : Node) → uncut n ≡ uncut m → uncut (raise b n) ≡ uncut (raise b m)
unfolding with_cutset raise marked_with
raise_shown b n m e = ap (raise b) e

raise_hidden : (b : ℕ) (n : Node) → unmarked (raise b n) ≡ unmarked n
unfolding unmarked raise marked_with
raise_hidden b n = refl

same_marked : (n m : Node) → uncut n ≡ uncut m → n.marked ≡ m.marked
unfolding with_cutset
same_marked n m e = ap (λ (x : Node). x.marked) e

same_bottom : (n m : Node) → uncut n ≡ uncut m → n.bottom ≡ m.bottom
unfolding with_cutset
same_bottom n m e = ap (λ (x : Node). x.bottom) e

same_exact : (n m : Node) → unmarked n ≡ unmarked m → n.exact ≡ m.exact
unfolding unmarked
same_exact n m e = ap (λ (x : Node). x.exact) e

pub same_cutset : (n m : Node) → unmarked n ≡ unmarked m → n.cutset ≡ m.cutset
unfolding unmarked
same_cutset n m e = ap (λ (x : Node). x.cutset) e

-- a row is known by both views
both_node : (n m : Node) → uncut n ≡ uncut m → unmarked n ≡ unmarked m → n ≡ m
unfolding with_cutset
both_node n m e u = ap (λ (x : Node). with_cutset n.cutset x) e ∙ ap (λ (b : Bool). with_cutset b m) (same_cutset n m u)

both_rows : (ns ms : List Node) → uncuts ns ≡ uncuts ms → unmarkeds ns ≡ unmarkeds ms → ns ≡ ms
both_rows [] [] e u = refl
both_rows [] (m ∷ ms) e u = let z : ◌≡◌ {A = ℕ} 0 1 = cc in absurd (omega arith)
both_rows (n ∷ ns) [] e u = let z : ◌≡◌ {A = ℕ} 0 1 = cc in absurd (omega arith)
both_rows (n ∷ ns) (m ∷ ms) e u =
    let a : uncut n ≡ uncut m = cc in
    let b : unmarked n ≡ unmarked m = cc in
    let c : uncuts ns ≡ uncuts ms = cc in
    let d : unmarkeds ns ≡ unmarkeds ms = cc in
    let x : n ≡ m = both_node n m a b in
    let y : ns ≡ ms = both_rows ns ms c d in
    cc

-- ---- the rows that a cutset lists go by what is seen without marks and bottom values

-- two cutsets in the making that differ in marks and bottom values alone
pub record Same (a b : Cutset) : Type 0 where
  pub rows : unmarkeds a.nodes ≡ unmarkeds b.nodes
  pub listed : a.listed ≡ b.listed

row_same : (r : ℕ) (a b : Cutset) → Same a b → Same (list_row r a) (list_row r b)
unfolding list_row
row_same r a b e =
    record {
      rows = view_update unmarked in_cutset cut_shown a.nodes b.nodes r e.rows;
      listed = ap (λ (l : List ℕ). l ++ (r ∷ [])) e.listed;
    }

rows_same : (rs : List ℕ) (a b : Cutset) → Same a b → Same (list_rows rs a) (list_rows rs b)
unfolding list_rows
rows_same [] a b e = e
rows_same (r ∷ rs) a b e = rows_same rs (list_row r a) (list_row r b) (row_same r a b e)

-- a step that is taken in both or in neither
if_same : (x y : Bool) (a b c d : Cutset) → x ≡ y → Same a b → Same c d → Same (cond x a c) (cond y b d)
if_same true true a b c d e p q = p
if_same true false a b c d e p q = let z : ◌≡◌ {A = ℕ} 0 1 = cc in absurd (omega arith)
if_same false true a b c d e p q = let z : ◌≡◌ {A = ℕ} 0 1 = cc in absurd (omega arith)
if_same false false a b c d e p q = q

exact_at : (a b : Cutset) (r : ℕ) → Same a b → (node_at a.nodes r).exact ≡ (node_at b.nodes r).exact
exact_at a b r e = same_exact (node_at a.nodes r) (node_at b.nodes r) (view_at unmarked a.nodes b.nodes r e.rows)

cutset_at : (a b : Cutset) (r : ℕ) → Same a b → (node_at a.nodes r).cutset ≡ (node_at b.nodes r).cutset
cutset_at a b r e = same_cutset (node_at a.nodes r) (node_at b.nodes r) (view_at unmarked a.nodes b.nodes r e.rows)

edges_same : (es : List Edge) (l : List ℕ) (a b : Cutset) → Same a b → Same (frontier_edges es l a) (frontier_edges es l b)
unfolding frontier_edges
edges_same es [] a b e = e
edges_same es (i ∷ l) a b e =
    let s = (edge_at es i).from in
    let t : ((node_at a.nodes s).exact && not (node_at a.nodes s).cutset) ≡ ((node_at b.nodes s).exact && not (node_at b.nodes s).cutset) = rw (exact_at a b s e, cutset_at a b s e) in
    edges_same es l _ _ (if_same _ _ (list_row s a) (list_row s b) a b t (row_same s a b e) e)

frontier_same : (es : List Edge) (rs : List ℕ) (a b : Cutset) → Same a b → Same (frontier_rows es rs a) (frontier_rows es rs b)
unfolding frontier_rows
frontier_same es [] a b e = e
frontier_same es (r ∷ rs) a b e =
    frontier_same es rs _ _ (if_same _ _ a b _ _ (exact_at a b r e) e (edges_same es (inbound es r) a b e))

layers_same : (es : List Edge) (ls : List Range) (a b : Cutset) → Same a b → Same (frontier_layers es ls a) (frontier_layers es ls b)
unfolding frontier_layers
layers_same es [] a b e = e
layers_same es (l ∷ ls) a b e = layers_same es ls _ _ (frontier_same es (rows_of l) a b e)

layer_same : (l : LastExact) (a b : Cutset) → Same a b → Same (layer_cutset l a) (layer_cutset l b)
unfolding layer_cutset
layer_same unsquashed a b e = e
layer_same (squashed_after l) a b e = rows_same (rows_of l) a b e

of_same : (k : CutsetKind) (d : Diagram) (ns : List Node) → unmarkeds ns ≡ unmarkeds d.nodes → Same (cutset_of k (with_nodes d ns)) (cutset_of k d)
unfolding cutset_of no_cutset with_nodes
of_same last_exact_layer d ns e = layer_same d.last _ _ (record { rows = e; listed = refl })
of_same frontier d ns e = layers_same d.edges d.layers _ _ (record { rows = e; listed = refl })

for_same : (m : Mode) (k : CutsetKind) (d : Diagram) (ns : List Node) → unmarkeds ns ≡ unmarkeds d.nodes → Same (cutset_for m k (with_nodes d ns)) (cutset_for m k d)
unfolding cutset_for no_cutset with_nodes
for_same exactly k d ns e = record { rows = e; listed = refl }
for_same restricted k d ns e = record { rows = e; listed = refl }
for_same relaxing k d ns e = of_same k d ns e

-- ---- a cutset changes cutset flags alone

pub row_flags : (r : ℕ) (c : Cutset) → uncuts (list_row r c).nodes ≡ uncuts c.nodes
unfolding list_row
row_flags r c = view_kept uncut in_cutset cut_hidden c.nodes r

rows_flags : (rs : List ℕ) (c : Cutset) → uncuts (list_rows rs c).nodes ≡ uncuts c.nodes
unfolding list_rows
rows_flags [] c = refl
rows_flags (r ∷ rs) c = rows_flags rs (list_row r c) ∙ row_flags r c

if_flags : (x : Bool) (a b : Cutset) (ns : List Node) → uncuts a.nodes ≡ uncuts ns → uncuts b.nodes ≡ uncuts ns → uncuts (cond x a b).nodes ≡ uncuts ns
if_flags true a b ns p q = p
if_flags false a b ns p q = q

edges_flags : (es : List Edge) (l : List ℕ) (c : Cutset) → uncuts (frontier_edges es l c).nodes ≡ uncuts c.nodes
unfolding frontier_edges
edges_flags es [] c = refl
edges_flags es (i ∷ l) c =
    let s = (edge_at es i).from in
    edges_flags es l _ ∙ if_flags ((node_at c.nodes s).exact && not (node_at c.nodes s).cutset) (list_row s c) c c.nodes (row_flags s c) refl

frontier_flags : (es : List Edge) (rs : List ℕ) (c : Cutset) → uncuts (frontier_rows es rs c).nodes ≡ uncuts c.nodes
unfolding frontier_rows
frontier_flags es [] c = refl
frontier_flags es (r ∷ rs) c = frontier_flags es rs _ ∙ if_flags (node_at c.nodes r).exact c (frontier_edges es (inbound es r) c) c.nodes refl (edges_flags es (inbound es r) c)

layers_flags : (es : List Edge) (ls : List Range) (c : Cutset) → uncuts (frontier_layers es ls c).nodes ≡ uncuts c.nodes
unfolding frontier_layers
layers_flags es [] c = refl
layers_flags es (l ∷ ls) c = layers_flags es ls _ ∙ frontier_flags es (rows_of l) c

layer_flags : (l : LastExact) (c : Cutset) → uncuts (layer_cutset l c).nodes ≡ uncuts c.nodes
unfolding layer_cutset
layer_flags unsquashed c = refl
layer_flags (squashed_after l) c = rows_flags (rows_of l) c

pub of_flags : (k : CutsetKind) (d : Diagram) → uncuts (cutset_of k d).nodes ≡ uncuts d.nodes
unfolding cutset_of no_cutset
of_flags last_exact_layer d = layer_flags d.last _
of_flags frontier d = layers_flags d.edges d.layers _

pub for_flags : (m : Mode) (k : CutsetKind) (d : Diagram) → uncuts (cutset_for m k d).nodes ≡ uncuts d.nodes
unfolding cutset_for no_cutset
for_flags exactly k d = refl
for_flags restricted k d = refl
for_flags relaxing k d = of_flags k d

-- ---- local bounds change marks and bottom values alone

ground_kept : (rs : List ℕ) (ns : List Node) → unmarkeds (ground_rows rs ns) ≡ unmarkeds ns
unfolding ground_rows
ground_kept [] ns = refl
ground_kept (r ∷ rs) ns = ground_kept rs _ ∙ view_kept unmarked (marked_with mid) (mark_hidden mid) ns r

ground_layer_kept : (ls : List Range) (ns : List Node) → unmarkeds (ground_layer ls ns) ≡ unmarkeds ns
unfolding ground_layer
ground_layer_kept [] ns = refl
ground_layer_kept (l ∷ ls) ns = ground_kept (rows_of l) ns

parents_kept : (es : List Edge) (own : ℕ) (l : List ℕ) (ns : List Node) → unmarkeds (raise_parents es own l ns) ≡ unmarkeds ns
unfolding raise_parents
parents_kept es own [] ns = refl
parents_kept es own (e ∷ l) ns =
    parents_kept es own l _ ∙ view_kept unmarked (raise (sat_add own (mid + (edge_at es e).cost))) (raise_hidden (sat_add own (mid + (edge_at es e).cost))) ns (edge_at es e).from

if_kept : (x : Bool) (a b ns : List Node) → unmarkeds a ≡ unmarkeds ns → unmarkeds b ≡ unmarkeds ns → unmarkeds (cond x a b) ≡ unmarkeds ns
if_kept true a b ns p q = p
if_kept false a b ns p q = q

raised_kept : (es : List Edge) (rs : List ℕ) (ns : List Node) → unmarkeds (raise_rows es rs ns) ≡ unmarkeds ns
unfolding raise_rows
raised_kept es [] ns = refl
raised_kept es (r ∷ rs) ns =
    raised_kept es rs _
    ∙ if_kept (node_at ns r).marked (raise_parents es (node_at ns r).bottom (inbound es r) ns) ns ns (parents_kept es (node_at ns r).bottom (inbound es r) ns) refl

raised_layers_kept : (es : List Edge) (ls : List Range) (ns : List Node) → unmarkeds (raise_layers es ls ns) ≡ unmarkeds ns
unfolding raise_layers
raised_layers_kept es [] ns = refl
raised_layers_kept es (l ∷ ls) ns = raised_layers_kept es ls _ ∙ raised_kept es (rows_of l) ns

if_bounds_kept : (l : LastExact) (d : Diagram) (ns : List Node) → unmarkeds (bounds_if l d ns) ≡ unmarkeds ns
unfolding bounds_if
if_bounds_kept unsquashed d ns = refl
if_bounds_kept (squashed_after l) d ns = raised_layers_kept d.edges d.layers _ ∙ ground_layer_kept d.layers ns

pub bounds_kept : (m : Mode) (d : Diagram) (ns : List Node) → unmarkeds (local_bounds m d ns) ≡ unmarkeds ns
unfolding local_bounds
bounds_kept exactly d ns = refl
bounds_kept restricted d ns = refl
bounds_kept relaxing d ns = if_bounds_kept d.last d ns

-- ---- and go by what is seen without cutset flags

ground_same : (rs : List ℕ) (ns ms : List Node) → uncuts ns ≡ uncuts ms → uncuts (ground_rows rs ns) ≡ uncuts (ground_rows rs ms)
unfolding ground_rows
ground_same [] ns ms e = e
ground_same (r ∷ rs) ns ms e = ground_same rs _ _ (view_update uncut (marked_with mid) (mark_shown mid) ns ms r e)

ground_layer_same : (ls : List Range) (ns ms : List Node) → uncuts ns ≡ uncuts ms → uncuts (ground_layer ls ns) ≡ uncuts (ground_layer ls ms)
unfolding ground_layer
ground_layer_same [] ns ms e = e
ground_layer_same (l ∷ ls) ns ms e = ground_same (rows_of l) ns ms e

parents_same : (es : List Edge) (own : ℕ) (l : List ℕ) (ns ms : List Node) → uncuts ns ≡ uncuts ms → uncuts (raise_parents es own l ns) ≡ uncuts (raise_parents es own l ms)
unfolding raise_parents
parents_same es own [] ns ms e = e
parents_same es own (i ∷ l) ns ms e =
    parents_same es own l _ _ (view_update uncut (raise (sat_add own (mid + (edge_at es i).cost))) (raise_shown (sat_add own (mid + (edge_at es i).cost))) ns ms (edge_at es i).from e)

if_raised : (x y : Bool) (a b c d : List Node) → x ≡ y → uncuts a ≡ uncuts b → uncuts c ≡ uncuts d → uncuts (cond x a c) ≡ uncuts (cond y b d)
if_raised true true a b c d e p q = p
if_raised true false a b c d e p q = let z : ◌≡◌ {A = ℕ} 0 1 = cc in absurd (omega arith)
if_raised false true a b c d e p q = let z : ◌≡◌ {A = ℕ} 0 1 = cc in absurd (omega arith)
if_raised false false a b c d e p q = q

raised_same : (es : List Edge) (rs : List ℕ) (ns ms : List Node) → uncuts ns ≡ uncuts ms → uncuts (raise_rows es rs ns) ≡ uncuts (raise_rows es rs ms)
unfolding raise_rows
raised_same es [] ns ms e = e
raised_same es (r ∷ rs) ns ms e =
    let v = view_at uncut ns ms r e in
    raised_same es rs _ _ (if_raised _ _ _ _ ns ms (same_marked (node_at ns r) (node_at ms r) v)
    (rw (same_bottom (node_at ns r) (node_at ms r) v) (parents_same es (node_at ms r).bottom (inbound es r) ns ms e)) e)

raised_layers_same : (es : List Edge) (ls : List Range) (ns ms : List Node) → uncuts ns ≡ uncuts ms → uncuts (raise_layers es ls ns) ≡ uncuts (raise_layers es ls ms)
unfolding raise_layers
raised_layers_same es [] ns ms e = e
raised_layers_same es (l ∷ ls) ns ms e = raised_layers_same es ls _ _ (raised_same es (rows_of l) ns ms e)

if_bounds_same : (l : LastExact) (d : Diagram) (ns ms : List Node) → uncuts ns ≡ uncuts ms → uncuts (bounds_if l d ns) ≡ uncuts (bounds_if l d ms)
unfolding bounds_if
if_bounds_same unsquashed d ns ms e = e
if_bounds_same (squashed_after l) d ns ms e =
    raised_layers_same d.edges d.layers _ _ (ground_layer_same d.layers ns ms e)

bounds_same : (m : Mode) (d : Diagram) (ns ms : List Node) → uncuts ns ≡ uncuts ms → uncuts (local_bounds m d ns) ≡ uncuts (local_bounds m d ms)
unfolding local_bounds
bounds_same exactly d ns ms e = e
bounds_same restricted d ns ms e = e
bounds_same relaxing d ns ms e = if_bounds_same d.last d ns ms e

-- ---- so it is the same which of the two comes first

abbrev pub bounded : Mode → Diagram → Diagram
bounded m d = with_nodes d (local_bounds m d d.nodes)

bounded_nodes : (m : Mode) (d : Diagram) → (bounded m d).nodes ≡ local_bounds m d d.nodes
unfolding with_nodes
bounded_nodes m d = refl

-- the same rows are listed
pub same_listed : (m : Mode) (k : CutsetKind) (d : Diagram) → (cutset_for m k (bounded m d)).listed ≡ (cutset_for m k d).listed
same_listed m k d = (for_same m k d (local_bounds m d d.nodes) (bounds_kept m d d.nodes)).listed

-- the same rows result
pub same_nodes : (m : Mode) (k : CutsetKind) (d : Diagram) → (cutset_for m k (bounded m d)).nodes ≡ local_bounds m d (cutset_for m k d).nodes
same_nodes m k d =
    both_rows _ _
    (for_flags m k (bounded m d) ∙ ap uncuts (bounded_nodes m d) ∙ sym (bounds_same m d (cutset_for m k d).nodes d.nodes (for_flags m k d)))
    ((for_same m k d (local_bounds m d d.nodes) (bounds_kept m d d.nodes)).rows ∙ sym (bounds_kept m d (cutset_for m k d).nodes))
