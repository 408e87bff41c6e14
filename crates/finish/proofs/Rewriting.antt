-- Rows that change in their marks and bottom values alone: the tables go on to hold a wired diagram.
use mathlib.Core.Path.{◌≡◌, refl, sym, ap, ◌∙◌}
use mathlib.Core.List.{List}
use Prim.Native.Nat.{ℕ, zero, suc, ◌+◌, ◌-◌, ◌*◌, ◌<◌, ◌≤◌, max}
use native.Mathlib.Omega.{arith}
use lib.ListN.{length, set, length-append, length-set}
use Rattle.words.specs.I64.{mid}
use Rattle.diagram.specs.Node.{Node, Edge, node_at, edge_at, update, marked_with}
use Rattle.diagram.specs.Tables.{with_nodes, rows_from, rows_of}
use Rattle.diagram.specs.After5.{ground_rows, raise}
use Rattle.layout.specs.Table.{over}
use Rattle.layout.specs.Rows.{node_words, edge_words, encode_node, encode_edge, node_table, edge_table}
use Rattle.layout.proofs.Table.{length_words}
use Rattle.layout.proofs.Rows.{node_width, edge_width}
use Rattle.rows.specs.Access.{NodeRead, NodeWritten}
use Rattle.layers.specs.declared.Layer.{Layer}
use Rattle.branch.specs.declared.Counts.{Counts}
use Rattle.branch.specs.State.{counts_of, Held}
use Rattle.theorems.proofs.Links.{SameLinks, update_wired}
use Rattle.finish.specs.Sits.{Sits}
use Rattle.finish.specs.Bounds.{RowChanged, LayerGrounded, Rewritten}

-- ---- the words of the rows lie within their table

pub nodes_within : (rows : List Node) (old us : List ℕ) → us ≡ over (node_table rows) old → length rows * node_words ≤ length us
unfolding over node_table
nodes_within rows old us e = omega (arith, simp length-append at (ap (length {A = ℕ}) e), length_words encode_node node_words node_width rows)

pub edges_within : (rows : List Edge) (old us : List ℕ) → us ≡ over (edge_table rows) old → length rows * edge_words ≤ length us
unfolding over edge_table
edges_within rows old us e = omega (arith, simp length-append at (ap (length {A = ℕ}) e), length_words encode_edge edge_words edge_width rows)

-- ---- after a rewriting

pub still_held : {k : Counts} {ns es : List ℕ} (h : Sits k ns es) (rows : List Node) (us : List ℕ) → Rewritten h rows us → Held (with_nodes h.diagram rows) h.old_n h.old_e us es
unfolding with_nodes
still_held h rows us w = record { nodes_are = w.nodes_are; edges_are = h.held.edges_are }

pub still_counted : {k : Counts} {ns es : List ℕ} (h : Sits k ns es) (rows : List Node) (us : List ℕ) → Rewritten h rows us → k ≡ counts_of (with_nodes h.diagram rows)
unfolding with_nodes
still_counted h rows us w = h.counts ∙ rw w.long refl

pub still_started : {k : Counts} {ns es : List ℕ} (h : Sits k ns es) (rows : List Node) (us : List ℕ) → Rewritten h rows us → (with_nodes h.diagram rows).start ≤ length (with_nodes h.diagram rows).nodes
unfolding with_nodes
still_started h rows us w = omega (arith, h.start_in, w.long)

pub still_bytes : {k : Counts} {ns es : List ℕ} (h : Sits k ns es) (rows : List Node) → (e : ℕ) → e < length (with_nodes h.diagram rows).edges → (edge_at (with_nodes h.diagram rows).edges e).decision < 256
unfolding with_nodes
still_bytes h rows e l = h.bytes e l

pub still_within : {k : Counts} {ns es : List ℕ} (h : Sits k ns es) (rows : List Node) (us : List ℕ) → Rewritten h rows us → length (with_nodes h.diagram rows).nodes * node_words ≤ length us
unfolding with_nodes
still_within h rows us w = nodes_within rows h.old_n us w.nodes_are

pub still_edged : {k : Counts} {ns es : List ℕ} (h : Sits k ns es) (rows : List Node) → length (with_nodes h.diagram rows).edges * edge_words ≤ length es
unfolding with_nodes
still_edged h rows = h.edges_in

-- The next step finds what it asks for, with the rows that the last one left.
abbrev pub goes_on : {k : Counts} {ns es : List ℕ} (h : Sits k ns es) (rows : List Node) (us : List ℕ) → Rewritten h rows us → Sits k us es
goes_on h rows us w =
    record {
      diagram = with_nodes h.diagram rows;
      old_n = h.old_n;
      old_e = h.old_e;
      held = still_held h rows us w;
      counts = still_counted h rows us w;
      wired = w.wired;
      start_in = still_started h rows us w;
      nodes_in = still_within h rows us w;
      edges_in = still_edged h rows;
      bytes = still_bytes h rows;
    }

-- nothing was written
pub unwritten : {k : Counts} {ns es : List ℕ} (h : Sits k ns es) → Rewritten h h.diagram.nodes ns
unfolding with_nodes
unwritten h = record { nodes_are = h.held.nodes_are; long = refl; wired = h.wired }

-- one rewriting after another
pub then_written : {k : Counts} {ns es : List ℕ} (h : Sits k ns es) (rows more : List Node) (us vs : List ℕ) (w : Rewritten h rows us) → Rewritten (goes_on h rows us w) more vs → Rewritten h more vs
unfolding with_nodes
then_written h rows more us vs w x = record { nodes_are = x.nodes_are; long = x.long ∙ w.long; wired = x.wired }

marked_links : (b : ℕ) (n : Node) → SameLinks n (marked_with b n)
unfolding marked_with
marked_links b n = record { depth_is = refl; newest_is = refl; best_is = refl }

pub raise_links : (b : ℕ) (n : Node) → SameLinks n (raise b n)
unfolding raise
raise_links b n = marked_links (max n.bottom b) n

pub ground_links : (n : Node) → SameLinks n (marked_with mid n)
ground_links n = marked_links mid n

-- one row more was written
pub row_written : {k : Counts} {ns es : List ℕ} (h : Sits k ns es) (rows : List Node) (us vs : List ℕ) (f : Node → Node) (r : ℕ) → ((n : Node) → SameLinks n (f n)) → r < length rows → Rewritten h rows us → RowChanged f r us vs → Rewritten h (update f rows r) vs
unfolding with_nodes
row_written h rows us vs f r links l w c =
    record {
      nodes_are = c.does rows h.old_n w.nodes_are l;
      long = length-set rows r (f (node_at rows r)) ∙ w.long;
      wired = update_wired f (with_nodes h.diagram rows) r links (omega (arith, h.start_in, w.long)) l w.wired;
    }

-- ---- one row read, changed and written back

pub changed : (f : Node → Node) (r : ℕ) (t u : List ℕ) (n x : Node) → NodeRead t r n → x ≡ f n → NodeWritten t r x u → RowChanged f r t u
changed f r t u n x read e w =
    record { does = λ ns old q l. w.replaced ns old q l ∙ ap (λ (y : Node). over (node_table (set ns r y)) old) (e ∙ ap f (read.is_row ns old q l)) }

pub raised_is : (b m : ℕ) (n x : Node) → x ≡ marked_with m n → m ≡ max n.bottom b → x ≡ raise b n
unfolding raise
raised_is b m n x e q = e ∙ ap (λ (k : ℕ). marked_with k n) q

-- ---- the rows of a layer get 0 and a mark

ground_next : (from n : ℕ) (ns : List Node) → ground_rows (rows_from from (suc n)) ns ≡ update (marked_with mid) (ground_rows (rows_from from n) ns) (from + n)
unfolding ground_rows rows_from
ground_next from zero ns = let z : from + 0 ≡ from = omega arith in rw z refl
ground_next from (suc n) ns =
    let z : from + suc n ≡ suc from + n = omega arith in
    rw z (ground_next (suc from) n (update (marked_with mid) ns from))

pub ground_long : (from n : ℕ) (ns : List Node) → length (ground_rows (rows_from from n) ns) ≡ length ns
unfolding ground_rows rows_from
ground_long from zero ns = refl
ground_long from (suc n) ns = ground_long (suc from) n (update (marked_with mid) ns from) ∙ length-set ns from (marked_with mid (node_at ns from))

-- the rows before i of the layer from .. to have theirs
pub record GroundedUpto (from to i : ℕ) (t u : List ℕ) : Type 0 where
  pub does : (ns : List Node) (old : List ℕ) → t ≡ over (node_table ns) old → to ≤ length ns → u ≡ over (node_table (ground_rows (rows_from from (i - from)) ns)) old

pub ground_none : (from to : ℕ) (t : List ℕ) → GroundedUpto from to from t t
unfolding ground_rows rows_from
ground_none from to t =
    record { does = λ ns old q l. let z : from - from ≡ 0 = omega arith in q ∙ ap (λ (k : ℕ). over (node_table (ground_rows (rows_from from k) ns)) old) (sym z) }

pub ground_one : (from to i : ℕ) (t u v : List ℕ) → from ≤ i → i < to → GroundedUpto from to i t u → RowChanged (marked_with mid) i u v → GroundedUpto from to (i + 1) t v
ground_one from to i t u v a b g c =
    record {
      does = λ ns old q l.
          let z : i + 1 - from ≡ suc (i - from) = omega arith in
          let y : from + (i - from) ≡ i = omega arith in
          let rows = ground_rows (rows_from from (i - from)) ns in
          c.does rows old (g.does ns old q l) (omega (arith, ground_long from (i - from) ns))
          ∙ ap (λ (k : ℕ). over (node_table (update (marked_with mid) rows k)) old) (sym y)
          ∙ ap (λ (ms : List Node). over (node_table ms) old) (sym (ground_next from (i - from) ns))
          ∙ ap (λ (k : ℕ). over (node_table (ground_rows (rows_from from k) ns)) old) (sym z);
    }

pub ground_all : (l : Layer) (i : ℕ) (t u : List ℕ) → i - l.from ≤ l.to - l.from → l.to ≤ i → GroundedUpto l.from l.to i t u → LayerGrounded l t u
unfolding rows_of
ground_all l i t u a b g =
    record { does = λ ns old q h. let z : i - l.from ≡ l.to - l.from = omega arith in g.does ns old q h ∙ ap (λ (k : ℕ). over (node_table (ground_rows (rows_from l.from k) ns)) old) z }

-- what grounding a layer's rows needs
pub ruleset grounding = (ground_none, ground_one, ground_all)
