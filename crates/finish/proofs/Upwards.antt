-- Bottom values go up through a layer's rows, and through the layers from the newest on: the local bounds.
use mathlib.Core.Path.{◌≡◌, refl, sym, ap, subst, ◌∙◌}
use mathlib.Core.Bool.{Bool, true, false, ◌&&◌}
use mathlib.Core.List.{List, []}
use Prim.Native.Nat.{ℕ, zero, suc, ◌+◌, ◌-◌, ◌*◌, ◌<◌, ◌≤◌}
use native.Mathlib.Omega.{arith}
use lib.ListN.{length, get_or, length-set}
use Rattle.words.specs.I64.{mid}
use Rattle.diagram.specs.Node.{Node, Edge, node_at, update, marked_with}
use Rattle.diagram.specs.Run.{Mode, exactly, restricted, relaxing, is_relaxing}
use Rattle.diagram.specs.Tables.{Diagram, Range, LastExact, unsquashed, squashed_after, with_nodes, rows_from, rows_of}
use Rattle.diagram.specs.After5.{ground_rows, ground_layer, raise_rows, raise_layers, bounds_if, local_bounds}
use Rattle.layout.specs.Rows.{node_words}
use Rattle.branch.specs.declared.Counts.{Counts}
use Rattle.layers.specs.declared.Layer.{Layer}
use Rattle.layers.specs.declared.Layers.{Layers}
use Rattle.layers.specs.Layer.{no_layer}
use Rattle.layers.specs.Stored.{range_of, first_ones, stored}
use Rattle.theorems.proofs.Links.{Wired, update_wired}
use Rattle.finish.specs.Sits.{Sits, Row}
use Rattle.finish.specs.Bounds.{LayerGrounded, Rewritten, raised_row, RowRaised, Upto, LayerRaised, Ranged, Layered, LayersRaised, was_squashed, BoundsComputed}
use Rattle.finish.proofs.Rewriting.{goes_on, unwritten, then_written, ground_links, ground_long}

-- ---- the rows of a layer

raise_next : (es : List Edge) (from n : ℕ) (ns : List Node) → raise_rows es (rows_from from (suc n)) ns ≡ raised_row es (from + n) (raise_rows es (rows_from from n) ns)
unfolding raise_rows rows_from
raise_next es from zero ns = let z : from + 0 ≡ from = omega arith in rw z refl
raise_next es from (suc n) ns =
    let z : from + suc n ≡ suc from + n = omega arith in
    rw z (raise_next es (suc from) n (raised_row es from ns))

-- the rows before i of the layer from .. to had their turn
pub record RaisedUpto (from to i : ℕ) (ns es us : List ℕ) : Type 0 where
  pub does : (k : Counts) (h : Sits k ns es) → to ≤ length h.diagram.nodes → Rewritten h (raise_rows h.diagram.edges (rows_from from (i - from)) h.diagram.nodes) us

pub upto_none : (from to : ℕ) (ns es : List ℕ) → RaisedUpto from to from ns es ns
unfolding raise_rows rows_from
upto_none from to ns es =
    record {
      does = λ k h l.
          let z : 0 ≡ from - from = omega arith in
          subst (λ (n : ℕ). Rewritten h (raise_rows h.diagram.edges (rows_from from n) h.diagram.nodes) ns) z (unwritten h);
    }

rows_still : {k : Counts} {ns es : List ℕ} (h : Sits k ns es) (rows : List Node) (us : List ℕ) → Rewritten h rows us → length (with_nodes h.diagram rows).nodes ≡ length h.diagram.nodes
unfolding with_nodes
rows_still h rows us w = w.long

-- one more: a step over the rewritten rows is a step over the diagram's own
after_row : {k : Counts} {ns es : List ℕ} (h : Sits k ns es) (rows : List Node) (us vs : List ℕ) (i : ℕ) → Rewritten h rows us → i < length h.diagram.nodes → RowRaised i us es vs → Rewritten h (raised_row h.diagram.edges i rows) vs
unfolding with_nodes
after_row {k} h rows us vs i w l c = then_written h rows (raised_row h.diagram.edges i rows) us vs w (c.does k (goes_on h rows us w) (omega (arith, w.long)))

pub upto_one : (from to i : ℕ) (ns es us vs : List ℕ) → from ≤ i → i < to → RaisedUpto from to i ns es us → RowRaised i us es vs → RaisedUpto from to (i + 1) ns es vs
upto_one from to i ns es us vs a b g c =
    record {
      does = λ k h l.
          let E = h.diagram.edges in
          let N = h.diagram.nodes in
          let z : suc (i - from) ≡ i + 1 - from = omega arith in
          let y : i ≡ from + (i - from) = omega arith in
          let w = g.does k h l in
          let rows = raise_rows E (rows_from from (i - from)) N in
          let q : raised_row E i rows ≡ raise_rows E (rows_from from (i + 1 - from)) N =
          ap (λ (n : ℕ). raised_row E n rows) y ∙ sym (raise_next E from (i - from) N) ∙ ap (λ (n : ℕ). raise_rows E (rows_from from n) N) z in
          subst (λ (ms : List Node). Rewritten h ms vs) q (after_row h rows us vs i w (omega arith) c);
    }

pub upto_all : (x : Layer) (i : ℕ) (ns es us : List ℕ) → i - x.from ≤ x.to - x.from → x.to ≤ i → RaisedUpto x.from x.to i ns es us → LayerRaised x ns es us
unfolding rows_of
upto_all x i ns es us a b g =
    record {
      does = λ k h l.
          let z : i - x.from ≡ x.to - x.from = omega arith in
          subst (λ (n : ℕ). Rewritten h (raise_rows h.diagram.edges (rows_from x.from n) h.diagram.nodes) us) z (g.does k h l);
    }

-- the next row can be read
pub row_upto : (from to i : ℕ) (ns es us : List ℕ) → Upto ns es to → i < to → RaisedUpto from to i ns es us → Row us es i
row_upto from to i ns es us p l g =
    let h = p.sits in
    let w = g.does p.counts h p.inside in
    record { counts = p.counts; sits = goes_on h _ us w; inside = omega (arith, rows_still h _ us w, p.inside) }

-- ---- the layers, the newest first

-- the layers from i on had their turn
pub record LayersLeft {k : Counts} {ns es : List ℕ} (h : Sits k ns es) (l : Layers) (i : ℕ) (us : List ℕ) : Type 0 where
  pub rows : List Node
  pub written : Rewritten h rows us
  pub rest : raise_layers h.diagram.edges (first_ones l.rows i) rows ≡ raise_layers h.diagram.edges (stored l) h.diagram.nodes

pub record LayersUpto (l : Layers) (i : ℕ) (ns es us : List ℕ) : Type 0 where
  pub does : (k : Counts) (h : Sits k ns es) → Ranged l (length h.diagram.nodes) → LayersLeft h l i us

pub layers_none : (l : Layers) (ns es : List ℕ) → LayersUpto l l.count ns es ns
unfolding stored
layers_none l ns es = record { does = λ k h r. record { rows = h.diagram.nodes; written = unwritten h; rest = refl } }

after_layer : {k : Counts} {ns es : List ℕ} (h : Sits k ns es) (rows : List Node) (us vs : List ℕ) (x : Layer) → Rewritten h rows us → x.to ≤ length h.diagram.nodes → LayerRaised x us es vs → Rewritten h (raise_rows h.diagram.edges (rows_of (range_of x)) rows) vs
unfolding with_nodes
after_layer {k} h rows us vs x w l c = then_written h rows (raise_rows h.diagram.edges (rows_of (range_of x)) rows) us vs w (c.does k (goes_on h rows us w) (omega (arith, w.long)))

pub layers_one : (l : Layers) (i j : ℕ) (x : Layer) (ns es us vs : List ℕ) → i ≡ suc j → j < l.count → x ≡ get_or l.rows j no_layer → LayersUpto l i ns es us → LayerRaised x us es vs → LayersUpto l j ns es vs
unfolding first_ones raise_layers
layers_one l i j x ns es us vs z b e g c =
    record {
      does = λ k h r.
          let E = h.diagram.edges in
          let left = g.does k h r in
          record {
            rows = raise_rows E (rows_of (range_of x)) left.rows;
            written = after_layer h left.rows us vs x left.written (rw e (r.ends j b)) c;
            rest =
                ap (λ (y : Layer). raise_layers E (first_ones l.rows j) (raise_rows E (rows_of (range_of y)) left.rows)) e
                ∙ ap (λ (n : ℕ). raise_layers E (first_ones l.rows n) left.rows) (sym z)
                ∙ left.rest;
          };
    }

pub layers_all : (l : Layers) (i : ℕ) (ns es us : List ℕ) → i ≡ 0 → LayersUpto l i ns es us → LayersRaised l ns es us
unfolding first_ones raise_layers
layers_all l i ns es us z g =
    record {
      does = λ k h r.
          let E = h.diagram.edges in
          let left = g.does k h r in
          let q : left.rows ≡ raise_layers E (stored l) h.diagram.nodes = ap (λ (n : ℕ). raise_layers E (first_ones l.rows n) left.rows) (sym z) ∙ left.rest in
          subst (λ (rows : List Node). Rewritten h rows us) q left.written;
    }

-- the next layer is there
pub layer_upto : (l : Layers) (i j : ℕ) (x : Layer) (ns es us : List ℕ) → Layered ns es l → j < l.count → x ≡ get_or l.rows j no_layer → LayersUpto l i ns es us → Upto us es x.to
layer_upto l i j x ns es us p b e g =
    let h = p.sits in
    let left = g.does p.counts h p.ranged in
    record { counts = p.counts; sits = goes_on h left.rows us left.written; inside = rw e (omega (arith, rows_still h left.rows us left.written, p.ranged.ends j b)) }

-- ---- the last stored layer's rows are written first

ground_wired : (d : Diagram) (from n : ℕ) (ns : List Node) → ((r : ℕ) → r < n → from + r < length ns) → d.start ≤ length ns → Wired (with_nodes d ns) → Wired (with_nodes d (ground_rows (rows_from from n) ns))
unfolding with_nodes ground_rows rows_from
ground_wired d from zero ns l s w = w
ground_wired d from (suc n) ns l s w =
    let z : length (update (marked_with mid) ns from) ≡ length ns = length-set ns from (marked_with mid (node_at ns from)) in
    let i : from < length ns = omega (arith, l 0 (omega arith)) in
    ground_wired d (suc from) n (update (marked_with mid) ns from) (λ r b. omega (arith, l (suc r) (omega arith))) (omega arith)
    (update_wired (marked_with mid) (with_nodes d ns) from ground_links s i w)

grounded : {k : Counts} {ns es : List ℕ} (h : Sits k ns es) (us : List ℕ) (x : Layer) → x.to ≤ length h.diagram.nodes → LayerGrounded x ns us → Rewritten h (ground_rows (rows_of (range_of x)) h.diagram.nodes) us
unfolding with_nodes rows_of
grounded h us x l g =
    record {
      nodes_are = g.does h.diagram.nodes h.old_n h.held.nodes_are l;
      long = ground_long x.from (x.to - x.from) h.diagram.nodes;
      wired = ground_wired h.diagram x.from (x.to - x.from) h.diagram.nodes (λ r b. omega arith) h.start_in h.wired;
    }

-- ---- the whole

idle : (x : LastExact) (d : Diagram) (ns : List Node) → was_squashed x ≡ false → bounds_if x d ns ≡ ns
unfolding bounds_if
idle unsquashed d ns q = refl
idle (squashed_after l) d ns q = let z : ◌≡◌ {A = ℕ} 0 1 = cc in absurd (omega arith)

still : (m : Mode) (d : Diagram) (ns : List Node) → (is_relaxing m && was_squashed d.last) ≡ false → local_bounds m d ns ≡ ns
unfolding local_bounds
still exactly d ns q = refl
still restricted d ns q = refl
still relaxing d ns q = idle d.last d ns q

busy : (x : LastExact) (d : Diagram) (ns : List Node) → was_squashed x ≡ true → bounds_if x d ns ≡ raise_layers d.edges d.layers (ground_layer d.layers ns)
unfolding bounds_if
busy unsquashed d ns q = let z : ◌≡◌ {A = ℕ} 0 1 = cc in absurd (omega arith)
busy (squashed_after l) d ns q = refl

moving : (m : Mode) (d : Diagram) (ns : List Node) → (is_relaxing m && was_squashed d.last) ≡ true → local_bounds m d ns ≡ raise_layers d.edges d.layers (ground_layer d.layers ns)
unfolding local_bounds
moving exactly d ns q = let z : ◌≡◌ {A = ℕ} 0 1 = cc in absurd (omega arith)
moving restricted d ns q = let z : ◌≡◌ {A = ℕ} 0 1 = cc in absurd (omega arith)
moving relaxing d ns q = busy d.last d ns q

told : (squashed relaxed v : Bool) (m : Mode) (d : Diagram) → (relaxed && squashed) ≡ v → squashed ≡ was_squashed d.last → relaxed ≡ is_relaxing m → (is_relaxing m && was_squashed d.last) ≡ v
told squashed relaxed v m d z q r = ap (λ (x : Bool). x && was_squashed d.last) (sym r) ∙ ap (λ (x : Bool). relaxed && x) (sym q) ∙ z

-- the mode has none, or nothing was squashed
pub bounds_idle : (l : Layers) (squashed relaxed : Bool) (ns es : List ℕ) → (relaxed && squashed) ≡ false → BoundsComputed l squashed relaxed ns es ns
bounds_idle l squashed relaxed ns es z =
    record {
      does = λ k h m g s q r.
          subst (λ (rows : List Node). Rewritten h rows ns) (sym (still m h.diagram h.diagram.nodes (told squashed relaxed false m h.diagram z q r))) (unwritten h);
    }

no_layers : (es : List Edge) (ls : List Range) (ns : List Node) → ls ≡ [] → raise_layers es ls (ground_layer ls ns) ≡ ns
unfolding raise_layers ground_layer
no_layers es ls ns q = ap (λ (x : List Range). raise_layers es x (ground_layer x ns)) q

-- no layer is stored
pub bounds_none : (l : Layers) (squashed relaxed : Bool) (ns es : List ℕ) → (relaxed && squashed) ≡ true → l.count ≡ 0 → BoundsComputed l squashed relaxed ns es ns
unfolding stored first_ones
bounds_none l squashed relaxed ns es z n =
    record {
      does = λ k h m g s q r.
          let d = h.diagram in
          let y : d.layers ≡ [] = sym s ∙ ap (first_ones l.rows) n in
          subst (λ (rows : List Node). Rewritten h rows ns)
          (sym (moving m d d.nodes (told squashed relaxed true m d z q r) ∙ no_layers d.edges d.layers d.nodes y))
          (unwritten h);
    }

last_first : (l : Layers) (j : ℕ) (x : Layer) (ns : List Node) → l.count ≡ suc j → x ≡ get_or l.rows j no_layer → ground_layer (stored l) ns ≡ ground_rows (rows_of (range_of x)) ns
unfolding stored first_ones ground_layer
last_first l j x ns q e = ap (λ (n : ℕ). ground_layer (first_ones l.rows n) ns) q ∙ ap (λ (y : Layer). ground_rows (rows_of (range_of y)) ns) (sym e)

after_ground : {k : Counts} {ns es : List ℕ} (h : Sits k ns es) (l : Layers) (rows : List Node) (us vs : List ℕ) → Rewritten h rows us → Ranged l (length h.diagram.nodes) → LayersRaised l us es vs → Rewritten h (raise_layers h.diagram.edges (stored l) rows) vs
unfolding with_nodes
after_ground {k} h l rows us vs w r c =
    then_written h rows (raise_layers h.diagram.edges (stored l) rows) us vs w (c.does k (goes_on h rows us w) (record { ends = λ i b. omega (arith, r.ends i b, w.long) }))

pub bounds_all : (l : Layers) (squashed relaxed : Bool) (ns es us vs : List ℕ) (j : ℕ) (x : Layer) → (relaxed && squashed) ≡ true → l.count ≡ suc j → x ≡ get_or l.rows j no_layer → LayerGrounded x ns us → LayersRaised l us es vs → BoundsComputed l squashed relaxed ns es vs
bounds_all l squashed relaxed ns es us vs j x z n e g c =
    record {
      does = λ k h m f s q r.
          let d = h.diagram in
          let w = grounded h us x (rw e (f.ends j (omega arith))) g in
          subst (λ (rows : List Node). Rewritten h rows vs)
          (sym (moving m d d.nodes (told squashed relaxed true m d z q r)
          ∙ ap (λ (x : List Range). raise_layers d.edges x (ground_layer x d.nodes)) (sym s)
          ∙ ap (raise_layers d.edges (stored l)) (last_first l j x d.nodes n e)))
          (after_ground h l _ us vs w f c);
    }

-- what the two passes ask
pub last_in : (l : Layers) (j : ℕ) (x : Layer) (ns es : List ℕ) → Layered ns es l → l.count ≡ suc j → x ≡ get_or l.rows j no_layer → x.to * node_words ≤ length ns
last_in l j x ns es p n e = rw e (omega (arith, p.ranged.ends j (omega arith), p.sits.nodes_in))

pub layered_still : (l : Layers) (j : ℕ) (x : Layer) (ns es us : List ℕ) → Layered ns es l → l.count ≡ suc j → x ≡ get_or l.rows j no_layer → LayerGrounded x ns us → Layered us es l
layered_still l j x ns es us p n e g =
    let h = p.sits in
    let w = grounded h us x (rw e (p.ranged.ends j (omega arith))) g in
    record {
      counts = p.counts;
      sits = goes_on h _ us w;
      ranged = record { ends = λ i b. omega (arith, p.ranged.ends i b, rows_still h _ us w) };
    }

-- what raising a layer's rows needs
pub ruleset raising_rows = (upto_none, upto_one, row_upto)

-- what raising the layers needs
pub ruleset raising_layers = (layers_none, layers_one, layers_all)

-- what the whole needs
pub ruleset whole = (bounds_idle, bounds_none, bounds_all, last_in, layered_still)
