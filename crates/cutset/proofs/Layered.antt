-- The frontier layer by layer, the newest stored layer first.
use mathlib.Core.Path.{◌≡◌, refl, sym, ap, subst, ◌∙◌}
use mathlib.Core.List.{List}
use Prim.Native.Nat.{ℕ, zero, suc, ◌-◌, ◌<◌, ◌≤◌}
use native.Mathlib.Omega.{arith}
use lib.ListN.{length, get_or}
use Rattle.diagram.specs.Tables.{Diagram, rows_from, rows_of}
use Rattle.diagram.specs.After4.{Cutset, frontier_layers}
use Rattle.layers.specs.declared.Layer.{Layer}
use Rattle.layers.specs.declared.Layers.{Layers}
use Rattle.layers.specs.Layer.{no_layer}
use Rattle.layers.specs.Stored.{first_ones, stored}
use Rattle.theorems.proofs.Once.{Few, rows_few}
use Rattle.cutset.specs.declared.Wanted.{Wanted}
use Rattle.cutset.specs.Trace.{Settled, Trace, Tracing, Traced, FewUpto, Ranged, FewRanges, of_rows, of_layers}

-- the first i stored layers are left, and lead to the cutset aimed at
pub record Rest (w : Wanted) (d : Diagram) (old_n old_e old_r : List ℕ) (rows : List Layer) (i count : ℕ) (ns es rs : List ℕ) (goal : Cutset) : Type 0 where
  pub cut : Cutset
  pub few : Few cut
  pub ranged : Ranged (length d.nodes) (first_ones rows i)
  pub trace : Trace w d old_n old_e old_r cut count ns es rs
  pub left : frontier_layers d.edges (first_ones rows i) cut ≡ goal

pub record Descending (w : Wanted) (l : Layers) (k₀ : ℕ) (ns₀ es rs₀ : List ℕ) (i count : ℕ) (ns rs : List ℕ) : Type 0 where
  pub does : (d : Diagram) (old_n old_e old_r : List ℕ) (c : Cutset) → Settled w d old_r → Trace w d old_n old_e old_r c k₀ ns₀ es rs₀ → FewRanges (stored l) d c → Rest w d old_n old_e old_r l.rows i count ns es rs (of_layers (stored l) d c)

pub at_last : (w : Wanted) (l : Layers) (k : ℕ) (ns es rs : List ℕ) → Descending w l k ns es rs l.count k ns rs
unfolding stored
at_last w l k ns es rs =
    record { does = λ d old_n old_e old_r c z t p. record { cut = c; few = p.1; ranged = p.0; trace = t; left = refl } }

pub past_first : (w : Wanted) (l : Layers) (k₀ : ℕ) (ns₀ es rs₀ : List ℕ) (i count : ℕ) (ns rs : List ℕ) → i ≤ 0 → Descending w l k₀ ns₀ es rs₀ i count ns rs → Traced (FewRanges (stored l)) (of_layers (stored l)) w k₀ ns₀ es rs₀ count ns rs
unfolding first_ones frontier_layers
past_first w l k₀ ns₀ es rs₀ i count ns rs h g =
    record {
      does = λ d old_n old_e old_r c z t p.
          let r = g.does d old_n old_e old_r c z t p in
          let y : i ≡ 0 = omega arith in
          let q : r.cut ≡ of_layers (stored l) d c = sym (ap (λ (k : ℕ). frontier_layers d.edges (first_ones l.rows k) r.cut) y) ∙ r.left in
          subst (λ (x : Cutset). Trace w d old_n old_e old_r x count ns es rs) q r.trace;
    }

-- layer i - 1 is the newest of the first i
opened : (d : Diagram) (rows : List Layer) (i : ℕ) (y : Layer) (c : Cutset) → 0 < i → y ≡ get_or rows (i - 1) no_layer → frontier_layers d.edges (first_ones rows i) c ≡ frontier_layers d.edges (first_ones rows (i - 1)) (of_rows y.from (y.to - y.from) d c)
unfolding frontier_layers first_ones rows_of
opened d rows zero y c h e = absurd (omega arith)
opened d rows (suc i) y c h e = let z : suc i - 1 ≡ i = omega arith in rw (e, z) refl

top_in : (n : ℕ) (rows : List Layer) (i : ℕ) (y : Layer) → 0 < i → y ≡ get_or rows (i - 1) no_layer → Ranged n (first_ones rows i) → (y.to ≤ n) × Ranged n (first_ones rows (i - 1))
unfolding first_ones
top_in n rows zero y h e r = absurd (omega arith)
top_in n rows (suc i) y h e r = let z : suc i - 1 ≡ i = omega arith in rw (e, z) r

pub layer_asked : (w : Wanted) (l : Layers) (k₀ : ℕ) (ns₀ es rs₀ : List ℕ) (i count : ℕ) (ns rs : List ℕ) (y : Layer) → 0 < i → y ≡ get_or l.rows (i - 1) no_layer → Tracing (FewRanges (stored l)) w k₀ ns₀ es rs₀ → Descending w l k₀ ns₀ es rs₀ i count ns rs → Tracing (FewUpto y.to) w count ns es rs
layer_asked w l k₀ ns₀ es rs₀ i count ns rs y h e x g =
    let r = g.does x.diagram x.old_n x.old_e x.old_r x.cut x.settled x.trace x.asked in
    record {
      diagram = x.diagram;
      old_n = x.old_n;
      old_e = x.old_e;
      old_r = x.old_r;
      cut = r.cut;
      settled = x.settled;
      trace = r.trace;
      asked = ((top_in (length x.diagram.nodes) l.rows i y h e r.ranged).0, r.few);
    }

pub one_down : (w : Wanted) (l : Layers) (k₀ : ℕ) (ns₀ es rs₀ : List ℕ) (i count : ℕ) (ns rs : List ℕ) (y : Layer) (count' : ℕ) (ns' rs' : List ℕ) → 0 < i → y ≡ get_or l.rows (i - 1) no_layer → Descending w l k₀ ns₀ es rs₀ i count ns rs → Traced (FewUpto y.to) (of_rows y.from (y.to - y.from)) w count ns es rs count' ns' rs' → Descending w l k₀ ns₀ es rs₀ (i - 1) count' ns' rs'
one_down w l k₀ ns₀ es rs₀ i count ns rs y count' ns' rs' h e g t =
    record {
      does = λ d old_n old_e old_r c z tr p.
          let r = g.does d old_n old_e old_r c z tr p in
          let k = top_in (length d.nodes) l.rows i y h e r.ranged in
          record {
            cut = of_rows y.from (y.to - y.from) d r.cut;
            few = rows_few d.edges (rows_from y.from (y.to - y.from)) r.cut r.few;
            ranged = k.1;
            trace = t.does d old_n old_e old_r r.cut z r.trace (k.0, r.few);
            left = sym (opened d l.rows i y r.cut h e) ∙ r.left;
          };
    }
