-- The walk along a row's inbound edges by their next numbers: each parent is listed or passed over, newest edge first.
use mathlib.Core.Path.{◌≡◌, refl, sym, ap, subst, ◌∙◌}
use mathlib.Core.Bool.{true, false}
use mathlib.Core.List.{List, [], ◌∷◌}
use Prim.Native.Nat.{ℕ, zero, suc, ◌+◌, ◌-◌, ◌*◌, ◌<◌, ◌≤◌}
use native.Mathlib.Omega.{arith}
use lib.ListN.{length}
use Rattle.diagram.specs.Node.{Node, Edge, node_at, edge_at}
use Rattle.diagram.specs.Tables.{Diagram, inbound}
use Rattle.diagram.specs.After4.{Cutset, frontier_edges}
use Rattle.layout.specs.Rows.{edge_words}
use Rattle.rows.specs.Access.{NodeRead, EdgeRead}
use Rattle.theorems.proofs.Links.{Wired, newest_low, along_next, next_walk}
use Rattle.theorems.proofs.Once.{Few, add_few}
use Rattle.cutset.specs.declared.Wanted.{Wanted}
use Rattle.cutset.specs.Trace.{Settled, Trace, Tracing, Traced, FewInside, FewLink, adding, along_edges, of_row}
use Rattle.cutset.proofs.Handing.{edge_words_lem, row_is, row_alike}

-- edge i: it is there, its parent is a row, its next number leads to an older edge
pub record Arrow (d : Diagram) (i : ℕ) : Type 0 where
  pub edge_in : i < length d.edges
  pub from_in : (edge_at d.edges i).from < length d.nodes
  pub falls : (edge_at d.edges i).next ≤ i

arrow_of : (d : Diagram) (i : ℕ) → Wired d → d.start ≤ length d.nodes → i < length d.edges → Arrow d i
arrow_of d i w s h =
    record {
      edge_in = h;
      from_in = omega (arith, (w.arrows i h).from_in);
      falls = omega (arith, w.link i h, newest_low i d.edges (edge_at d.edges i).to);
    }

along_one : (f : ℕ) (es : List Edge) (e : ℕ) → along_next (suc f) es (suc e) ≡ e ∷ along_next f es (edge_at es e).next
unfolding along_next
along_one f es e = refl

along_end : (f : ℕ) (es : List Edge) → along_next f es 0 ≡ []
unfolding along_next
along_end zero es = refl
along_end (suc f) es = refl

-- one parent, and then those over the edges behind
step_one : (d : Diagram) (f e i : ℕ) (c : Cutset) → e ≡ i + 1 → 0 < f → frontier_edges d.edges (along_next f d.edges e) c ≡ frontier_edges d.edges (along_next (f - 1) d.edges (edge_at d.edges i).next) (adding (edge_at d.edges i).from d c)
unfolding frontier_edges
step_one d f e i c h k =
    let y : f ≡ suc (f - 1) = omega arith in
    let z : e ≡ suc i = omega arith in
    let q : along_next f d.edges e ≡ i ∷ along_next (f - 1) d.edges (edge_at d.edges i).next =
    ap (λ (x : ℕ). along_next x d.edges e) y ∙ ap (λ (x : ℕ). along_next (suc (f - 1)) d.edges x) z ∙ along_one (f - 1) d.edges i in
    ap (λ (l : List ℕ). frontier_edges d.edges l c) q

-- The walk stands at edge e (its number and one): the parents over the edges from e on lead to the cutset aimed at.
pub record Left (w : Wanted) (d : Diagram) (old_n old_e old_r : List ℕ) (e count : ℕ) (ns es rs : List ℕ) (goal : Cutset) : Type 0 where
  pub cut : Cutset
  pub fuel : ℕ
  pub enough : e ≤ fuel
  pub inside : e ≤ length d.edges
  pub few : Few cut
  pub trace : Trace w d old_n old_e old_r cut count ns es rs
  pub left : frontier_edges d.edges (along_next fuel d.edges e) cut ≡ goal

pub record Walking (w : Wanted) (e₀ count₀ : ℕ) (ns₀ es rs₀ : List ℕ) (e count : ℕ) (ns rs : List ℕ) : Type 0 where
  pub does : (d : Diagram) (old_n old_e old_r : List ℕ) (c : Cutset) → Settled w d old_r → Trace w d old_n old_e old_r c count₀ ns₀ es rs₀ → FewLink e₀ d c → Left w d old_n old_e old_r e count ns es rs (along_edges e₀ d c)

pub walk_starts : (w : Wanted) (e count : ℕ) (ns es rs : List ℕ) → Walking w e count ns es rs e count ns rs
walk_starts w e count ns es rs =
    record {
      does = λ d old_n old_e old_r c z t p. record { cut = c; fuel = length d.edges; enough = p.0; inside = p.0; few = p.1; trace = t; left = refl };
    }

pub walk_ends : (w : Wanted) (e₀ count₀ : ℕ) (ns₀ es rs₀ : List ℕ) (e count : ℕ) (ns rs : List ℕ) → e ≡ 0 → Walking w e₀ count₀ ns₀ es rs₀ e count ns rs → Traced (FewLink e₀) (along_edges e₀) w count₀ ns₀ es rs₀ count ns rs
unfolding frontier_edges
walk_ends w e₀ count₀ ns₀ es rs₀ e count ns rs h g =
    record {
      does = λ d old_n old_e old_r c z t p.
          let l = g.does d old_n old_e old_r c z t p in
          let q : l.cut ≡ along_edges e₀ d c = ap (λ (x : List ℕ). frontier_edges d.edges x l.cut) (sym (ap (along_next l.fuel d.edges) h ∙ along_end l.fuel d.edges)) ∙ l.left in
          subst (λ (x : Cutset). Trace w d old_n old_e old_r x count ns es rs) q l.trace;
    }

-- where the walk stands in the tables that were lent
pub record Standing (w : Wanted) (e count : ℕ) (ns es rs : List ℕ) : Type 0 where
  pub diagram : Diagram
  pub old_n : List ℕ
  pub old_e : List ℕ
  pub old_r : List ℕ
  pub goal : Cutset
  pub settled : Settled w diagram old_r
  pub here : Left w diagram old_n old_e old_r e count ns es rs goal

pub standing : (w : Wanted) (e₀ count₀ : ℕ) (ns₀ es rs₀ : List ℕ) (e count : ℕ) (ns rs : List ℕ) → Tracing (FewLink e₀) w count₀ ns₀ es rs₀ → Walking w e₀ count₀ ns₀ es rs₀ e count ns rs → Standing w e count ns es rs
standing w e₀ count₀ ns₀ es rs₀ e count ns rs x g =
    record {
      diagram = x.diagram;
      old_n = x.old_n;
      old_e = x.old_e;
      old_r = x.old_r;
      goal = along_edges e₀ x.diagram x.cut;
      settled = x.settled;
      here = g.does x.diagram x.old_n x.old_e x.old_r x.cut x.settled x.trace x.asked;
    }

module _ (w : Wanted) (e count : ℕ) (ns es rs : List ℕ) (s : Standing w e count ns es rs) (i : ℕ) (h : e ≡ i + 1) where
  arrow : Arrow s.diagram i
  arrow = arrow_of s.diagram i s.settled.wired s.settled.start_in (omega (arith, s.here.inside))

  pub edge_asked : i * edge_words + edge_words ≤ length es
  edge_asked =
      let n = edge_words_lem w s.diagram s.old_n s.old_e s.old_r s.here.cut count ns es rs s.settled s.here.trace in
      omega (arith, arrow.edge_in)

  edge_is : (x : Edge) → EdgeRead es i x → x ≡ edge_at s.diagram.edges i
  edge_is x read = read.is_row s.diagram.edges s.old_e s.here.trace.edges_are arrow.edge_in

  pub next_falls : (x : Edge) → EdgeRead es i x → x.next < e
  next_falls x read = rw (edge_is x read) (omega (arith, arrow.falls))

  pub parent_asked : (x : Edge) → EdgeRead es i x → Tracing (FewInside x.from) w count ns es rs
  parent_asked x read =
      record {
        diagram = s.diagram;
        old_n = s.old_n;
        old_e = s.old_e;
        old_r = s.old_r;
        cut = s.here.cut;
        settled = s.settled;
        trace = s.here.trace;
        asked = (rw (edge_is x read) arrow.from_in, s.here.few);
      }

-- one edge more
pub walk_on : (w : Wanted) (e₀ count₀ : ℕ) (ns₀ es rs₀ : List ℕ) (e count : ℕ) (ns rs : List ℕ) (i : ℕ) (x : Edge) (count' : ℕ) (ns' rs' : List ℕ) → e ≡ i + 1 → EdgeRead es i x → Walking w e₀ count₀ ns₀ es rs₀ e count ns rs → Traced (FewInside x.from) (adding x.from) w count ns es rs count' ns' rs' → Walking w e₀ count₀ ns₀ es rs₀ x.next count' ns' rs'
walk_on w e₀ count₀ ns₀ es rs₀ e count ns rs i x count' ns' rs' h read g t =
    record {
      does = λ d old_n old_e old_r c z tr p.
          let l = g.does d old_n old_e old_r c z tr p in
          let k = arrow_of d i z.wired z.start_in (omega (arith, l.inside)) in
          let q : x ≡ edge_at d.edges i = read.is_row d.edges old_e l.trace.edges_are k.edge_in in
          let nx : x.next ≡ (edge_at d.edges i).next = ap (λ (y : Edge). y.next) q in
          let fr : x.from ≡ (edge_at d.edges i).from = ap (λ (y : Edge). y.from) q in
          record {
            cut = adding x.from d l.cut;
            fuel = l.fuel - 1;
            enough = omega (arith, l.enough, k.falls);
            inside = omega (arith, l.inside, k.falls);
            few = add_few x.from l.cut l.few;
            trace = t.does d old_n old_e old_r l.cut z l.trace (omega (arith, k.from_in), l.few);
            left = rw (nx, fr) (sym (step_one d l.fuel e i l.cut h (omega (arith, l.enough))) ∙ l.left);
          };
    }

-- ---- a row's own inbound edges

pub exact_passed : (w : Wanted) (r count : ℕ) (ns es rs : List ℕ) (n : Node) → NodeRead ns r n → n.exact ≡ true → Traced (FewInside r) (of_row r) w count ns es rs count ns rs
exact_passed w r count ns es rs n read x =
    record {
      does = λ d old_n old_e old_r c z t i.
          let e : (node_at c.nodes r).exact ≡ true = ap (λ (m : Node). m.exact) (sym (row_is w d old_n old_e old_r c count ns es rs z t r n i.0 read)) ∙ x in
          rw e t;
    }

newest_in : (d : Diagram) (r : ℕ) → Wired d → r < length d.nodes → (node_at d.nodes r).newest ≤ length d.edges
newest_in d r w h = rw (w.first r h) (newest_low (length d.edges) d.edges r)

pub link_asked : (w : Wanted) (r count : ℕ) (ns es rs : List ℕ) (n : Node) → NodeRead ns r n → Tracing (FewInside r) w count ns es rs → Tracing (FewLink n.newest) w count ns es rs
link_asked w r count ns es rs n read x =
    let a = row_alike w x.diagram x.old_n x.old_e x.old_r x.cut count ns es rs x.settled x.trace r n x.asked.0 read in
    record {
      diagram = x.diagram;
      old_n = x.old_n;
      old_e = x.old_e;
      old_r = x.old_r;
      cut = x.cut;
      settled = x.settled;
      trace = x.trace;
      asked = (omega (arith, a.newest, newest_in x.diagram r x.settled.wired x.asked.0), x.asked.1);
    }

pub row_walked : (w : Wanted) (r count : ℕ) (ns es rs : List ℕ) (n : Node) (count' : ℕ) (ns' rs' : List ℕ) → NodeRead ns r n → n.exact ≡ false → Traced (FewLink n.newest) (along_edges n.newest) w count ns es rs count' ns' rs' → Traced (FewInside r) (of_row r) w count ns es rs count' ns' rs'
row_walked w r count ns es rs n count' ns' rs' read x g =
    record {
      does = λ d old_n old_e old_r c z t i.
          let e : (node_at c.nodes r).exact ≡ false = ap (λ (m : Node). m.exact) (sym (row_is w d old_n old_e old_r c count ns es rs z t r n i.0 read)) ∙ x in
          let a = row_alike w d old_n old_e old_r c count ns es rs z t r n i.0 read in
          let q : along_next (length d.edges) d.edges n.newest ≡ inbound d.edges r = ap (along_next (length d.edges) d.edges) a.newest ∙ next_walk d z.wired r i.0 in
          rw (e, ← q) (g.does d old_n old_e old_r c z t (omega (arith, a.newest, newest_in d r z.wired i.0), i.1));
    }
