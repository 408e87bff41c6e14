-- Bottom values go up from one row: its parents, over its inbound edges by their next numbers.
use mathlib.Core.Path.{◌≡◌, refl, sym, ap, subst, ◌∙◌}
use mathlib.Core.Bool.{Bool, true, false, cond}
use mathlib.Core.List.{List, []}
use Prim.Native.Nat.{ℕ, suc, ◌+◌, ◌*◌, ◌<◌, ◌≤◌}
use native.Mathlib.Omega.{arith}
use lib.ListN.{length}
use Rattle.words.specs.I64.{mid, sat_add}
use Rattle.diagram.specs.Node.{Node, Edge, node_at, edge_at, update}
use Rattle.diagram.specs.Tables.{inbound_below, inbound}
use Rattle.diagram.specs.After5.{raise, raise_parents}
use Rattle.layout.specs.Rows.{edge_words, node_words}
use Rattle.rows.specs.Access.{NodeRead, EdgeRead}
use Rattle.branch.specs.declared.Counts.{Counts}
use Rattle.theorems.proofs.Links.{newest_below, newest_low, NewestIs, newest_found, none_inbound}
use Rattle.finish.specs.Sits.{Sits, Row}
use Rattle.finish.specs.Bounds.{RowChanged, Rewritten, Newest, ParentsRaised, RowRaised}
use Rattle.finish.proofs.Walks.{node_is, edge_is, edge_words_lem}
use Rattle.finish.proofs.Rewriting.{nodes_within, unwritten, raise_links, row_written}

-- ---- the parents of a row

-- the parents over the edges that were walked are raised: those over the first `edges` edges are left
pub record Left {k : Counts} {ns es : List ℕ} (h : Sits k ns es) (own r link : ℕ) (us : List ℕ) : Type 0 where
  pub rows : List Node
  pub edges : ℕ
  pub within : edges ≤ length h.diagram.edges
  pub link_is : link ≡ newest_below edges h.diagram.edges r
  pub written : Rewritten h rows us
  pub rest : raise_parents h.diagram.edges own (inbound_below edges h.diagram.edges r) rows ≡ raise_parents h.diagram.edges own (inbound h.diagram.edges r) h.diagram.nodes

pub record Raising (own first : ℕ) (ns es : List ℕ) (link : ℕ) (us : List ℕ) : Type 0 where
  pub does : (k : Counts) (h : Sits k ns es) (r : ℕ) → r < length h.diagram.nodes → first ≡ (node_at h.diagram.nodes r).newest → Left h own r link us

pub raise_none : (own first : ℕ) (ns es : List ℕ) → Raising own first ns es first ns
unfolding inbound
raise_none own first ns es =
    record {
      does = λ k h r l q.
          record { rows = h.diagram.nodes; edges = length h.diagram.edges; within = omega arith; link_is = q ∙ h.wired.first r l; written = unwritten h; rest = refl };
    }

-- the edge at a link
pub record AtLink {k : Counts} {ns es : List ℕ} (h : Sits k ns es) (own r link i : ℕ) (us : List ℕ) (e : Edge) (left : Left h own r link us) : Type 0 where
  pub newest : NewestIs left.edges h.diagram.edges r i
  pub edge_in : i < length h.diagram.edges
  pub edge_is : e ≡ edge_at h.diagram.edges i
  pub from_in : e.from < length left.rows
  pub next_is : e.next ≡ newest_below i h.diagram.edges r

link_edge : {k : Counts} {ns es : List ℕ} (h : Sits k ns es) (own r link i : ℕ) (us : List ℕ) (left : Left h own r link us) → link ≡ i + 1 → NewestIs left.edges h.diagram.edges r i
link_edge h own r link i us left z =
    let q : newest_below left.edges h.diagram.edges r ≡ suc i = omega (arith, left.link_is) in
    newest_found left.edges h.diagram.edges r i q

at_link : {k : Counts} {ns es : List ℕ} (h : Sits k ns es) (own r link i : ℕ) (us : List ℕ) (e : Edge) (left : Left h own r link us) → link ≡ i + 1 → EdgeRead es i e → AtLink h own r link i us e left
at_link h own r link i us e left z read =
    let n = link_edge h own r link i us left z in
    let l : i < length h.diagram.edges = omega (arith, n.below, left.within) in
    let x = edge_is h i e read l in
    let a = h.wired.arrows i l in
    let f : e.from ≡ (edge_at h.diagram.edges i).from = ap (λ (y : Edge). y.from) x in
    record {
      newest = n;
      edge_in = l;
      edge_is = x;
      from_in = omega (arith, a.from_in, h.start_in, left.written.long);
      next_is = ap (λ (y : Edge). y.next) x ∙ h.wired.link i l ∙ ap (newest_below i h.diagram.edges) n.ends;
    }

-- one parent more
pub raise_one : (own first : ℕ) (ns es : List ℕ) (link i : ℕ) (us vs : List ℕ) (e : Edge) (b : ℕ) → link ≡ i + 1 → EdgeRead es i e → b ≡ sat_add own (mid + e.cost) → RowChanged (raise b) e.from us vs → Raising own first ns es link us → Raising own first ns es e.next vs
unfolding raise_parents
raise_one own first ns es link i us vs e b z read q c g =
    record {
      does = λ k h r l f.
          let left = g.does k h r l f in
          let a = at_link h own r link i us e left z read in
          let E = h.diagram.edges in
          let w : Rewritten h (update (raise b) left.rows e.from) vs = row_written h left.rows us vs (raise b) e.from (raise_links b) a.from_in left.written c in
          record {
            rows = update (raise b) left.rows e.from;
            edges = i;
            within = omega (arith, a.edge_in);
            link_is = a.next_is;
            written = w;
            rest =
                ap (λ (v : ℕ). raise_parents E own (inbound_below i E r) (update (raise v) left.rows e.from)) q
                ∙ ap (λ (y : Edge). raise_parents E own (inbound_below i E r) (update (raise (sat_add own (mid + y.cost))) left.rows y.from)) a.edge_is
                ∙ ap (λ (l : List ℕ). raise_parents E own l left.rows) (sym a.newest.splits)
                ∙ left.rest;
          };
    }

pub raise_all : (own first : ℕ) (ns es : List ℕ) (link : ℕ) (us : List ℕ) → link ≡ 0 → Raising own first ns es link us → ParentsRaised own first ns es us
unfolding raise_parents
raise_all own first ns es link us z g =
    record {
      does = λ k h r l f.
          let left = g.does k h r l f in
          let E = h.diagram.edges in
          let n : inbound_below left.edges E r ≡ [] = none_inbound left.edges E r (sym left.link_is ∙ z) in
          let q : left.rows ≡ raise_parents E own (inbound E r) h.diagram.nodes = ap (λ (l : List ℕ). raise_parents E own l left.rows) (sym n) ∙ left.rest in
          subst (λ (rows : List Node). Rewritten h rows us) q left.written;
    }

-- what a turn asks: the edge's words, its parent's words, and that its next number is the smaller one
pub link_readable : (own link₀ : ℕ) (ns es : List ℕ) (link i : ℕ) (us : List ℕ) → Newest ns es link₀ → Raising own link₀ ns es link us → link ≡ i + 1 → i * edge_words + edge_words ≤ length es
link_readable own link₀ ns es link i us p g z =
    let h = p.sits in
    let left = g.does p.counts h p.row p.inside p.newest_is in
    let n = link_edge h own p.row link i us left z in
    edge_words_lem h i (omega (arith, n.below, left.within))

pub record Turn (us : List ℕ) (link from next : ℕ) : Type 0 where
  pub parent_in : from * node_words + node_words ≤ length us
  pub falls : next < link

pub turn_at : (own link₀ : ℕ) (ns es : List ℕ) (link i : ℕ) (us : List ℕ) (e : Edge) → Newest ns es link₀ → Raising own link₀ ns es link us → link ≡ i + 1 → EdgeRead es i e → Turn us link e.from e.next
turn_at own link₀ ns es link i us e p g z read =
    let h = p.sits in
    let left = g.does p.counts h p.row p.inside p.newest_is in
    let a = at_link h own p.row link i us e left z read in
    record {
      parent_in = omega (arith, a.from_in, nodes_within left.rows h.old_n us left.written.nodes_are);
      falls = omega (arith, a.next_is, newest_low i h.diagram.edges p.row);
    }

-- ---- a row

pub row_unmarked : (r : ℕ) (ns es : List ℕ) (n : Node) → NodeRead ns r n → n.marked ≡ false → RowRaised r ns es ns
row_unmarked r ns es n read z =
    record {
      does = λ k h l.
          let x = node_is h r n read l in
          let m : (node_at h.diagram.nodes r).marked ≡ false = ap (λ (y : Node). y.marked) (sym x) ∙ z in
          subst (λ (b : Bool). Rewritten h (cond b (raise_parents h.diagram.edges (node_at h.diagram.nodes r).bottom (inbound h.diagram.edges r) h.diagram.nodes) h.diagram.nodes) ns) (sym m) (unwritten h);
    }

pub row_marked : (r : ℕ) (ns es us : List ℕ) (n : Node) → NodeRead ns r n → n.marked ≡ true → ParentsRaised n.bottom n.newest ns es us → RowRaised r ns es us
row_marked r ns es us n read z p =
    record {
      does = λ k h l.
          let x = node_is h r n read l in
          let m : (node_at h.diagram.nodes r).marked ≡ true = ap (λ (y : Node). y.marked) (sym x) ∙ z in
          let w = p.does k h r l (ap (λ (y : Node). y.newest) x) in
          subst (λ (b : Bool). Rewritten h (cond b (raise_parents h.diagram.edges (node_at h.diagram.nodes r).bottom (inbound h.diagram.edges r) h.diagram.nodes) h.diagram.nodes) us) (sym m)
          (subst (λ (y : Node). Rewritten h (raise_parents h.diagram.edges y.bottom (inbound h.diagram.edges r) h.diagram.nodes) us) x w);
    }

pub newest_of : (r : ℕ) (ns es : List ℕ) (n : Node) → Row ns es r → NodeRead ns r n → Newest ns es n.newest
newest_of r ns es n p read =
    record { counts = p.counts; sits = p.sits; row = r; inside = p.inside; newest_is = ap (λ (y : Node). y.newest) (node_is p.sits r n read p.inside) }

-- what raising a row's parents needs
pub ruleset parents = (raise_none, raise_all)

-- what a row's turn needs
pub ruleset turn = (row_unmarked, row_marked)
