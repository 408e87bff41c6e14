-- The walk along a row's inbound edges, each of which is copied to the merged row, turn by turn.
use mathlib.Core.Path.{◌≡◌, refl, sym, ap, subst, ◌∙◌}
use mathlib.Core.Bool.{Bool, true, false}
use mathlib.Core.List.Memᴰ
use mathlib.Core.List.{List, [], ◌∷◌}
use Prim.Native.Nat.{ℕ, suc, ◌+◌, ◌-◌, ◌*◌, ◌<◌, ◌≤◌}
use native.Mathlib.Omega.{arith}
use lib.Dec.{ltb}
use lib.ListN.{length, length-set, length-append, get_or-append}
use Rattle.diagram.specs.Node.{Node, Edge, no_edge, edge_at}
use Rattle.diagram.specs.Tables.{Diagram, inbound_below, inbound}
use Rattle.diagram.specs.Run.{Settings, Run, going, stopped, need}
use Rattle.diagram.specs.Rule4.{push_edge, add_edge}
use Rattle.diagram.specs.Rule6.{copy_edges}
use Rattle.layout.specs.Rows.{edge_words, node_words}
use Rattle.theorems.proofs.Links.{newest_below, newest_low, NewestIs, newest_found, none_inbound}
use Rattle.rows.specs.Access.{NodeRead, EdgeRead}
use Rattle.branch.specs.declared.Counts.{Counts}
use Rattle.branch.specs.declared.Rooms.{Rooms}
use Rattle.branch.specs.declared.Branch.{Branch}
use Rattle.branch.specs.State.{Said, Going, Stopped, counts_of, Stands, Held, Stepped, Appended}
use Rattle.squash.specs.Merging.{Mergeable, Merges, Sits, EdgesCopied}
use Rattle.squash.proofs.Tables.{edges_in, nodes_in}

-- ---- one copy

one_copied : (s : Settings) (m e : ℕ) (es : List ℕ) (d : Diagram) → ltb (length d.edges) s.edge_room ≡ true → copy_edges s m (e ∷ es) d ≡ copy_edges s m es (push_edge (edge_at d.edges e).from m (edge_at d.edges e).decision (edge_at d.edges e).cost d)
unfolding copy_edges add_edge need
one_copied s m e es d h = rw h

none_copied : (s : Settings) (m e : ℕ) (es : List ℕ) (d : Diagram) → ltb (length d.edges) s.edge_room ≡ false → copy_edges s m (e ∷ es) d ≡ stopped 12 d
unfolding copy_edges add_edge need
none_copied s m e es d h = rw h

added : (s : Settings) (p m decision cost : ℕ) (d : Diagram) → ltb (length d.edges) s.edge_room ≡ true → add_edge s p m decision cost d ≡ going (push_edge p m decision cost d)
unfolding add_edge need
added s p m decision cost d h = rw h

not_added : (s : Settings) (p m decision cost : ℕ) (d : Diagram) → ltb (length d.edges) s.edge_room ≡ false → add_edge s p m decision cost d ≡ stopped 12 d
unfolding add_edge need
not_added s p m decision cost d h = rw h

-- what one more edge leaves alone
record Pushed (d e : Diagram) : Type 0 where
  begins : e.start ≡ d.start
  long : length e.nodes ≡ length d.nodes
  more : length d.edges ≤ length e.edges
  edges_are : (x : ℕ) → x < length d.edges → edge_at e.edges x ≡ edge_at d.edges x

push_pushed : (p m decision cost : ℕ) (d : Diagram) → Pushed d (push_edge p m decision cost d)
unfolding push_edge
push_pushed p m decision cost d =
    record {
      begins = refl;
      long = length-set d.nodes m _;
      more = simp length-append (omega arith);
      edges_are = λ x h. get_or-append d.edges _ no_edge x h;
    }

-- ---- the loop

-- the tables after the turns so far, and the edges that are left: those of row r below some number
pub record Copying (s : Settings) (d : Diagram) (old_n old_e : List ℕ) (start : ℕ) (rooms : Rooms) (m r : ℕ) (k : Counts) (link : ℕ) (ns es : List ℕ) : Type 0 where
  pub now : Diagram
  pub stands : Stands s now old_n old_e start k rooms
  pub held : Held now old_n old_e ns es
  pub long : length now.nodes ≡ length d.nodes
  pub more : length d.edges ≤ length now.edges
  pub edges_are : (x : ℕ) → x < length d.edges → edge_at now.edges x ≡ edge_at d.edges x
  pub below : ℕ
  pub low : below ≤ length d.edges
  pub link_is : link ≡ newest_below below d.edges r
  pub left : copy_edges s m (inbound_below below d.edges r) now ≡ copy_edges s m (inbound d.edges r) d

pub record CopyTurn (start : ℕ) (k₀ : Counts) (rooms : Rooms) (m r : ℕ) (ns₀ es₀ : List ℕ) (k : Counts) (link : ℕ) (ns es : List ℕ) : Type 0 where
  pub so_far : (s : Settings) (d : Diagram) (old_n old_e : List ℕ) → Merges s d old_n old_e start k₀ rooms m (r ∷ []) ns₀ es₀ → Copying s d old_n old_e start rooms m r k link ns es

row_in : (m r : ℕ) (d : Diagram) → Mergeable m (r ∷ []) d → r < length d.nodes
row_in m r d g = (g.wired.rest_deps r (Memᴰ.head refl)).0

module _ (start : ℕ) (k₀ : Counts) (rooms : Rooms) (m r : ℕ) (ns₀ es₀ : List ℕ) where
  pub copy_reads_row : Sits start k₀ rooms m (r ∷ []) ns₀ es₀ → r * node_words + node_words ≤ length ns₀
  copy_reads_row sit =
      let g = sit.merges in
      omega (arith, row_in m r sit.diagram g.mergeable, nodes_in sit.diagram sit.old_n sit.old_e ns₀ es₀ g.held)

  pub copy_start : (n : Node) → NodeRead ns₀ r n → CopyTurn start k₀ rooms m r ns₀ es₀ k₀ n.newest ns₀ es₀
  unfolding inbound
  copy_start n read =
      record {
        so_far = λ s d old_n old_e g.
            let h = row_in m r d g.mergeable in
            record {
              now = d;
              stands = g.stands;
              held = g.held;
              long = refl;
              more = omega arith;
              edges_are = λ x l. refl;
              below = length d.edges;
              low = omega arith;
              link_is = ap (λ (x : Node). x.newest) (read.is_row d.nodes old_n g.held.nodes_are h) ∙ g.mergeable.wired.wired.first r h;
              left = refl;
            };
      }

  module _ (k : Counts) (link : ℕ) (ns es : List ℕ) (turn : CopyTurn start k₀ rooms m r ns₀ es₀ k link ns es) where
    -- the edge of this turn
    module _ (s : Settings) (d : Diagram) (old_n old_e : List ℕ) (g : Merges s d old_n old_e start k₀ rooms m (r ∷ []) ns₀ es₀) (edge : ℕ) (z : link ≡ edge + 1) where
      this : NewestIs (turn.so_far s d old_n old_e g).below d.edges r edge
      this =
          let c = turn.so_far s d old_n old_e g in
          let y : newest_below c.below d.edges r ≡ suc edge = omega (arith, c.link_is) in
          newest_found c.below d.edges r edge y

      this_in : edge < length d.edges
      this_in = let c = turn.so_far s d old_n old_e g in omega (arith, this.below, c.low)

      this_is : (x : Edge) → EdgeRead es edge x → (x ≡ edge_at (turn.so_far s d old_n old_e g).now.edges edge) × (x ≡ edge_at d.edges edge)
      this_is x read =
          let c = turn.so_far s d old_n old_e g in
          let e = read.is_row c.now.edges old_e c.held.edges_are (omega (arith, this_in, c.more)) in
          (e, e ∙ c.edges_are edge this_in)

      next_is : (x : Edge) → EdgeRead es edge x → x.next ≡ newest_below edge d.edges r
      next_is x read =
          ap (λ (y : Edge). y.next) (this_is x read).1 ∙ g.mergeable.wired.wired.link edge this_in ∙ ap (λ (y : ℕ). newest_below edge d.edges y) this.ends

      from_in : (x : Edge) → EdgeRead es edge x → x.from < start
      from_in x read = rw ((this_is x read).1, g.stands.first_is) (g.mergeable.wired.wired.arrows edge this_in).from_in

    pub copy_done : link ≡ 0 → EdgesCopied start k₀ rooms m r ns₀ es₀ (Going k) ns es
    unfolding copy_edges
    copy_done z =
        record {
          does = λ s d old_n old_e g.
              let c = turn.so_far s d old_n old_e g in
              let y : newest_below c.below d.edges r ≡ 0 = omega (arith, c.link_is) in
              let e : going c.now ≡ copy_edges s m (inbound d.edges r) d = ap (λ (l : List ℕ). copy_edges s m l c.now) (sym (none_inbound c.below d.edges r y)) ∙ c.left in
              subst (λ (run : Run). Stepped run old_n old_e (Going k) ns es) e (record { step_is = ap Going c.stands.counts_are; held = c.held });
        }

    module _ (sit : Sits start k₀ rooms m (r ∷ []) ns₀ es₀) (edge : ℕ) (z : link ≡ edge + 1) where
      pub copy_reads_edge : edge * edge_words + edge_words ≤ length es
      copy_reads_edge =
          let c = turn.so_far sit.settings sit.diagram sit.old_n sit.old_e sit.merges in
          omega (arith, this_in sit.settings sit.diagram sit.old_n sit.old_e sit.merges edge z, c.more, edges_in c.now sit.old_n sit.old_e ns es c.held)

      pub copy_appends : (x : Edge) → EdgeRead es edge x → (x.from < start) × (start + (m - start) < k.nodes)
      copy_appends x read =
          let g = sit.merges in
          let c = turn.so_far sit.settings sit.diagram sit.old_n sit.old_e g in
          let n : k.nodes ≡ length c.now.nodes = ap (λ (y : Counts). y.nodes) c.stands.counts_are in
          (from_in sit.settings sit.diagram sit.old_n sit.old_e g edge z x read, omega (arith, c.long, g.stands.first_is, g.mergeable.merged_above, g.mergeable.merged_in))

      pub copy_less : (x : Edge) → EdgeRead es edge x → x.next < link
      copy_less x read =
          omega (arith, next_is sit.settings sit.diagram sit.old_n sit.old_e sit.merges edge z x read, newest_low edge sit.diagram.edges r)

    module _ (edge : ℕ) (z : link ≡ edge + 1) (x : Edge) (read : EdgeRead es edge x) (b : Branch) (dq : b.decision ≡ x.decision) (cq : b.cost ≡ x.cost) (step : Said) (ns' es' : List ℕ) (did : Appended start k rooms x.from (m - start) b ns es step ns' es') where
      -- the copy of this turn, in the definition's words
      module _ (s : Settings) (d : Diagram) (old_n old_e : List ℕ) (g : Merges s d old_n old_e start k₀ rooms m (r ∷ []) ns₀ es₀) where
        stepped : Stepped (add_edge s (edge_at (turn.so_far s d old_n old_e g).now.edges edge).from m (edge_at (turn.so_far s d old_n old_e g).now.edges edge).decision (edge_at (turn.so_far s d old_n old_e g).now.edges edge).cost (turn.so_far s d old_n old_e g).now) old_n old_e step ns' es'
        stepped =
            let c = turn.so_far s d old_n old_e g in
            let y : start + (m - start) ≡ m = omega (arith, g.stands.first_is, g.mergeable.merged_above) in
            rw (y, dq, cq, (this_is s d old_n old_e g edge z x read).0) at (did.does s c.now old_n old_e c.stands c.held)

        copied_one : (k' : Counts) → step ≡ Going k' → (t : Bool) → ltb (length (turn.so_far s d old_n old_e g).now.edges) s.edge_room ≡ t → Copying s d old_n old_e start rooms m r k' x.next ns' es'
        copied_one k' q false h =
            let e = (subst (λ (run : Run). Stepped run old_n old_e step ns' es') (not_added s _ m _ _ (turn.so_far s d old_n old_e g).now h) stepped).step_is in
            let y : ◌≡◌ {A = ℕ} 0 1 = cc in
            absurd (omega arith)
        copied_one k' q true h =
            let c = turn.so_far s d old_n old_e g in
            let st = subst (λ (run : Run). Stepped run old_n old_e step ns' es') (added s _ m _ _ c.now h) stepped in
            let p = push_pushed (edge_at c.now.edges edge).from m (edge_at c.now.edges edge).decision (edge_at c.now.edges edge).cost c.now in
            let P = push_edge (edge_at c.now.edges edge).from m (edge_at c.now.edges edge).decision (edge_at c.now.edges edge).cost c.now in
            let e = st.step_is in
            let kq : k' ≡ counts_of P = cc in
            record {
              now = P;
              stands = record {
                first_is = c.stands.first_is ∙ sym p.begins;
                start_in = omega (arith, c.stands.start_in, p.begins, p.long);
                counts_are = kq;
                node_room = c.stands.node_room;
                edge_room = c.stands.edge_room;
                old_nodes = c.stands.old_nodes;
                old_edges = c.stands.old_edges;
              };
              held = st.held;
              long = p.long ∙ c.long;
              more = omega (arith, c.more, p.more);
              edges_are = λ y l. p.edges_are y (omega (arith, c.more)) ∙ c.edges_are y l;
              below = edge;
              low = omega (arith, this_in s d old_n old_e g edge z);
              link_is = next_is s d old_n old_e g edge z x read;
              left = sym (one_copied s m edge (inbound_below edge d.edges r) c.now h) ∙ ap (λ (l : List ℕ). copy_edges s m l c.now) (sym (this s d old_n old_e g edge z).splits) ∙ c.left;
            }

        stopped_here : (n : ℕ) (k' : Counts) → step ≡ Stopped n k' → (t : Bool) → ltb (length (turn.so_far s d old_n old_e g).now.edges) s.edge_room ≡ t → Stepped (copy_edges s m (inbound d.edges r) d) old_n old_e step ns' es'
        stopped_here n k' q true h =
            let e = (subst (λ (run : Run). Stepped run old_n old_e step ns' es') (added s _ m _ _ (turn.so_far s d old_n old_e g).now h) stepped).step_is in
            let y : ◌≡◌ {A = ℕ} 0 1 = cc in
            absurd (omega arith)
        stopped_here n k' q false h =
            let c = turn.so_far s d old_n old_e g in
            let e : stopped 12 c.now ≡ copy_edges s m (inbound d.edges r) d = sym (none_copied s m edge (inbound_below edge d.edges r) c.now h) ∙ ap (λ (l : List ℕ). copy_edges s m l c.now) (sym (this s d old_n old_e g edge z).splits) ∙ c.left in
            subst (λ (run : Run). Stepped run old_n old_e step ns' es') e (subst (λ (run : Run). Stepped run old_n old_e step ns' es') (not_added s _ m _ _ c.now h) stepped)

      pub copy_turn : (k' : Counts) → step ≡ Going k' → CopyTurn start k₀ rooms m r ns₀ es₀ k' x.next ns' es'
      copy_turn k' q = record { so_far = λ s d old_n old_e g. copied_one s d old_n old_e g k' q _ refl }

      pub copy_stop : (n : ℕ) (k' : Counts) → step ≡ Stopped n k' → EdgesCopied start k₀ rooms m r ns₀ es₀ step ns' es'
      copy_stop n k' q = record { does = λ s d old_n old_e g. stopped_here s d old_n old_e g n k' q _ refl }
