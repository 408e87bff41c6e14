-- A listed row handed on: records go by what is seen without cutset flags, and one row more adds its record behind the others.
use mathlib.Core.Path.{◌≡◌, refl, sym, ap, ◌∙◌}
use mathlib.Core.Bool.{true, false, cond}
use mathlib.Core.List.{List, [], ◌∷◌, ◌++◌, append-nil}
use Prim.Native.Nat.{ℕ, zero, suc, ◌+◌, ◌*◌, ◌<◌, ◌≤◌}
use native.Mathlib.Nat.{suc-mul}
use native.Mathlib.Omega.{arith}
use lib.ListN.{length, take, length-append, length-drop, length-map}
use lib.Seq.{take_all, take-append-le}
use Rattle.knapsack.proofs.Cases.{by_test}
use Rattle.diagram.specs.Record.{Record, path_room, padded}
use Rattle.diagram.specs.Node.{Node, Edge, node_at, edge_at}
use Rattle.diagram.specs.Tables.{Diagram, with_nodes}
use Rattle.diagram.specs.After3.{decisions_up, path_to}
use Rattle.diagram.specs.After4.{Cutset}
use Rattle.diagram.specs.After6.{drained_bound, drained_record, drain_rows}
use Rattle.layout.specs.Table.{over}
use Rattle.layout.specs.Rows.{node_words, edge_words, encode_node, encode_edge, node_table, edge_table}
use Rattle.layout.specs.Records.{record_words, record_table, Roomy}
use Rattle.layout.proofs.Records.{roomy_snoc}
use Rattle.layout.proofs.Table.{length_words}
use Rattle.rows.specs.Access.{NodeRead, RecordWritten}
use Rattle.layout.proofs.Rows.{node_width, edge_width}
use Rattle.branch.specs.State.{counts_of}
use Rattle.theorems.proofs.Links.{Wired, SameLinks, same_wired}
use Rattle.finish.specs.Sits.{Sits}
use Rattle.finish.specs.Paths.{PathFits, PathWritten}
use Rattle.finish.specs.declared.Path.{Path}
use Rattle.cutset.specs.declared.Wanted.{Wanted}
use Rattle.cutset.specs.Views.{with_cutset, uncut, uncuts}
use Rattle.cutset.specs.Trace.{record_path, drained_of, Settled, Handed, Trace, Tracing, Inside, HandedOn}
use Rattle.cutset.proofs.Commute.{view_at}

-- ---- rows that look alike without their cutset flags

pub record Alike (n m : Node) : Type 0 where
  pub capacity : n.capacity ≡ m.capacity
  pub depth : n.depth ≡ m.depth
  pub value : n.value ≡ m.value
  pub bottom : n.bottom ≡ m.bottom
  pub best : n.best ≡ m.best
  pub newest : n.newest ≡ m.newest
  pub fast : n.fast ≡ m.fast
  pub exact : n.exact ≡ m.exact
  pub marked : n.marked ≡ m.marked

alike : (n m : Node) → uncut n ≡ uncut m → Alike n m
unfolding with_cutset
alike n m e =
    record {
      capacity = ap (λ (x : Node). x.capacity) e;
      depth = ap (λ (x : Node). x.depth) e;
      value = ap (λ (x : Node). x.value) e;
      bottom = ap (λ (x : Node). x.bottom) e;
      best = ap (λ (x : Node). x.best) e;
      newest = ap (λ (x : Node). x.newest) e;
      fast = ap (λ (x : Node). x.fast) e;
      exact = ap (λ (x : Node). x.exact) e;
      marked = ap (λ (x : Node). x.marked) e;
    }

pub alike_at : (ns ms : List Node) (r : ℕ) → uncuts ns ≡ uncuts ms → Alike (node_at ns r) (node_at ms r)
alike_at ns ms r e = alike (node_at ns r) (node_at ms r) (view_at uncut ns ms r e)

pub same_length : (ns ms : List Node) → uncuts ns ≡ uncuts ms → length ns ≡ length ms
same_length ns ms e = sym (length-map ns uncut) ∙ ap (length {A = Node}) e ∙ length-map ms uncut

-- ---- paths and records go by that

up_same : (f : ℕ) (ns ms : List Node) (es : List Edge) (e : ℕ) → uncuts ns ≡ uncuts ms → decisions_up f ns es e ≡ decisions_up f ms es e
unfolding decisions_up
up_same zero ns ms es e s = refl
up_same (suc f) ns ms es zero s = refl
up_same (suc f) ns ms es (suc e) s =
    rw ((alike_at ns ms (edge_at es e).from s).best, up_same f ns ms es (node_at ms (edge_at es e).from).best s)

path_same : (pre : List ℕ) (d : Diagram) (ns : List Node) (r : ℕ) → uncuts ns ≡ uncuts d.nodes → path_to pre (with_nodes d ns) r ≡ path_to pre d r
unfolding path_to with_nodes
path_same pre d ns r s =
    rw ((alike_at ns d.nodes r s).best, same_length ns d.nodes s, up_same (length d.nodes) ns d.nodes d.edges (node_at d.nodes r).best s)

bound_same : (best : ℕ) (n m : Node) → Alike n m → drained_bound best n ≡ drained_bound best m
unfolding drained_bound
bound_same best n m a = rw (a.value, a.fast, a.bottom)

-- a node's record, with that path
abbrev record_from : ℕ → Node → List ℕ → Record
record_from best n path =
    record { capacity = n.capacity; value = n.value; bound = drained_bound best n; depth = n.depth; path = path }

from_same : (best : ℕ) (n m : Node) (p q : List ℕ) → Alike n m → p ≡ q → record_from best n p ≡ record_from best m q
from_same best n m p q a e = rw (bound_same best n m a, a.capacity, a.value, a.depth, e)

record_same : (pre : List ℕ) (d : Diagram) (best : ℕ) (ns : List Node) (r : ℕ) → uncuts ns ≡ uncuts d.nodes → drained_record pre (with_nodes d ns) best r ≡ drained_record pre d best r
unfolding drained_record with_nodes
record_same pre d best ns r s =
    from_same best (node_at ns r) (node_at d.nodes r) _ _ (alike_at ns d.nodes r s) (path_same pre d ns r s)

pub records_same : (pre : List ℕ) (d : Diagram) (best : ℕ) (ns : List Node) (rs : List ℕ) → uncuts ns ≡ uncuts d.nodes → drain_rows pre (with_nodes d ns) best rs ≡ drain_rows pre d best rs
unfolding drain_rows with_nodes
records_same pre d best ns [] s = refl
records_same pre d best ns (r ∷ rs) s =
    rw ((alike_at ns d.nodes r s).marked, record_same pre d best ns r s, records_same pre d best ns rs s)

-- ---- one row more

drain_append : (pre : List ℕ) (d : Diagram) (best : ℕ) (rs : List ℕ) (r : ℕ) → drain_rows pre d best (rs ++ (r ∷ [])) ≡ drain_rows pre d best rs ++ drain_rows pre d best (r ∷ [])
unfolding drain_rows
drain_append pre d best [] r = refl
drain_append pre d best (q ∷ rs) r =
    by_test (λ b. cond b (drained_record pre d best q ∷ drain_rows pre d best (rs ++ (r ∷ []))) (drain_rows pre d best (rs ++ (r ∷ []))) ≡ cond b (drained_record pre d best q ∷ drain_rows pre d best rs) (drain_rows pre d best rs) ++ drain_rows pre d best (r ∷ [])) (node_at d.nodes q).marked
    (λ _. ap (λ (l : List Record). drained_record pre d best q ∷ l) (drain_append pre d best rs r))
    (λ _. drain_append pre d best rs r)

drain_marked : (pre : List ℕ) (d : Diagram) (best : ℕ) (rs : List ℕ) (r : ℕ) → (node_at d.nodes r).marked ≡ true → drain_rows pre d best (rs ++ (r ∷ [])) ≡ drain_rows pre d best rs ++ (drained_record pre d best r ∷ [])
unfolding drain_rows
drain_marked pre d best rs r m = drain_append pre d best rs r ∙ rw m

drain_unmarked : (pre : List ℕ) (d : Diagram) (best : ℕ) (rs : List ℕ) (r : ℕ) → (node_at d.nodes r).marked ≡ false → drain_rows pre d best (rs ++ (r ∷ [])) ≡ drain_rows pre d best rs
unfolding drain_rows
drain_unmarked pre d best rs r m = drain_append pre d best rs r ∙ rw (m, append-nil)

-- ---- the tables of a traversal hold a diagram

over_long : (ws old : List ℕ) → (length ws ≤ length (over ws old)) × (length old ≤ length (over ws old))
unfolding over
over_long ws old = (simp (length-append, length-drop) (omega arith), simp (length-append, length-drop) (omega arith))

links_same : (n m : Node) → Alike n m → SameLinks m n
links_same n m a = record { depth_is = a.depth; newest_is = a.newest; best_is = a.best }

flags_wired : (d : Diagram) (ns : List Node) → d.start ≤ length d.nodes → uncuts ns ≡ uncuts d.nodes → Wired d → Wired (with_nodes d ns)
unfolding with_nodes
flags_wired d ns h s w =
    same_wired d (with_nodes d ns) h refl (omega arith) (same_length ns d.nodes s) (λ r _. links_same (node_at ns r) (node_at d.nodes r) (alike_at ns d.nodes r s)) w

module _ (w : Wanted) (d : Diagram) (old_n old_e old_r : List ℕ) (c : Cutset) (count : ℕ) (ns es rs : List ℕ) (z : Settled w d old_r) (t : Trace w d old_n old_e old_r c count ns es rs) where
  pub rows_are : length c.nodes ≡ length d.nodes
  rows_are = same_length c.nodes d.nodes t.same

  pub node_words_lem : length d.nodes * node_words ≤ length ns
  unfolding node_table
  node_words_lem = rw t.nodes_are (omega (arith, rows_are, length_words encode_node node_words node_width c.nodes, (over_long (node_table c.nodes) old_n).0))

  pub edge_words_lem : length d.edges * edge_words ≤ length es
  unfolding edge_table
  edge_words_lem = rw t.edges_are (omega (arith, length_words encode_edge edge_words edge_width d.edges, (over_long (edge_table d.edges) old_e).0))

  record_words_lem : w.room * record_words ≤ length rs
  record_words_lem = rw t.handed.records_are (omega (arith, z.record_room, (over_long (record_table (take w.room (drained_of w d c.listed))) old_r).1))

  sits : Sits (counts_of (with_nodes d c.nodes)) ns es
  unfolding with_nodes
  sits =
      record {
        diagram = with_nodes d c.nodes;
        old_n = old_n;
        old_e = old_e;
        held = record { nodes_are = t.nodes_are; edges_are = t.edges_are };
        counts = refl;
        wired = flags_wired d c.nodes z.start_in t.same z.wired;
        start_in = omega (arith, z.start_in, rows_are);
        nodes_in = omega (arith, rows_are, node_words_lem);
        edges_in = edge_words_lem;
        bytes = z.bytes;
      }

  -- what a path asks
  path_fits : (r : ℕ) → r < length d.nodes → PathFits ns es r (record_path w)
  unfolding sits with_nodes
  path_fits r h =
      record {
        row = record { counts = counts_of (with_nodes d c.nodes); sits = sits; inside = omega (arith, rows_are) };
        room = rw (path_same (record_path w) d c.nodes r t.same) (z.paths r h);
      }

  -- the path that was written
  path_is : (r : ℕ) (p : Path) → r < length d.nodes → PathWritten ns es r (record_path w) p → p.bytes ≡ padded (path_to (record_path w) d r)
  unfolding sits with_nodes
  path_is r p h g =
      (g.does _ sits (omega (arith, rows_are))).0 ∙ ap padded (path_same (record_path w) d c.nodes r t.same)

  -- the row that was read
  pub row_is : (r : ℕ) (n : Node) → r < length d.nodes → NodeRead ns r n → n ≡ node_at c.nodes r
  row_is r n h read = read.is_row c.nodes old_n t.nodes_are (omega (arith, rows_are))

  pub row_alike : (r : ℕ) (n : Node) → r < length d.nodes → NodeRead ns r n → Alike n (node_at d.nodes r)
  row_alike r n h read = rw (row_is r n h read) (alike_at c.nodes d.nodes r t.same)

-- ---- the ways of handing a row on

handed_at : (w : Wanted) (d : Diagram) (old_r listed : List ℕ) (xs : List Record) (count : ℕ) (rs : List ℕ) → drained_of w d listed ≡ xs → count ≡ length xs → rs ≡ over (record_table (take w.room xs)) old_r → Roomy xs → Handed w d old_r listed count rs
handed_at w d old_r listed xs count rs e k r y = record { count_is = rw e k; records_are = rw e r; roomy = rw e y }

record_fits : (w : Wanted) (d : Diagram) (old_r : List ℕ) (r : ℕ) → Settled w d old_r → r < length d.nodes → length (drained_record (record_path w) d w.best r).path ≤ path_room
unfolding drained_record
record_fits w d old_r r z h = z.paths r h

pub unmarked_on : (w : Wanted) (r count : ℕ) (ns es rs : List ℕ) (n : Node) → NodeRead ns r n → n.marked ≡ false → HandedOn w r count ns es rs count rs
unmarked_on w r count ns es rs n read m =
    record {
      does = λ d old_n old_e old_r c z t h.
          let a = row_alike w d old_n old_e old_r c count ns es rs z t r n h read in
          let e = drain_unmarked (record_path w) d w.best c.listed r (sym a.marked ∙ m) in
          handed_at w d old_r (c.listed ++ (r ∷ [])) (drained_of w d c.listed) count rs e t.handed.count_is t.handed.records_are t.handed.roomy;
      grows = omega arith;
    }

-- the list has no room for its record
pub behind_on : (w : Wanted) (r count : ℕ) (ns es rs : List ℕ) (n : Node) → NodeRead ns r n → n.marked ≡ true → w.room ≤ count → HandedOn w r count ns es rs (count + 1) rs
behind_on w r count ns es rs n read m full =
    record {
      does = λ d old_n old_e old_r c z t h.
          let a = row_alike w d old_n old_e old_r c count ns es rs z t r n h read in
          let x = drained_record (record_path w) d w.best r in
          let xs = drained_of w d c.listed in
          let e = drain_marked (record_path w) d w.best c.listed r (sym a.marked ∙ m) in
          let k = t.handed.count_is in
          let l : length (xs ++ (x ∷ [])) ≡ suc (length xs) = simp length-append (omega arith) in
          handed_at w d old_r (c.listed ++ (r ∷ [])) (xs ++ (x ∷ [])) (count + 1) rs e (omega arith)
          (t.handed.records_are ∙ ap (λ (y : List Record). over (record_table y) old_r) (sym (take-append-le w.room xs (x ∷ []) (omega arith))))
          (roomy_snoc xs x t.handed.roomy (record_fits w d old_r r z h));
      grows = omega arith;
    }

pub written_on : (w : Wanted) (r count : ℕ) (ns es rs : List ℕ) (n : Node) (p : Path) (bound : ℕ) (rs' : List ℕ) → NodeRead ns r n → n.marked ≡ true → count < w.room → PathWritten ns es r (record_path w) p → bound ≡ drained_bound w.best n → RecordWritten rs count n.capacity n.value bound n.depth p.bytes rs' → HandedOn w r count ns es rs (count + 1) rs'
unfolding drained_record
written_on w r count ns es rs n p bound rs' read m free path b g =
    record {
      does = λ d old_n old_e old_r c z t h.
          let a = row_alike w d old_n old_e old_r c count ns es rs z t r n h read in
          let pre = record_path w in
          let x = drained_record pre d w.best r in
          let xs = drained_of w d c.listed in
          let e = drain_marked pre d w.best c.listed r (sym a.marked ∙ m) in
          let k = t.handed.count_is in
          let l : length (xs ++ (x ∷ [])) ≡ suc (length xs) = simp length-append (omega arith) in
          let q : rs' ≡ over (record_table (xs ++ (record_from w.best n (path_to pre d r) ∷ []))) old_r =
          (rw b at g).appended xs old_r (path_to pre d r) (t.handed.records_are ∙ ap (λ (y : List Record). over (record_table y) old_r) (take_all w.room xs (omega arith))) t.handed.roomy k (omega (arith, z.record_room, suc-mul count record_words)) (z.paths r h) (path_is w d old_n old_e old_r c count ns es rs z t r p h path) in
          let same : record_from w.best n (path_to pre d r) ≡ x = from_same w.best n (node_at d.nodes r) _ _ a refl in
          handed_at w d old_r (c.listed ++ (r ∷ [])) (xs ++ (x ∷ [])) (count + 1) rs' e (omega arith)
          (q ∙ rw (same, take_all w.room (xs ++ (x ∷ [])) (omega arith)))
          (roomy_snoc xs x t.handed.roomy (record_fits w d old_r r z h));
      grows = omega arith;
    }

-- ---- what the code asks on the way

pub path_asked : (w : Wanted) (r count : ℕ) (ns es rs : List ℕ) → Tracing (Inside r) w count ns es rs → PathFits ns es r (record_path w) × (w.depth ≤ 64)
path_asked w r count ns es rs g =
    (path_fits w g.diagram g.old_n g.old_e g.old_r g.cut count ns es rs g.settled g.trace r g.asked, g.settled.depth_in)

pub place_asked : (P : Diagram → Cutset → Type 0) (w : Wanted) (count : ℕ) (ns es rs : List ℕ) → Tracing P w count ns es rs → count < w.room → count * record_words + record_words ≤ length rs
place_asked P w count ns es rs g h =
    let n = record_words_lem w g.diagram g.old_n g.old_e g.old_r g.cut count ns es rs g.settled g.trace in
    omega arith
