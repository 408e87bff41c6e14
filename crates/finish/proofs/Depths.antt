-- A best path has room: each row of a run lies between the record's depth and the number of items, and each best edge goes one deeper.
use mathlib.Core.Path.{◌≡◌, refl, sym, ap, ◌∙◌}
use mathlib.Core.Bool.{Bool, true, false}
use mathlib.Core.List.{List, [], ◌∷◌, ◌++◌}
use Prim.Native.Nat.{ℕ, zero, suc, ◌+◌, ◌≤◌, ◌<◌}
use native.Mathlib.Omega.{arith}
use lib.ListN.{length, length-set, length-append}
use Rattle.knapsack.specs.Items.{Item}
use Rattle.diagram.specs.After3.{decisions_up, path_to}
use Rattle.diagram.specs.Node.{Node, Edge, node_at, edge_at, update, fresh, entered, with_fast, with_deleted, as_relaxed}
use Rattle.diagram.specs.Record.{Record}
use Rattle.diagram.specs.Rule1.{root_only}
use Rattle.diagram.specs.Rule2.{store, store_empty, store_last, has_rows, grown}
use Rattle.diagram.specs.Rule3.{note_fast}
use Rattle.diagram.specs.Rule4.{receive, landed, push_edge, push_node, child_of}
use Rattle.diagram.specs.Rule5.{with_last}
use Rattle.diagram.specs.Rule6.{merged_row}
use Rattle.diagram.specs.Run.{Mode, Settings}
use Rattle.diagram.specs.Tables.{Diagram, with_nodes}
use Rattle.theorems.proofs.Holds.{Holds, holds_map}
use Rattle.theorems.proofs.Rows.{update_at, snoc_at}
use Rattle.theorems.proofs.Move.{Move, note, edge, child}
use Rattle.theorems.proofs.Merge.{MergeMove, flag, copy, merging_keeps}
use Rattle.theorems.proofs.Squash.{Way}
use Rattle.theorems.proofs.Growth.{Ready, Step, step_keeps, squash_keeps, Ended, through, died, grown_keeps}
use Rattle.theorems.proofs.Links.{Wired, BestEdge, unset, is_edge}
use Rattle.theorems.proofs.Local.{plain, Dressed}
use Rattle.theorems.proofs.Path.{up_from, path_root, path_via}

-- each row's depth is from lo to hi
pub record Deep (lo hi : ℕ) (ns : List Node) : Type 0 where
  pub low : (y : ℕ) → y < length ns → lo ≤ (node_at ns y).depth
  pub high : (y : ℕ) → y < length ns → (node_at ns y).depth ≤ hi

deeper : (lo hi hi₁ : ℕ) (ns : List Node) → hi ≤ hi₁ → Deep lo hi ns → Deep lo hi₁ ns
deeper lo hi hi₁ ns h d = record { low = d.low; high = λ y l. omega (arith, d.high y l) }

-- ---- kept by every step of the growth

update_deep : (lo hi : ℕ) (f : Node → Node) (ns : List Node) (s : ℕ) → ((n : Node) → (f n).depth ≡ n.depth) → s < length ns → Deep lo hi ns → Deep lo hi (update f ns s)
update_deep lo hi f ns s k h d =
    let z : length (update f ns s) ≡ length ns = length-set ns s (f (node_at ns s)) in
    record {
      low = λ y l. update_at (λ n. lo ≤ n.depth) f ns s y h (λ e. omega (arith, k (node_at ns s), d.low s h)) (λ e. d.low y (omega arith));
      high = λ y l. update_at (λ n. n.depth ≤ hi) f ns s y h (λ e. omega (arith, k (node_at ns s), d.high s h)) (λ e. d.high y (omega arith));
    }

snoc_deep : (lo hi : ℕ) (ns : List Node) (n : Node) → lo ≤ n.depth → n.depth ≤ hi → Deep lo hi ns → Deep lo hi (ns ++ (n ∷ []))
snoc_deep lo hi ns n a b d =
    record {
      low = λ y l. snoc_at (λ m. lo ≤ m.depth) ns n y l (λ e. a) (λ k. d.low y k);
      high = λ y l. snoc_at (λ m. m.depth ≤ hi) ns n y l (λ e. b) (λ k. d.high y k);
    }

landed_depth : (ns : List Node) (es : List Edge) (p cost : ℕ) (n : Node) → (landed ns es p cost n).depth ≡ n.depth
unfolding landed receive entered
landed_depth ns es p cost n = refl

fast_depth : (b : ℕ) (n : Node) → (with_fast b n).depth ≡ n.depth
unfolding with_fast
fast_depth b n = refl

deleted_depth : (b : Bool) (n : Node) → (with_deleted b n).depth ≡ n.depth
unfolding with_deleted
deleted_depth b n = refl

child_depth : (p cost capacity : ℕ) (ns : List Node) → (child_of p cost capacity ns).depth ≡ suc (node_at ns p).depth
unfolding child_of fresh
child_depth p cost capacity ns = refl

merged_depth : (c dp : ℕ) → (merged_row c dp).depth ≡ dp
unfolding merged_row as_relaxed fresh
merged_depth c dp = refl

push_deep : (lo hi s t decision c : ℕ) (d : Diagram) → t < length d.nodes → Deep lo hi d.nodes → Deep lo hi (push_edge s t decision c d).nodes
unfolding push_edge
push_deep lo hi s t decision c d h q = update_deep lo hi (landed d.nodes d.edges s c) d.nodes t (landed_depth d.nodes d.edges s c) h q

node_deep : (lo hi : ℕ) (n : Node) (d : Diagram) → lo ≤ n.depth → n.depth ≤ hi → Deep lo hi d.nodes → Deep lo hi (push_node n d).nodes
unfolding push_node with_nodes
node_deep lo hi n d a b q = snoc_deep lo hi d.nodes n a b q

node_long : (n : Node) (d : Diagram) → length (push_node n d).nodes ≡ suc (length d.nodes)
unfolding push_node with_nodes
node_long n d = simp length-append (omega arith)

move_deep : (items : List Item) (lo k : ℕ) (d e : Diagram) → lo ≤ k → Move items k d e → Deep lo (suc k) d.nodes → Deep lo (suc k) e.nodes
unfolding note_fast with_nodes
move_deep items lo k d e h (note s l g) q = update_deep lo (suc k) (with_fast _) d.nodes s (fast_depth _) (omega arith) q
move_deep items lo k d e h (edge s t decision c l z g b ch) q = push_deep lo (suc k) s t decision c d b q
move_deep items lo k d e h (child s decision c capacity l z g ch n) q =
    let x = child_of s c capacity d.nodes in
    let w = child_depth s c capacity d.nodes in
    push_deep lo (suc k) s (length d.nodes) decision c (push_node x d) (omega (arith, node_long x d)) (node_deep lo (suc k) x d (omega arith) (omega arith) q)

merge_deep : (lo hi m : ℕ) (rest : List ℕ) (d e : Diagram) → MergeMove m rest d e → Deep lo hi d.nodes → Deep lo hi e.nodes
unfolding with_nodes
merge_deep lo hi m rest d e (flag r i l h o) q = update_deep lo hi (with_deleted true) d.nodes r (deleted_depth true) h q
merge_deep lo hi m rest d e (copy s decision c x b z i l h) q = push_deep lo hi s m decision c d h q

squash_deep : (lo hi : ℕ) (md : Mode) (k : ℕ) (d e : Diagram) → lo ≤ k → k ≤ hi → Way md k d e → Deep lo hi d.nodes → Deep lo hi e.nodes
unfolding with_last with_nodes
squash_deep lo hi md k d e a b y q =
    squash_keeps md k d e (λ x. Deep lo hi x.nodes) (λ p. p)
    (λ x r l h p. update_deep lo hi (with_deleted true) x.nodes r (deleted_depth true) h p)
    (λ _ v p. merging_keeps (λ x. Deep lo hi x.nodes) (merge_deep lo hi _ v.rest) v.trail (node_deep lo hi (merged_row v.c v.dp) (with_last d) (omega (arith, merged_depth v.c v.dp, v.dp_is)) (omega (arith, merged_depth v.c v.dp, v.dp_is)) p))
    y q

store_deep : (lo hi : ℕ) (d : Diagram) → Deep lo hi d.nodes → Deep lo hi (store d).nodes
unfolding store
store_deep lo hi d q = q

-- when the layer of depth k comes
pub record Reached (lo hi k : ℕ) (d : Diagram) : Type 0 where
  pub after : lo ≤ k
  pub before : k ≤ hi
  pub deep : Deep lo k d.nodes

step_deep : (items : List Item) (opts : Settings) (lo k : ℕ) (d f : Diagram) → Ready k d → Step items opts.lower opts.mode k d f → Reached lo (length items) k d → Reached lo (length items) (suc k) f
step_deep items opts lo k d f g t r =
    record {
      after = omega (arith, r.after);
      before = omega (arith, t.deep);
      deep = step_keeps items opts.lower opts.mode k d f (λ x. Deep lo (suc k) x.nodes) (λ e y p. squash_deep lo (suc k) opts.mode k d e r.after (omega arith) y p)
          (λ e l p. store_deep lo (suc k) e p) (λ x y m c p. move_deep items lo k x y r.after m p) g t (deeper lo k (suc k) d.nodes (omega arith) r.deep);
    }

root_deep : (r : Record) → Deep r.depth r.depth (root_only r).nodes
unfolding root_only fresh
root_deep r = record { low = λ y l. let z : y ≡ 0 = omega arith in rw z (omega arith); high = λ y l. let z : y ≡ 0 = omega arith in rw z (omega arith) }

end_deep : (b : Bool) (lo hi : ℕ) (d : Diagram) → Deep lo hi d.nodes → Deep lo hi (store_last b d).nodes
unfolding store_last
end_deep true lo hi d q = q
end_deep false lo hi d q = q

empty_deep : (lo hi : ℕ) (d : Diagram) → Deep lo hi d.nodes → Deep lo hi (store_empty d).nodes
unfolding store_empty
empty_deep lo hi d q = q

ended_deep : (items : List Item) (lo : ℕ) (e : Diagram) → Ended items (Reached lo (length items)) e → Deep lo (length items) e.nodes
ended_deep items lo e (through k d z g p) = end_deep (has_rows d) lo (length items) d (deeper lo k (length items) d.nodes p.before p.deep)
ended_deep items lo e (died k d z g p) = empty_deep lo (length items) d (deeper lo k (length items) d.nodes p.before p.deep)

-- Every run that is not refused.
pub grown_deep : (items : List Item) (opts : Settings) (r : Record) → r.depth ≤ length items → Holds (λ d. Deep r.depth (length items) d.nodes) (grown opts items r)
grown_deep items opts r h =
    holds_map (ended_deep items r.depth)
    (grown_keeps items opts (Reached r.depth (length items)) (λ k d f g t p. step_deep items opts r.depth k d f g t p) r (record { after = omega arith; before = h; deep = root_deep r }))

-- what the cutset and the local bounds write is no depth
pub deep_dressed : (lo hi : ℕ) (ns ms : List Node) → Dressed ns ms → Deep lo hi ns → Deep lo hi ms
unfolding plain
deep_dressed lo hi ns ms c d =
    let z : (y : ℕ) → (node_at ms y).depth ≡ (node_at ns y).depth = λ y. ap (λ (n : Node). n.depth) (c.plain_is y) in
    record { low = λ y l. omega (arith, z y, d.low y (omega (arith, c.long))); high = λ y l. omega (arith, z y, d.high y (omega (arith, c.long))) }

-- ---- a best edge goes one deeper, so a path is as long as the depths allow

module _ (lo hi : ℕ) (d : Diagram) (w : Wired d) (p : Deep lo hi d.nodes) (sl : d.start ≤ length d.nodes) where
  up_short : (f y : ℕ) → y < length d.nodes → length (up_from f d y) + lo ≤ (node_at d.nodes y).depth
  unfolding decisions_up
  up_short zero y l = omega (arith, p.low y l)
  up_short (suc f) y l = go (node_at d.nodes y).best (w.bests y l) refl (λ s k. up_short f s k)
    where
      go : (b : ℕ) → BestEdge d.edges y b → (node_at d.nodes y).best ≡ b → ((s : ℕ) → s < length d.nodes → length (up_from f d s) + lo ≤ (node_at d.nodes s).depth) → length (up_from (suc f) d y) + lo ≤ (node_at d.nodes y).depth
      go b unset q ih = rw (path_root (suc f) d y q) (omega (arith, p.low y l))
      go b (is_edge e h z) q ih =
          let a = w.arrows e h in
          let s = (edge_at d.edges e).from in
          let dq : (node_at d.nodes y).depth ≡ suc (node_at d.nodes s).depth = ap (λ (v : ℕ). (node_at d.nodes v).depth) (sym z) ∙ a.deeper in
          rw (path_via f d y e q) (omega (arith, ih s (omega (arith, a.from_in))))

  -- The best path to a row, behind a record's path of lo bytes.
  pub path_room : (record_path : List ℕ) (y : ℕ) → length record_path ≡ lo → y < length d.nodes → length (path_to record_path d y) ≤ hi
  unfolding path_to
  path_room record_path y q l = simp length-append (omega (arith, up_short (length d.nodes) y l, p.high y l))
