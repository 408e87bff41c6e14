-- The layer that a squash leaves: the rows in the list's first places, how many rows a merge keeps, and the refusals.
use mathlib.Core.Path.{◌≡◌, refl, sym, ap, ◌∙◌}
use mathlib.Core.Bool.{true}
use mathlib.Core.List.Memᴰ
use mathlib.Core.List.{List, [], ◌∷◌, ◌++◌, Memᴰ}
use Prim.Native.Nat.{ℕ, zero, suc, ◌<◌}
use native.Mathlib.Omega.{arith}
use lib.Dec.{ltb}
use lib.ListN.{length, get_or, set, take, drop, length-set}
use lib.Seq.{drop-cons, take-suc, take-suc-set, drop-set-lt}
use Rattle.knapsack.proofs.Cases.{by_test}
use Rattle.diagram.specs.Node.{edge_at, update, with_deleted}
use Rattle.diagram.specs.Tables.{Diagram, with_nodes, inbound}
use Rattle.diagram.specs.Run.{Settings, Run, going, stopped, and_then, need}
use Rattle.diagram.specs.Rule4.{push_edge, add_edge}
use Rattle.diagram.specs.Rule6.{squashed, copy_edges, merge_all}
use Rattle.branch.specs.declared.Counts.{Counts}
use Rattle.branch.specs.declared.Rooms.{Rooms}
use Rattle.branch.specs.State as State
use Rattle.branch.specs.State.{Said, Stopped, Stepped}
use Rattle.squash.specs.Places.{Placed}
use Rattle.squash.specs.Squashing.{Done, Squashable}
use Rattle.squash.proofs.Tables.{nodes_in}

-- ---- the list

pub front_mem : (a : ℕ) (l : List ℕ) (r : ℕ) → Memᴰ r (take a l) → Memᴰ r l
front_mem zero l r i = absurd (Memᴰ.not-nil i)
front_mem (suc a) [] r i = i
front_mem (suc a) (x ∷ l) r (Memᴰ.head e) = Memᴰ.head e
front_mem (suc a) (x ∷ l) r (Memᴰ.tail i) = Memᴰ.tail (front_mem a l r i)

pub drop_mem : (a : ℕ) (l : List ℕ) (r : ℕ) → Memᴰ r (drop a l) → Memᴰ r l
drop_mem zero l r i = i
drop_mem (suc a) [] r i = i
drop_mem (suc a) (x ∷ l) r i = Memᴰ.tail (drop_mem a l r i)

module _ (rows : List ℕ) (keep : ℕ) (h : keep < length rows) where
  pub first_rest : get_or (drop keep rows) 0 0 ≡ get_or rows keep 0
  first_rest = ap (λ (rs : List ℕ). get_or rs 0 0) (drop-cons rows keep 0 h)

  -- the list as it stands keeps the first row behind the kept ones
  pub rows_stay : take keep rows ++ (get_or (drop keep rows) 0 0 ∷ []) ≡ take (suc keep) rows
  rows_stay = rw first_rest (sym (take-suc rows keep 0 h))

  -- and a row number written there takes its place
  pub rows_set : (n : ℕ) → take keep rows ++ (n ∷ []) ≡ take (suc keep) (set rows keep n)
  rows_set n = sym (take-suc-set rows keep n h)

  pub beyond_set : (n : ℕ) → drop (suc keep) (set rows keep n) ≡ drop (suc keep) rows
  beyond_set n = let b : keep < suc keep = omega arith in drop-set-lt (suc keep) rows keep n b

-- ---- the rows that a merge leaves are as many as it found

add_long : (s : Settings) (p m decision cost : ℕ) (d : Diagram) → length (State.diagram_of (add_edge s p m decision cost d)).nodes ≡ length d.nodes
unfolding add_edge need push_edge
add_long s p m decision cost d =
    by_test (λ b. length (State.diagram_of (need b 12 d (going (push_edge p m decision cost d)))).nodes ≡ length d.nodes) (ltb (length d.edges) s.edge_room)
    (λ q. length-set d.nodes m _)
    (λ q. refl)

then_long : (n : ℕ) (f : Diagram → Run) (run : Run) → length (State.diagram_of run).nodes ≡ n → ((d : Diagram) → length d.nodes ≡ n → length (State.diagram_of (f d)).nodes ≡ n) → length (State.diagram_of (and_then run f)).nodes ≡ n
then_long n f (going d) e k = k d e
then_long n f (stopped i d) e k = e

copy_long : (s : Settings) (m : ℕ) (es : List ℕ) (d : Diagram) → length (State.diagram_of (copy_edges s m es d)).nodes ≡ length d.nodes
unfolding copy_edges
copy_long s m [] d = refl
copy_long s m (e ∷ es) d = then_long (length d.nodes) (λ d₁. copy_edges s m es d₁) (add_edge s (edge_at d.edges e).from m (edge_at d.edges e).decision (edge_at d.edges e).cost d) (add_long s (edge_at d.edges e).from m (edge_at d.edges e).decision (edge_at d.edges e).cost d) (λ d₁ q. copy_long s m es d₁ ∙ q)

pub merge_long : (s : Settings) (m : ℕ) (rs : List ℕ) (d : Diagram) → length (State.diagram_of (merge_all s m rs d)).nodes ≡ length d.nodes
unfolding merge_all with_nodes
merge_long s m [] d = refl
merge_long s m (r ∷ rs) d =
    then_long (length d.nodes) (λ d₁. merge_all s m rs d₁) (copy_edges s m (inbound d.edges r) (with_nodes d (update (with_deleted true) d.nodes r))) (copy_long s m (inbound d.edges r) (with_nodes d (update (with_deleted true) d.nodes r)) ∙ length-set d.nodes r _) (λ d₁ e. merge_long s m rs d₁ ∙ e)

-- ---- a merge that stops

pub squash_stops : (run : Run) (f : Diagram → Diagram) (rows old_n old_e : List ℕ) (w : ℕ) (step : Said) (list ns es : List ℕ) (n : ℕ) (k : Counts) → Stepped run old_n old_e step ns es → step ≡ Stopped n k → Done (squashed run f rows) old_n old_e w step list ns es
unfolding squashed
squash_stops (going d) f rows old_n old_e w step list ns es n k st q =
    let e = st.step_is in
    let y : ◌≡◌ {A = ℕ} 0 1 = cc in
    absurd (omega arith)
squash_stops (stopped i d) f rows old_n old_e w step list ns es n k st q = record { step_is = st.step_is; held = st.held; rows_are = tt }

-- ---- what the situation allows to read

pub placed_of : (start : ℕ) (k : Counts) (rooms : Rooms) (keep : ℕ) (rows ns es : List ℕ) → Squashable start k rooms keep rows ns es → (part : List ℕ) → ((r : ℕ) → Memᴰ r part → Memᴰ r rows) → Placed part ns
placed_of start k rooms keep rows ns es sit part sub =
    let g = sit.squashes in
    let b = nodes_in sit.diagram sit.old_n sit.old_e ns es g.held in
    record { inside = λ r i. omega (arith, g.rows_in r (sub r i), b) }
