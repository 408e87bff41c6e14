-- The growth layer by layer, in every mode: what each layer's step keeps holds of the tables at the end.
use mathlib.Core.Path.{◌≡◌, refl, ap, ◌∙◌}
use mathlib.Core.Bool.{true, false}
use mathlib.Core.List.{List, [], ◌∷◌}
use Prim.Native.Nat.{ℕ, zero, suc, ◌≤◌, ◌<◌}
use native.Mathlib.Omega.{arith}
use lib.ListN.{length, drop, length-drop}
use Rattle.knapsack.specs.Items.{Item}
use Rattle.diagram.specs.Node.{Node, node_at, update, fresh, with_deleted}
use Rattle.diagram.specs.Record.{Record}
use Rattle.diagram.specs.Rule1.{root_only, rooted}
use Rattle.diagram.specs.Rule2.{ordered, store, store_empty, store_last, has_rows, expand_squashed, layer_step, grow, grown}
use Rattle.diagram.specs.Rule5.{with_last, squash}
use Rattle.diagram.specs.Rule6.{Squashed}
use Rattle.diagram.specs.Run.{Mode, Settings}
use Rattle.diagram.specs.Tables.{Diagram, with_nodes, coming}
use Rattle.theorems.proofs.Holds.{Holds, held, void, then_holds, need_holds, only_holds, holds_map, SquashHolds, settled, halts}
use Rattle.theorems.proofs.Move.{Move, trail_keeps, trail_later}
use Rattle.theorems.proofs.Arc.{Coming, move_coming, Layered, all_expanded}
use Rattle.theorems.proofs.Squash.{Settled, Merging, delete_keeps, Way, untouched, merges, deletes, squash_settled}

-- what every layer's step needs: the coming layer as it stands before its squash
pub record Ready (k : ℕ) (d : Diagram) : Type 0 where
  pub fits : d.start ≤ length d.nodes
  pub now : Coming k d

-- what a layer's step does from d to f: the squash leaves `after`, and its rows `order` are expanded
pub record Step (items : List Item) (lower : ℕ) (md : Mode) (k : ℕ) (d f : Diagram) : Type 0 where
  pub deep : k < length items
  pub after : Diagram
  pub order : List ℕ
  pub squash : Settled md k d after order
  pub way : Way md k d after
  pub layer : Layered items lower k order (store after) f

pub store_coming : (k : ℕ) (d : Diagram) → Coming k (store d)
unfolding store
store_coming k d = record { deps = λ r a b. absurd (omega arith); lives = λ r a b. absurd (omega arith); caps = λ r q a b c e f. absurd (omega arith) }

pub store_is : (d : Diagram) → ((store d).nodes ≡ d.nodes) × ((store d).edges ≡ d.edges) × ((store d).start ≡ length d.nodes) × ((store d).layers ≡ coming d ∷ d.layers) × ((store d).last ≡ d.last)
unfolding store
store_is d = (refl, refl, refl, refl, refl)

-- each layer's turn, unless refused, is such a step
pub layer_steps : (md : Mode) (items : List Item) (opts : Settings) (i : Item) (is : List Item) (k : ℕ) (d : Diagram) → drop k items ≡ i ∷ is → Ready k d → Holds (Step items opts.lower md k d) (expand_squashed (squash md opts (ordered d) d) opts (i ∷ is) i k)
unfolding expand_squashed
layer_steps md items opts i is k d e g = go (squash md opts (ordered d) d) (squash_settled md opts k d g.now g.fits)
  where
    go : (x : Squashed) → SquashHolds (λ e l. Settled md k d e l × Way md k d e) x → Holds (Step items opts.lower md k d) (expand_squashed x opts (i ∷ is) i k)
    go x (settled {d = c} {l = l} (z, w)) =
        let s = store_is c in
        holds_map (λ f y. record { deep = omega (arith, length-drop k items, ap (length {A = Item}) e); after = c; order = l; squash = z; way = w; layer = y })
        (all_expanded items opts i is k l (store c) (λ q m. let v = z.within q m in (omega (arith, s.2), ap (λ (n : List Node). (node_at n q).depth) s.0 ∙ z.deps q v.0 v.1)) e (omega (arith, s.2, ap (length {A = Node}) s.0)) (store_coming (suc k) c))
    go x halts = void

-- and leaves the next layer as it should be
pub step_ready : (items : List Item) (lower : ℕ) (md : Mode) (k : ℕ) (d f : Diagram) → Step items lower md k d f → Ready (suc k) f
step_ready items lower md k d f t =
    let s = store_is t.after in
    let r = trail_later items t.layer.trail in
    record {
      fits = omega (arith, r.begins, r.longer, ap (length {A = Node}) s.0, s.2);
      now = trail_keeps (Coming (suc k)) (move_coming items k) t.layer.trail (store_coming (suc k) t.after);
    }

-- what a squash, the storing of a layer and each move of its expansion keep is kept by the whole step
pub step_keeps : (items : List Item) (lower : ℕ) (md : Mode) (k : ℕ) (d f : Diagram) (P : Diagram → Type 0)
    → ((e : Diagram) → Way md k d e → P d → P e)
    → ((e : Diagram) → e.start ≤ length e.nodes → P e → P (store e))
    → ((x y : Diagram) → Move items k x y → Coming (suc k) x → P x → P y)
    → Ready k d → Step items lower md k d f → P d → P f
step_keeps items lower md k d f P squashing storing moving g t p =
    let z = t.squash in
    let sl : t.after.start ≤ length t.after.nodes = omega (arith, z.begins, z.longer, g.fits) in
    (trail_keeps (λ x. Coming (suc k) x × P x) (λ x y m q. (move_coming items k x y m q.0, moving x y m q.0 q.1)) t.layer.trail (store_coming (suc k) t.after, storing t.after sl (squashing t.after t.way p))).1

-- what a flag, a copied edge, the new row and the name of the last exact layer keep is kept by a squash.
pub squash_keeps : (md : Mode) (k : ℕ) (d e : Diagram) (P : Diagram → Type 0)
    → (P d → P (with_last d))
    → ((x : Diagram) (r : ℕ) → x.start ≤ r → r < length x.nodes → P x → P (with_nodes x (update (with_deleted true) x.nodes r)))
    → (1 < length d.layers → (w : Merging k (with_last d) e) → P (with_last d) → P e)
    → Way md k d e → P d → P e
unfolding with_last
squash_keeps md k d e P named flags merging untouched p = p
squash_keeps md k d e P named flags merging (merges q h w) p = merging h w (named p)
squash_keeps md k d e P named flags merging (deletes rest q i) p = delete_keeps P flags rest (with_last d) i (named p)

-- the tables at the end: no items remain, or the coming layer is empty
pub data Ended (items : List Item) (P : ℕ → Diagram → Type 0) : Diagram → Type 0 where
  through : (k : ℕ) (d : Diagram) → drop k items ≡ [] → Ready k d → P k d → Ended items P (store_last (has_rows d) d)
  died : (k : ℕ) (d : Diagram) → has_rows d ≡ false → Ready k d → P k d → Ended items P (store_empty d)

pub drop_next : (items : List Item) (k : ℕ) (i : Item) (is : List Item) → drop k items ≡ i ∷ is → drop (suc k) items ≡ is
drop_next [] zero i is e = let z : ◌≡◌ {A = ℕ} 0 1 = cc in absurd (omega arith)
drop_next [] (suc k) i is e = let z : ◌≡◌ {A = ℕ} 0 1 = cc in absurd (omega arith)
drop_next (x ∷ items) zero i is e = cc
drop_next (x ∷ items) (suc k) i is e = drop_next items k i is e

pub root_ready : (r : Record) → Ready r.depth (root_only r)
unfolding root_only fresh
root_ready r =
    record {
      fits = omega arith;
      now = record { deps = λ q a b. let z : q ≡ 0 = omega arith in rw z refl; lives = λ q a b. let z : q ≡ 0 = omega arith in rw z refl; caps = λ q p a b c e f. omega arith };
    }

-- P, of a depth and the tables when the layer of that depth comes, is kept by each layer's step
module _ (items : List Item) (opts : Settings) (P : ℕ → Diagram → Type 0)
    (keeps : (k : ℕ) (d f : Diagram) → Ready k d → Step items opts.lower opts.mode k d f → P k d → P (suc k) f) where
  pub grow_keeps : (is : List Item) (k : ℕ) (d : Diagram) → drop k items ≡ is → Ready k d → P k d → Holds (Ended items P) (grow opts is k d)
  unfolding grow layer_step
  grow_keeps [] k d e g p = held (through k d e g p)
  grow_keeps (i ∷ is) k d e g p =
      only_holds _ _ _
      (λ q. then_holds _ (layer_steps opts.mode items opts i is k d e g)
      (λ f t. grow_keeps is (suc k) f (drop_next items k i is e) (step_ready items opts.lower opts.mode k d f t) (keeps k d f g t p)))
      (λ q. died k d q g p)

  -- of a record's whole growth
  pub grown_keeps : (r : Record) → P r.depth (root_only r) → Holds (Ended items P) (grown opts items r)
  unfolding grown rooted
  grown_keeps r p = then_holds {P = λ d. Ready r.depth d × P r.depth d} _ (need_holds _ _ _ _ (λ _. held {d = root_only r} (root_ready r, p))) (λ d q. grow_keeps (drop r.depth items) r.depth d refl q.0 q.1)
