-- The last exact layer of a grown run ends within its rows: it is one of the stored layers, or has no rows.
use mathlib.Core.Path.{◌≡◌, refl, sym, subst}
use mathlib.Core.Bool.{Bool, true, false}
use mathlib.Core.List.{List, [], ◌∷◌}
use Prim.Native.Nat.{ℕ, ◌≤◌}
use native.Mathlib.Omega.{arith}
use lib.ListN.{length, length-set, length-append}
use Rattle.knapsack.specs.Items.{Item}
use Rattle.diagram.specs.Node.{Node, node_at, update, with_deleted}
use Rattle.diagram.specs.Record.{Record}
use Rattle.diagram.specs.Run.{Mode, Settings}
use Rattle.diagram.specs.Tables.{Diagram, Range, LastExact, unsquashed, squashed_after, with_nodes, coming}
use Rattle.diagram.specs.Rule1.{root_only}
use Rattle.diagram.specs.Rule2.{store, store_empty, store_last, has_rows, grown}
use Rattle.diagram.specs.Rule4.{push_node}
use Rattle.diagram.specs.Rule5.{name_last, with_last}
use Rattle.diagram.specs.Rule6.{merged_row}
use Rattle.theorems.proofs.Holds.{Holds, holds_map}
use Rattle.theorems.proofs.Move.{Move, move_later}
use Rattle.theorems.proofs.Merge.{MergeMove, merging_keeps, merge_move_merged}
use Rattle.theorems.proofs.Squash.{Way}
use Rattle.theorems.proofs.Growth.{step_keeps, squash_keeps, Ended, through, died, grown_keeps}
use Rattle.finish.proofs.Grown.{Ends, ends_more}

-- the last exact layer ends at row n or before it
abbrev pub LastEnds : LastExact → ℕ → Type 0
LastEnds unsquashed n = Unit {0}
LastEnds (squashed_after l) n = l.hi ≤ n

pub record Ending (d : Diagram) : Type 0 where
  pub ends : Ends d.layers (length d.nodes)
  pub last_ends : LastEnds d.last (length d.nodes)

last_more : (l : LastExact) (n m : ℕ) → n ≤ m → LastEnds l n → LastEnds l m
last_more unsquashed n m h e = tt
last_more (squashed_after l) n m h e = omega (arith, e)

more_ending : (d e : Diagram) → e.layers ≡ d.layers → e.last ≡ d.last → length d.nodes ≤ length e.nodes → Ending d → Ending e
more_ending d e a b h p =
    record {
      ends = subst (λ (ls : List Range). Ends ls (length e.nodes)) (sym a) (ends_more d.layers (length d.nodes) (length e.nodes) h p.ends);
      last_ends = subst (λ (l : LastExact). LastEnds l (length e.nodes)) (sym b) (last_more d.last (length d.nodes) (length e.nodes) h p.last_ends);
    }

-- ---- kept by every step of the growth

move_ending : (items : List Item) (k : ℕ) (d e : Diagram) → Move items k d e → Ending d → Ending e
move_ending items k d e m p = let l = move_later items d e m in more_ending d e l.layers_are l.last_is l.longer p

merge_ending : (m : ℕ) (rest : List ℕ) (d e : Diagram) → MergeMove m rest d e → Ending d → Ending e
merge_ending m rest d e v p =
    let g = merge_move_merged m rest d e v in
    more_ending d e g.layers_are g.last_is (omega (arith, g.long)) p

node_ending : (n : Node) (d : Diagram) → Ending d → Ending (push_node n d)
unfolding push_node with_nodes
node_ending n d p = more_ending d (push_node n d) refl refl (simp length-append (omega arith)) p

flag_ending : (d : Diagram) (r : ℕ) → Ending d → Ending (with_nodes d (update (with_deleted true) d.nodes r))
unfolding with_nodes
flag_ending d r p = more_ending d (with_nodes d (update (with_deleted true) d.nodes r)) refl refl (omega (arith, length-set d.nodes r (with_deleted true (node_at d.nodes r)))) p

named_ends : (l : LastExact) (ls : List Range) (n : ℕ) → LastEnds l n → Ends ls n → LastEnds (name_last l ls) n
unfolding name_last
named_ends (squashed_after l) ls n h e = h
named_ends unsquashed [] n h e = omega arith
named_ends unsquashed (l ∷ ls) n h e = e.0

name_ending : (d : Diagram) → Ending d → Ending (with_last d)
unfolding with_last
name_ending d p = record { ends = p.ends; last_ends = named_ends d.last d.layers (length d.nodes) p.last_ends p.ends }

squash_ending : (md : Mode) (k : ℕ) (d e : Diagram) → Way md k d e → Ending d → Ending e
squash_ending md k d e y p =
    squash_keeps md k d e Ending (name_ending d) (λ x r l h q. flag_ending x r q)
    (λ _ v q. merging_keeps Ending (merge_ending _ v.rest) v.trail (node_ending (merged_row v.c v.dp) (with_last d) q))
    y p

store_ending : (d : Diagram) → Ending d → Ending (store d)
unfolding store coming
store_ending d p = record { ends = (omega arith, p.ends); last_ends = p.last_ends }

empty_ending : (d : Diagram) → d.start ≤ length d.nodes → Ending d → Ending (store_empty d)
unfolding store_empty
empty_ending d h p = record { ends = (omega arith, p.ends); last_ends = p.last_ends }

end_ending : (b : Bool) (d : Diagram) → Ending d → Ending (store_last b d)
unfolding store_last coming
end_ending true d p = record { ends = (omega arith, p.ends); last_ends = p.last_ends }
end_ending false d p = p

root_ending : (r : Record) → Ending (root_only r)
unfolding root_only
root_ending r = record { ends = tt; last_ends = tt }

ended_ending : (items : List Item) (e : Diagram) → Ended items (λ _ d. Ending d) e → Ending e
ended_ending items e (through k d z g p) = end_ending (has_rows d) d p
ended_ending items e (died k d z g p) = empty_ending d g.fits p

-- Every run that is not refused.
pub grown_ending : (items : List Item) (opts : Settings) (r : Record) → Holds Ending (grown opts items r)
grown_ending items opts r =
    holds_map (ended_ending items)
    (grown_keeps items opts (λ _ d. Ending d)
    (λ k d f g t p. step_keeps items opts.lower opts.mode k d f Ending (λ e y q. squash_ending opts.mode k d e y q) (λ e l q. store_ending e q) (λ x y m c q. move_ending items k x y m q) g t p)
    r (root_ending r))
