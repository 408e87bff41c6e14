-- Steps in a row keep a diagram's tables, where its coming layer starts, and its rooms.
use mathlib.Core.Path.{◌≡◌, refl, ap, ◌∙◌}
use mathlib.Core.List.{List}
use Prim.Native.Nat.{ℕ}
use native.Mathlib.Omega.{arith}
use lib.ListN.{length}
use Rattle.std.specs.Borrow.{MutBor}
use Rattle.branch.specs.declared.Extent.{Extent}
use Rattle.branch.specs.declared.Rooms.{Rooms}
use Rattle.branch.specs.State.{Same}

pub same_self : (n e : MutBor (List ℕ)) (at : Extent) → Same n n e e at at
same_self n e at =
    record {
      nodes_stay = refl;
      edges_stay = refl;
      nodes_long = refl;
      edges_long = refl;
      stays = record { start_is = refl; rooms_are = refl; nodes_low = omega arith; nodes_in = omega arith };
    }

pub same_then : {n n₁ n₂ e e₁ e₂ : MutBor (List ℕ)} {at at₁ at₂ : Extent} → Same n n₁ e e₁ at at₁ → Same n₁ n₂ e₁ e₂ at₁ at₂ → Same n n₂ e e₂ at at₂
same_then a b =
    let r = ap (λ (x : Rooms). x.nodes) a.stays.rooms_are in
    record {
      nodes_stay = b.nodes_stay ∙ a.nodes_stay;
      edges_stay = b.edges_stay ∙ a.edges_stay;
      nodes_long = b.nodes_long ∙ a.nodes_long;
      edges_long = b.edges_long ∙ a.edges_long;
      stays = record {
        start_is = b.stays.start_is ∙ a.stays.start_is;
        rooms_are = b.stays.rooms_are ∙ a.stays.rooms_are;
        nodes_low = omega (arith, a.stays.nodes_low, b.stays.nodes_low);
        nodes_in = omega (arith, a.stays.nodes_in, b.stays.nodes_in, r);
      };
    }

-- so does a write to the node table that keeps its length
pub same_written : {n n₁ n₂ e e₁ : MutBor (List ℕ)} {at at₁ : Extent} → Same n n₁ e e₁ at at₁ → n₂.ghost_name ≡ n₁.ghost_name → length n₂.now ≡ length n₁.now → Same n n₂ e e₁ at at₁
same_written a g l =
    record { nodes_stay = g ∙ a.nodes_stay; edges_stay = a.edges_stay; nodes_long = l ∙ a.nodes_long; edges_long = a.edges_long; stays = a.stays }
