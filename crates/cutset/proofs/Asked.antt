-- What `drain` asks of a diagram's flags: no row has a cutset flag after local bounds, as none had before.
use mathlib.Core.Path.{◌≡◌, refl, sym, ap, ◌∙◌}
use mathlib.Core.Bool.{Bool, false}
use mathlib.Core.List.{List, [], ◌∷◌}
use Prim.Native.Nat.{ℕ, suc, ◌<◌}
use native.Mathlib.Omega.{arith}
use lib.ListN.{length}
use Rattle.diagram.specs.Node.{Node, node_at}
use Rattle.diagram.specs.Tables.{Diagram}
use Rattle.diagram.specs.Run.{Mode}
use Rattle.diagram.specs.After5.{local_bounds}
use Rattle.cutset.specs.Views.{with_cutset, uncut, uncuts, unmarked}
use Rattle.cutset.proofs.Commute.{view_at, bounds_kept, same_cutset}

no_flag : (n : Node) → n.cutset ≡ false → uncut n ≡ n
unfolding with_cutset
no_flag n e = ap (λ (b : Bool). with_cutset b n) (sym e)

pub clear_rows : (ns : List Node) → ((r : ℕ) → r < length ns → (node_at ns r).cutset ≡ false) → uncuts ns ≡ ns
clear_rows [] h = refl
clear_rows (n ∷ ns) h =
    let a : uncut n ≡ n = no_flag n (h 0 (omega arith)) in
    let b : uncuts ns ≡ ns = clear_rows ns (λ r k. h (suc r) (omega arith)) in
    cc

-- local bounds set none
pub clear_bounded : (m : Mode) (d : Diagram) (ns : List Node) (r : ℕ) → (node_at ns r).cutset ≡ false → (node_at (local_bounds m d ns) r).cutset ≡ false
clear_bounded m d ns r h =
    same_cutset (node_at (local_bounds m d ns) r) (node_at ns r) (view_at unmarked (local_bounds m d ns) ns r (bounds_kept m d ns)) ∙ h
