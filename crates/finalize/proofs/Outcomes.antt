-- What a finished run's rows keep of the grown ones, and what it drains.
use mathlib.Core.Path.{◌≡◌, refl, sym, ap, ◌∙◌}
use mathlib.Core.List.{List, []}
use Prim.Native.Nat.{ℕ, ◌≤◌}
use native.Mathlib.Omega.{arith}
use lib.ListN.{length}
use Rattle.diagram.specs.Node.{Node, node_at}
use Rattle.diagram.specs.Run.{Mode, exactly, restricted, relaxing}
use Rattle.diagram.specs.Tables.{Diagram, Found, at, nowhere, with_nodes}
use Rattle.diagram.specs.After1.{best_node}
use Rattle.diagram.specs.After4.{CutsetKind, no_cutset, cutset_of, cutset_for}
use Rattle.diagram.specs.After5.{local_bounds}
use Rattle.diagram.specs.After6.{outcome, drain_rows, drain_for, drained}
use Rattle.theorems.proofs.Links.{Wired, SameLinks, same_wired}
use Rattle.theorems.proofs.Local.{plain, Dressed, bounds_dressed}
use Rattle.cutset.specs.Views.{with_cutset, uncut}
use Rattle.cutset.proofs.Commute.{view_at, for_flags, bounded}
use Rattle.cutset.proofs.Handing.{same_length}
use Rattle.cutset.proofs.Outcomes.{outcome_drained, outcome_none}
use Rattle.finalize.specs.Standing.{drain_best}

-- ---- rows keep all but cutset flag, mark and bottom value

uncut_plain : (n m : Node) → uncut n ≡ uncut m → plain n ≡ plain m
unfolding with_cutset plain
uncut_plain n m e = ap plain e

cut_dressed : (m : Mode) (k : CutsetKind) (d : Diagram) → Dressed d.nodes (cutset_for m k d).nodes
cut_dressed m k d =
    let ns = (cutset_for m k d).nodes in
    let f = for_flags m k d in
    record { long = same_length ns d.nodes f; plain_is = λ r. uncut_plain (node_at ns r) (node_at d.nodes r) (view_at uncut ns d.nodes r f) }

pub outcome_dressed : (m : Mode) (k : CutsetKind) (d : Diagram) → Dressed d.nodes (outcome m k d).diagram.nodes
unfolding outcome with_nodes
outcome_dressed m k d =
    let b = bounds_dressed m d (cutset_for m k d).nodes in
    let c = cut_dressed m k d in
    record { long = b.long ∙ c.long; plain_is = λ r. b.plain_is r ∙ c.plain_is r }

plain_links : (n m : Node) → plain m ≡ plain n → SameLinks n m
unfolding plain
plain_links n m e =
    record { depth_is = ap (λ (x : Node). x.depth) e; newest_is = ap (λ (x : Node). x.newest) e; best_is = ap (λ (x : Node). x.best) e }

outcome_rest : (m : Mode) (k : CutsetKind) (d : Diagram) → ((outcome m k d).diagram.edges ≡ d.edges) × ((outcome m k d).diagram.start ≡ d.start)
unfolding outcome with_nodes
outcome_rest m k d = (refl, refl)

pub outcome_wired : (m : Mode) (k : CutsetKind) (d : Diagram) → d.start ≤ length d.nodes → Wired d → Wired (outcome m k d).diagram
outcome_wired m k d s w =
    let c = outcome_dressed m k d in
    let o = outcome_rest m k d in
    same_wired d (outcome m k d).diagram s o.0 (omega (arith, o.1)) c.long (λ r _. plain_links (node_at d.nodes r) (node_at (outcome m k d).diagram.nodes r) (c.plain_is r)) w

-- ---- what is drained

-- of a relaxed run
pub best_drained : (pre : List ℕ) (k : CutsetKind) (d : Diagram) (f : Found) → best_node d ≡ f → drain_best f pre (bounded relaxing d) (cutset_of k (bounded relaxing d)).listed ≡ drained pre (outcome relaxing k d)
best_drained pre k d (at b) e = sym (outcome_drained pre k d b e)
best_drained pre k d nowhere e = sym (outcome_none pre k d e)

-- of other runs, which have no cutset
pub exactly_drains : (pre : List ℕ) (k : CutsetKind) (d : Diagram) → drained pre (outcome exactly k d) ≡ []
unfolding drained drain_for drain_rows outcome cutset_for no_cutset
exactly_drains pre k d = go (best_node d)
  where
    go : (f : Found) → drain_for f pre (outcome exactly k d) ≡ []
    go (at b) = refl
    go nowhere = refl

pub restricted_drains : (pre : List ℕ) (k : CutsetKind) (d : Diagram) → drained pre (outcome restricted k d) ≡ []
unfolding drained drain_for drain_rows outcome cutset_for no_cutset
restricted_drains pre k d = go (best_node d)
  where
    go : (f : Found) → drain_for f pre (outcome restricted k d) ≡ []
    go (at b) = refl
    go nowhere = refl

-- their rows are those of the growth
pub exactly_rows : (k : CutsetKind) (d : Diagram) → local_bounds exactly d d.nodes ≡ (outcome exactly k d).diagram.nodes
unfolding outcome with_nodes local_bounds cutset_for no_cutset
exactly_rows k d = refl

pub restricted_rows : (k : CutsetKind) (d : Diagram) → local_bounds restricted d d.nodes ≡ (outcome restricted k d).diagram.nodes
unfolding outcome with_nodes local_bounds cutset_for no_cutset
restricted_rows k d = refl
