-- What is drained after local bounds is what a finished run drains: its cutset is listed before them, and its records are read after them.
use mathlib.Core.Path.{◌≡◌, refl, sym, ap, ◌∙◌}
use mathlib.Core.List.{List, []}
use Prim.Native.Nat.{ℕ}
use Rattle.diagram.specs.Node.{Node, node_at}
use Rattle.diagram.specs.Tables.{Diagram, at, nowhere, with_nodes}
use Rattle.diagram.specs.Run.{Mode, relaxing}
use Rattle.diagram.specs.After1.{best_node}
use Rattle.diagram.specs.After4.{CutsetKind, cutset_of, cutset_for}
use Rattle.diagram.specs.After5.{local_bounds}
use Rattle.diagram.specs.After6.{outcome, drain_rows, drain_for, drained}
use Rattle.cutset.specs.Views.{uncuts}
use Rattle.cutset.proofs.Commute.{bounded, same_listed, same_nodes, of_flags}
use Rattle.cutset.proofs.Handing.{alike_at, records_same}

relaxed_cutset : (k : CutsetKind) (d : Diagram) → cutset_for relaxing k d ≡ cutset_of k d
unfolding cutset_for
relaxed_cutset k d = refl

-- the rows that a finished run leaves
pub outcome_nodes : (k : CutsetKind) (d : Diagram) → (outcome relaxing k d).diagram.nodes ≡ (cutset_of k (bounded relaxing d)).nodes
unfolding outcome with_nodes
outcome_nodes k d = sym (same_nodes relaxing k d) ∙ ap (λ c. c.nodes) (relaxed_cutset k (bounded relaxing d))

again_bounded : (m : Mode) (d : Diagram) (ns : List Node) → with_nodes (bounded m d) ns ≡ with_nodes d ns
unfolding with_nodes
again_bounded m d ns = refl

flags_aside : (pre : List ℕ) (d : Diagram) (ns : List Node) (l : List ℕ) (b : ℕ) → uncuts ns ≡ uncuts d.nodes → drain_rows pre (with_nodes d ns) (node_at (with_nodes d ns).nodes b).value l ≡ drain_rows pre d (node_at d.nodes b).value l
unfolding with_nodes
flags_aside pre d ns l b s =
    rw (alike_at ns d.nodes b s).value (records_same pre d (node_at d.nodes b).value ns l s)

-- the records that it drains, b its best node
pub outcome_drained : (pre : List ℕ) (k : CutsetKind) (d : Diagram) (b : ℕ) → best_node d ≡ at b → drained pre (outcome relaxing k d) ≡ drain_rows pre (bounded relaxing d) (node_at (bounded relaxing d).nodes b).value (cutset_of k (bounded relaxing d)).listed
unfolding drained outcome drain_for
outcome_drained pre k d b e =
    let D = bounded relaxing d in
    let c = cutset_of k D in
    let s : local_bounds relaxing d (cutset_for relaxing k d).nodes ≡ c.nodes = sym (same_nodes relaxing k d) ∙ ap (λ x. x.nodes) (relaxed_cutset k D) in
    let l : (cutset_for relaxing k d).listed ≡ c.listed = sym (same_listed relaxing k d) ∙ ap (λ x. x.listed) (relaxed_cutset k D) in
    rw (e, s, l) (ap (λ (x : Diagram). drain_rows pre x (node_at x.nodes b).value c.listed) (sym (again_bounded relaxing d c.nodes)) ∙ flags_aside pre D c.nodes c.listed b (of_flags k D))

-- without a terminal it drains nothing
pub outcome_none : (pre : List ℕ) (k : CutsetKind) (d : Diagram) → best_node d ≡ nowhere → drained pre (outcome relaxing k d) ≡ []
unfolding drained outcome drain_for
outcome_none pre k d e = rw e refl
