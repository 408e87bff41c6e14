-- The child of a node: found or new, and the coming layer's part put back behind the finished rows.
use mathlib.Core.Path.{◌≡◌, refl, sym, ap, subst, ◌∙◌}
use mathlib.Core.Bool.{Bool, true, false}
use mathlib.Core.List.{List, [], ◌∷◌, ◌++◌, append-nil}
use Prim.Native.Nat.{ℕ, suc, ◌+◌, ◌-◌, ◌*◌, ◌<◌, ◌≤◌}
use native.Mathlib.Omega.{arith}
use lib.ListN.{length, take, drop, length-drop, length-set, length-append, take-append-drop}
use lib.Dec.{eqb}
use lib.Seq.{take_all, drop-drop, drop-length, take-set-le, take-append-le}
use Rattle.std.specs.Prelude.{Option, Some, None}
use Rattle.diagram.specs.Node.{Node}
use Rattle.diagram.specs.Tables.{Diagram, with_nodes}
use Rattle.diagram.specs.Tables as Def
use Rattle.diagram.specs.Run.{Settings, Run, need}
use Rattle.diagram.specs.Rule4.{lookup, push_edge, push_node, child_of, branch_to, branch_on, add_edge, new_child}
use Rattle.layout.specs.Table.{words_of, over}
use Rattle.layout.specs.Rows.{node_words, encode_node, node_table}
use Rattle.layout.proofs.Table.{part_from, part_back}
use Rattle.layout.proofs.Rows.{node_width}
use Rattle.branch.specs.declared.Counts.{Counts}
use Rattle.branch.specs.declared.Rooms.{Rooms}
use Rattle.branch.specs.declared.Parent.{Parent}
use Rattle.branch.specs.declared.Branch.{Branch}
use Rattle.branch.specs.State.{Said, found_of, LookedUp, ParentRead, diagram_of, ComingHeld, Told, Stands, ComingStepped, EdgeAdded, ChildMade, ChildAdded, Held, Stepped, Branched, Appended}

-- the lookup, said of the diagram
looked : (first : ℕ) (k : Counts) (rooms : Rooms) (capacity : ℕ) (cs es : List ℕ) (f : Option ℕ) → LookedUp cs (k.nodes - first) capacity f → (s : Settings) (d : Diagram) (old_n old_e : List ℕ) → Stands s d old_n old_e first k rooms → ComingHeld d old_n old_e cs es → lookup capacity (drop d.start d.nodes) d.start ≡ found_of first f
looked first k rooms capacity cs es f l s d old_n old_e st held =
    let n : k.nodes ≡ length d.nodes = ap (λ (c : Counts). c.nodes) st.counts_are in
    let e : k.nodes - first ≡ length (drop d.start d.nodes) = simp length-drop (omega (arith, st.first_is)) in
    sym (l.is_first (drop d.start d.nodes) (drop (d.start * node_words) old_n) d.start held.coming_are e) ∙ ap (λ (i : ℕ). found_of i f) (sym st.first_is)

pub add_absent : (first : ℕ) (k : Counts) (rooms : Rooms) (p : Parent) (b : Branch) (cs es : List ℕ) (r : Said) (cs' es' : List ℕ) → LookedUp cs (k.nodes - first) b.capacity None → ChildMade first k rooms p b cs es r cs' es' → ChildAdded first k rooms p b cs es r cs' es'
unfolding branch_on branch_to
add_absent first k rooms p b cs es r cs' es' l made =
    record {
      fits = made.fits;
      does = λ s d old_n old_e st held told deep.
          rw (looked first k rooms b.capacity cs es None l s d old_n old_e st held) (made.does s d old_n old_e st held told deep);
    }

pub add_present : (first : ℕ) (k : Counts) (rooms : Rooms) (p : Parent) (b : Branch) (cs es : List ℕ) (row : ℕ) (r : Said) (cs' es' : List ℕ) → LookedUp cs (k.nodes - first) b.capacity (Some row) → first ≤ k.nodes → EdgeAdded first k rooms p row b cs es r cs' es' → ChildAdded first k rooms p b cs es r cs' es'
unfolding branch_on branch_to
add_present first k rooms p b cs es row r cs' es' l low added =
    record {
      fits = added.fits;
      does = λ s d old_n old_e st held told deep.
          rw (looked first k rooms b.capacity cs es (Some row) l s d old_n old_e st held) (added.does s d old_n old_e st held told (omega (arith, l.below, ap (λ (c : Counts). c.nodes) st.counts_are)));
    }

-- What branching leaves alone: the rows before the coming layer, and where that starts.
pub record Kept (d e : Diagram) : Type 0 where
  pub start_is : e.start ≡ d.start
  pub front_is : take d.start e.nodes ≡ take d.start d.nodes
  pub longer : length d.nodes ≤ length e.nodes

kept_all : (d : Diagram) → Kept d d
kept_all d = record { start_is = refl; front_is = refl; longer = omega arith }

kept_need : (d : Diagram) (b : Bool) (n : ℕ) (r : Run) → Kept d (diagram_of r) → Kept d (diagram_of (need b n d r))
unfolding need
kept_need d true n r k = k
kept_need d false n r k = kept_all d

lookup_low : (capacity : ℕ) (ns : List Node) (r c : ℕ) → lookup capacity ns r ≡ Def.at c → r ≤ c
unfolding lookup
lookup_low capacity [] r c e = let z : ◌≡◌ {A = ℕ} 0 1 = cc in absurd (omega arith)
lookup_low capacity (n ∷ ns) r c e = go (eqb n.capacity capacity) refl (λ q. lookup_low capacity ns (suc r) c (rw (q, lookup) at e))
  where
    go : (t : Bool) → eqb n.capacity capacity ≡ t → (eqb n.capacity capacity ≡ false → suc r ≤ c) → r ≤ c
    go true q f = let z : Def.at r ≡ Def.at c = rw (q, lookup) at e in let w : r ≡ c = cc in omega arith
    go false q f = omega (arith, f q)

kept_edge : (s : Settings) (p c decision cost : ℕ) (d : Diagram) → d.start ≤ c → Kept d (diagram_of (add_edge s p c decision cost d))
unfolding add_edge push_edge
kept_edge s p c decision cost d h = kept_need d _ 12 _ (record { start_is = refl; front_is = take-set-le d.start d.nodes c _ h; longer = simp length-set (omega arith) })

kept_child : (s : Settings) (p decision cost capacity : ℕ) (d : Diagram) → d.start ≤ length d.nodes → Kept d (diagram_of (new_child s p decision cost capacity d))
unfolding new_child push_edge push_node with_nodes
kept_child s p decision cost capacity d h =
    kept_need d _ 10 _ (kept_need d _ 11 _ (kept_need d _ 12 _ (record {
      start_is = refl;
      front_is = take-set-le d.start (d.nodes ++ (child_of p cost capacity d.nodes ∷ [])) (length d.nodes) _ h ∙ take-append-le d.start d.nodes (child_of p cost capacity d.nodes ∷ []) h;
      longer = simp (length-set, length-append) (omega arith);
    })))

pub branch_kept : (s : Settings) (p decision cost capacity : ℕ) (d : Diagram) → d.start ≤ length d.nodes → Kept d (diagram_of (branch_on s p decision cost capacity d))
unfolding branch_on branch_to
branch_kept s p decision cost capacity d h = go (lookup capacity (drop d.start d.nodes) d.start) refl
  where
    go : (f : Def.Found) → lookup capacity (drop d.start d.nodes) d.start ≡ f → Kept d (diagram_of (branch_to f s p decision cost capacity d))
    go (Def.at c) e = kept_edge s p c decision cost d (lookup_low capacity (drop d.start d.nodes) d.start c e)
    go Def.nowhere e = kept_child s p decision cost capacity d h

-- the part that was lent, and what was put back
part_is : (xs : List ℕ) (a : ℕ) → a ≤ length xs → take (length xs - a) (drop a xs) ≡ drop a xs
part_is xs a h = take_all (length xs - a) (drop a xs) (omega (arith, length-drop a xs))

rest_nil : (xs : List ℕ) (a : ℕ) → a ≤ length xs → drop (length xs - a) (drop a xs) ≡ []
rest_nil xs a h = let e : a + (length xs - a) ≡ length xs = omega arith in drop-drop (length xs - a) a xs ∙ ap (λ (n : ℕ). drop n xs) e ∙ drop-length xs

-- the whole table holds a diagram: so does its part from the coming layer on
coming_held : (d : Diagram) (old_n old_e ns es : List ℕ) → d.start ≤ length d.nodes → d.start * node_words ≤ length ns → Held d old_n old_e ns es → ComingHeld d old_n old_e (take (length ns - d.start * node_words) (drop (d.start * node_words) ns)) es
unfolding node_table
coming_held d old_n old_e ns es h l held =
    record {
      coming_are = part_is ns (d.start * node_words) l ∙ ap (drop (d.start * node_words)) held.nodes_are ∙ part_from encode_node node_words node_width d.nodes old_n d.start h;
      edges_are = held.edges_are;
    }

-- and the part put back behind the finished rows
back_held : (d e : Diagram) (old_n old_e ns cs es : List ℕ) → d.start ≤ length d.nodes → Held d old_n old_e ns es → Kept d e → (cs' es' : List ℕ) → ComingHeld e old_n old_e cs' es' → Held e old_n old_e (take (d.start * node_words) ns ++ cs') es'
unfolding node_table
back_held d e old_n old_e ns cs es h held kept cs' es' held' =
    let c : cs' ≡ over (node_table (drop d.start e.nodes)) (drop (d.start * node_words) old_n) = rw kept.start_is at held'.coming_are in
    let f : take d.start d.nodes ++ drop d.start e.nodes ≡ e.nodes = rw (← kept.front_is) (take-append-drop d.start e.nodes) in
    record {
      nodes_are = rw (held.nodes_are, c) (part_back encode_node node_words node_width d.nodes (drop d.start e.nodes) old_n d.start h ∙ ap (λ (l : List Node). over (words_of encode_node l) old_n) f);
      edges_are = held'.edges_are;
    }

-- what a child is told of a parent whose row was read
told_of : (start from cost : ℕ) (ns : List ℕ) (p : Parent) → from < start → ParentRead ns from cost p → (s : Settings) (d : Diagram) (old_n old_e es : List ℕ) (k : Counts) (rooms : Rooms) → Stands s d old_n old_e start k rooms → Held d old_n old_e ns es → Told d cost p
told_of start from cost ns p h read s d old_n old_e es k rooms st held =
    let i : from < length d.nodes = omega (arith, st.first_is, st.start_in) in
    record {
      row_in = omega (arith, st.first_is, read.id_is);
      exact_is = rw read.id_is (read.exact_is d.nodes old_n held.nodes_are i);
      value_is = rw read.id_is (read.value_is d.nodes old_n held.nodes_are i);
    }

-- a step on the part that was lent is one on the whole table
whole_step : (run : Run) (start : ℕ) (k : Counts) (rooms : Rooms) (ns es : List ℕ) (r : Said) (cs' ns' es' : List ℕ) → start * node_words ≤ length ns → ns' ≡ take (start * node_words) ns ++ (cs' ++ drop (length ns - start * node_words) (drop (start * node_words) ns)) → (s : Settings) (d : Diagram) (old_n old_e : List ℕ) → Stands s d old_n old_e start k rooms → Held d old_n old_e ns es → Kept d (diagram_of run) → (ComingHeld d old_n old_e (take (length ns - start * node_words) (drop (start * node_words) ns)) es → ComingStepped run old_n old_e r cs' es') → Stepped run old_n old_e r ns' es'
whole_step run start k rooms ns es r cs' ns' es' l back s d old_n old_e st held kept does =
    let z : d.start * node_words ≤ length ns = omega (arith, st.first_is) in
    let did = does (subst (λ (a : ℕ). ComingHeld d old_n old_e (take (length ns - a * node_words) (drop (a * node_words) ns)) es) (sym st.first_is) (coming_held d old_n old_e ns es st.start_in z held)) in
    let e : ns' ≡ take (d.start * node_words) ns ++ cs' = back ∙ rw (rest_nil ns (start * node_words) l, append-nil cs', st.first_is) in
    record { step_is = did.step_is; held = rw e (back_held d (diagram_of run) old_n old_e ns cs' es st.start_in held kept cs' es' did.held) }

pub branched : (start : ℕ) (k : Counts) (rooms : Rooms) (from : ℕ) (b : Branch) (ns es : List ℕ) (p : Parent) (r : Said) (cs' ns' es' : List ℕ) → from < start → start * node_words ≤ length ns → ParentRead ns from b.cost p
    → ChildAdded start k rooms p b (take (length ns - start * node_words) (drop (start * node_words) ns)) es r cs' es'
    → ns' ≡ take (start * node_words) ns ++ (cs' ++ drop (length ns - start * node_words) (drop (start * node_words) ns))
    → Branched start k rooms from b ns es r ns' es'
branched start k rooms from b ns es p r cs' ns' es' h l read added back =
    record {
      fits = added.fits;
      does = λ s d old_n old_e st held deep.
          rw (← read.id_is) (whole_step (branch_on s p.id.0 b.decision b.cost b.capacity d) start k rooms ns es r cs' ns' es' l back s d old_n old_e st held
          (branch_kept s p.id.0 b.decision b.cost b.capacity d st.start_in)
          (λ part. added.does s d old_n old_e st part (told_of start from b.cost ns p h read s d old_n old_e es k rooms st held) (rw read.id_is deep)));
    }

pub appended : (start : ℕ) (k : Counts) (rooms : Rooms) (from row : ℕ) (b : Branch) (ns es : List ℕ) (p : Parent) (r : Said) (cs' ns' es' : List ℕ) → from < start → start + row < k.nodes → start * node_words ≤ length ns → ParentRead ns from b.cost p
    → EdgeAdded start k rooms p row b (take (length ns - start * node_words) (drop (start * node_words) ns)) es r cs' es'
    → ns' ≡ take (start * node_words) ns ++ (cs' ++ drop (length ns - start * node_words) (drop (start * node_words) ns))
    → Appended start k rooms from row b ns es r ns' es'
appended start k rooms from row b ns es p r cs' ns' es' h i l read added back =
    record {
      fits = added.fits;
      does = λ s d old_n old_e st held.
          rw (← read.id_is) (whole_step (add_edge s p.id.0 (start + row) b.decision b.cost d) start k rooms ns es r cs' ns' es' l back s d old_n old_e st held
          (kept_edge s p.id.0 (start + row) b.decision b.cost d (omega (arith, st.first_is)))
          (λ part. added.does s d old_n old_e st part (told_of start from b.cost ns p h read s d old_n old_e es k rooms st held) (omega (arith, ap (λ (c : Counts). c.nodes) st.counts_are))));
    }

-- what `add_child`, `branch_on` and `append_edge` stand on
pub ruleset branches = (add_absent, add_present, branched, appended)
