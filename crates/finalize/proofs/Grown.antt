-- A grown run in the tables stands as finalisation asks: its links, bytes, depths and layers, and no flag of a cutset.
use mathlib.Core.Path.{◌≡◌, sym, ap, subst, ◌∙◌}
use mathlib.Core.List.{List}
use Prim.Native.Nat.{ℕ}
use native.Mathlib.Omega.{arith}
use lib.ListN.{length}
use Rattle.std.specs.Prelude.{Option, Some, None}
use Rattle.knapsack.specs.Items.{Item}
use Rattle.diagram.specs.Record.{Record}
use Rattle.diagram.specs.Run.{Settings, Run}
use Rattle.diagram.specs.Tables.{LastExact, Diagram}
use Rattle.diagram.specs.Rule2.{grown}
use Rattle.branch.specs.declared.Counts.{Counts}
use Rattle.layers.specs.declared.Layers.{Layers}
use Rattle.layers.specs.declared.Layer.{Layer}
use Rattle.layers.specs.Stored.{last_of}
use Rattle.theorems.proofs.Holds.{Holds, held_inv}
use Rattle.theorems.proofs.Links.{grown_wired}
use Rattle.theorems.proofs.Sound.{grown_sound}
use Rattle.finish.proofs.Depths.{Deep, grown_deep}
use Rattle.finish.proofs.Grown.{grown_usable}
use Rattle.cutset.specs.Whole.{LastIn}
use Rattle.finalize.specs.declared.Given.{Given}
use Rattle.finalize.specs.Given.{Grown}
use Rattle.finalize.specs.Standing.{Standing}
use Rattle.finalize.proofs.LastLayer.{LastEnds, grown_ending}

last_within : (n : ℕ) (s : Option Layer) (l : LastExact) → last_of s ≡ l → LastEnds l n → LastIn n s
last_within n s l e h = go s (subst (λ (x : LastExact). LastEnds x n) (sym e) h)
  where
    go : (s : Option Layer) → LastEnds (last_of s) n → LastIn n s
    go None h = tt
    go (Some l) h = h

module _ (s : Settings) (items : List Item) (r : Record) (d : Diagram) (old_n old_e : List ℕ) (k : Counts) (start : ℕ) (layers : Layers) (last : Option Layer) (given : Given) (ns es rs : List ℕ) (g : Grown s items r d old_n old_e k start layers last given ns es rs) where
  -- what holds of every run that is not refused
  of_grown : (P : Diagram → Type 0) → Holds P (grown s items r) → P d
  of_grown P h = held_inv (subst (λ (x : Run). Holds P x) g.grown_is h)

  deep_in : Deep given.depth 64 d.nodes
  deep_in =
      let e = of_grown (λ x. Deep r.depth (length items) x.nodes) (grown_deep items s r g.depth_in) in
      record { low = λ y l. omega (arith, e.low y l, g.depth_is); high = λ y l. omega (arith, e.high y l, g.few_items) }

  pub stands : Standing d old_n old_e k.nodes given layers last ns es rs
  stands =
      record {
        held = g.held;
        count_is = ap (λ (c : Counts). c.nodes) g.counts_are;
        wired = of_grown _ (grown_wired items s r);
        usable = of_grown _ (grown_usable s items r g.few_items);
        deep = deep_in;
        path_long = ap (length {A = ℕ}) g.path_is ∙ g.path_long ∙ sym g.depth_is;
        depth_in = omega (arith, g.depth_is, g.depth_in, g.few_items);
        room_in = g.room_in;
        clear = (of_grown _ (grown_sound items s r)).clean;
        layers_are = g.layers_are;
        last_is = g.last_is;
        last_in = last_within (length d.nodes) last d.last g.last_is (of_grown _ (grown_ending items s r)).last_ends;
      }
