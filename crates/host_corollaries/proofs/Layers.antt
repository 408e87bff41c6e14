-- The layers that a host's compile has found: an array holds all those of the definition, since these are at most 65, and 0 behind them.
use mathlib.Core.Path.{◌≡◌, refl, ap, ap₂, ◌∙◌}
use mathlib.Core.List.{List, ◌∷◌, ◌++◌, map, map-map}
use Prim.Native.Nat.{ℕ, zero, suc, ◌-◌, ◌≤◌}
use native.Mathlib.Omega.{arith}
use lib.ListN.{length, replicate, length-map}
use Rattle.std.proofs.lemmas.List.{take_all, map-append}
use Rattle.diagram.specs.Tables.{Range}
use Rattle.calls.specs.Compile as Call
use Rattle.calls.specs.Compile.{Compiled}
use Rattle.call_laws.proofs.Layers.{layers_fit}
use Rattle.layers.specs.declared.Layer.{Layer}
use Rattle.layers.specs.Layer.{no_layer}
use Rattle.layers.specs.Places.{held, places}
use Rattle.layers.specs.Stored.{layer_of}
use Rattle.compile.specs.Answered.{compiled_from, answer_from}
use Rattle.border.specs.declared.Found.{Found}
use Rattle.border.specs.Border.{found_in, found_of}
use Rattle.host_corollaries.specs.Layers.{HoldsLayers, HostLayersAreAll}

-- at most 65 are all held
held_all : (ls : List Layer) → length ls ≤ 65 → held ls ≡ ls
held_all ls h = take_all 65 ls h

-- one end of each layer in an array, as a host reads it
module _ (end : Layer → ℕ) (clear : end no_layer ≡ 0) where
  zeros : (n : ℕ) → map end (replicate n no_layer) ≡ replicate n 0
  zeros zero = refl
  zeros (suc n) = ap₂ (λ (x : ℕ) (xs : List ℕ). x ∷ xs) clear (zeros n)

  ends_held : (ls : List Layer) → length ls ≤ 65 → map end (places ls) ≡ map end ls ++ replicate (65 - length ls) 0
  ends_held ls h =
      ap (λ (xs : List Layer). map end (xs ++ replicate (65 - length xs) no_layer)) (held_all ls h)
      ∙ map-append end ls (replicate (65 - length ls) no_layer)
      ∙ ap (λ (xs : List ℕ). map end ls ++ xs) (zeros (65 - length ls))

  ends_are : (rs : List Range) → length rs ≤ 65 → map end (places (map layer_of rs)) ≡ map (λ r. end (layer_of r)) rs ++ replicate (65 - length rs) 0
  ends_are rs h =
      ends_held (map layer_of rs) (omega (arith, length-map rs layer_of))
      ∙ ap₂ (λ (xs : List ℕ) (n : ℕ). xs ++ replicate (65 - n) 0) (map-map end layer_of rs) (length-map rs layer_of)

holds_all : (found : Found) (d : Compiled) → found ≡ found_in (compiled_from d) → length d.layers ≤ 65 → HoldsLayers found d.layers
holds_all found d e h =
    record {
      counted = ap (λ (f : Found). f.layers) e ∙ ap (length {A = Layer}) (held_all (map layer_of d.layers) (omega (arith, length-map d.layers layer_of))) ∙ length-map d.layers layer_of;
      few = h;
      from_is = ap (λ (f : Found). f.from) e ∙ ends_are (λ (l : Layer). l.from) refl d.layers h;
      to_is = ap (λ (f : Found). f.to) e ∙ ends_are (λ (l : Layer). l.to) refl d.layers h;
    }

pub host_layers_are_all : HostLayersAreAll
host_layers_are_all q l n found ns es rs h d e =
    holds_all found d (h.found_is ∙ ap (λ (x : Call.Answer). found_of (answer_from x)) e) (layers_fit q l d e)
