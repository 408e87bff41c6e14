-- The array that holds given layers, and that it has what the value of the code promises: 65 places, and no layer in those behind.
use Rattle.std.specs.Prelude.{◌≡◌, List, ◌++◌, ℕ, zero, suc, ◌+◌, ◌-◌, ◌≤◌, length, get_or, take, replicate, refl}
use Rattle.std.proofs.Common.{sym, ap, ◌∙◌, subst, length-append}
use Rattle.std.proofs.Math.Nat.{min-le_left, add-sub_of_le}
use Rattle.std.proofs.Math.Seq.{get_or-append_right}
use Rattle.std.proofs.lemmas.List.{length-take, length-replicate}
use Rattle.layers.specs.declared.Layer.{Layer}
use Rattle.layers.specs.Layer.{no_layer}

-- the layers that an array has room for: all of them, where they are at most 65
abbrev pub held : List Layer → List Layer
held ls = take 65 ls

abbrev pub places : List Layer → List Layer
places ls = held ls ++ replicate (65 - length (held ls)) no_layer

pub few_held : (ls : List Layer) → length (held ls) ≤ 65
few_held ls = subst (λ (n : ℕ). n ≤ 65) (sym (length-take 65 ls)) (min-le_left 65 (length ls))

pub places_sized : (ls : List Layer) → length (places ls) ≡ 65
places_sized ls =
    length-append (held ls) (replicate (65 - length (held ls)) no_layer)
    ∙ ap (λ (n : ℕ). length (held ls) + n) (length-replicate (65 - length (held ls)) no_layer)
    ∙ add-sub_of_le (few_held ls)

pub no_layers : (n i : ℕ) → get_or (replicate n no_layer) i no_layer ≡ no_layer
no_layers zero i = refl
no_layers (suc n) zero = refl
no_layers (suc n) (suc i) = no_layers n i

pub places_clear : (ls : List Layer) (i : ℕ) → length (held ls) ≤ i → get_or (places ls) i no_layer ≡ no_layer
places_clear ls i h =
    get_or-append_right (held ls) (replicate (65 - length (held ls)) no_layer) i no_layer h
    ∙ no_layers (65 - length (held ls)) (i - length (held ls))
