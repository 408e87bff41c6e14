-- The layers of a call's answer: all those of the definition, since these are at most the 65 that an array holds.
use mathlib.Core.Path.{◌≡◌, refl, ap, sym, ◌∙◌}
use mathlib.Core.List.{List, [], ◌∷◌, map, reverse}
use Prim.Native.Nat.{ℕ, zero, suc, ◌-◌, ◌≤◌}
use native.Mathlib.Omega.{arith}
use lib.ListN.{length, get_or, take, replicate, length-append}
use lib.Seq.{take_at}
use Rattle.std.proofs.Math.Seq.{take-suc}
use Rattle.std.proofs.lemmas.List.{take_all, length-map, map-append, reverse-append}
use Rattle.diagram.specs.Tables.{Range}
use Rattle.calls.specs.Compile as Def
use Rattle.calls.specs.Compile.{compiled, compile}
use Rattle.call_laws.proofs.Layers.{layers_fit}
use Rattle.layers.specs.declared.Layer.{Layer}
use Rattle.layers.specs.Layer.{no_layer}
use Rattle.layers.specs.Places.{held, places}
use Rattle.layers.specs.Stored.{range_of, layer_of, first_ones, stored, layers_from}
use Rattle.compile.specs.declared.Compiled as Code
use Rattle.compile.specs.Answered.{compiled_from}
use Rattle.corollaries.specs.Called.{asked}
use Rattle.corollaries.specs.Statements.{AllLayers, LayersAreAll}
use Rattle.corollaries.proofs.Reading.{read}

-- the first layers of an array, the newest first
ones_are : (rows : List Layer) (n : ℕ) → n ≤ length rows → first_ones rows n ≡ reverse (map range_of (take n rows))
unfolding first_ones
ones_are rows zero h = refl
ones_are rows (suc n) h =
    let x = get_or rows n no_layer in
    ap (λ (rs : List Range). range_of x ∷ rs) (ones_are rows n (omega arith))
    ∙ sym (reverse-append (map range_of (take n rows)) (range_of x ∷ []))
    ∙ ap (reverse {A = Range}) (sym (map-append range_of (take n rows) (x ∷ [])) ∙ ap (map range_of) (sym (take-suc rows n no_layer (omega arith))))

ranges_back : (rs : List Range) → map range_of (map layer_of rs) ≡ rs
ranges_back [] = refl
ranges_back (r ∷ rs) = ap (λ (xs : List Range). r ∷ xs) (ranges_back rs)

-- at most 65 are all held
held_all : (rs : List Range) → length rs ≤ 65 → held (map layer_of rs) ≡ map layer_of rs
held_all rs h = take_all 65 (map layer_of rs) (omega (arith, length-map rs layer_of))

stored_all : (rs : List Range) → length rs ≤ 65 → stored (layers_from rs) ≡ reverse rs
unfolding stored
stored_all rs h =
    let ls = held (map layer_of rs) in
    let pad = replicate (65 - length ls) no_layer in
    ones_are (places (map layer_of rs)) (length ls) (omega (arith, length-append ls pad))
    ∙ ap (λ (xs : List Layer). reverse (map range_of xs)) (take_at ls pad (length ls) refl ∙ held_all rs h)
    ∙ ap (reverse {A = Range}) (ranges_back rs)

all_of : (d : Def.Compiled) (a : Code.Compiled) → a ≡ compiled_from d → length d.layers ≤ 65 → AllLayers a d
all_of d a e h =
    record {
      stored_are = ap (λ (x : Code.Compiled). stored x.layers) e ∙ stored_all d.layers h;
      counted = ap (λ (x : Code.Compiled). x.layers.count) e ∙ ap (length {A = Layer}) (held_all d.layers h) ∙ length-map d.layers layer_of;
      few = h;
    }

pub layers_are_all : LayersAreAll
layers_are_all c a ok d e =
    let r = read c a ok in
    let z : r.compiled_as ≡ d = same (sym r.is_compiled_lem ∙ e) in
    all_of d a (r.answer_is ∙ ap compiled_from z) (layers_fit (asked c) c.before d e)
  where
    same : {b d : Def.Compiled} → compiled b ≡ compiled d → b ≡ d
    same q = cc
