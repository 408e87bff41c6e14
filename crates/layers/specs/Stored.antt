-- The layers that a value of the code stands for, the newest first.
use Rattle.std.specs.Prelude.{List, [], ◌∷◌, map, ℕ, zero, suc, length, get_or, Option, Some, None}
use Rattle.diagram.specs.Tables.{Range, LastExact, unsquashed, squashed_after}
use Rattle.layers.specs.declared.Layer.{Layer}
use Rattle.layers.specs.declared.Layers.{Layers}
use Rattle.layers.specs.Layer.{no_layer}
use Rattle.layers.specs.Places.{held, places, few_held, places_sized, places_clear}

abbrev pub range : ℕ → ℕ → Range
range lo hi = record { lo = lo; hi = hi }

abbrev pub range_of : Layer → Range
range_of l = range l.from l.to

-- the first n of them
unfoldable pub first_ones : List Layer → ℕ → List Range
first_ones rows zero = []
first_ones rows (suc n) = range_of (get_or rows n no_layer) ∷ first_ones rows n

unfoldable pub stored : Layers → List Range
stored l = first_ones l.rows l.count

abbrev pub layer_of : Range → Layer
layer_of r = record { from = r.lo; to = r.hi }

-- the value that stands for the layers of a list, the oldest first; a list has at most 65, as an array holds no more
abbrev pub layers_from : List Range → Layers
layers_from rs =
    let ls = map layer_of rs in
    record { rows = places ls; count = length (held ls); sized = places_sized ls; few = few_held ls; clear = places_clear ls }

abbrev pub last_of : Option Layer → LastExact
last_of None = unsquashed
last_of (Some l) = squashed_after (range_of l)
