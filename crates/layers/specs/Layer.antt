-- The layer that stands in the places past the stored ones.
use Rattle.layers.specs.declared.Layer.{Layer}

-- no row
abbrev pub no_layer : Layer
no_layer = record { from = 0; to = 0 }
