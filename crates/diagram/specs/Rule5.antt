-- Rule 5: when a layer is squashed, and which layer the first squash names the last exact layer.
use Rattle.std.specs.Prelude.{Bool, true, false, ◌&&◌, List, [], ◌∷◌, ℕ, ltb, length}
use Rattle.diagram.specs.Tables.{Range, LastExact, unsquashed, squashed_after, Diagram}
use Rattle.diagram.specs.Run.{Mode, exactly, restricted, relaxing, Settings}
use Rattle.diagram.specs.Rule6.{sort_by, by_squash, Squashed, layer, restrict, relax}

-- 'The first squash names the layer before it the last exact layer.' The layer before it is the newest that is stored.
unfoldable pub name_last : LastExact → List Range → LastExact
name_last (squashed_after l) ls = squashed_after l
name_last unsquashed [] = squashed_after (record { lo = 0; hi = 0 })
name_last unsquashed (l ∷ ls) = squashed_after l

unfoldable pub with_last : Diagram → Diagram
with_last d = record { nodes = d.nodes; edges = d.edges; layers = d.layers; last = name_last d.last d.layers; start = d.start }

unfoldable pub squash_if : Bool → Squashed → Squashed → Squashed
squash_if true r s = r
squash_if false r s = s

-- 'Squash when the layer has more nodes than the width. Restricted: any layer. Relaxed: not when only the root layer is stored.'
unfoldable pub squash : Mode → Settings → List ℕ → Diagram → Squashed
squash exactly s rows d = layer d rows
squash restricted s rows d =
    squash_if (ltb s.width (length rows)) (restrict s (sort_by (by_squash d.nodes) rows) (with_last d)) (layer d rows)
squash relaxing s rows d =
    squash_if (ltb s.width (length rows) && ltb 1 (length d.layers))
    (relax s (sort_by (by_squash d.nodes) rows) (with_last d))
    (layer d rows)
