-- 'After the last layer', exactness: 'The diagram is exact if nothing was squashed or, relaxed only, if that walk succeeded.'
use Rattle.std.specs.Prelude.{Bool, true, false, ◌||◌}
use Rattle.diagram.specs.Tables.{LastExact, unsquashed, squashed_after, Diagram}
use Rattle.diagram.specs.Run.{Mode}
use Rattle.diagram.specs.After1.{exact_path}

unfoldable pub never_squashed : LastExact → Bool
never_squashed unsquashed = true
never_squashed (squashed_after l) = false

-- 'A relaxed run without a terminal is exact without a value': its walk succeeds.
unfoldable pub is_exact : Mode → Diagram → Bool
is_exact m d = never_squashed d.last || exact_path m d
