-- Rule 1: 'Row 0 is the root', and what a new row holds.
use Rattle.std.specs.Prelude.{true, [], ◌∷◌, ltb}
use Rattle.diagram.specs.Record.{Record}
use Rattle.diagram.specs.Node.{fresh}
use Rattle.diagram.specs.Tables.{Diagram, unsquashed}
use Rattle.diagram.specs.Run.{Settings, Run, going, need}

-- 'Row 0 is the root', with 'the record's value'; 'Root and children of exact nodes start exact.'
unfoldable pub root_only : Record → Diagram
root_only r = record { nodes = fresh r.capacity r.depth r.value true ∷ []; edges = []; layers = []; last = unsquashed; start = 0 }

-- before the root: no row is written
abbrev pub blank : Diagram
blank = record { nodes = []; edges = []; layers = []; last = unsquashed; start = 0 }

-- The root needs a node row like any other: 11 where none is lent.
unfoldable pub rooted : Settings → Record → Run
rooted s r = need (ltb 0 s.node_room) 11 blank (going (root_only r))
