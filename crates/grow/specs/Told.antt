-- What a run is told, as the definitions have it: its mode, its settings and the record that its root stands for.
use Rattle.std.specs.Prelude.{[]}
use Rattle.diagram.specs.Record.{Record}
use Rattle.diagram.specs.Run as Def
use Rattle.diagram.specs.Run.{exactly, restricted, relaxing, Settings}
use Rattle.grow.specs.declared.Mode.{Mode}
use Rattle.grow.specs.declared.Mode.TheVariants.{Exact, Restricted, Relaxed}
use Rattle.grow.specs.declared.Task.{Task}
use Rattle.grow.specs.declared.Root.{Root}

abbrev pub mode_of : Mode → Def.Mode
mode_of Exact = exactly
mode_of Restricted = restricted
mode_of Relaxed = relaxing

abbrev pub settings_of : Task → Settings
settings_of t = record { mode = mode_of t.mode; width = t.width; lower = t.lower; node_room = t.rooms.nodes; edge_room = t.rooms.edges }

-- A record's bound and path don't enter the growth of its diagram.
abbrev pub record_of : Root → Record
record_of r = record { capacity = r.capacity; value = r.value; bound = 0; depth = r.depth; path = [] }
