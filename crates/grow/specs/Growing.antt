-- What a growth of the code says of a run of the definition, and what each function promises.
use Rattle.std.specs.Prelude.{◌≡◌, Bool, false, ◌&&◌, List, ℕ, ◌*◌, ◌<◌, ◌≤◌, ltb, length, Option, Result, Ok, Err}
use Rattle.diagram.specs.Tables.{Diagram}
use Rattle.diagram.specs.Run as Def
use Rattle.diagram.specs.Run.{exactly, restricted, relaxing, Run, going, stopped, Settings}
use Rattle.diagram.specs.Rule1.{rooted}
use Rattle.diagram.specs.Rule6.{sort_by, by_squash, Squashed, restrict, relax}
use Rattle.layout.specs.Rows.{edge_words, node_words}
use Rattle.layers.specs.declared.Layer.{Layer}
use Rattle.layers.specs.declared.Layers.{Layers}
use Rattle.layers.specs.Stored.{stored, last_of}
use Rattle.reasons.specs.Numbers.{number}
use Rattle.branch.specs.declared.Stop.{Stop}
use Rattle.branch.specs.State.{Said, Going, Stopped, Stepped}
use Rattle.grow.specs.declared.Task.{Task}
use Rattle.grow.specs.declared.Root.{Root}
use Rattle.grow.specs.declared.Growth.{Growth}
use Rattle.grow.specs.Told.{record_of}

-- the root's row is written, or there is none to write it in
pub record RootPushed (room : ℕ) (r : Root) (ns : List ℕ) (step : Said) (ns' : List ℕ) : Type 0 where
  pub does : (s : Settings) (es : List ℕ) → s.node_room ≡ room → Stepped (rooted s (record_of r)) ns es step ns' es

-- rule 5: whether a layer of so many rows is squashed, with so many layers stored
unfoldable pub too_wide : Def.Mode → ℕ → ℕ → ℕ → Bool
too_wide exactly width count layers = false
too_wide restricted width count layers = ltb width count
too_wide relaxing width count layers = ltb width count && ltb 1 layers

-- the squash of a layer that is too wide, its rows given in capacity order; in exact mode no layer is too wide
unfoldable pub squash_wide : Def.Mode → Settings → List ℕ → Diagram → Squashed
squash_wide exactly s rows d = restrict s (sort_by (by_squash d.nodes) rows) d
squash_wide restricted s rows d = restrict s (sort_by (by_squash d.nodes) rows) d
squash_wide relaxing s rows d = relax s (sort_by (by_squash d.nodes) rows) d

-- the stored layers and the last exact layer, as the code holds them, are the diagram's
pub record Shape (layers : Layers) (last : Option Layer) (d : Diagram) : Type 0 where
  pub layers_are : stored layers ≡ d.layers
  pub last_is : last_of last ≡ d.last

-- what the code's growth says of a run: it goes on, or it stopped
abbrev pub step_from : Result Growth Stop → Said
step_from (Ok g) = Going g.counts
step_from (Err s) = Stopped (number s.refusal) s.counts

-- where a run goes on, the coming layer's first row is the diagram's too; of a run that stopped only its step and its tables are told
abbrev pub Reached : Run → Result Growth Stop → Type 0
Reached (going d) (Ok g) = (g.start ≡ d.start) × Shape g.layers g.last d
Reached (going d) (Err s) = Unit {0}
Reached (stopped n d) r = Unit {0}

-- The growth equals the definition's run, in its step, its layers and the tables.
pub record Grew (run : Run) (old_n old_e : List ℕ) (r : Result Growth Stop) (ns es : List ℕ) : Type 0 where
  pub stepped : Stepped run old_n old_e (step_from r) ns es
  pub reached : Reached run r

-- What a growth may count on: a record that is no deeper than its items are many, and rooms within the tables.
pub record Growable (weights : List ℕ) (t : Task) (r : Root) (ns es : List ℕ) : Type 0 where
  pub depth_in : r.depth ≤ length weights
  pub some_width : 0 < t.width
  pub nodes_in : t.rooms.nodes * node_words ≤ length ns
  pub edges_in : t.rooms.edges * edge_words ≤ length es
