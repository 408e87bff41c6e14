-- A run that stopped says nothing of its layers, so its step alone is a growth of it.
use mathlib.Core.List.{List}
use Prim.Native.Nat.{ℕ}
use Rattle.std.specs.Prelude.{Err}
use Rattle.diagram.specs.Run.{Run, going, stopped}
use Rattle.reasons.specs.Numbers.{number}
use Rattle.branch.specs.declared.Stop.{Stop}
use Rattle.branch.specs.State.{Stopped, Stepped}
use Rattle.grow.specs.Growing.{Grew}

pub stopped_grew : (run : Run) (old_n old_e : List ℕ) (stop : Stop) (ns es : List ℕ) → Stepped run old_n old_e (Stopped (number stop.refusal) stop.counts) ns es → Grew run old_n old_e (Err stop) ns es
stopped_grew (going d) old_n old_e stop ns es st = record { stepped = st; reached = tt }
stopped_grew (stopped n d) old_n old_e stop ns es st = record { stepped = st; reached = tt }
