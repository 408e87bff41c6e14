-- What an accepted compile of a host has found of the stored layers: all those that the definition answers, which are at most the 65 that its two arrays hold.
use Rattle.std.specs.Prelude.{◌≡◌, List, ◌++◌, map, ℕ, ◌-◌, ◌≤◌, length, replicate}
use Rattle.diagram.specs.Tables.{Range}
use Rattle.calls.specs.Compile.{Request, Lent, Compiled, compiled, compile}
use Rattle.border.specs.declared.Found.{Found}
use Rattle.host.specs.Promises.{CompilesFor}

-- These layers, the first first: for i below `layers`, layer i has the rows from[i] up to, not including, to[i]. The places from `layers` on are 0.
pub record HoldsLayers (found : Found) (layers : List Range) : Type 0 where
  pub counted : found.layers ≡ length layers
  pub few : length layers ≤ 65
  pub from_is : found.from ≡ map (λ r. r.lo) layers ++ replicate (65 - length layers) 0
  pub to_is : found.to ≡ map (λ r. r.hi) layers ++ replicate (65 - length layers) 0

-- 'store its row range': of every call that was accepted, so of each that returned 0, since by `ZeroIsCompiled` this has such a d
abbrev pub HostLayersAreAll : Type 0
HostLayersAreAll =
    (q : Request) (l : Lent) (n : ℕ) (found : Found) (ns es rs : List ℕ) → CompilesFor (compile q l) n found ns es rs →
    (d : Compiled) → (compile q l).answer ≡ compiled d → HoldsLayers found d.layers
