-- A buffer into which a text was put.
use Rattle.std.specs.Prelude.{◌≡◌, List, ◌++◌, ℕ, ◌+◌, ◌≤◌, length, take, drop, replicate}
use Rattle.page_text.specs.declared.Output.{Output}

-- The text stands from place `at` on, r is the place behind it, and the rest is as before.
pub record Put (text : List ℕ) (at : ℕ) (before : List ℕ) (r : ℕ) (after : List ℕ) : Type 0 where
  pub stands : after ≡ take at before ++ (text ++ drop r before)
  pub behind : r ≡ at + length text
  pub fits : r ≤ length before

-- an output with nothing in it
abbrev pub empty : Output
empty = record { bytes = replicate 671 0; count = 0 }

-- a text put behind the counted bytes of an output
abbrev pub Puts : List ℕ → Output → Output → Type 0
Puts text before after = Put text before.count before.bytes after.count after.bytes
