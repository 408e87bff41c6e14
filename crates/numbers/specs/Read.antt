-- What a reading of the code stands for: the number, or none.
use Rattle.std.proofs.Math.Option as Def
use Rattle.std.specs.Prelude.{ℕ, Option, Some, None}

abbrev pub read_of : Option ℕ → Def.Option ℕ
read_of (Some n) = Def.some n
read_of None = Def.none
