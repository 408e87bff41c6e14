-- The numbers that the documents give the reasons, 1 to 15, and a result with the number in place of its reason.
use Rattle.std.specs.Prelude.{ℕ, Result, Ok, Err}
use Rattle.reasons.specs.declared.Refusal.{Refusal}
use Rattle.reasons.specs.declared.Refusal.TheVariants.{LengthsDiffer, TooManyItems, PageTooLarge, WeightTooLarge, ProfitTooLarge}
use Rattle.reasons.specs.declared.Refusal.TheVariants.{WidthOutOfRange, DepthMismatch, PathMismatch, RecordMismatch, LayerFull}
use Rattle.reasons.specs.declared.Refusal.TheVariants.{NodesFull, EdgesFull, RecordsFull, NotPickable, NotAJob}

abbrev pub number : Refusal → ℕ
number LengthsDiffer = 1
number TooManyItems = 2
number PageTooLarge = 3
number WeightTooLarge = 4
number ProfitTooLarge = 5
number WidthOutOfRange = 6
number DepthMismatch = 7
number PathMismatch = 8
number RecordMismatch = 9
number LayerFull = 10
number NodesFull = 11
number EdgesFull = 12
number RecordsFull = 13
number NotPickable = 14
number NotAJob = 15

-- what a call answers, where a refusal is its number
abbrev pub numbered : {A : Type 0} → Result A Refusal → Result A ℕ
numbered (Ok a) = Ok a
numbered (Err r) = Err (number r)
