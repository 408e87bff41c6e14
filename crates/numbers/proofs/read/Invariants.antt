-- `numbers::read` meets its contract. The invariant: the bytes that are left, behind the number that was read, make the number of the whole.
use Rattle.std.proofs.Common.{◌≡◌, drop}
use mathlib.Core.Option.{some}
use Rattle.numbers.specs.Decimal.{push_all, number_of}
use Rattle.numbers.proofs.read.Given as goal

abbrev pub invariant-loop-byte : goal.invariant-loop-byte
invariant-loop-byte l = push_all (drop l.byte-index l.text) (some l.value) ≡ number_of l.text
