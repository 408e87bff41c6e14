-- `records::read_path`: the first i bytes are those of the words.
use Rattle.std.proofs.Common.{◌≡◌, ℕ, ◌+◌, ◌%◌, ◌<◌, length, get_or}
use Rattle.records.proofs.read_path.Given as goal

abbrev pub invariant-loop-i : goal.invariant-loop-i
invariant-loop-i l = (length l.path ≡ 64) × ((j : ℕ) → j < l.i → get_or l.path j 0 ≡ get_or l.words (l.from + j) 0 % 256)
