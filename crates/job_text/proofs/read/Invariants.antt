-- `job_text::read`: the reader has read the bytes that were passed.
use Rattle.std.proofs.Common.{take}
use Rattle.job_text.specs.Kept.{HasRead}
use Rattle.job_text.proofs.read.Given as goal

abbrev pub invariant-loop-byte : goal.invariant-loop-byte
invariant-loop-byte l = HasRead (take l.byte-index l.text) l.r
