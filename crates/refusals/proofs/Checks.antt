-- What is given for a record that lies deeper than the items are many, which a caller knows before it asks.
use Rattle.std.proofs.Common.{◌≡◌, ◌<◌, length}
use mathlib.Core.Option.{some}
use borrow.Author.Tests.{lt-ltb}
use Rattle.calls.specs.Asked.{Problem, Given}
use Rattle.calls.specs.Refusals.{first_of, record_checks}

pub too_deep : (p : Problem) (r : Given) → length p.weights < r.depth → some 7 ≡ first_of (record_checks p r)
unfolding first_of record_checks
too_deep p r deep = simp (lt-ltb _ _ deep)
