-- What the verdict on a record says, in the words of the definitions.
use mathlib.Core.Path.{◌≡◌, subst}
use mathlib.Core.Option.{Option}
use Prim.Native.Nat.{ℕ}
use lib.IntN.{ℤ}
use lib.ListN.{take}
use Rattle.calls.specs.Asked.{Problem}
use Rattle.calls.specs.Refusals.{first_of, record_checks}
use Rattle.records.specs.declared.Record.{Record}
use Rattle.records.specs.Structs.{place_from}
use Rattle.searches.specs.Places.{given_at}

-- what the check of refusals 7 to 9 told: the value comes to it as bits, whose number z it is
pub record_told : (p : Problem) (r : Record) (x : Option ℕ) (z : ℤ) → z ≡ r.value → x ≡ first_of (record_checks p (record { capacity = r.capacity; value = z; bound = r.bound; depth = r.depth; path = take r.depth r.path })) → x ≡ first_of (record_checks p (given_at (place_from r)))
unfolding given_at place_from
record_told p r x z e h = subst (λ (v : ℤ). x ≡ first_of (record_checks p (record { capacity = r.capacity; value = v; bound = r.bound; depth = r.depth; path = take r.depth r.path }))) e h
