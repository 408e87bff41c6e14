-- What `replace` asks of the calls that remove a record and append others, and what they make of the list.
use mathlib.Core.Path.{◌≡◌}
use mathlib.Core.List.{List}
use Prim.Native.Nat.{ℕ, ◌+◌, ◌-◌, ◌*◌, ◌<◌, ◌≤◌}
use native.Mathlib.Omega.{arith}
use lib.ListN.{length}
use Rattle.layout.specs.Records.{record_words}
use Rattle.records.specs.declared.Record.{Record}
use Rattle.records.specs.Structs.{places}
use Rattle.records.specs.Moves.{Removed, Appended}
use Rattle.records.proofs.Places.{places_length}
use Rattle.records.proofs.Lists.{appended_over}
use Rattle.searches.specs.Places.{Place}
use Rattle.pick_steps.specs.declared.Change.{Change}
use Rattle.pick_steps.specs.Changed.{added_from, Replaceable, replaced}

module _ (place : ℕ) (c : Change) (scratch : List ℕ) (ys : List Record) (can : Replaceable place c scratch (places ys)) where
  abbrev added : List Place
  added = added_from c.search.best c.drained scratch

  pub removable : (place < c.opened) × (c.opened ≤ length ys)
  removable = (can.is_open, omega (arith, can.listed, places_length ys))

  pub appendable : (zs : List Record) → length zs ≡ length ys → (c.drained * record_words ≤ length scratch) × (c.opened - 1 + length added ≤ length zs)
  appendable zs e = (can.there, omega (arith, can.room, places_length ys))

  pub replaced_by : (zs us : List Record) (count : ℕ) → Removed place c.opened (places ys) (places zs) → Appended (c.opened - 1) added (places zs) count (places us) → places us ≡ replaced place c scratch (places ys)
  replaced_by zs us count r a = (appended_over place c.opened added (places ys) (places zs) (places us) count can.is_open can.listed r a).1
