-- What an answer of the code says of a refusal: document 01's number, or none.
use Rattle.std.proofs.Math.Option.{Option, none, some}
use Rattle.std.specs.Prelude.{◌≡◌, List, ℕ, Result, Ok, Err, IfOk}
use Rattle.blocks.specs.declared.Items.{Items}
use Rattle.reasons.specs.declared.Refusal.{Refusal}
use Rattle.reasons.specs.Numbers.{number}

-- 'the first that applies is given, never otherwise'
abbrev pub refusal_of : {A : Type 0} → Result A Refusal → Option ℕ
refusal_of (Ok a) = none
refusal_of (Err r) = some (number r)

-- what passed its checks is the items that were checked
abbrev pub Checked : List ℕ → List ℕ → Result Items Refusal → Type 0
Checked weights profits r = IfOk r (λ items. (items.weights.now ≡ weights) × (items.profits.now ≡ profits))
