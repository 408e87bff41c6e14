-- A reason is known by its number, which is 1 to 15, and so is a result by its numbered one.
use Rattle.std.proofs.Common.{ℕ, ◌-◌, ◌≡◌, ◌≤◌, List, [], ◌∷◌, get_or, refl, sym, ap, ◌∙◌, lit≤, Result, Ok, Err}
use Rattle.reasons.specs.declared.Refusal.{Refusal}
use Rattle.reasons.specs.declared.Refusal.TheVariants.{LengthsDiffer, TooManyItems, PageTooLarge, WeightTooLarge, ProfitTooLarge}
use Rattle.reasons.specs.declared.Refusal.TheVariants.{WidthOutOfRange, DepthMismatch, PathMismatch, RecordMismatch, LayerFull}
use Rattle.reasons.specs.declared.Refusal.TheVariants.{NodesFull, EdgesFull, RecordsFull, NotPickable, NotAJob}
use Rattle.reasons.specs.Numbers.{number, numbered}

pub numbers_within : (r : Refusal) → (1 ≤ number r) × (number r ≤ 15)
numbers_within LengthsDiffer = (lit≤ tt, lit≤ tt)
numbers_within TooManyItems = (lit≤ tt, lit≤ tt)
numbers_within PageTooLarge = (lit≤ tt, lit≤ tt)
numbers_within WeightTooLarge = (lit≤ tt, lit≤ tt)
numbers_within ProfitTooLarge = (lit≤ tt, lit≤ tt)
numbers_within WidthOutOfRange = (lit≤ tt, lit≤ tt)
numbers_within DepthMismatch = (lit≤ tt, lit≤ tt)
numbers_within PathMismatch = (lit≤ tt, lit≤ tt)
numbers_within RecordMismatch = (lit≤ tt, lit≤ tt)
numbers_within LayerFull = (lit≤ tt, lit≤ tt)
numbers_within NodesFull = (lit≤ tt, lit≤ tt)
numbers_within EdgesFull = (lit≤ tt, lit≤ tt)
numbers_within RecordsFull = (lit≤ tt, lit≤ tt)
numbers_within NotPickable = (lit≤ tt, lit≤ tt)
numbers_within NotAJob = (lit≤ tt, lit≤ tt)

-- the reasons in the order of their numbers
every_reason : List Refusal
every_reason =
    LengthsDiffer ∷ TooManyItems ∷ PageTooLarge ∷ WeightTooLarge ∷ ProfitTooLarge ∷ WidthOutOfRange ∷ DepthMismatch ∷ PathMismatch ∷ RecordMismatch ∷ LayerFull ∷ NodesFull ∷ EdgesFull ∷ RecordsFull ∷ NotPickable ∷ NotAJob ∷ []

reason_of : ℕ → Refusal
reason_of n = get_or every_reason (n - 1) NotAJob

reason_back : (r : Refusal) → reason_of (number r) ≡ r
unfolding reason_of every_reason
reason_back LengthsDiffer = refl
reason_back TooManyItems = refl
reason_back PageTooLarge = refl
reason_back WeightTooLarge = refl
reason_back ProfitTooLarge = refl
reason_back WidthOutOfRange = refl
reason_back DepthMismatch = refl
reason_back PathMismatch = refl
reason_back RecordMismatch = refl
reason_back LayerFull = refl
reason_back NodesFull = refl
reason_back EdgesFull = refl
reason_back RecordsFull = refl
reason_back NotPickable = refl
reason_back NotAJob = refl

pub same_reason : (r s : Refusal) → number r ≡ number s → r ≡ s
same_reason r s e = sym (reason_back r) ∙ ap reason_of e ∙ reason_back s

-- what is answered where nothing is refused
pub numbered_ok : {A : Type 0} (x : Result A Refusal) (a : A) → numbered x ≡ Ok a → x ≡ Ok a
numbered_ok (Ok b) a e = cc
numbered_ok (Err r) a e = cc

pub numbered_err : {A : Type 0} (x : Result A Refusal) (n : ℕ) → numbered x ≡ Err n → (r : Refusal) × (x ≡ Err r) × (number r ≡ n)
numbered_err (Ok b) n e = absurd cc
numbered_err (Err r) n e = (r, refl, cc)
