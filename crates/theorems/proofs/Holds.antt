-- What holds of the tables that a run leaves where it was not refused, and how that is shown step by step.
use mathlib.Core.Path.{◌≡◌, refl}
use mathlib.Core.Bool.{Bool, true, false}
use mathlib.Core.List.{List}
use Prim.Native.Nat.{ℕ}
use Rattle.diagram.specs.Rule5.{squash_if}
use Rattle.diagram.specs.Rule6.{Squashed, layer, halted, squash_need}
use Rattle.diagram.specs.Run.{Run, going, stopped, and_then, need, only_if}
use Rattle.diagram.specs.Tables.{Diagram}

-- P of the tables that a run leaves, where it was not refused
pub data Holds (P : Diagram → Type 0) : Run → Type 0 where
  held : {d : Diagram} → P d → Holds P (going d)
  void : {n : ℕ} {d : Diagram} → Holds P (stopped n d)

pub then_holds : {P Q : Diagram → Type 0} {r : Run} (f : Diagram → Run) → Holds P r → ((d : Diagram) → P d → Holds Q (f d)) → Holds Q (and_then r f)
then_holds f (held {d = d} p) k = k d p
then_holds f void k = void

pub need_holds : {P : Diagram → Type 0} (b : Bool) (n : ℕ) (d : Diagram) (r : Run) → (b ≡ true → Holds P r) → Holds P (need b n d r)
unfolding need
need_holds true n d r f = f refl
need_holds false n d r f = void

pub only_holds : {P : Diagram → Type 0} (b : Bool) (r : Run) (d : Diagram) → (b ≡ true → Holds P r) → (b ≡ false → P d) → Holds P (only_if b r d)
unfolding only_if
only_holds true r d f g = f refl
only_holds false r d f g = held (g refl)

pub holds_map : {P Q : Diagram → Type 0} {r : Run} → ((d : Diagram) → P d → Q d) → Holds P r → Holds Q r
holds_map f (held {d = d} p) = held (f d p)
holds_map f void = void

pub held_inv : {P : Diagram → Type 0} {d : Diagram} → Holds P (going d) → P d
held_inv (held p) = p

-- the same of what a squash leaves: the tables and the rows to expand
pub data SquashHolds (P : Diagram → List ℕ → Type 0) : Squashed → Type 0 where
  settled : {d : Diagram} {l : List ℕ} → P d l → SquashHolds P (layer d l)
  halts : {n : ℕ} {d : Diagram} → SquashHolds P (halted n d)

pub squash_need_holds : {P : Diagram → List ℕ → Type 0} (b : Bool) (n : ℕ) (d : Diagram) (x : Squashed) → SquashHolds P x → SquashHolds P (squash_need b n d x)
unfolding squash_need
squash_need_holds true n d x p = p
squash_need_holds false n d x p = halts

pub squash_if_holds : {P : Diagram → List ℕ → Type 0} (b : Bool) (x y : Squashed) → (b ≡ true → SquashHolds P x) → (b ≡ false → SquashHolds P y) → SquashHolds P (squash_if b x y)
unfolding squash_if
squash_if_holds true x y p q = p refl
squash_if_holds false x y p q = q refl

pub squash_map : {P Q : Diagram → List ℕ → Type 0} {x : Squashed} → ((d : Diagram) (l : List ℕ) → P d l → Q d l) → SquashHolds P x → SquashHolds Q x
squash_map f (settled {d = d} {l = l} p) = settled (f d l p)
squash_map f halts = halts
