-- The first row of a table that applies: there is one at most, none where the table is clear; tables one behind the other; an answer as its table tells it.
use mathlib.Core.Path.{◌≡◌, refl, ap, subst}
use mathlib.Core.List.{List, [], ◌∷◌, ◌++◌}
use mathlib.Core.Logic.{◌≢◌, ◌⊎◌, inl, inr, ⊎_elim}
use Prim.Native.Nat.{ℕ, ◌≤◌}
use Rattle.calls.specs.Table.{Row, First, here, later, Clear, end, past}

-- 'the first that applies': no two numbers are
pub first_unique : {rs : List Row} {n m : ℕ} → First rs n → First rs m → n ≡ m
first_unique (here p) (here q) = refl
first_unique (here p) (later q g) = absurd (q p)
first_unique (later p f) (here q) = absurd (p q)
first_unique (later p f) (later q g) = first_unique f g

pub first_not_clear : {rs : List Row} {n : ℕ} → First rs n → Clear rs → ⊥
first_not_clear (here p) (past q c) = q p
first_not_clear (later p f) (past q c) = first_not_clear f c

pub first_in_front : {rs : List Row} (ts : List Row) {n : ℕ} → First rs n → First (rs ++ ts) n
first_in_front ts (here p) = here p
first_in_front ts (later p f) = later p (first_in_front ts f)

pub first_behind : {rs ts : List Row} {n : ℕ} → Clear rs → First ts n → First (rs ++ ts) n
first_behind end f = f
first_behind (past p c) f = later p (first_behind c f)

-- of two tables, one behind the other, it is in one
pub first_either : (rs : List Row) {ts : List Row} {n : ℕ} → First (rs ++ ts) n → First rs n ⊎ First ts n
first_either [] f = inr f
first_either (r ∷ rs) (here p) = inl (here p)
first_either (r ∷ rs) (later p f) = ⊎_elim (λ g. inl (later p g)) inr (first_either rs f)

pub clear_both : {rs ts : List Row} → Clear rs → Clear ts → Clear (rs ++ ts)
clear_both end d = d
clear_both (past p c) d = past p (clear_both c d)

-- the numbers of a table's rows lie between two
abbrev pub Between : ℕ → ℕ → List Row → Type 0
Between lo hi [] = Unit {0}
Between lo hi (r ∷ rs) = (lo ≤ r.number) × (r.number ≤ hi) × Between lo hi rs

pub first_between : {rs : List Row} {n : ℕ} (lo hi : ℕ) → Between lo hi rs → First rs n → (lo ≤ n) × (n ≤ hi)
first_between lo hi b (here p) = (b.0, b.1)
first_between lo hi b (later p f) = first_between lo hi b.2 f

-- ---- an answer as the table tells it: the number of the first row that applies, or no number where none does

pub data Told {A : Type 0} (refuse : ℕ → A) (rs : List Row) : A → Type 1 where
  told_number : {n : ℕ} → First rs n → Told refuse rs (refuse n)
  told_clear : {a : A} → ((n : ℕ) → a ≢ refuse n) → Clear rs → Told refuse rs a

-- so a number is given exactly if it is that of the first row that applies
pub told_exactly : {A : Type 0} {refuse : ℕ → A} {rs : List Row} {a : A} → ((i j : ℕ) → refuse i ≡ refuse j → i ≡ j) → Told refuse rs a → (n : ℕ) → (a ≡ refuse n → First rs n) × (First rs n → a ≡ refuse n)
told_exactly {refuse = refuse} {rs = rs} same (told_number {n = k} f) n = ((λ e. subst (λ (i : ℕ). First rs i) (same k n e) f), (λ g. ap refuse (first_unique f g)))
told_exactly same (told_clear h c) n = ((λ e. absurd (h n e)), (λ g. absurd (first_not_clear g c)))

-- and none exactly if no row applies
pub told_none : {A : Type 0} {refuse : ℕ → A} {rs : List Row} {a : A} → Told refuse rs a → (((n : ℕ) → a ≢ refuse n) → Clear rs) × (Clear rs → (n : ℕ) → a ≢ refuse n)
told_none (told_number {n = k} f) = ((λ h. absurd (h k refl)), (λ c. absurd (first_not_clear f c)))
told_none (told_clear h c) = ((λ _. c), (λ _. h))
