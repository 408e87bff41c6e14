-- A list with others stored from a place on, one after the other; the rest stays.
use mathlib.Core.Path.{◌≡◌, sym, ap, ◌∙◌}
use mathlib.Core.List.{List, [], ◌∷◌, ◌++◌, append_assoc, append-nil}
use Prim.Native.Nat.{ℕ, suc, ◌+◌, ◌<◌}
use native.Mathlib.Omega.{arith}
use lib.ListN.{length, get_or, set, take, drop, length-append, take-append-drop}
use lib.Seq.{drop-cons, set_at, append_snoc, length-take-le}

module _ {A : Type 0} where
  abbrev pub filled : ℕ → List A → List A → List A
  filled at ps old = take at old ++ ps ++ drop (at + length ps) old

  pub filled_none : (at : ℕ) (old : List A) → filled at [] old ≡ old
  filled_none at old = let z : at + 0 ≡ at = omega arith in rw (append-nil, z) (take-append-drop at old)

  pub filled_more : (at : ℕ) (ps old : List A) (p d : A) → at + length ps < length old → set (filled at ps old) (at + length ps) p ≡ filled at (ps ++ (p ∷ [])) old
  filled_more at ps old p d h =
      let k = at + length ps in
      let front = take at old ++ ps in
      let l : length front ≡ k = length-append (take at old) ps ∙ ap (λ (m : ℕ). m + length ps) (length-take-le at old (omega arith)) in
      let z : at + length (ps ++ (p ∷ [])) ≡ suc k = omega (arith, length-append ps (p ∷ [])) in
      rw (drop-cons old k d h, z)
      (set_at front (get_or old k d) (drop (suc k) old) p k l ∙ sym (append_snoc front p (drop (suc k) old)) ∙ ap (λ (q : List A). q ++ drop (suc k) old) (append_assoc (take at old) ps (p ∷ [])))
