-- A layer more leaves those below it alone; the last exact layer is the newest one at the first squash.
use Rattle.std.proofs.Common.{ℕ, zero, suc, ◌≡◌, ◌+◌, ◌-◌, ◌<◌, ◌≤◌, List, ◌∷◌, length, get_or, set, Option, Some, None, refl, arith, get_or-set_same, get_or-set_other}
use Rattle.diagram.specs.Tables.{Range}
use Rattle.diagram.specs.Rule5.{name_last}
use Rattle.layers.specs.declared.Layer.{Layer}
use Rattle.layers.specs.declared.Layers.{Layers}
use Rattle.layers.specs.Layer.{no_layer}
use Rattle.layers.specs.Stored.{range_of, first_ones, stored, last_of}

below_kept : (rows : List Layer) (k : ℕ) (x : Layer) (n : ℕ) → n ≤ k → first_ones (set rows k x) n ≡ first_ones rows n
unfolding first_ones
below_kept rows k x zero h = refl
below_kept rows k x (suc n) h = rw (get_or-set_other rows k n x no_layer (omega arith), below_kept rows k x n (omega arith))

pub one_more : (rows : List Layer) (k : ℕ) (x : Layer) → k < length rows → first_ones (set rows k x) (k + 1) ≡ range_of x ∷ first_ones rows k
unfolding first_ones
one_more rows k x h = let e : k + 1 ≡ suc k = omega arith in
    rw (e, get_or-set_same rows k x no_layer h, below_kept rows k x k (omega arith))

-- the newest stored layer
newest_is : (rows : List Layer) (n : ℕ) → 0 < n → first_ones rows n ≡ range_of (get_or rows (n - 1) no_layer) ∷ first_ones rows (n - 1)
unfolding first_ones
newest_is rows zero h = absurd (omega arith)
newest_is rows (suc n) h = let e : suc n - 1 ≡ n = omega arith in rw e refl

-- ---- the last exact layer

-- it is named once
pub named_once : (last : Option Layer) (l : Layer) (ls : List Range) → last ≡ Some l → last_of last ≡ name_last (last_of last) ls
unfolding name_last
named_once last l ls e = rw e refl

pub named_none : (l : Layers) (last : Option Layer) → last ≡ None → l.count ≡ 0 → last_of (Some no_layer) ≡ name_last (last_of last) (stored l)
unfolding name_last stored first_ones
named_none l last e z = rw (e, z) refl

pub named_newest : (l : Layers) (last : Option Layer) (newest : Layer) → last ≡ None → newest ≡ get_or l.rows (l.count - 1) no_layer → 0 < l.count → last_of (Some newest) ≡ name_last (last_of last) (stored l)
unfolding name_last stored
named_newest l last newest e n h = rw (e, n, newest_is l.rows l.count h) refl
