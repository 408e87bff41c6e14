-- A value of the code is known by the layers that it stands for: its places past them hold none.
use Rattle.std.proofs.Common.{ℕ, zero, suc, ◌≡◌, ◌-◌, ◌≤◌, List, [], ◌∷◌, ◌++◌, length, get_or, take, map, reverse, refl, sym, ap, ◌∙◌, subst, arith, append_assoc, append-nil}
use Rattle.std.proofs.Math.ListN.{replicate}
use Rattle.std.proofs.Math.Seq.{take-suc}
use Rattle.std.proofs.lemmas.List.{length-take-le, take_all}
use Rattle.std.specs.Coded.{le_prop}
use Rattle.std.proofs.Math.Nat.{ℕ_set}
use mathlib.Core.List.{reverse_aux}
use Rattle.diagram.specs.Tables.{Range}
use Rattle.layers.specs.declared.Layer.{Layer}
use Rattle.layers.specs.declared.Layers.{Layers}
use Rattle.layers.specs.Layer.{no_layer}
use Rattle.layers.specs.Places.{held, places}
use Rattle.layers.specs.Stored.{range_of, layer_of, first_ones, stored, layers_from}

-- the stored layers, oldest first, are the array's first places
firsts : (rows : List Layer) (n : ℕ) (rs : List Range) → n ≤ length rows → map layer_of (reverse_aux (first_ones rows n) rs) ≡ take n rows ++ map layer_of rs
unfolding first_ones
firsts rows zero rs h = refl
firsts rows (suc n) rs h =
    firsts rows n (range_of (get_or rows n no_layer) ∷ rs) (omega arith)
    ∙ sym (append_assoc (take n rows) (get_or rows n no_layer ∷ []) (map layer_of rs))
    ∙ ap (λ (xs : List Layer). xs ++ map layer_of rs) (sym (take-suc rows n no_layer (omega arith)))

-- ---- an array that holds no layer past its first places

none_from : (rows : List Layer) → ((i : ℕ) → get_or rows i no_layer ≡ no_layer) → rows ≡ replicate (length rows) no_layer
none_from [] h = refl
none_from (x ∷ xs) h =
    let a : x ≡ no_layer = h 0 in
    let b : xs ≡ replicate (length xs) no_layer = none_from xs (λ i. h (suc i)) in
    cc

clear_behind : (rows : List Layer) (n : ℕ) → n ≤ length rows → ((i : ℕ) → n ≤ i → get_or rows i no_layer ≡ no_layer) → rows ≡ take n rows ++ replicate (length rows - n) no_layer
clear_behind rows zero l h = let e : length rows - 0 ≡ length rows = omega arith in rw e (none_from rows (λ i. h i (omega arith)))
clear_behind [] (suc n) l h = absurd (omega arith)
clear_behind (x ∷ xs) (suc n) l h = ap (λ (ys : List Layer). x ∷ ys) (clear_behind xs n (omega arith) (λ i k. h (suc i) (omega arith)) ∙ ap (λ (m : ℕ). take n xs ++ replicate m no_layer) e)
  where
    e : length xs - n ≡ length (x ∷ xs) - suc n
    e = omega arith

-- ---- the whole value

rows_are : (l : Layers) (ls : List Layer) → ls ≡ take l.count l.rows → l.rows ≡ places ls
rows_are l ls e =
    let n : length (take l.count l.rows) ≡ l.count = length-take-le l.count l.rows (omega (arith, l.sized, l.few)) in
    let q : take 65 (take l.count l.rows) ≡ take l.count l.rows = take_all 65 (take l.count l.rows) (omega (arith, l.few)) in
    rw (e, q, n) (clear_behind l.rows l.count (omega (arith, l.sized, l.few)) l.clear ∙ ap (λ (m : ℕ). take l.count l.rows ++ replicate (m - l.count) no_layer) l.sized)

count_is : (l : Layers) (ls : List Layer) → ls ≡ take l.count l.rows → l.count ≡ length (held ls)
count_is l ls e =
    let n : length (take l.count l.rows) ≡ l.count = length-take-le l.count l.rows (omega (arith, l.sized, l.few)) in
    let q : take 65 (take l.count l.rows) ≡ take l.count l.rows = take_all 65 (take l.count l.rows) (omega (arith, l.few)) in
    rw (e, q) (sym n)

-- values with the same rows and the same count are the same: what they promise has one proof
abbrev Clear : List Layer → ℕ → Type 0
Clear rows n = (i : ℕ) → n ≤ i → get_or rows i no_layer ≡ no_layer

sized-prop : (rows : List Layer) → IsProp (length rows ≡ 65)
sized-prop rows = hlevel ℕ_set

few-prop : (n : ℕ) → IsProp (n ≤ 65)
few-prop n = hlevel le_prop

clear-prop : (rows : List Layer) (n : ℕ) → IsProp (Clear rows n)
clear-prop rows n = hlevel ℕ_set

by_fields : (l m : Layers) → l.rows ≡ m.rows → l.count ≡ m.count → l ≡ m
by_fields l m a b = at-rows m.rows a m.count b m.sized m.few m.clear
  where
    at-both : (s : length l.rows ≡ 65) (f : l.count ≤ 65) (c : Clear l.rows l.count) → l ≡ record { rows = l.rows; count = l.count; sized = s; few = f; clear = c }
    at-both s f c = λ i. record { rows = l.rows; count = l.count; sized = sized-prop l.rows l.sized s i; few = few-prop l.count l.few f i; clear = clear-prop l.rows l.count l.clear c i }

    at-count : (n : ℕ) → l.count ≡ n → (s : length l.rows ≡ 65) (f : n ≤ 65) (c : Clear l.rows n) → l ≡ record { rows = l.rows; count = n; sized = s; few = f; clear = c }
    at-count n e = subst (λ (n : ℕ). (s : length l.rows ≡ 65) (f : n ≤ 65) (c : Clear l.rows n) → ◌≡◌ {A = Layers} l (record { rows = l.rows; count = n; sized = s; few = f; clear = c })) e at-both

    at-rows : (rows : List Layer) → l.rows ≡ rows → (n : ℕ) → l.count ≡ n → (s : length rows ≡ 65) (f : n ≤ 65) (c : Clear rows n) → l ≡ record { rows = rows; count = n; sized = s; few = f; clear = c }
    at-rows rows e n q = subst (λ (rows : List Layer). (s : length rows ≡ 65) (f : n ≤ 65) (c : Clear rows n) → ◌≡◌ {A = Layers} l (record { rows = rows; count = n; sized = s; few = f; clear = c })) e (at-count n q)

pub as_stored : (l : Layers) → l ≡ layers_from (reverse (stored l))
unfolding stored
as_stored l =
    let e : map layer_of (reverse (stored l)) ≡ take l.count l.rows = firsts l.rows l.count [] (omega (arith, l.sized, l.few)) ∙ append-nil (take l.count l.rows) in
    by_fields l (layers_from (reverse (stored l))) (rows_are l _ e) (count_is l _ e)
