-- A line's fields, put one after the other, are the line; and the lines of items, put one after the other.
use mathlib.Core.Path.{◌≡◌, sym, ap, ◌∙◌}
use mathlib.Core.Bool.{cond}
use mathlib.Core.List.{List, [], ◌∷◌, ◌++◌, append_assoc, append-nil}
use Prim.Native.Nat.{ℕ, zero, suc, ◌+◌, ◌≤◌, ◌<◌}
use native.Mathlib.Omega.{arith}
use native.Mathlib.Numerals.{add-one}
use lib.ListN.{length, length-append}
use Rattle.numbers.specs.Decimal.{decimal}
use Rattle.jobs.specs.Text.{line, line3, item, TAB, LF}
use Rattle.jobs.specs.Page.{taken, item_lines}
use Rattle.page_text.specs.Put.{Put}
use Rattle.page_text.proofs.Putting.{put_nothing, put_two, length_put}

line_fields : (name value : List ℕ) → (name ++ (TAB ∷ [])) ++ (value ++ (LF ∷ [])) ≡ line name value
unfolding line
line_fields name value = append_assoc name (TAB ∷ []) (value ++ (LF ∷ []))

line3_fields : (name value more : List ℕ) → ((name ++ (TAB ∷ [])) ++ (value ++ (TAB ∷ []))) ++ (more ++ (LF ∷ [])) ≡ line3 name value more
unfolding line3
line3_fields name value more = simp append_assoc

pub put_as_line : (name value : List ℕ) {b m a : List ℕ} {at r q : ℕ} → Put (name ++ (TAB ∷ [])) at b r m → Put (value ++ (LF ∷ [])) r m q a → Put (line name value) at b q a
put_as_line name value first second = rw (line_fields name value) at (put_two first second)

pub put_as_line3 : (name value more : List ℕ) {b m n a : List ℕ} {at r p q : ℕ} → Put (name ++ (TAB ∷ [])) at b r m → Put (value ++ (TAB ∷ [])) r m p n → Put (more ++ (LF ∷ [])) p n q a → Put (line3 name value more) at b q a
put_as_line3 name value more first second third = rw (line3_fields name value more) at (put_two (put_two first second) third)

abbrev item_line : ℕ → List ℕ → List ℕ
item_line d path = line3 item (decimal d) (decimal (cond (taken d path) 1 0))

-- one line more, at the end
items_more : (n d last : ℕ) (path : List ℕ) → last ≡ n + d → item_lines (suc n) d path ≡ item_lines n d path ++ item_line last path
unfolding item_lines
items_more zero d last path e = let here : last ≡ d = omega arith in append-nil (item_line d path) ∙ ap (λ m. item_line m path) (sym here)
items_more (suc n) d last path e =
    let further : last ≡ n + suc d = omega arith in
    ap (λ l. item_line d path ++ l) (items_more n (suc d) last path further) ∙ sym (append_assoc (item_line d path) (item_lines n (suc d) path) (item_line last path))

-- the lines of fewer items are no longer
items_grow : (n more d : ℕ) (path : List ℕ) → n ≤ more → length (item_lines n d path) ≤ length (item_lines more d path)
unfolding item_lines
items_grow zero more d path h = omega arith
items_grow (suc n) zero d path h = absurd (omega arith)
items_grow (suc n) (suc more) d path h =
    let rest = items_grow n more (suc d) path (omega arith) in
    omega (arith, length-append (item_line d path) (item_lines n (suc d) path), length-append (item_line d path) (item_lines more (suc d) path))

-- a turn of the loop over the items: there is room for the line, and it is put behind those before it
module _ (path b : List ℕ) (at d : ℕ) {next : ℕ} {m : List ℕ} (p : Put (item_lines d 0 path) at b next m) (in_path : d < length path) where
  pub item_fits : at + length (item_lines (length path) 0 path) ≤ length b → next + length (item_line d path) ≤ length m
  item_fits room =
      omega (arith, p.behind, length_put p, items_grow (suc d) (length path) 0 path in_path, ap length (items_more d 0 d path (omega arith)), length-append (item_lines d 0 path) (item_line d path))

  pub item_put : {q : ℕ} {a : List ℕ} → Put (item_line d path) next m q a → Put (item_lines (d + 1) 0 path) at b q a
  item_put line-there = rw (add-one, items_more d 0 d path (omega arith)) (put_two p line-there)

-- where that loop starts
pub no_items : (path b : List ℕ) (at : ℕ) → at ≤ length b → Put (item_lines 0 0 path) at b at b
unfolding item_lines
no_items path b at h = put_nothing b at h
