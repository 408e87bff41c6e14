-- The lengths of the parts of an answer, and of the longest one.
use mathlib.Core.Path.{◌≡◌, refl}
use mathlib.Core.Bool.{Bool, true, false, cond}
use mathlib.Core.List.{List}
use Prim.Native.Nat.{ℕ, zero, suc, ◌+◌, ◌-◌, ◌*◌, ◌/◌, ◌^◌, ◌≤◌, ◌<◌, min}
use native.Mathlib.Omega.{arith}
use native.Mathlib.Decide.{dec_le}
use lib.IntN.{ℤ}
use lib.ListN.{length, take, length-append}
use borrow.Author.Tests.{lt-ltb, le-ltb}
use Rattle.knapsack.specs.Items.{takes}
use Rattle.numbers.specs.Decimal.{digits_in, decimal}
use Rattle.jobs.specs.Text.{line, line3, item}
use Rattle.jobs.specs.Page as Words
use Rattle.jobs.specs.Page.{natural, taken, item_lines, page_of}
use Rattle.page_text.specs.Page.{page_from, PageOfSearch, LongestPage, LongestReached}

-- A number below 10 ^ j has j digits at most, and no number has more than 20.
digits_few : (k j n : ℕ) → 0 < j → n < 10 ^ j → length (digits_in k n) ≤ j
unfolding digits_in
digits_few zero j n some h = omega arith
digits_few (suc k) zero n some h = absurd (omega arith)
digits_few (suc k) (suc zero) n some h = let small : n < 10 = omega arith in rw (lt-ltb n 10 small) (omega arith)
digits_few (suc k) (suc (suc j)) n some h =
    elim (dec_le 10 n) [
      | yes large ↦
          let before = digits_few k (suc j) (n / 10) (omega arith) (omega arith) in
          rw (le-ltb n 10 large) (simp length-append (omega arith))
      | no few ↦ let small : n < 10 = omega arith in rw (lt-ltb n 10 small) (omega arith)
    ]

digits_most : (k n : ℕ) → length (digits_in k n) ≤ k
unfolding digits_in
digits_most zero n = omega arith
digits_most (suc k) n =
    elim (dec_le 10 n) [
      | yes large ↦ let before = digits_most k (n / 10) in rw (le-ltb n 10 large) (simp length-append (omega arith))
      | no few ↦ let small : n < 10 = omega arith in rw (lt-ltb n 10 small) (omega arith)
    ]

pub decimal_below : (j n : ℕ) → 0 < j → n < 10 ^ j → length (decimal n) ≤ j
unfolding decimal
decimal_below j n some h = digits_few 20 j n some h

pub decimal_most : (n : ℕ) → length (decimal n) ≤ 20
unfolding decimal
decimal_most n = digits_most 20 n

-- the lengths of lines
pub length_line : (name value : List ℕ) → length (line name value) ≡ length name + 1 + (length value + 1)
unfolding line
length_line name value = simp length-append (omega arith)

pub length_line3 : (name value more : List ℕ) → length (line3 name value more) ≡ length name + 1 + (length value + 1) + (length more + 1)
unfolding line3
length_line3 name value more = simp length-append (omega arith)

-- 1 or 0 is one digit
mark_short : (t : Bool) → length (decimal (cond t 1 0)) ≤ 1
mark_short true = decimal_below 1 1 (omega arith) (omega arith)
mark_short false = decimal_below 1 0 (omega arith) (omega arith)

-- an item's line has 9 bytes before item 10, and 10 from there on
item_below_ten : (d : ℕ) (path : List ℕ) → d < 10 → length (line3 item (decimal d) (decimal (cond (taken d path) 1 0))) ≤ 9
item_below_ten d path h =
    let number : length (decimal d) ≤ 1 = decimal_below 1 d (omega arith) (omega arith) in
    let mark = mark_short (taken d path) in
    rw (length_line3 item (decimal d) (decimal (cond (taken d path) 1 0))) (omega arith)

item_below_hundred : (d : ℕ) (path : List ℕ) → d < 100 → length (line3 item (decimal d) (decimal (cond (taken d path) 1 0))) ≤ 10
item_below_hundred d path h =
    let number : length (decimal d) ≤ 2 = decimal_below 2 d (omega arith) (omega arith) in
    let mark = mark_short (taken d path) in
    rw (length_line3 item (decimal d) (decimal (cond (taken d path) 1 0))) (omega arith)

-- ten bytes a line, less one for each item before item 10
pub items_short : (n d : ℕ) (path : List ℕ) → n + d ≤ 100 → length (item_lines n d path) + min n (10 - d) ≤ 10 * n
unfolding item_lines
items_short zero d path h = omega arith
items_short (suc n) d path h =
    let rest = items_short n (suc d) path (omega arith) in
    elim (dec_le 10 d) [
      | yes late ↦ let one = item_below_hundred d path (omega arith) in simp length-append (omega arith)
      | no early ↦ let one = item_below_ten d path (omega arith) in simp length-append (omega arith)
    ]

pub page_of_search : PageOfSearch
unfolding page_of page_from
page_of_search n s = refl

pub best_short : (x : ℕ) → x < 100000000 → length (line Words.best (decimal x)) ≤ 14
best_short x h =
    let digits : length (decimal x) ≤ 8 = decimal_below 8 x (omega arith) (omega arith) in
    rw (length_line Words.best (decimal x)) (omega arith)

pub items_most : (n : ℕ) (path : List ℕ) → n ≤ 64 → length (item_lines n 0 path) ≤ 630
items_most n path h = omega (arith, items_short n 0 path (omega arith))

pub picks_short : (x : ℕ) → length (line Words.picks (decimal x)) ≤ 27
picks_short x = let digits = decimal_most x in rw (length_line Words.picks (decimal x)) (omega arith)

pub refusal_short : (x : ℕ) → length (line Words.refused_word (decimal x)) ≤ 29
refusal_short x = let digits = decimal_most x in rw (length_line Words.refused_word (decimal x)) (omega arith)

pub page_short : (best : ℤ) (path : List ℕ) (n picks : ℕ) → natural best < 100000000 → n ≤ 64 → length (page_from best path n picks) ≤ 671
unfolding page_from
page_short best path n picks small few =
    let head = best_short (natural best) small in
    let middle = items_most n (take n path) few in
    let tail = picks_short picks in
    simp length-append (omega arith)

pub longest_page : LongestPage
longest_page n s few small = rw (page_of_search n s) (page_short s.best s.path n s.picks small few)

pub longest_reached : LongestReached
unfolding page_of line line3 item_lines natural taken takes decimal digits_in
longest_reached = refl
