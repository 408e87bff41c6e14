-- The three parts of a page, put one behind the other into an array of zeros.
use mathlib.Core.Path.{◌≡◌, sym}
use mathlib.Core.List.{List}
use Prim.Native.Nat.{ℕ, ◌≤◌, ◌<◌}
use native.Mathlib.Omega.{arith}
use lib.IntN.{ℤ}
use lib.ListN.{length, take, replicate}
use Rattle.numbers.specs.Decimal.{decimal}
use Rattle.jobs.specs.Text.{line}
use Rattle.jobs.specs.Page as Words
use Rattle.jobs.specs.Page.{natural, item_lines}
use Rattle.page_text.specs.Page.{page_from}
use Rattle.page_text.specs.Put.{Put}
use Rattle.page_text.specs.Says.{Says}
use Rattle.page_text.proofs.Putting.{put_two, put_says}
use Rattle.page_text.proofs.Counts.{page_short}

module _ (best : ℤ) (path : List ℕ) (n picks : ℕ) (small : natural best < 100000000) (few : n ≤ 64) where
  parts_put : {l m a : List ℕ} {r q p : ℕ} → Put (line Words.best (decimal (natural best))) 0 (replicate 671 0) r l → Put (item_lines n 0 (take n path)) r l q m → Put (line Words.picks (decimal picks)) q m p a → Put (page_from best path n picks) 0 (replicate 671 0) p a
  unfolding page_from
  parts_put head middle tail = put_two (put_two head middle) tail

  -- the value as the code has it, and the number of items as the length of the path's part
  pub page_says : {l m a : List ℕ} {r q p : ℕ} (value : ℕ) → value ≡ natural best → n ≡ length (take n path) → Put (line Words.best (decimal value)) 0 (replicate 671 0) r l → Put (item_lines (length (take n path)) 0 (take n path)) r l q m → Put (line Words.picks (decimal picks)) q m p a → Says (page_from best path n picks) 671 (record { bytes = a; count = p })
  page_says value is many head middle tail =
      let whole = parts_put (rw is at head) (rw (sym many) at middle) tail in
      put_says 671 whole (omega (arith, whole.behind, page_short best path n picks small few))
