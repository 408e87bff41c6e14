-- 'Oracle and job text': the one text that a job has. That a text is that of one job at most is the law `one_job` of job_text/proofs/Accepted.antt.
use Rattle.std.specs.Prelude.{◌≡◌, List, [], ◌∷◌, ◌++◌, ℕ, ◌<◌, ◌≤◌, length}
use Rattle.knapsack.specs.Items.{Item}
use Rattle.diagram.specs.After4.{CutsetKind, last_exact_layer, frontier}
use Rattle.numbers.specs.Decimal.{decimal}

pub record Job : Type 0 where
  pub page : ℕ
  pub width : ℕ
  pub kind : CutsetKind
  pub items : List Item

-- 'Lines end in LF, fields are parted by one tab'
abbrev pub LF : ℕ
LF = 10

abbrev pub TAB : ℕ
TAB = 9

-- the words of a job's text, as ASCII bytes
abbrev pub cap : List ℕ
cap = 99 ∷ 97 ∷ 112 ∷ []

abbrev pub width : List ℕ
width = 119 ∷ 105 ∷ 100 ∷ 116 ∷ 104 ∷ []

abbrev pub cut : List ℕ
cut = 99 ∷ 117 ∷ 116 ∷ []

abbrev pub lel : List ℕ
lel = 108 ∷ 101 ∷ 108 ∷ []

abbrev pub frontier_word : List ℕ
frontier_word = 102 ∷ 114 ∷ 111 ∷ 110 ∷ 116 ∷ 105 ∷ 101 ∷ 114 ∷ []

abbrev pub item : List ℕ
item = 105 ∷ 116 ∷ 101 ∷ 109 ∷ []

-- a line of two fields, and one of three
unfoldable pub line : List ℕ → List ℕ → List ℕ
line name value = name ++ (TAB ∷ value ++ (LF ∷ []))

unfoldable pub line3 : List ℕ → List ℕ → List ℕ → List ℕ
line3 name value more = name ++ (TAB ∷ value ++ (TAB ∷ more ++ (LF ∷ [])))

-- '`cut` with `lel` or `frontier`'
unfoldable pub cut_name : CutsetKind → List ℕ
cut_name last_exact_layer = lel
cut_name frontier = frontier_word

-- 'then any number of `item` weight profit'
unfoldable pub items_text : List Item → List ℕ
items_text [] = []
items_text (i ∷ is) = line3 item (decimal i.weight) (decimal i.profit) ++ items_text is

-- '`cap` C, `width` W, `cut` with `lel` or `frontier`, once each in that order'
unfoldable pub text_of : Job → List ℕ
text_of j = line cap (decimal j.page) ++ line width (decimal j.width) ++ line cut (cut_name j.kind) ++ items_text j.items

-- 'Numbers are decimal, one to nine digits, no sign, no leading zero save 0 itself.'
abbrev pub nine_digits : ℕ
nine_digits = 1000000000

abbrev pub SmallItems : List Item → Type 0
SmallItems [] = Unit {0}
SmallItems (i ∷ is) = (i.weight < nine_digits) × ((i.profit < nine_digits) × SmallItems is)

-- 'Text above 65,535 bytes is outside too.'
abbrev pub most_bytes : ℕ
most_bytes = 65535

-- The text is that of job j, and within the grammar.
pub record IsText (t : List ℕ) (j : Job) : Type 0 where
  pub text_is : t ≡ text_of j
  pub page_small : j.page < nine_digits
  pub width_small : j.width < nine_digits
  pub items_small : SmallItems j.items
  pub short : length t ≤ most_bytes
