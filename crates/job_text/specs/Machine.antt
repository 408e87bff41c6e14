-- The reader of a job's text as a machine of one step a byte. It keeps every item.
use Rattle.std.specs.Prelude.{Bool, true, false, cond, ◌&&◌, List, [], ◌∷◌, ◌++◌, ℕ, ◌+◌, ◌-◌, ◌*◌, eqb, ltb, length, get_or}
use Rattle.knapsack.specs.Items.{Item}
use Rattle.numbers.specs.Decimal.{is_digit}
use Rattle.jobs.specs.Text.{LF, TAB, cap, width, cut, lel, frontier_word, item, nine_digits}
use Rattle.cutset.specs.declared.Kind.TheVariants.{LastExactLayer, Frontier as FrontierKind}
use Rattle.job_text.specs.declared.Part.{Part}
use Rattle.job_text.specs.declared.Part.TheVariants.{CapWord, Page, WidthWord, Width, CutWord, Choice, Lel, Frontier, ItemWord, Weight, Profit, Fault}
use Rattle.job_text.specs.declared.Place.{Place}
use Rattle.job_text.specs.declared.Head.{Head}

abbrev pub place : Part → ℕ → ℕ → Place
place part at number = record { part = part; at = at; number = number }

-- the place from which no byte leads on
abbrev pub faulted : Place
faulted = place Fault 0 0

-- one letter of a word, behind which `then` follows
unfoldable pub spelled_of : Place → ℕ → List ℕ → Part → Place
spelled_of p b word then =
    cond
    (ltb p.at (length word) && eqb (get_or word p.at 0) b)
    (cond (ltb (p.at + 1) (length word)) (place p.part (p.at + 1) p.number) (place then 0 p.number))
    faulted

-- 'one to nine digits, no leading zero save 0 itself': one digit more
unfoldable pub grown : Place → ℕ → Place
grown p d =
    cond
    (eqb p.at 0)
    (place p.part 1 d)
    (cond (eqb p.number 0) faulted (cond (ltb (p.number * 10 + d) nine_digits) (place p.part 1 (p.number * 10 + d)) faulted))

-- one byte more of a number; 48 is the digit 0
unfoldable pub pushed_of : Place → ℕ → Place
pushed_of p b = cond (is_digit b) (grown p (b - 48)) faulted

-- the end of a number, which has a digit at least
unfoldable pub closed_of : Place → Part → Place
closed_of p then = cond (eqb p.at 0) faulted (place then 0 p.number)

-- one byte of a number, behind which comes the byte `end` and `then` follows
unfoldable pub counted_of : Place → ℕ → ℕ → Part → Place
counted_of p b end then = cond (eqb b end) (closed_of p then) (pushed_of p b)

-- the first letter of the cutset's name: 108 is l, 102 is f
unfoldable pub chosen_of : Place → ℕ → Place
chosen_of p b = cond (eqb b 108) (place Lel 1 p.number) (cond (eqb b 102) (place Frontier 1 p.number) faulted)

-- The grammar: what each part is, and which part follows it.
unfoldable pub next_from : Part → Place → ℕ → Place
next_from CapWord p b = spelled_of p b (cap ++ (TAB ∷ [])) Page
next_from Page p b = counted_of p b LF WidthWord
next_from WidthWord p b = spelled_of p b (width ++ (TAB ∷ [])) Width
next_from Width p b = counted_of p b LF CutWord
next_from CutWord p b = spelled_of p b (cut ++ (TAB ∷ [])) Choice
next_from Choice p b = chosen_of p b
next_from Lel p b = spelled_of p b (lel ++ (LF ∷ [])) ItemWord
next_from Frontier p b = spelled_of p b (frontier_word ++ (LF ∷ [])) ItemWord
next_from ItemWord p b = spelled_of p b (item ++ (TAB ∷ [])) Weight
next_from Weight p b = counted_of p b TAB Profit
next_from Profit p b = counted_of p b LF ItemWord
next_from Fault p b = p

unfoldable pub next_of : Place → ℕ → Place
next_of p b = next_from p.part p b

-- what a part's number, or its name of a cutset, is kept as
unfoldable pub head_of : Part → ℕ → Head → Head
head_of CapWord n h = h
head_of Page n h = record { page = n; width = h.width; kind = h.kind; weight = h.weight }
head_of WidthWord n h = h
head_of Width n h = record { page = h.page; width = n; kind = h.kind; weight = h.weight }
head_of CutWord n h = h
head_of Choice n h = h
head_of Lel n h = record { page = h.page; width = h.width; kind = LastExactLayer; weight = h.weight }
head_of Frontier n h = record { page = h.page; width = h.width; kind = FrontierKind; weight = h.weight }
head_of ItemWord n h = h
head_of Weight n h = record { page = h.page; width = h.width; kind = h.kind; weight = n }
head_of Profit n h = h
head_of Fault n h = h

unfoldable pub is_item_word : Part → Bool
is_item_word CapWord = false
is_item_word Page = false
is_item_word WidthWord = false
is_item_word Width = false
is_item_word CutWord = false
is_item_word Choice = false
is_item_word Lel = false
is_item_word Frontier = false
is_item_word ItemWord = true
is_item_word Weight = false
is_item_word Profit = false
is_item_word Fault = false

-- whether a byte that leads from one part to the other ends an item
unfoldable pub ends_item : Part → Part → Bool
ends_item CapWord part = false
ends_item Page part = false
ends_item WidthWord part = false
ends_item Width part = false
ends_item CutWord part = false
ends_item Choice part = false
ends_item Lel part = false
ends_item Frontier part = false
ends_item ItemWord part = false
ends_item Weight part = false
ends_item Profit part = is_item_word part
ends_item Fault part = false

-- Where the machine stands, and what it read so far.
pub record State : Type 0 where
  pub place : Place
  pub head : Head
  pub items : List Item

abbrev pub state : Place → Head → List Item → State
state p h is = record { place = p; head = h; items = is }

abbrev pub begun : State
begun = state (place CapWord 0 0) (record { page = 0; width = 0; kind = LastExactLayer; weight = 0 }) []

-- the state behind a byte, whose place is p and whose head is h
unfoldable pub moved_to : State → Place → Head → State
moved_to s p h =
    state p h (cond (ends_item s.place.part p.part) (s.items ++ (record { weight = h.weight; profit = p.number } ∷ [])) s.items)

unfoldable pub step_of : State → ℕ → State
step_of s b = moved_to s (next_of s.place b) (head_of s.place.part (next_of s.place b).number s.head)

unfoldable pub run_from : List ℕ → State → State
run_from [] s = s
run_from (b ∷ t) s = run_from t (step_of s b)

unfoldable pub run_of : List ℕ → State
run_of t = run_from t begun

-- A text is whole behind its third line, and behind each item's.
unfoldable pub whole_at : Place → Bool
whole_at p = is_item_word p.part && eqb p.at 0
