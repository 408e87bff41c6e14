-- A row's words are as many as its width says, and encoding and decoding are inverse to each other.
use mathlib.Core.Path.{◌≡◌, refl, ap, ◌∙◌}
use mathlib.Core.Bool.{Bool, true, false}
use mathlib.Core.List.{[], ◌∷◌}
use Prim.Native.Nat.{ℕ, zero, suc, ◌+◌, ◌*◌, ◌/◌, ◌%◌, ◌≤◌, ◌<◌}
use native.Mathlib.Omega.{arith}
use lib.Dec.{eqb}
use lib.ListN.{length}
use Rattle.diagram.specs.Node.{Node, Edge}
use Rattle.layout.specs.Rows.{node_words, edge_words, exact_flag, relaxed_flag, marked_flag, cutset_flag, deleted_flag, digit, flags_word, has_flag, encode_node, decode_node, encode_edge, decode_edge}

pub node_width : (n : Node) → length (encode_node n) ≡ node_words
unfolding encode_node
node_width n = refl

pub edge_width : (e : Edge) → length (encode_edge e) ≡ edge_words
unfolding encode_edge
edge_width e = refl

digit_small : (b : Bool) → digit b ≤ 1
unfolding digit
digit_small true = omega arith
digit_small false = omega arith

digit_back : (b : Bool) → eqb (digit b) 1 ≡ b
unfolding digit
digit_back true = refl
digit_back false = refl

digit_of : (q : ℕ) → q < 2 → digit (eqb q 1) ≡ q
unfolding digit
digit_of zero h = refl
digit_of (suc zero) h = refl
digit_of (suc (suc q)) h = absurd (omega arith)

-- Each flag is read back from the flags word, whatever the others are.
reads : (f w : ℕ) (b : Bool) → w / f % 2 ≡ digit b → has_flag f w ≡ b
unfolding has_flag
reads f w b e = ap (λ (q : ℕ). eqb q 1) e ∙ digit_back b

module _ (x r m c d : Bool) where
  small : (digit x ≤ 1) × (digit r ≤ 1) × (digit m ≤ 1) × (digit c ≤ 1) × (digit d ≤ 1)
  small = (digit_small x, digit_small r, digit_small m, digit_small c, digit_small d)

  pub exact_back : has_flag exact_flag (flags_word x r m c d) ≡ x
  unfolding flags_word
  exact_back = reads exact_flag (flags_word x r m c d) x (omega (arith, small))

  pub relaxed_back : has_flag relaxed_flag (flags_word x r m c d) ≡ r
  unfolding flags_word
  relaxed_back = reads relaxed_flag (flags_word x r m c d) r (omega (arith, small))

  pub marked_back : has_flag marked_flag (flags_word x r m c d) ≡ m
  unfolding flags_word
  marked_back = reads marked_flag (flags_word x r m c d) m (omega (arith, small))

  pub cutset_back : has_flag cutset_flag (flags_word x r m c d) ≡ c
  unfolding flags_word
  cutset_back = reads cutset_flag (flags_word x r m c d) c (omega (arith, small))

  pub deleted_back : has_flag deleted_flag (flags_word x r m c d) ≡ d
  unfolding flags_word
  deleted_back = reads deleted_flag (flags_word x r m c d) d (omega (arith, small))

-- A row is its words, read back.
pub node_back : (n : Node) → decode_node (encode_node n) ≡ n
unfolding decode_node encode_node
node_back n =
    let x = n.exact in
    let r = n.relaxed in
    let m = n.marked in
    let c = n.cutset in
    let d = n.deleted in
    rw (exact_back x r m c d, relaxed_back x r m c d, marked_back x r m c d, cutset_back x r m c d, deleted_back x r m c d)

-- a number below 32 is the sum of its five binary digits
binary : (a b c d e g g₁ g₂ g₃ : ℕ) → g ≡ a + 2 * g₁ → g₁ ≡ b + 2 * g₂ → g₂ ≡ c + 2 * g₃ → g₃ ≡ d + 2 * e → exact_flag * a + relaxed_flag * b + marked_flag * c + cutset_flag * d + deleted_flag * e ≡ g
binary a b c d e g g₁ g₂ g₃ p q r s = omega arith

flags_sum : (g : ℕ) → g < 32 → exact_flag * (g / 1 % 2) + relaxed_flag * (g / 2 % 2) + marked_flag * (g / 4 % 2) + cutset_flag * (g / 8 % 2) + deleted_flag * (g / 16 % 2) ≡ g
flags_sum g h =
    binary (g / 1 % 2) (g / 2 % 2) (g / 4 % 2) (g / 8 % 2) (g / 16 % 2) g (g / 2) (g / 4) (g / 8) (omega arith) (omega arith) (omega arith) (omega arith)

-- Eight words, the last of them a flags word, are the row that they hold.
pub words_back : (c d v b e i f g : ℕ) → g < 32 → encode_node (decode_node (c ∷ d ∷ v ∷ b ∷ e ∷ i ∷ f ∷ g ∷ [])) ≡ (c ∷ d ∷ v ∷ b ∷ e ∷ i ∷ f ∷ g ∷ [])
unfolding decode_node encode_node flags_word has_flag
words_back c d v b e i f g h =
    rw (digit_of (g / 1 % 2) (omega arith), digit_of (g / 2 % 2) (omega arith), digit_of (g / 4 % 2) (omega arith), digit_of (g / 8 % 2) (omega arith), digit_of (g / 16 % 2) (omega arith))
    (ap (λ (q : ℕ). c ∷ d ∷ v ∷ b ∷ e ∷ i ∷ f ∷ q ∷ []) (flags_sum g h))

pub edge_back : (e : Edge) → decode_edge (encode_edge e) ≡ e
unfolding decode_edge encode_edge
edge_back e = refl

pub edge_words_back : (f t d c n : ℕ) → encode_edge (decode_edge (f ∷ t ∷ d ∷ c ∷ n ∷ [])) ≡ (f ∷ t ∷ d ∷ c ∷ n ∷ [])
unfolding decode_edge encode_edge
edge_words_back f t d c n = refl
