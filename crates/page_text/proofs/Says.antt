-- One text has one output: the text fixes the count, the counted bytes and those behind them.
use mathlib.Core.Path.{◌≡◌, sym, ap, ap₂, ◌∙◌}
use mathlib.Core.List.{List, ◌++◌}
use Prim.Native.Nat.{ℕ, ◌-◌}
use lib.ListN.{length, replicate, take-append-drop}
use Rattle.page_text.specs.declared.Output.{Output}
use Rattle.page_text.specs.Says.{Says, OneOutput}

bytes_are : (text : List ℕ) (most : ℕ) (o : Output) → Says text most o → o.bytes ≡ text ++ replicate (671 - length text) 0
bytes_are text most o s =
    sym (take-append-drop o.count o.bytes) ∙ ap₂ (λ (u v : List ℕ). u ++ v) s.text_is (s.rest_zero ∙ ap (λ (n : ℕ). replicate (671 - n) 0) s.counted)

pub one_output : OneOutput
one_output text most most' o o' s s' =
    ap₂ (λ (b : List ℕ) (n : ℕ). record { bytes = b; count = n }) (bytes_are text most o s ∙ sym (bytes_are text most' o' s')) (s.counted ∙ sym s'.counted)
