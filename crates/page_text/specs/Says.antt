-- What an answer's bytes say.
use Rattle.std.specs.Prelude.{◌≡◌, List, ℕ, ◌-◌, ◌≤◌, length, take, drop, replicate}
use Rattle.page_text.specs.declared.Output.{Output}

-- The counted bytes are the text, `most` of them at most, and those behind them are 0. So one text has one output.
pub record Says (text : List ℕ) (most : ℕ) (o : Output) : Type 0 where
  pub text_is : take o.count o.bytes ≡ text
  pub counted : o.count ≡ length text
  pub rest_zero : drop o.count o.bytes ≡ replicate (671 - o.count) 0
  pub short : o.count ≤ most

abbrev pub OneOutput : Type 0
OneOutput = (text : List ℕ) (most most' : ℕ) (o o' : Output) → Says text most o → Says text most' o' → o ≡ o'
