-- `border::columns` meets its contract. The invariant: the first i places of both arrays are the first i layers' numbers.
use Rattle.border.proofs.Arrays.{Column}
use Rattle.border.proofs.columns.Given as goal

abbrev pub invariant-loop-i : goal.invariant-loop-i
invariant-loop-i l = Column (λ x. x.from) l.rows l.i l.from × Column (λ x. x.to) l.rows l.i l.to
