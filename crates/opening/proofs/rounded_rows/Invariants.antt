-- `opening::rounded_rows` meets its contract: the first j rows hold the constraints rounded. Assumes nothing.
use Rattle.opening.specs.Rounded.{RowsRounded}
use Rattle.opening.proofs.rounded_rows.Given as goal

abbrev pub invariant-loop-j : goal.invariant-loop-j
invariant-loop-j l = RowsRounded l.p.n l.p.constraints l.p.divisors l.j l.rows
