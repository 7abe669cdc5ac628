-- The loop of `turns::apart::put_rows`: the rows of the inputs passed are put.
use Rattle.turns.specs.Setting.{RowsPut}
use Rattle.turns.proofs.apart.put_rows.Given as goal

abbrev pub invariant-loop-j : goal.invariant-loop-j
invariant-loop-j l = RowsPut l.n l.j l.divisors l.from l.initial.rows l.rows
