-- `derivation::rounding::divided` meets its contract: the constant and the first i coefficients are divided. Assumes nothing.
use Rattle.model_problems.specs.Division.{ceil_div, exact_div}
use Rattle.layout.specs.Rows.{number_in, cell}
use Rattle.layout.proofs.Filled.{Filled}
use Rattle.derivation.proofs.rounding.divided.Given as goal

abbrev pub invariant-loop-i : goal.invariant-loop-i
invariant-loop-i l = Filled (ceil_div (number_in l.c 0) l.h) (λ k. exact_div l.h (cell l.c 0 k)) l.i l.r
