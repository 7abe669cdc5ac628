-- `derivation::rounding::divisor` meets its contract: g is the divisor of the coefficients from i on, or 1 where that is small. Assumes nothing.
use Rattle.std.proofs.Common.{◌-◌}
use Rattle.model_problems.specs.Lists.{tab}
use Rattle.model_problems.specs.Constraint.{common_divisor}
use Rattle.integer.specs.Divisor.{Above}
use Rattle.layout.specs.Rows.{cell}
use Rattle.derivation.proofs.rounding.divisor.Given as goal

abbrev pub invariant-loop-i : goal.invariant-loop-i
invariant-loop-i l = Above l.least (common_divisor (tab (cell l.c 0) l.i (l.n - l.i))) l.g
