-- `integer::gcd_above` meets its contract: the greatest common divisor of what is left is that of the arguments. Assumes nothing.
use mathlib.Core.Path.{◌≡◌}
use Rattle.model_problems.specs.Division.{gcd}
use Rattle.integer.proofs.gcd_above.Given as goal

abbrev pub invariant-loop-y : goal.invariant-loop-y
invariant-loop-y l = gcd l.a l.b ≡ gcd l.x l.y

abbrev pub decreases-loop-y : goal.decreases-loop-y
decreases-loop-y l = l.y
