-- `integer::gcd` meets its contract: no divisor is at most 0 and not 0. Assumes nothing.
use Rattle.integer.specs.Divisor.{above-none}
use Rattle.integer.proofs.gcd.Goals as goal

pub returns : goal.returns
returns c = above-none c.gcd_above.ensures
