-- `state::kept::position_of` meets its contract: an input's number, a kept cut's, or another. Assumes nothing.
use native.Mathlib.Omega.{arith}
use Rattle.state.proofs.Positions.{position-input, position-cut, position-none}
use Rattle.state.proofs.kept.position_of.Goals as goal

pub returns-then-number-m : goal.returns-then-number-m
returns-then-number-m c = position-input _ _ _ (omega arith) (omega arith)

pub returns-then-number-m-2 : goal.returns-then-number-m-2
returns-then-number-m-2 c = rw c.dropped-gone.ensures (position-cut _ _ _ (omega arith) (omega arith))

pub returns-else-m-gone : goal.returns-else-m-gone
returns-else-m-gone c = position-none _ _ _ (λ h. omega arith) (λ h. omega arith)
