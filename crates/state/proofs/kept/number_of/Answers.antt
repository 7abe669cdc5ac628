-- `state::kept::number_of` meets its contract. Assumes nothing.
use native.Mathlib.Omega.{arith}
use borrow.Author.Tests.{lt-ltb, le-ltb}
use Rattle.state.specs.View.{number_for}
use Rattle.state.proofs.kept.number_of.Goals as goal

pub returns-then-j-m : goal.returns-then-j-m
unfolding number_for
returns-then-j-m c = rw (lt-ltb _ _ c.if-j-m.true) (omega arith)

pub returns-else-j-m : goal.returns-else-j-m
unfolding number_for
returns-else-j-m c = rw (le-ltb _ _ c.if-j-m.false) (omega arith)
