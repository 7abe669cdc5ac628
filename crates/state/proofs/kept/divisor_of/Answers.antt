-- `state::kept::divisor_of` meets its contract. Assumes nothing.
use native.Mathlib.Omega.{arith}
use borrow.Author.Tests.{lt-ltb, le-ltb}
use Rattle.layout.proofs.Elements.{number_read}
use Rattle.state.specs.View.{divisor_for}
use Rattle.state.proofs.kept.divisor_of.Goals as goal

pub returns-then-j-m : goal.returns-then-j-m
unfolding divisor_for
returns-then-j-m c =
    let a = c.args in
    rw (number_read a.divisors.now a.j (omega arith), lt-ltb a.j a.m c.if-j-m.true)

pub returns-else-j-m : goal.returns-else-j-m
unfolding divisor_for
returns-else-j-m c = rw (le-ltb _ _ c.if-j-m.false)
