-- `derivation::rounding::divisor` meets its contract: g is the divisor of the coefficients from i on, or 1 where that is small. Assumes nothing.
use Rattle.std.proofs.Common.{◌≡◌, ap, ◌∙◌, inl, ◌+◌, ◌-◌, nat_abs, arith}
use Rattle.layout.specs.Rows.{cell, constraint_at}
use Rattle.layout.proofs.Elements.{cell-read}
use Rattle.derivation.proofs.RoundingLaws.{divisor-none, above_down, above-one}
use Rattle.derivation.proofs.rounding.divisor.Goals as goal

pub loop-i-init : goal.loop-i-init
loop-i-init c = inl (divisor-none (cell c.args.c.now 0) c.args.n)

pub returns-then-g-eq1 : goal.returns-then-g-eq1
unfolding constraint_at
returns-then-g-eq1 c = let o : c.loop-i.g ≡ 1 = c.if-g-eq1.true in rw o (above-one (cell c.args.c.now 0) c.args.n c.loop-i.i _ c.args.least (omega arith) c.loop-i.invariant o)

pub loop-i-preserved : goal.loop-i-preserved
loop-i-preserved c =
    let a = c.args in
    let i = c.loop-i.i in
    let e : c.magnitude.result ≡ nat_abs (cell a.c.now 0 (i - 1)) =
    c.magnitude.ensures ∙ ap nat_abs (cell-read a.c.now 0 (i - 1) (i - 1 + 1) (omega arith) (omega arith)) in
    above_down (cell a.c.now 0) a.n i _ _ _ _ (omega arith) (omega arith) e c.if-g-eq1.false c.loop-i.invariant c.gcd_above-g.ensures

pub returns-after-loop-i : goal.returns-after-loop-i
unfolding constraint_at
returns-after-loop-i c =
    let z : c.loop-i.i ≡ 0 = omega arith in
    let e : c.args.n - 0 ≡ c.args.n = omega arith in
    rw (z, e) at c.loop-i.invariant
