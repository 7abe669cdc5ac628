-- `bits::divided::Divided::first_falsified` meets its contract: the constraints whose bit is gone are not falsified. Assumes nothing.
use Rattle.bits.proofs.Bits.{bit_past}
use Prim.Native.Nat.{ℕ, ◌*◌, ◌≤◌, ◌<◌, ◌^◌}
use native.Mathlib.Omega.{arith}
use mathlib.Core.Bool.{Bool}
use mathlib.Core.Logic.{inr, ⊎_elim}
use mathlib.Core.List.{List}
use lib.IntN.{ℤ, pos}
use lib.ListN.{get_or}
use lib.Signed.{mag}
use mathlib.Core.Path.{◌≡◌, sym, ◌∙◌}
use native.Mathlib.Nat.{eq-or-lt_of_le}
use Rattle.lists.proofs.Bools.{lt-or-le}
use Rattle.layout.proofs.Elements.{back, number_read}
use Rattle.linear.proofs.Ranges.{row_fits}
use Rattle.model_problems.specs.Constraint.{falsified}
use Rattle.layout.specs.Rows.{row_length, row_at, divided_at, input_at, box_of}
use Rattle.bits.proofs.divided.Divided.first_falsified.Goals as goal

-- what the test of an input told: the divisor is that of the input, as it is read
tested : (n j : ℕ) (lines divisors lower upper : List ℤ) {b : Bool} → mag (get_or divisors j (pos 0)) < 2 ^ 63 →
    b ≡ falsified (divided_at n lines (row_length * j) (back (get_or divisors j (pos 0)))) (box_of n lower upper) →
    b ≡ falsified (input_at n lines divisors j) (box_of n lower upper)
unfolding input_at
tested n j lines divisors lower upper h e = rw (number_read divisors j h) at e

pub is_falsified-requires-clause-divisor_fits : goal.is_falsified-requires-clause-divisor_fits
is_falsified-requires-clause-divisor_fits c = rw (number_read c.args.self.now.divisors c.in-Some.j (omega arith)) (c.requires.fits _ (c.in-Some.ensures.steps.0.inside _ c.loop-j.invariant.inside))

pub is_falsified-requires-clause-row_fits : goal.is_falsified-requires-clause-row_fits
is_falsified-requires-clause-row_fits c =
    let p = c.requires in
    let h : c.in-Some.j < c.args.m = c.in-Some.ensures.steps.0.inside _ c.loop-j.invariant.inside in
    row_fits _ _ _ p.few (omega arith) (unfold row_at in p.range c.in-Some.j h)

pub returns-then-is_falsified : goal.returns-then-is_falsified
returns-then-is_falsified c =
    let s = c.in-Some.ensures.steps.0 in
    let j = c.in-Some.j in
    record {
      most = omega arith;
      before = λ k h. c.loop-j.invariant.gone k (s.before k h);
      here = λ h. (s.inside _ c.loop-j.invariant.inside, sym (tested _ j _ c.args.self.now.divisors _ _ (omega arith) c.is_falsified.ensures) ∙ c.if-is_falsified.true);
    }

pub loop-j-preserved : goal.loop-j-preserved
loop-j-preserved c =
    let s = c.in-Some.ensures.steps in
    let j = c.in-Some.j in
    record {
      inside = omega (arith, s.1.less);
      gone = λ k z.
          ⊎_elim
          (λ (h : k < j). c.loop-j.invariant.gone k (s.0.before k h))
          (λ (h : j ≤ k). ⊎_elim
          (λ (e : j ≡ k). inr (rw (← e) (sym (tested _ j _ c.args.self.now.divisors _ _ (omega arith) c.is_falsified.ensures) ∙ c.if-is_falsified.false)))
          (λ (g : j < k). c.loop-j.invariant.gone k (sym (s.1.kept j s.0 k g) ∙ z))
          (eq-or-lt_of_le h))
          (lt-or-le k j);
    }

pub returns : goal.returns
returns c =
    let z : c.loop-j.j-iterator.0 ≡ 0 = c.in-None.ensures.steps in
    record { most = omega arith; before = λ k h. c.loop-j.invariant.gone k (rw z (bit_past 0 k 0 (omega arith) (omega arith))); here = λ h. absurd (omega arith) }
