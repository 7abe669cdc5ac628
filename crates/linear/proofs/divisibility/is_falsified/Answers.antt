-- `linear::divisibility::is_falsified` meets its contract. Assumes nothing.
use mathlib.Core.Path.{ap, ◌∙◌}
use lib.Dec.{lit<}
use lib.IntN.{pos}
use mir.Syntax.{w64}
use mir.Val.{of_z}
use mir.Facts.{to_z-of_z}
use Rattle.integer.specs.Size.{size, fits}
use Rattle.integer.specs.Tests.{same}
use Rattle.linear.proofs.Dividing.{divided-test, plain-test}
use Rattle.linear.proofs.Quotients.{nonzero-size}
use Rattle.linear.proofs.divisibility.is_falsified.Goals as goal

pub returns-then-q-eq0 : goal.returns-then-q-eq0
returns-then-q-eq0 c =
    let s = c in
    c.is_falsified.ensures ∙ plain-test _ _ _ _ _ (same s.ranges.q (fits (lit< tt) (size (pos 0))) c.if-q-eq0.true)

pub is_indivisible-requires : goal.is_indivisible-requires
is_indivisible-requires c =
    let s = c in
    let e = rw (to_z-of_z s.ranges.q) at c.unsigned_abs.ensures.value in
    record {
      q_nonzero = (rw e (nonzero-size s.args.q (λ z. c.if-q-eq0.false (ap (of_z w64) z))), rw e s.requires.divisor_fits);
      row_fits = s.requires.row_fits;
      box_fits = s.requires.box_fits;
    }

pub returns : goal.returns
returns c =
    let s = c in
    c.is_indivisible.ensures ∙ rw (c.unsigned_abs.ensures.value, to_z-of_z s.ranges.q) (divided-test _ _ _ s.args.q _)
