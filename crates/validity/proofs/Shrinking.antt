-- A bound that is set makes a box smaller: order and thresholds hold in it, it lies in the old one, and its slack is less.
use Prim.Native.Nat.{ℕ, ◌<◌}
use native.Mathlib.Omega.{arith}
use mathlib.Core.List.{List}
use lib.IntN.{ℤ}
use Rattle.model_problems.specs.Constraint.{Constraint, Box, lower_at, upper_at, set_lower, set_upper}
use Rattle.model_problems.specs.Threshold.{threshold_at, lifted, sunk}
use Rattle.model_walk.specs.Move.{slack}
use Rattle.validity.proofs.Thresholds.{lifts, sinks, Outside, outside-at, outside_set}
use Rattle.validity.proofs.Boxes.{Ordered, Nested, set-lower-nested, set-upper-nested, set-lower-ordered, set-upper-ordered, set-lower-slack, set-upper-slack}
use Rattle.validity.proofs.Moves.{Raises, Lowers}

pub record Shrinks (ts : List ℤ) (small box : Box) : Type 0 where
  pub ordered : Ordered small
  pub outside : Outside ts small
  pub nested : Nested small box
  pub less : slack small < slack box

module _ (ts : List ℤ) (ks : List Constraint) (box : Box) (j i : ℕ) (v : ℤ) (o : Ordered box) (a : Outside ts box) where
  pub raise-shrinks : Raises ks box j i v → Shrinks ts (set_lower i (lifted (threshold_at ts i) v) box) box
  unfolding set_lower
  raise-shrinks m =
      let to = lifts (threshold_at ts i) v in
      let at = outside-at i ts box a in
      let top = to.least (upper_at box i) at.1 m.fits in
      record {
        ordered = set-lower-ordered i _ box o top;
        outside = outside_set i _ ts box a to.allowed at.1;
        nested = set-lower-nested i _ box (omega (arith, to.above, m.better));
        less = set-lower-slack i _ box m.variable o (omega (arith, to.above, m.better)) top;
      }

  pub lower-shrinks : Lowers ks box j i v → Shrinks ts (set_upper i (sunk (threshold_at ts i) v) box) box
  unfolding set_upper
  lower-shrinks m =
      let to = sinks (threshold_at ts i) v in
      let at = outside-at i ts box a in
      let bottom = to.most (lower_at box i) at.0 m.fits in
      record {
        ordered = set-upper-ordered i _ box o bottom;
        outside = outside_set i _ ts box a at.0 to.allowed;
        nested = set-upper-nested i _ box (omega (arith, to.below, m.better));
        less = set-upper-slack i _ box m.variable o bottom (omega (arith, to.below, m.better));
      }
