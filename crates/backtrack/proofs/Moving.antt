-- The boxes of a decision and of one that is flipped.
use Prim.Native.Nat.{ℕ, ◌<◌}
use native.Mathlib.Omega.{arith}
use mathlib.Core.List.{List}
use mathlib.Core.Path.{◌≡◌, ◌∙◌}
use lib.Dec.{lit≤}
use lib.IntN.{ℤ, ◌-ℤ◌}
use lib.ListN.{length, set}
use Rattle.model_problems.specs.Ranges.{max_variables}
use Rattle.integer.specs.Parts.{◌⊑◌}
use Rattle.integer.specs.Size.{Within, weaken}
use Rattle.lists.proofs.Bools.{true_of}
use Rattle.linear.specs.Ranges.{widest_change}
use Rattle.linear.proofs.Ranges.{upper-within}
use Rattle.layout.specs.Rows.{number_in, box_of}
use Rattle.layout.proofs.Rows.{lower-at, upper-at, box-upper}
use Rattle.validity.proofs.Boxes.{ordered_at, low_half, low-ordered, low-nested}
use Rattle.validity.proofs.Thresholds.{follows}
use Rattle.validity.proofs.Tests.{range-ordered, range-nested}
use Rattle.propagate.specs.Tracked.{ScanFits}
use Rattle.propagate.specs.Bounds.{Settable}
use Rattle.propagate.proofs.Tracking.{number_same, rise-size, fall-size}
use Rattle.backtrack.specs.Jumps.{next_in}

module _ (n kept : ℕ) (rows lower upper : List ℤ) (reasons : List ℕ) (i : ℕ) (f : ScanFits n kept rows lower upper) (h : i < n) where
  -- a decision
  pub decided-below : number_in lower i ⊑ number_in upper i
  decided-below = rw (lower-at n lower upper i h, upper-at n lower upper i h) at (ordered_at i (box_of n lower upper) (range-ordered (box_of n lower upper) f.bounds))

  pub decided-fits : length upper ≡ max_variables → ScanFits n kept rows lower (set upper i (number_in lower i))
  decided-fits u =
      let box = box_of n lower upper in
      let o = range-ordered box f.bounds in
      let e : box_of n lower (set upper i (number_in lower i)) ≡ low_half i box =
      box-upper n lower upper i (number_in lower i) h (omega (arith, f.few)) ∙ unfold low_half in (rw (lower-at n lower upper i h)) in
      record { few = f.few; count = f.count; constraints = f.constraints; bounds = rw e (range-nested (low_half i box) box (low-ordered i box o) (low-nested i box o) f.bounds) }

  pub decided-settable : length upper ≡ max_variables → Settable i (number_in lower i) upper reasons
  decided-settable u =
      record {
        variable = omega (arith, f.few);
        old = weaken (lit≤ tt) (upper-within n lower upper (true_of _ f.bounds) i h);
        change = rw (number_same upper i (number_in lower i) (omega (arith, f.few))) at (fall-size f (decided-fits u) i h);
      }

-- a decision that is flipped
pub flipped_above : (thresholds lower : List ℤ) (i : ℕ) → number_in lower i ⊑ next_in thresholds lower i
flipped_above thresholds lower i = omega (arith, (follows (number_in thresholds i) (number_in lower i)).above)

pub flipped-rise : (n kept : ℕ) (thresholds rows lower upper : List ℤ) (i : ℕ) → ScanFits n kept rows lower upper → ScanFits n kept rows (set lower i (next_in thresholds lower i)) upper → i < n →
    length lower ≡ max_variables → Within widest_change (next_in thresholds lower i -ℤ number_in lower i)
flipped-rise n kept thresholds rows lower upper i f g h l = rw (number_same lower i (next_in thresholds lower i) (omega (arith, f.few))) at (rise-size f g i h)
