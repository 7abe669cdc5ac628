-- The implied bound, from the quotient r of p', the code's p or −p, by d, the code's |a|.
use Prim.Native.Nat.{ℕ, zero, suc, ◌<◌}
use native.Mathlib.Omega.{arith}
use mathlib.Core.Path.{◌≡◌, refl}
use lib.IntN.{ℤ, pos, negsuc, neg_ℤ, nat_abs}
use lib.Signed.{◌≤ℤ◌, ◌<ℤ◌}
use Rattle.model_problems.specs.Division.{floor_div, ceil_div}
use Rattle.model_problems.specs.Constraint.{implied_upper, implied_lower}
use Rattle.integer.specs.Parts.{le_in}
use Rattle.linear.specs.declared.activity.Bound.TheVariants.{Lower, Upper}
use Rattle.linear.specs.Improvement.{implied_of}

pub nonzero-size : (a : ℤ) → (a ≡ pos 0 → ⊥) → 0 < nat_abs a
nonzero-size (pos zero) h = absurd (h refl)
nonzero-size (pos (suc a)) h = omega arith
nonzero-size (negsuc a) h = omega arith

module _ (p p' r : ℤ) (d : ℕ) where
  pub upper_is : (a : ℤ) → pos 0 <ℤ a → p' ≡ neg_ℤ p → d ≡ nat_abs a → r ≡ floor_div p' d → Upper r ≡ implied_of p a
  unfolding implied_of implied_upper
  upper_is (pos a) h e g k = rw (k, e, g) refl
  upper_is (negsuc a) h e g k = absurd h.lt

  pub lower-is : (a : ℤ) → a ≤ℤ pos 0 → (a ≡ pos 0 → ⊥) → p' ≡ p → d ≡ nat_abs a → r ≡ ceil_div p' d → Lower r ≡ implied_of p a
  unfolding implied_of implied_lower
  lower-is (pos zero) h n e g k = absurd (n refl)
  lower-is (pos (suc a)) h n e g k = absurd (omega (arith, le_in (pos (suc a)) (pos 0) h.le))
  lower-is (negsuc a) h n e g k = rw (k, e, g) refl
