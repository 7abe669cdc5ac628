-- N6's thresholds beside limits that 13 lets pass: no limit lies in the gap.
use native.Mathlib.Omega.{arith}
use mathlib.Core.Bool.{◌&&◌}
use mathlib.Core.List.{List, [], ◌∷◌}
use mathlib.Core.Logic.{◌⊎◌, inl, inr, ⊎_elim}
use mathlib.Core.Path.{◌≡◌}
use lib.Dec.{T}
use lib.IntN.{ℤ, pos, neg_ℤ}
use lib.Signed.{le_z}
use Rattle.model_problems.specs.Lists.{all, all_of, all_pairs}
use Rattle.model_problems.specs.Ranges.{max_bound, within}
use Rattle.model_problems.specs.Constraint.{Bounds, Box, equalℤ, none_or_from_two}
use Rattle.model_problems.specs.Threshold.{allowed, threshold_fits, is_threshold}
use Rattle.model_problems.specs.Problem.{bounds_in_range}
use Rattle.integer.specs.Parts.{le_in, le_out, lt_in, eq-in}
use Rattle.integer.specs.Order.{≤-or-<}
use Rattle.integer.specs.Tests.{and_in, and_left, and_right, or_left, or_right, or-out}
use Rattle.validity.proofs.Thresholds.{allowed-out, Outside}
use Rattle.validity.proofs.Tests.{equal-in}

plain-allowed : (t x : ℤ) → t ≡ pos 0 → T (allowed t x)
plain-allowed t x e = let z = eq-in t (pos 0) e in ⊎_elim (λ h. allowed-out t x (inr (omega (arith, le_in (pos 0) x h.le)))) (λ h. allowed-out t x (inl (omega (arith, lt_in x (pos 0) h.lt)))) (≤-or-< (pos 0) x)

module _ (t : ℤ) (b : Bounds) (f : T (threshold_fits t b)) (r : T (bounds_in_range b)) where
  sort : T (equalℤ t (pos 0)) ⊎ T (le_z (pos 2) t && le_z t b.upper)
  unfolding threshold_fits none_or_from_two
  sort = or-out (equalℤ t (pos 0)) (le_z (pos 2) t && le_z t b.upper) (and_left (none_or_from_two b.upper t) _ f)

  low : T (allowed t b.lower)
  unfolding threshold_fits
  low =
      ⊎_elim (λ h. plain-allowed t b.lower (equal-in t (pos 0) h)) (λ h. let z = eq-in b.lower (pos 0) (equal-in b.lower (pos 0) h) in allowed-out t b.lower (inl (omega arith)))
      (or-out (equalℤ t (pos 0)) (equalℤ b.lower (pos 0)) (and_right (none_or_from_two b.upper t) _ f))

  high : T (allowed t b.upper)
  high =
      ⊎_elim (λ h. plain-allowed t b.upper (equal-in t (pos 0) h)) (λ h. allowed-out t b.upper (inr (le_in t b.upper (and_right (le_z (pos 2) t) (le_z t b.upper) h)))) sort

  ranged : T (is_threshold t)
  unfolding is_threshold none_or_from_two bounds_in_range all within
  ranged =
      ⊎_elim (λ h. or_left (equalℤ t (pos 0)) _ h)
      (λ h.
      let top = and_left (within max_bound b.upper) _ (and_right (within max_bound b.lower) _ r) in
      let most = le_in b.upper (pos max_bound) (and_right (le_z (neg_ℤ (pos max_bound)) b.upper) (le_z b.upper (pos max_bound)) top) in
      let here = le_in t b.upper (and_right (le_z (pos 2) t) (le_z t b.upper) h) in
      or_right (equalℤ t (pos 0)) _ (and_in (le_z (pos 2) t) (le_z t (pos max_bound)) (and_left (le_z (pos 2) t) (le_z t b.upper) h) (le_out t (pos max_bound) (omega arith))))
      sort

pub fits-outside : (ts : List ℤ) (box : Box) → T (all_pairs threshold_fits ts box) → T (all_of bounds_in_range box) → T (all_of is_threshold ts) × Outside ts box
unfolding all_pairs all_of
fits-outside [] [] f r = (tt, tt)
fits-outside [] (b ∷ box) f r = absurd f
fits-outside (t ∷ ts) [] f r = absurd f
fits-outside (t ∷ ts) (b ∷ box) f r =
    let g = and_left (threshold_fits t b) (all_pairs threshold_fits ts box) f in
    let q = and_left (bounds_in_range b) (all_of bounds_in_range box) r in
    let rest = fits-outside ts box (and_right (threshold_fits t b) (all_pairs threshold_fits ts box) f) (and_right (bounds_in_range b) (all_of bounds_in_range box) r) in
    (and_in (is_threshold t) (all_of is_threshold ts) (ranged t b g q) rest.0, (low t b g q, high t b g q, rest.1))
