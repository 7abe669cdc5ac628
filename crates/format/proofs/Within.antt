-- Numbers in a range from −b to b, and divisors and thresholds in theirs.
use Prim.Native.Nat.{ℕ, ◌≤◌, ◌<◌}
use native.Mathlib.Omega.{arith}
use mathlib.Core.Bool.{true, false}
use mathlib.Core.Path.{◌≡◌, refl}
use mathlib.Core.Logic.{⊎_elim}
use lib.Dec.{eqb, leb}
use lib.IntN.{ℤ, pos, negsuc, nat_abs}
use lib.Signed.{mag}
use lib.ListN.{get_or}
use borrow.Author.Tests.{eqb-true, leb-true}
use Rattle.model_problems.specs.Constraint.{Bounds, no_bounds, equalℤ, none_or_from_two, is_divisor}
use Rattle.model_problems.specs.Ranges.{within, max_divisor, max_bound}
use Rattle.model_problems.specs.Threshold.{threshold_at, threshold_fits}
use Rattle.model_problems.specs.Lists.{all}
use Rattle.model_problems.specs.Problem.{Problem, variables, bounds_in_range, domain_in_range, thresholds_in_range}
use Rattle.integer.specs.Size.{mag-abs, between_in}
use Rattle.lists.proofs.Bools.{T_of, and-true, or-true, clash}
use Rattle.lists.proofs.AllOf.{all_of-get_d}
use Rattle.lists.proofs.AllPairs.{pairs-length, pairs-get_d}

-- the test is a bound on the magnitude
pub within-nat_abs : (b : ℕ) (z : ℤ) → within b z ≡ true → nat_abs z ≤ b
unfolding within
within-nat_abs b z e = between_in b z (T_of e)

-- a number in a range that 32 bits hold: below h in the sense of lib.Signed's `mag`
pub within-mag : (b h : ℕ) (z : ℤ) → b < h → within b z ≡ true → mag z < h
within-mag b h z l e = omega (arith, within-nat_abs b z e, mag-abs z)

-- ---- the size of a number that is 0, or from 2 to a limit: a divisor, and a threshold
from-two-nat_abs : (limit q : ℤ) → none_or_from_two limit q ≡ true → nat_abs q ≤ nat_abs limit
unfolding none_or_from_two equalℤ
from-two-nat_abs (pos b) (pos a) e =
    ⊎_elim (λ h. omega (arith, eqb-true a 0 h)) (λ h. omega (arith, leb-true a b (and-true (leb 2 a) (leb a b) h).1)) (or-true (eqb a 0) _ e)
from-two-nat_abs (negsuc b) (pos a) e =
    ⊎_elim (λ h. omega (arith, eqb-true a 0 h)) (λ h. clash (and-true (leb 2 a) false h).1 refl) (or-true (eqb a 0) _ e)
from-two-nat_abs limit (negsuc a) e = clash e refl

pub divisor-nat_abs : (q : ℤ) → is_divisor q ≡ true → nat_abs q ≤ max_divisor
unfolding is_divisor
divisor-nat_abs q e = from-two-nat_abs (pos max_divisor) q e

threshold-nat_abs : (t : ℤ) (b : Bounds) → within max_bound b.upper ≡ true → threshold_fits t b ≡ true → nat_abs t ≤ max_bound
unfolding threshold_fits
threshold-nat_abs t b w e = omega (arith, within-nat_abs max_bound b.upper w, from-two-nat_abs b.upper t (and-true (none_or_from_two b.upper t) _ e).0)

pub threshold-small : (p : Problem) → domain_in_range p ≡ true → thresholds_in_range p ≡ true → (i : ℕ) → i < variables p → nat_abs (threshold_at p.thresholds i) ≤ max_bound
unfolding domain_in_range bounds_in_range all thresholds_in_range variables threshold_at
threshold-small p d t i l =
    let b = get_or p.domain i no_bounds in
    let w = (and-true _ _ (and-true (within max_bound b.lower) _ (all_of-get_d bounds_in_range p.domain i no_bounds d l)).1).0 in
    let m = pairs-length threshold_fits p.thresholds p.domain t in
    threshold-nat_abs (get_or p.thresholds i (pos 0)) b w (pairs-get_d threshold_fits p.thresholds p.domain i (pos 0) no_bounds t (omega arith))
