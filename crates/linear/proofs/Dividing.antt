-- A divisor constraint in a box, as the code tests it: from the last variable to the first, the greatest common divisor and the rest's value.
use Prim.Native.Nat.{ℕ, zero, suc, ◌-◌, ◌%◌, ◌≤◌, ◌<◌}
use native.Mathlib.Nat.{sub-zero, mod-one, le_of_dvd, pos_of_dvd_of_pos}
use native.Mathlib.Omega.{arith}
use mathlib.Core.Bool.{Bool, true, false, not}
use mathlib.Core.List.{List}
use mathlib.Core.Path.{◌≡◌, refl, sym, ap, ◌∙◌}
use lib.Dec.{eqb}
use lib.IntN.{ℤ, pos, nat_abs, ◌+ℤ◌, ◌*ℤ◌, +ℤ_comm}
use lib.Signed.{lt_z}
use Rattle.model_problems.specs.Lists.{tab}
use Rattle.model_problems.specs.Division.{gcd, divides}
use Rattle.model_problems.specs.Constraint.{Constraint, Box, modulus, is_open, activity, open_divisor, fixed_terms, fixed_value, falsified_by, falsified}
use Rattle.integer.specs.Divisor.{gcd-right}
use Rattle.lists.proofs.Tab.{tab-down, tab-end}
use Rattle.layout.specs.Rows.{number_in, cell, constraint_at, divided_at, bounds_at, box_of}

-- ---- the test of either sort goes by the size of the divisor
by_size : (n : ℕ) (rows : List ℤ) (start : ℕ) (q : ℤ) (box : Box) (size : ℕ) → falsified_by size (constraint_at n rows start) box ≡ falsified_by size (divided_at n rows start q) box
unfolding falsified_by activity fixed_value constraint_at divided_at
by_size n rows start q box zero = refl
by_size n rows start q box (suc size) = refl

pub divided-test : (n : ℕ) (rows : List ℤ) (start : ℕ) (q : ℤ) (box : Box) → falsified_by (nat_abs q) (constraint_at n rows start) box ≡ falsified (divided_at n rows start q) box
unfolding falsified modulus divided_at
divided-test n rows start q box = by_size n rows start q box (nat_abs q)

-- a row with divisor 0 is the inequality
pub plain-test : (n : ℕ) (rows : List ℤ) (start : ℕ) (q : ℤ) (box : Box) → q ≡ pos 0 → falsified (constraint_at n rows start) box ≡ falsified (divided_at n rows start q) box
unfolding constraint_at divided_at
plain-test n rows start q box e = rw e

-- ---- the variables from i on
module _ (n : ℕ) (rows : List ℤ) (start : ℕ) (lower upper : List ℤ) where
  unfoldable pub open_from : ℕ → ℕ → ℕ
  open_from q i = open_divisor q (tab (cell rows start) i (n - i)) (tab (bounds_at lower upper) i (n - i))

  unfoldable pub fixed_from : ℕ → ℤ
  fixed_from i = fixed_terms (tab (cell rows start) i (n - i)) (tab (bounds_at lower upper) i (n - i))

  pub open_none : (q : ℕ) → q ≡ open_from q n
  unfolding open_from open_divisor
  open_none q = rw (tab-end (cell rows start) n n (omega arith))

  pub fixed-none : pos 0 ≡ fixed_from n
  unfolding fixed_from fixed_terms
  fixed-none = rw (tab-end (cell rows start) n n (omega arith))

  -- one variable more: it is open, or fixed
  module _ (i : ℕ) (p : 0 < i) (h : i ≤ n) where
    module _ (o : lt_z (number_in lower (i - 1)) (number_in upper (i - 1)) ≡ true) where
      pub open_more : (q : ℕ) → gcd (nat_abs (cell rows start (i - 1))) (open_from q i) ≡ open_from q (i - 1)
      unfolding open_from open_divisor is_open bounds_at
      open_more q = rw (tab-down (cell rows start) n i p h, tab-down (bounds_at lower upper) n i p h, o)

      pub fixed_same : fixed_from i ≡ fixed_from (i - 1)
      unfolding fixed_from fixed_terms is_open bounds_at
      fixed_same = rw (tab-down (cell rows start) n i p h, tab-down (bounds_at lower upper) n i p h, o)

    module _ (o : lt_z (number_in lower (i - 1)) (number_in upper (i - 1)) ≡ false) where
      pub open-same : (q : ℕ) → open_from q i ≡ open_from q (i - 1)
      unfolding open_from open_divisor is_open bounds_at
      open-same q = rw (tab-down (cell rows start) n i p h, tab-down (bounds_at lower upper) n i p h, o)

      pub fixed_more : fixed_from i +ℤ cell rows start (i - 1) *ℤ number_in lower (i - 1) ≡ fixed_from (i - 1)
      unfolding fixed_from fixed_terms is_open bounds_at
      fixed_more = +ℤ_comm (fixed_from i) (cell rows start (i - 1) *ℤ number_in lower (i - 1)) ∙ rw (tab-down (cell rows start) n i p h, tab-down (bounds_at lower upper) n i p h, o)

  -- ---- once the divisor is 1 it stays 1
  one_down : (q i : ℕ) → 0 < i → i ≤ n → open_from q i ≡ 1 → open_from q (i - 1) ≡ 1
  one_down q i p h e = go (lt_z (number_in lower (i - 1)) (number_in upper (i - 1))) refl
    where
      go : (t : Bool) → lt_z (number_in lower (i - 1)) (number_in upper (i - 1)) ≡ t → open_from q (i - 1) ≡ 1
      go true o =
          let a = nat_abs (cell rows start (i - 1)) in
          let d = gcd-right a 1 in
          let one : gcd a 1 ≡ 1 = omega (arith, le_of_dvd (omega arith) d, pos_of_dvd_of_pos d (omega arith)) in
          sym (open_more i p h o q) ∙ ap (gcd a) e ∙ one
      go false o = sym (open-same i p h o q) ∙ e

  open-one : (q i : ℕ) → i ≤ n → open_from q i ≡ 1 → open_from q 0 ≡ 1
  open-one q zero h e = e
  open-one q (suc i) h e = let z : suc i - 1 ≡ i = omega arith in open-one q i (omega arith) (rw z at (one_down q (suc i) (omega arith) h e))

  -- ---- the test
  tested : (q : ℕ) (k : Constraint) (box : Box) → 0 < q → falsified_by q k box ≡ not (divides (open_divisor q k.coefficients box) (fixed_value k box))
  unfolding falsified_by
  tested zero k box p = absurd (omega arith)
  tested (suc q) k box p = refl

  whole : (q : ℕ) → 0 < q → falsified_by q (constraint_at n rows start) (box_of n lower upper) ≡ not (divides (open_from q 0) (number_in rows start +ℤ fixed_from 0))
  unfolding open_from fixed_from fixed_value constraint_at box_of
  whole q p = tested q (constraint_at n rows start) (box_of n lower upper) p ∙ rw sub-zero

  pub indivisible-one : (q i g : ℕ) → 0 < q → i ≤ n → g ≡ open_from q i → g ≡ 1 → false ≡ falsified_by q (constraint_at n rows start) (box_of n lower upper)
  unfolding divides
  indivisible-one q i g p h e o = sym (whole q p ∙ rw (open-one q i h (sym e ∙ o), mod-one))

  pub indivisible-end : (q i g : ℕ) (sum : ℤ) → 0 < q → i ≡ 0 → g ≡ open_from q i → sum ≡ fixed_from i →
      not (eqb (nat_abs (number_in rows start +ℤ sum) % g) 0) ≡ falsified_by q (constraint_at n rows start) (box_of n lower upper)
  unfolding divides
  indivisible-end q i g sum p z e f = rw (e, f, z) (sym (whole q p))
