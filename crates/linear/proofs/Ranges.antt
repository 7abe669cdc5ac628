-- For callers: what the functions ask follows from the model's own tests, and a number in range is what the machine reads back from its bits.
use Prim.Native.Nat.{ℕ, ◌+◌, ◌≤◌, ◌<◌}
use mathlib.Core.Bool.{true}
use mathlib.Core.List.{List}
use mathlib.Core.Logic.{⊎_elim}
use mathlib.Core.Path.{◌≡◌, refl}
use native.Mathlib.Omega.{arith}
use borrow.Author.Tests.{eqb-true, leb-true}
use lib.Dec.{lit<, lit≤, eqb, leb}
use lib.IntN.{ℤ, pos, negsuc}
use lib.ListN.{length}
use mir.Syntax.{w64}
use mir.Val.{to_z, of_z}
use Rattle.model_problems.specs.Ranges.{within, max_variables, max_coefficient, max_divisor, max_bound}
use Rattle.model_problems.specs.Lists.{all, all_of}
use Rattle.model_problems.specs.Constraint.{equalℤ, in_range, none_or_from_two, is_divisor, no_bounds}
use Rattle.model_problems.specs.Problem.{bounds_in_range}
use Rattle.integer.specs.Size.{Within, weaken, between_in}
use Rattle.integer.specs.Tests.{back, of-true}
use Rattle.lists.proofs.Bools.{clash, and-true, or-true}
use Rattle.lists.proofs.Tab.{get_d-tab}
use Rattle.lists.proofs.AllOf.{all_of-get_d}
use Rattle.layout.specs.Rows.{number_in, cell, constraint_at, bounds_at, box_of}
use Rattle.layout.proofs.Rows.{length-box, length-coefficients}
use Rattle.linear.specs.Ranges.{TermFits, ChangeFits, RowFits, BoxFits, DivisorFits}

within_in : (b : ℕ) (z : ℤ) → within b z ≡ true → Within b z
unfolding within
within_in b z e = record { within = between_in b z (of-true _ e) }

-- ---- a row, from `in_range`
pub row_fits : (n : ℕ) (rows : List ℤ) (start : ℕ) → n ≤ max_variables → start + n < length rows → in_range (constraint_at n rows start) ≡ true → RowFits n rows start
unfolding in_range constraint_at
row_fits n rows start few room e =
    let k = constraint_at n rows start in
    let both = and-true (within max_coefficient (number_in rows start)) (all_of (within max_coefficient) k.coefficients) e in
    record {
      few = few;
      inside = room;
      constant = within_in max_coefficient (number_in rows start) both.0;
      coefficients = λ i h.
          within_in max_coefficient (cell rows start i)
          (rw (get_d-tab (cell rows start) n i (pos 0) h) at
          (all_of-get_d (within max_coefficient) k.coefficients i (pos 0) both.1 (rw (length-coefficients n rows start) h)));
    }

-- ---- a divisor, from `is_divisor`
pub divisor-fits : (q : ℤ) → is_divisor q ≡ true → DivisorFits q
unfolding is_divisor none_or_from_two equalℤ
divisor-fits (pos q) e = ⊎_elim (λ z. omega (arith, eqb-true q 0 z)) (λ b. leb-true q max_divisor (and-true (leb 2 q) (leb q max_divisor) b).1) (or-true (eqb q 0) _ e)
divisor-fits (negsuc q) e = clash e refl

-- ---- bounds, from `bounds_in_range`
module _ (n : ℕ) (lower upper : List ℤ) (e : all_of bounds_in_range (box_of n lower upper) ≡ true) where
  at-variable : (i : ℕ) → i < n → bounds_in_range (bounds_at lower upper i) ≡ true
  unfolding box_of
  at-variable i h =
      rw (get_d-tab (bounds_at lower upper) n i no_bounds h) at (all_of-get_d bounds_in_range (box_of n lower upper) i no_bounds e (rw (length-box n lower upper) h))

  both : (i : ℕ) → i < n → (within max_bound (number_in lower i) ≡ true) × (within max_bound (number_in upper i) ≡ true)
  unfolding bounds_in_range all bounds_at
  both i h =
      let a = and-true (within max_bound (number_in lower i)) _ (at-variable i h) in
      (a.0, (and-true (within max_bound (number_in upper i)) _ a.1).0)

  pub lower-within : (i : ℕ) → i < n → Within max_bound (number_in lower i)
  lower-within i h = within_in max_bound (number_in lower i) (both i h).0

  pub upper-within : (i : ℕ) → i < n → Within max_bound (number_in upper i)
  upper-within i h = within_in max_bound (number_in upper i) (both i h).1

  pub box-fits : n ≤ length lower → n ≤ length upper → BoxFits n lower upper
  box-fits l u =
      record {
        lowers = l;
        uppers = u;
        low = λ i h. weaken (lit≤ tt) (lower-within i h);
        high = λ i h. weaken (lit≤ tt) (upper-within i h);
      }

-- ---- one variable of a row and a box
pub term_fits : {n : ℕ} {rows : List ℤ} {start : ℕ} {lower upper : List ℤ} → RowFits n rows start → BoxFits n lower upper → (i : ℕ) → i < n →
    TermFits (cell rows start i) (number_in lower i) (number_in upper i)
term_fits r b i h = record { coefficient = r.coefficients i h; low = b.low i h; high = b.high i h }

-- bounds are no larger than what they can change by
pub change-fits : {a lower upper : ℤ} → TermFits a lower upper → ChangeFits a lower upper
change-fits f = record { coefficient = f.coefficient; up = weaken (lit≤ tt) f.low; down = weaken (lit≤ tt) f.high }

-- ---- as the machine reads them
module _ {n : ℕ} {rows : List ℤ} {start : ℕ} (r : RowFits n rows start) where
  pub constant-back : to_z w64 (of_z w64 (number_in rows start)) ≡ number_in rows start
  constant-back = back (lit< tt) r.constant

  pub coefficient-back : (i : ℕ) → i < n → to_z w64 (of_z w64 (cell rows start i)) ≡ cell rows start i
  coefficient-back i h = back (lit< tt) (r.coefficients i h)

module _ {n : ℕ} {lower upper : List ℤ} (b : BoxFits n lower upper) where
  pub lower-back : (i : ℕ) → i < n → to_z w64 (of_z w64 (number_in lower i)) ≡ number_in lower i
  lower-back i h = back (lit< tt) (b.low i h)

  pub upper-back : (i : ℕ) → i < n → to_z w64 (of_z w64 (number_in upper i)) ≡ number_in upper i
  upper-back i h = back (lit< tt) (b.high i h)
