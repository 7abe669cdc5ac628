-- What 'combining' asks of two constraints of n variables, whose rows start at `at` of the array f and at `start` of the array rows.
use Rattle.std.specs.Prelude.{ℕ, ◌+◌, ◌≤◌, ◌<◌, ◌≡◌, true, List, ℤ, length}
use Rattle.model_problems.specs.Ranges.{max_variables}
use Rattle.model_problems.specs.Constraint.{Constraint, coefficient_at, rounded, resolvent, opposite, in_range}
use Rattle.layout.specs.Rows.{row_length, constraint_at}
use Rattle.derivation.specs.Sized.{max_combined, Sized}

-- the rows lie in the arrays, and the numbers in document 01's range
pub record Combinable (n : ℕ) (f : List ℤ) (at : ℕ) (rows : List ℤ) (start : ℕ) : Type 0 where
  pub variables : n ≤ max_variables
  pub first-row : at + row_length ≤ length f
  pub second-row : start + row_length ≤ length rows
  pub first_range : in_range (constraint_at n f at) ≡ true
  pub second_range : in_range (constraint_at n rows start) ≡ true

-- and the coefficients at variable i are of opposite sign
pub record Resolvable (i n : ℕ) (f : List ℤ) (at : ℕ) (rows : List ℤ) (start : ℕ) : Type 0 where
  pub variable : i < n
  pub combinable : Combinable n f at rows start
  pub signs : opposite (coefficient_at (constraint_at n f at) i) (coefficient_at (constraint_at n rows start) i) ≡ true

-- the row r holds F and J combined at variable i: rounded, it is their resolvent
pub record Combined (i : ℕ) (f j : Constraint) (n : ℕ) (r : List ℤ) : Type 0 where
  pub outcome : rounded (constraint_at n r 0) ≡ resolvent i f j
  pub sized : Sized max_combined (constraint_at n r 0)
  pub size : length r ≡ row_length
