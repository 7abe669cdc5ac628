-- Constraints lie in rows of 33 numbers, one after the other in a flat array: the constant, then a coefficient for each of 32 variables. Bounds lie
-- in two arrays. What stands past the first n variables is not read.
use Rattle.std.specs.Prelude.{ℕ, ◌+◌, ◌*◌, List, ℤ, pos, get_or}
use Rattle.model_problems.specs.Lists.{tab}
use Rattle.model_problems.specs.Ranges.{max_variables, max_constraints, max_cuts}
use Rattle.model_problems.specs.Constraint.{Constraint, Bounds, Box}

-- the numbers of a row
abbrev pub row_length : ℕ
row_length = 1 + max_variables

-- the rows of a search state, and their numbers
abbrev pub max_rows : ℕ
max_rows = max_constraints + max_cuts

abbrev pub rows_length : ℕ
rows_length = row_length * max_rows

-- element i of an array, 0 past its end
unfoldable pub number_in : List ℤ → ℕ → ℤ
number_in xs i = get_or xs i (pos 0)

-- coefficient i of the constraint whose row starts at `start`
unfoldable pub cell : List ℤ → ℕ → ℕ → ℤ
cell rows start i = number_in rows (start + 1 + i)

-- the constraint of n variables whose row starts at `start`
unfoldable pub constraint_at : ℕ → List ℤ → ℕ → Constraint
constraint_at n rows start = record { constant = number_in rows start; coefficients = tab (cell rows start) 0 n; divisor = pos 0 }

-- the same with divisor q
unfoldable pub divided_at : ℕ → List ℤ → ℕ → ℤ → Constraint
divided_at n rows start q = record { constant = number_in rows start; coefficients = tab (cell rows start) 0 n; divisor = q }

-- the constraint in row j
unfoldable pub row_at : ℕ → List ℤ → ℕ → Constraint
row_at n rows j = constraint_at n rows (row_length * j)

-- input j: the constraint in row j with its divisor
unfoldable pub input_at : ℕ → List ℤ → List ℤ → ℕ → Constraint
input_at n rows divisors j = divided_at n rows (row_length * j) (number_in divisors j)

-- the bounds of variable i, and the box of the first n variables
unfoldable pub bounds_at : List ℤ → List ℤ → ℕ → Bounds
bounds_at lower upper i = record { lower = number_in lower i; upper = number_in upper i }

unfoldable pub box_of : ℕ → List ℤ → List ℤ → Box
box_of n lower upper = tab (bounds_at lower upper) 0 n

-- the thresholds of the first n variables
unfoldable pub thresholds_of : ℕ → List ℤ → List ℤ
thresholds_of n thresholds = tab (number_in thresholds) 0 n
