-- Rows that are filled one after the other with rounded constraints.
use Rattle.std.specs.Prelude.{ℕ, ◌<◌, ◌≡◌, List, ℤ, length}
use Rattle.model_problems.specs.Constraint.{rounded}
use Rattle.layout.specs.Rows.{input_at, rows_length}

-- the first `count` rows hold the constraints of n variables, rounded
pub record RowsRounded (n : ℕ) (constraints divisors : List ℤ) (count : ℕ) (rows : List ℤ) : Type 0 where
  pub size : length rows ≡ rows_length
  pub row : (j : ℕ) → j < count → input_at n rows divisors j ≡ rounded (input_at n constraints divisors j)
