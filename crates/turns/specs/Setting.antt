-- The rows of the divisor constraints, put from another array.
use Rattle.std.specs.Prelude.{ℕ, ◌<◌, List, ◌≡◌, ℤ, pos, length}
use Rattle.layout.specs.Rows.{number_in, row_at, max_rows, rows_length}

pub record RowsPut (n m : ℕ) (divisors from before after : List ℤ) : Type 0 where
  pub long : length after ≡ rows_length
  pub put : (j : ℕ) → j < m → (number_in divisors j ≡ pos 0 → ⊥) → row_at n after j ≡ row_at n from j
  pub kept : (j : ℕ) → j < max_rows → (j < m → number_in divisors j ≡ pos 0) → row_at n after j ≡ row_at n before j
