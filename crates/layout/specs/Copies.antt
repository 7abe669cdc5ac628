-- A row that is copied, and one that is stored.
use Rattle.std.specs.Prelude.{ℕ, ◌+◌, ◌≤◌, ◌<◌, List, ◌≡◌, ℤ, pos, length}
use Rattle.layout.specs.Rows.{row_length, number_in, constraint_at}

-- the numbers of n variables from `start` on, and 0 past them
pub record Copied (n : ℕ) (rows : List ℤ) (start : ℕ) (row : List ℤ) : Type 0 where
  pub size : length row ≡ row_length
  pub same : constraint_at n row 0 ≡ constraint_at n rows start
  pub rest : (i : ℕ) → n < i → number_in row i ≡ pos 0

-- `count` places from `start` on hold the first numbers of a row, and the others stay
pub record Placed (start count : ℕ) (row before after : List ℤ) : Type 0 where
  pub size : length after ≡ length before
  pub below : (k : ℕ) → k < start → number_in after k ≡ number_in before k
  pub placed : (k : ℕ) → k < count → number_in after (start + k) ≡ number_in row k
  pub above : (k : ℕ) → start + count ≤ k → number_in after k ≡ number_in before k
