-- Numbers copied from one array into another.
use Rattle.std.specs.Prelude.{ℕ, ◌+◌, ◌≤◌, ◌<◌, List, ◌≡◌, ℤ, length}
use Rattle.layout.specs.Rows.{number_in}

-- `count` numbers copied to place `at`; all else stays
pub record Copied (count at : ℕ) (from before after : List ℤ) : Type 0 where
  pub size : length after ≡ length before
  pub inside : (k : ℕ) → k < count → number_in after (at + k) ≡ number_in from k
  pub below : (k : ℕ) → k < at → number_in after k ≡ number_in before k
  pub above : (k : ℕ) → at + count ≤ k → number_in after k ≡ number_in before k
