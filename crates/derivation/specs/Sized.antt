-- Bounds on the numbers of a constraint.
use Rattle.std.specs.Prelude.{ℕ, ◌^◌}
use Rattle.model_problems.specs.Constraint.{Constraint, coefficient_at}
use Rattle.integer.specs.Size.{Within}

-- what a combination of two constraints in range can reach before it is rounded: the sum of two products of numbers up to 2^30
abbrev pub max_combined : ℕ
max_combined = 2 ^ 61

-- each number of the constraint is at most b away from zero
pub record Sized (b : ℕ) (k : Constraint) : Type 0 where
  pub constant : Within b k.constant
  pub coefficient : (i : ℕ) → Within b (coefficient_at k i)
