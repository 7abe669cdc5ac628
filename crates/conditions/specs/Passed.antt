-- What has passed before activities are computed.
use Rattle.std.specs.Prelude.{true, ◌≤◌, ◌≡◌}
use Rattle.model_problems.specs.Ranges.{max_variables, max_constraints}
use Rattle.model_walk.specs.Validity.{constraints_valid, divisors_valid}
use Rattle.state.specs.View.{core_of}
use Rattle.state.specs.declared.Search.{Search}

-- the kept constraints lie inside the state's arrays, and their numbers are in range
pub record ConstraintsPassed (s : Search) : Type 0 where
  pub variables : s.n ≤ max_variables
  pub inputs : s.m ≤ max_constraints
  pub constraints : constraints_valid (core_of s) ≡ true
  pub divisors : divisors_valid (core_of s) ≡ true
