-- What is known of a problem that is written.
use Rattle.std.specs.Prelude.{ℕ, suc, ◌*◌, ◌≤◌, true, ◌≡◌}
use Rattle.model_files.specs.Bytes.{block_length}
use Rattle.model_problems.specs.Problem.{domain_in_range, thresholds_in_range, constraints_in_range, divisors_in_range}
use Rattle.model_problems.specs.Ranges.{max_variables, max_constraints}
use Rattle.problem.specs.declared.Problem.{Problem}
use Rattle.problem.specs.View.{problem_of}

-- nothing is wrong with the problem, and there is room for its blocks
pub record Writable (p : Problem) (space : ℕ) : Type 0 where
  pub few-variables : p.n ≤ max_variables
  pub few-constraints : p.m ≤ max_constraints
  pub bounded : domain_in_range (problem_of p) ≡ true
  pub threshold-range : thresholds_in_range (problem_of p) ≡ true
  pub coefficient-range : constraints_in_range (problem_of p) ≡ true
  pub divisor_range : divisors_in_range (problem_of p) ≡ true
  pub long : block_length * suc p.m ≤ space
