-- What reading ensures of an accepted problem, as far as opening needs it.
use Rattle.std.specs.Prelude.{◌≤◌, T}
use Rattle.model_problems.specs.Ranges.{max_variables, max_constraints}
use Rattle.model_problems.specs.Problem.{constraints_in_range}
use Rattle.problem.specs.declared.Problem.{Problem}
use Rattle.problem.specs.View.{problem_of}

-- the sizes are in range, and so are the numbers of every constraint: it may be rounded
pub record Accepted (p : Problem) : Type 0 where
  pub few-variables : p.n ≤ max_variables
  pub few-constraints : p.m ≤ max_constraints
  pub coefficient-range : T (constraints_in_range (problem_of p))
