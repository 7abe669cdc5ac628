-- Problems in hand, in a file or not: which of them are acceptable, and opening one.
use Rattle.std.specs.Prelude.{ℕ, List, [], ◌∷◌, ◌≡◌, length}
use Rattle.model_problems.specs.Constraint.{Constraint}
use Rattle.model_problems.specs.Problem.{Problem, variables, sizes_in_range, domain_in_range, thresholds_in_range, constraints_in_range, divisors_in_range, first_error, Result, result_of}
use Rattle.model_walk.specs.Search.{Search, opened_by}

-- The number of a problem: the writer's, whatever the buffer; 0 where none of its conditions holds.
unfoldable pub problem_error : Problem → ℕ
problem_error p = first_error ((4, sizes_in_range p) ∷ (5, domain_in_range p) ∷ (13, thresholds_in_range p) ∷ (6, constraints_in_range p) ∷ (10, divisors_in_range p) ∷ [])

-- each constraint has a coefficient for each of n variables
abbrev pub Shaped : ℕ → List Constraint → Type 0
Shaped n [] = Unit {0}
Shaped n (k ∷ ks) = (length k.coefficients ≡ n) × Shaped n ks

-- An 'acceptable' problem: the writer would take it. What arrays of rows say has the shape by their form, and so has what a file says.
pub record Acceptable (p : Problem) : Type 0 where
  pub shaped : Shaped (variables p) p.constraints
  pub fine : problem_error p ≡ 0

-- opening a problem in hand
unfoldable pub open_given : Problem → Result Search
open_given p = opened_by (result_of (problem_error p) p)
