-- Problems, document 01's 'plans': what a plan file says, and the ranges that reading and writing test.
use Rattle.std.specs.Prelude.{ℕ, zero, suc, Bool, cond, List, [], ◌∷◌, leb, length, ℤ}
use Rattle.std.specs.Int.Signed.{le_z}
use Rattle.model_problems.specs.Lists.{all, all_of, all_pairs}
use Rattle.model_problems.specs.Ranges.{max_variables, max_constraints, max_budget, max_bound, within}
use Rattle.model_problems.specs.Constraint.{Constraint, Bounds, Box, in_range, divisor_in_range}
use Rattle.model_problems.specs.Threshold.{threshold_fits}

-- The 'limits', N6's thresholds, the 'lines' as they stand in the file, and 'B'. The number of variables, 'n', is the length of the domain and of the
-- thresholds; 'm' that of the constraints, each of which has n coefficients: what a problem holds past n and m is not part of it.
pub record Problem : Type 0 where
  pub domain : Box
  pub thresholds : List ℤ
  pub constraints : List Constraint
  pub budget : ℕ

unfoldable pub variables : Problem → ℕ
variables p = length p.domain

-- 4 does not hold: n, m and B are within their limits
unfoldable pub sizes_in_range : Problem → Bool
sizes_in_range p = all (leb 1 (variables p) ∷ leb (variables p) max_variables ∷ leb (length p.constraints) max_constraints ∷ leb p.budget max_budget ∷ [])

-- 5 does not hold
unfoldable pub bounds_in_range : Bounds → Bool
bounds_in_range b = all (within max_bound b.lower ∷ within max_bound b.upper ∷ le_z b.lower b.upper ∷ [])

unfoldable pub domain_in_range : Problem → Bool
domain_in_range p = all_of bounds_in_range p.domain

-- 13 does not hold
unfoldable pub thresholds_in_range : Problem → Bool
thresholds_in_range p = all_pairs threshold_fits p.thresholds p.domain

-- 6 does not hold
unfoldable pub constraints_in_range : Problem → Bool
constraints_in_range p = all_of in_range p.constraints

-- 10 does not hold
unfoldable pub divisors_in_range : Problem → Bool
divisors_in_range p = all_of divisor_in_range p.constraints

-- ---- errors
-- The table's numbers with their tests, in the order in which they count: the first that fails gives the number, 0 where none fails.
unfoldable pub first_error : List (ℕ × Bool) → ℕ
first_error [] = 0
first_error (t ∷ ts) = cond t.1 (first_error ts) t.0

-- What a call that can be refused gives: a value, or an error's number alone.
pub data Result (A : Type 0) : Type 0 where
  ok : A → Result A
  error : ℕ → Result A

unfoldable pub result_of : {A : Type 0} → ℕ → A → Result A
result_of zero x = ok x
result_of (suc e) x = error (suc e)
