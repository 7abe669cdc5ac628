-- What computed cases share: short forms, document 01's plans A and B, tests of equality.
use Rattle.std.specs.Prelude.{ℕ, Bool, false, ◌&&◌, List, [], ◌∷◌, eqb, ℤ, pos, neg_ℤ, length, replicate}
use Rattle.model_problems.specs.Lists.{all_pairs}
use Rattle.model_problems.specs.Constraint.{Constraint, Bounds, Box, equalℤ}
use Rattle.model_problems.specs.Problem.{Problem, Result, ok, error}

-- ---- short forms
-- −n
abbrev pub neg : ℕ → ℤ
neg n = neg_ℤ (pos n)

-- the coefficients, then the constant: a line as document 01 writes it
abbrev pub linear : List ℤ → ℤ → Constraint
linear cs c = record { constant = c; coefficients = cs; divisor = pos 0 }

-- N1: q divides it
abbrev pub divided : ℕ → List ℤ → ℤ → Constraint
divided q cs c = record { constant = c; coefficients = cs; divisor = pos q }

-- the same numbers with another q, in range or not
abbrev pub with_divisor : ℤ → Constraint → Constraint
with_divisor q k = record { constant = k.constant; coefficients = k.coefficients; divisor = q }

-- L to U
abbrev pub between : ℤ → ℤ → Bounds
between l u = record { lower = l; upper = u }

-- 0 to U, and one value
abbrev pub to : ℕ → Bounds
to u = between (pos 0) (pos u)

abbrev pub at : ℕ → Bounds
at v = between (pos v) (pos v)

-- N6's thresholds, limits, lines, budget; and without thresholds
abbrev pub semicontinuous : List ℤ → Box → List Constraint → ℕ → Problem
semicontinuous ts d ks b = record { domain = d; thresholds = ts; constraints = ks; budget = b }

abbrev pub problem : Box → List Constraint → ℕ → Problem
problem d ks b = semicontinuous (replicate (length d) (pos 0)) d ks b

-- 'Plan A', with a budget: limits 0 to 1, lines −v1 − v2 + 1 and −v1 + v2
abbrev pub A-first : Constraint
A-first = linear (neg 1 ∷ neg 1 ∷ []) (pos 1)

abbrev pub A-second : Constraint
A-second = linear (neg 1 ∷ pos 1 ∷ []) (pos 0)

abbrev pub A-domain : Box
A-domain = replicate 2 (between (pos 0) (pos 1))

abbrev pub plan_a : ℕ → Problem
plan_a b = problem A-domain (A-first ∷ A-second ∷ []) b

-- 'plan B': 6v1 − 3v2 − 2 and −6v1 + 3v2 + 1, limits 0 to 10, B = 1
abbrev pub B-first : Constraint
B-first = linear (pos 6 ∷ neg 3 ∷ []) (neg 2)

abbrev pub B-second : Constraint
B-second = linear (neg 6 ∷ pos 3 ∷ []) (pos 1)

abbrev pub plan_b : Problem
plan_b = problem (replicate 2 (between (pos 0) (pos 10))) (B-first ∷ B-second ∷ []) 1

-- ---- equality
abbrev pub same_values : List ℤ → List ℤ → Bool
same_values u v = all_pairs equalℤ u v

abbrev pub same_bounds : Bounds → Bounds → Bool
same_bounds b c = equalℤ b.lower c.lower && equalℤ b.upper c.upper

-- ---- answers
abbrev pub is_ok : {A : Type 0} → (A → Bool) → Result A → Bool
is_ok t (ok x) = t x
is_ok t (error e) = false

abbrev pub is_error : {A : Type 0} → ℕ → Result A → Bool
is_error n (ok x) = false
is_error n (error e) = eqb e n
