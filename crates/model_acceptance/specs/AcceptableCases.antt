-- Computed cases of acceptable problems: each number, at its edge and beside it; the first that applies, in the order 4, 5, 13, 6, 10; and opening.
use Rattle.std.specs.Prelude.{ℕ, ◌+◌, ◌^◌, Bool, List, [], ◌∷◌, T, eqb, ℤ, pos, replicate}
use Rattle.model_problems.specs.Lists.{all, all_pairs}
use Rattle.model_problems.specs.Constraint.{Constraint, Bounds}
use Rattle.model_problems.specs.Problem.{Problem, Result, ok, error}
use Rattle.model_problems.specs.Examples.{linear, divided, between, to, semicontinuous, problem, A-first, A-domain, plan_a}
use Rattle.model_walk.specs.Search.{Search}
use Rattle.model_walk.specs.Computing.{definitions}
use Rattle.model_acceptance.specs.Acceptable.{problem_error, open_given}

-- one variable, with a threshold, limits and a line
abbrev one : ℤ → Bounds → Constraint → Problem
one t b k = semicontinuous (t ∷ []) (b ∷ []) (k ∷ []) 5

abbrev fine_line : Constraint
fine_line = linear (pos 1 ∷ []) (pos 0)

-- out of range, 'heavy', with a divisor that may not stand
abbrev too_large : Constraint
too_large = divided 1 (pos (2 ^ 30 + 1) ∷ []) (pos 0)

abbrev accepted : List Problem
accepted =
    plan_a 5 ∷
    plan_a 1000000000 ∷
    problem (replicate 32 (to 1)) [] 0 ∷
    problem A-domain (replicate 64 A-first) 5 ∷
    one (pos 0) (to (2 ^ 24)) fine_line ∷
    one (pos 2) (to 2) fine_line ∷
    one (pos 0) (to 1) (linear (pos (2 ^ 30) ∷ []) (pos (2 ^ 30))) ∷
    one (pos 0) (to 1) (divided (2 ^ 20) (pos 1 ∷ []) (pos 0)) ∷
    []

abbrev refused : List Problem
refused =
    problem [] [] 5 ∷
    problem (replicate 33 (to 1)) [] 5 ∷
    problem A-domain (replicate 65 A-first) 5 ∷
    plan_a 1000000001 ∷
    one (pos 0) (between (pos 1) (pos 0)) fine_line ∷
    one (pos 0) (to (2 ^ 24 + 1)) fine_line ∷
    one (pos 1) (to 2) fine_line ∷
    one (pos 3) (to 2) fine_line ∷
    one (pos 0) (to 1) (linear (pos (2 ^ 30 + 1) ∷ []) (pos 0)) ∷
    one (pos 0) (to 1) (divided 1 (pos 1 ∷ []) (pos 0)) ∷
    -- several apply
    semicontinuous (pos 1 ∷ []) (between (pos 1) (pos 0) ∷ []) (too_large ∷ []) 1000000001 ∷
    one (pos 1) (between (pos 1) (pos 0)) too_large ∷
    one (pos 1) (to 2) too_large ∷
    one (pos 0) (to 2) too_large ∷
    []

abbrev numbers : List ℕ
numbers = 4 ∷ 4 ∷ 4 ∷ 4 ∷ 5 ∷ 5 ∷ 13 ∷ 13 ∷ 6 ∷ 10 ∷ 4 ∷ 5 ∷ 13 ∷ 6 ∷ []

abbrev numbered : Problem → ℕ → Bool
numbered p e = eqb (problem_error p) e

abbrev opens : Result Search → ℕ → Bool
opens (ok s) e = eqb e 0
opens (error n) e = eqb n e

abbrev opened : Problem → ℕ → Bool
opened p e = opens (open_given p) e

abbrev cases : List Bool
cases =
    all_pairs numbered accepted (replicate 8 0) ∷
    all_pairs numbered refused numbers ∷
    all_pairs opened accepted (replicate 8 0) ∷
    all_pairs opened refused numbers ∷
    []

pub acceptable-cases-hold : T (all cases)
unfolding problem_error open_given definitions
acceptable-cases-hold = tt
