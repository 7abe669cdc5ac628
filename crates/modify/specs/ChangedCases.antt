-- Computed cases of problems changed.
use Rattle.std.specs.Prelude.{ℕ, Bool, true, false, List, [], ◌∷◌, T, eqb, pos}
use Rattle.model_problems.specs.Lists.{all, all_pairs}
use Rattle.model_problems.specs.Constraint.{Constraint, Bounds, equal, equalℤ}
use Rattle.model_problems.specs.Problem.{Problem}
use Rattle.model_problems.specs.Points.{Point, all_solutions}
use Rattle.model_problems.specs.Examples.{neg, linear, divided, to, semicontinuous, same_values}
use Rattle.model_problems.specs.Computing.{definitions}
use Rattle.modify.specs.Changed.{with_constraints, appended, replaced, last_replaced, without, chosen, reduced, closed}

-- v1 + v2 ≤ 3, v2 ≤ 1, 2 | v1
abbrev first : Constraint
first = linear (pos 1 ∷ pos 1 ∷ []) (neg 3)

abbrev second : Constraint
second = linear (pos 0 ∷ pos 1 ∷ []) (neg 1)

abbrev third : Constraint
third = divided 2 (pos 1 ∷ pos 0 ∷ []) (pos 0)

-- v1 ≥ 1
abbrev other : Constraint
other = linear (neg 1 ∷ pos 0 ∷ []) (pos 1)

-- limits 0 to 3, and v1 is 0 or at least 2
abbrev plan : List Constraint → Problem
plan ks = semicontinuous (pos 2 ∷ pos 0 ∷ []) (to 3 ∷ to 3 ∷ []) ks 5

abbrev three : Problem
three = plan (first ∷ second ∷ third ∷ [])

-- the constraints of a problem changed
abbrev holds : Problem → List Constraint → Bool
holds p ks = all_pairs equal p.constraints ks

abbrev constraints : List Bool
constraints =
    holds (appended three other) (first ∷ second ∷ third ∷ other ∷ []) ∷
    holds (replaced 0 three other) (other ∷ second ∷ third ∷ []) ∷
    holds (replaced 3 three other) (first ∷ second ∷ third ∷ []) ∷
    holds (last_replaced three other) (first ∷ second ∷ other ∷ []) ∷
    holds (without 1 three) (first ∷ third ∷ []) ∷
    holds (reduced (false ∷ true ∷ true ∷ false ∷ []) three) (second ∷ third ∷ []) ∷
    holds (reduced (true ∷ []) three) (first ∷ []) ∷
    []

-- its solutions, in order
abbrev solves : Problem → List Point → Bool
solves p vs = all_pairs same_values (all_solutions p) vs

abbrev at : ℕ → ℕ → Point
at x y = pos x ∷ pos y ∷ []

abbrev solutions : List Bool
solutions =
    solves three (at 0 0 ∷ at 0 1 ∷ at 2 0 ∷ at 2 1 ∷ []) ∷
    solves (appended three other) (at 2 0 ∷ at 2 1 ∷ []) ∷
    solves (without 0 three) (at 0 0 ∷ at 0 1 ∷ at 2 0 ∷ at 2 1 ∷ []) ∷
    solves (without 2 three) (at 0 0 ∷ at 0 1 ∷ at 2 0 ∷ at 2 1 ∷ at 3 0 ∷ []) ∷
    solves (closed 0 three) (at 0 0 ∷ at 0 1 ∷ []) ∷
    solves (closed 1 three) (at 0 0 ∷ at 2 0 ∷ []) ∷
    []

-- a closed variable has neither limits nor a threshold any more; the others keep theirs
abbrev same_bounds : Bounds → Bounds → Bool
same_bounds b c = all_pairs equalℤ (b.lower ∷ b.upper ∷ []) (c.lower ∷ c.upper ∷ [])

abbrev closing : List Bool
closing =
    all_pairs same_bounds (closed 0 three).domain (to 0 ∷ to 3 ∷ []) ∷
    all_pairs equalℤ (closed 0 three).thresholds (pos 0 ∷ pos 0 ∷ []) ∷
    all_pairs equalℤ (closed 1 three).thresholds (pos 2 ∷ pos 0 ∷ []) ∷
    holds (closed 0 three) (first ∷ second ∷ third ∷ []) ∷
    eqb (closed 0 three).budget 5 ∷
    []

pub changed-cases-hold : T (all constraints) × T (all solutions) × T (all closing)
unfolding with_constraints appended replaced last_replaced without chosen reduced closed definitions
changed-cases-hold = (tt, tt, tt)
