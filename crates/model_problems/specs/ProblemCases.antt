-- Computed cases of lines, thresholds and points.
use Rattle.std.specs.Prelude.{Bool, ◌&&◌, not, List, [], ◌∷◌, map, T, eqb, pos}
use Rattle.model_problems.specs.Lists.{all, all_of, any_of, all_pairs}
use Rattle.model_problems.specs.Division.{divides}
use Rattle.model_problems.specs.Constraint.{Constraint, falsified, rounded, resolvent, equal}
use Rattle.model_problems.specs.Threshold.{allowed, lifted, sunk, next_value}
use Rattle.model_problems.specs.Points.{Point, all_points, points, value}
use Rattle.model_problems.specs.Examples.{neg, linear, divided, between, to, at, semicontinuous, problem, same_values}
use Rattle.model_problems.specs.Computing.{definitions}

-- ---- 'false when the greatest common divisor of q and the coefficients of the quantities with L < U doesn't divide the rest's value'
-- 6 | 4v1 + 3v2 + 1: that divisor is 1, 2, 3 or 6
abbrev sixth : Constraint
sixth = divided 6 (pos 4 ∷ pos 3 ∷ []) (pos 1)

abbrev frames : Bool
frames =
    all_of (falsified sixth) ((to 1 ∷ at 0 ∷ []) ∷ (at 1 ∷ to 1 ∷ []) ∷ (at 1 ∷ at 1 ∷ []) ∷ []) &&
    not (any_of (falsified sixth) ((to 1 ∷ to 1 ∷ []) ∷ (to 1 ∷ at 1 ∷ []) ∷ (at 2 ∷ to 1 ∷ []) ∷ (at 2 ∷ at 1 ∷ []) ∷ []))

-- coefficients below 0 and at 0, and a rest below 0; 5 | v1 from 1 to 3 is not false, though no value there meets it
abbrev signs : Bool
signs =
    all (
    falsified (divided 4 (neg 2 ∷ []) (pos 1)) (to 1 ∷ []) ∷
    falsified (divided 4 (pos 0 ∷ []) (pos 2)) (to 1 ∷ []) ∷
    not (falsified (divided 4 (pos 0 ∷ []) (neg 4)) (to 1 ∷ [])) ∷
    falsified (divided 5 (pos 1 ∷ []) (neg 7)) (at 3 ∷ []) ∷
    not (falsified (divided 5 (pos 1 ∷ []) (neg 7)) (at 2 ∷ [])) ∷
    not (falsified (divided 5 (pos 1 ∷ []) (pos 0)) (between (pos 1) (pos 3) ∷ [])) ∷
    [])

-- the points that meet 5 | 2v1 − v2 − 3
abbrev meets_fifth : Point → Bool
meets_fifth v = divides 5 (value (divided 5 (pos 2 ∷ neg 1 ∷ []) (neg 3)) v)

abbrev meetings : Bool
meetings =
    all_of meets_fifth ((pos 0 ∷ pos 2 ∷ []) ∷ (pos 4 ∷ pos 0 ∷ []) ∷ (neg 1 ∷ pos 0 ∷ []) ∷ []) && not (any_of meets_fifth ((pos 0 ∷ pos 0 ∷ []) ∷ (pos 0 ∷ pos 5 ∷ []) ∷ (pos 1 ∷ pos 2 ∷ []) ∷ []))

-- a divisor line is not rounded
abbrev even_line : Constraint
even_line = divided 4 (pos 2 ∷ neg 6 ∷ []) (pos 3)

abbrev not_rounded : Bool
not_rounded = equal (rounded even_line) even_line

-- ---- lines and points
-- 'A line with no coefficient but 0 stays.' And g matters: 2v1 + 3v2 − 7 with −2v1 − 3v2 + 8 is 1 ≤ 0, not 3 ≤ 0.
abbrev zero_lines : Bool
zero_lines =
    equal (rounded (linear (pos 0 ∷ pos 0 ∷ []) (pos 7))) (linear (pos 0 ∷ pos 0 ∷ []) (pos 7)) &&
    equal (resolvent 1 (linear (pos 2 ∷ pos 3 ∷ []) (neg 7)) (linear (neg 2 ∷ neg 3 ∷ []) (pos 8))) (linear (pos 0 ∷ pos 0 ∷ []) (pos 1))

-- the tests of equality do refuse: another constant, another coefficient, another sign, another length, a divisor
abbrev unequal : Bool
unequal =
    not (any_of (equal (linear (neg 1 ∷ pos 2 ∷ []) (pos 1)))
    (linear (neg 1 ∷ pos 2 ∷ []) (pos 2) ∷
    linear (neg 1 ∷ pos 3 ∷ []) (pos 1) ∷
    linear (neg 2 ∷ pos 2 ∷ []) (pos 1) ∷
    linear (neg 1 ∷ neg 2 ∷ []) (pos 1) ∷
    linear (neg 1 ∷ pos 2 ∷ []) (neg 1) ∷
    linear (neg 1 ∷ []) (pos 1) ∷
    linear (neg 1 ∷ pos 2 ∷ pos 0 ∷ []) (pos 1) ∷
    divided 2 (neg 1 ∷ pos 2 ∷ []) (pos 1) ∷
    []))

-- the points of limits −1 to 1 and 5 to 6, in dictionary order
abbrev point_list : Bool
point_list =
    let p = problem (between (neg 1) (pos 1) ∷ between (pos 5) (pos 6) ∷ []) [] 0 in
    eqb (points p) 6 &&
    all_pairs same_values (all_points p) ((neg 1 ∷ pos 5 ∷ []) ∷ (neg 1 ∷ pos 6 ∷ []) ∷ (pos 0 ∷ pos 5 ∷ []) ∷ (pos 0 ∷ pos 6 ∷ []) ∷ (pos 1 ∷ pos 5 ∷ []) ∷ (pos 1 ∷ pos 6 ∷ []) ∷ [])

-- ---- 'the values are 0 and t_i to hi_i'
abbrev left : Bool
left =
    all (
    all_of (allowed (pos 3)) (neg 1 ∷ pos 0 ∷ pos 3 ∷ pos 4 ∷ []) ∷
    not (any_of (allowed (pos 3)) (pos 1 ∷ pos 2 ∷ [])) ∷
    all_of (allowed (pos 0)) (neg 1 ∷ pos 0 ∷ pos 1 ∷ []) ∷
    not (allowed (pos 2) (pos 1)) ∷
    [])

-- a lower bound rises to 3 in place of 1 and 2, an upper one falls to 0, and after 0 comes 3
abbrev jumps : Bool
jumps =
    let bounds = neg 1 ∷ pos 0 ∷ pos 1 ∷ pos 2 ∷ pos 3 ∷ pos 4 ∷ [] in
    all (
    same_values (map (lifted (pos 3)) bounds) (neg 1 ∷ pos 0 ∷ pos 3 ∷ pos 3 ∷ pos 3 ∷ pos 4 ∷ []) ∷
    same_values (map (sunk (pos 3)) bounds) (neg 1 ∷ pos 0 ∷ pos 0 ∷ pos 0 ∷ pos 3 ∷ pos 4 ∷ []) ∷
    same_values (map (next_value (pos 3)) (neg 1 ∷ pos 0 ∷ pos 3 ∷ [])) (pos 0 ∷ pos 3 ∷ pos 4 ∷ []) ∷
    same_values (map (lifted (pos 0)) bounds) bounds ∷
    same_values (map (sunk (pos 0)) bounds) bounds ∷
    same_values (map (next_value (pos 0)) (neg 1 ∷ pos 0 ∷ pos 3 ∷ [])) (pos 0 ∷ pos 1 ∷ pos 4 ∷ []) ∷
    [])

-- 'Points .. are counted over these values': limits 0 to 4 with t = 3, and 0 to 1
abbrev allowed_points : Bool
allowed_points =
    let p = semicontinuous (pos 3 ∷ pos 0 ∷ []) (to 4 ∷ to 1 ∷ []) [] 0 in
    eqb (points p) 6 &&
    all_pairs same_values (all_points p) ((pos 0 ∷ pos 0 ∷ []) ∷ (pos 0 ∷ pos 1 ∷ []) ∷ (pos 3 ∷ pos 0 ∷ []) ∷ (pos 3 ∷ pos 1 ∷ []) ∷ (pos 4 ∷ pos 0 ∷ []) ∷ (pos 4 ∷ pos 1 ∷ []) ∷ [])

pub problem_cases : List Bool
problem_cases = zero_lines ∷ unequal ∷ point_list ∷ allowed_points ∷ left ∷ jumps ∷ frames ∷ signs ∷ meetings ∷ not_rounded ∷ []

pub problem-cases-hold : T (all problem_cases)
unfolding problem_cases definitions
problem-cases-hold = tt
