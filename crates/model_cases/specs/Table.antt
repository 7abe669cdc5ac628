-- Document 01's 'Reference table', P1 to P12: one table, one theorem, proved by computing the definitions.
use Rattle.std.specs.Prelude.{Bool, ◌&&◌, List, [], ◌∷◌, T, pos}
use Rattle.model_problems.specs.Lists.{all}
use Rattle.model_problems.specs.Constraint.{Constraint, activity, implied_upper, implied_lower, rounded, resolvent, equalℤ, equal}
use Rattle.model_walk.specs.Step.{no_solution, out_of_budget, solution}
use Rattle.model_problems.specs.Examples.{neg, linear, between, problem, A-first, A-second, A-domain, plan_a, B-first, B-second, plan_b}
use Rattle.model_claims.specs.Computing.{definitions}
use Rattle.model_walk.specs.Examples.{sets_lower, sets_upper, runs_to}

-- P1 6v1 − 3v2 − 2 rounds to 2v1 − v2.
abbrev p1-rounded : Constraint
p1-rounded = linear (pos 2 ∷ neg 1 ∷ []) (pos 0)

abbrev p1 : Bool
p1 = equal (rounded B-first) p1-rounded

-- P2 −6v1 + 3v2 + 1 rounds to −2v1 + v2 + 1.
abbrev p2-rounded : Constraint
p2-rounded = linear (neg 2 ∷ pos 1 ∷ []) (pos 1)

abbrev p2 : Bool
p2 = equal (rounded B-second) p2-rounded

-- P3 −3v1 + 2v2 + 1 with v1 0 to 4, v2 1 to 2: lowest −9.
abbrev p3 : Bool
p3 = equalℤ (activity (linear (neg 3 ∷ pos 2 ∷ []) (pos 1)) (between (pos 0) (pos 4) ∷ between (pos 1) (pos 2) ∷ [])) (neg 9)

-- P4 3v1 + 7: v1 ≤ −3.
abbrev p4 : Bool
p4 = equalℤ (implied_upper (pos 7) 3) (neg 3) && sets_upper (neg 3) (linear (pos 3 ∷ []) (pos 7)) (between (neg 10) (pos 10) ∷ [])

-- P5 −3v1 + 7: v1 ≥ 3.
abbrev p5 : Bool
p5 = equalℤ (implied_lower (pos 7) 3) (pos 3) && sets_lower (pos 3) (linear (neg 3 ∷ []) (pos 7)) (between (neg 10) (pos 10) ∷ [])

-- P6 −3v1 − 7: v1 ≥ −2.
abbrev p6 : Bool
p6 = equalℤ (implied_lower (neg 7) 3) (neg 2) && sets_lower (neg 2) (linear (neg 3 ∷ []) (neg 7)) (between (neg 10) (pos 10) ∷ [])

-- P7 P2's outcome with P1's at v2: 1 ≤ 0.
abbrev p7 : Bool
p7 = equal (resolvent 1 p2-rounded p1-rounded) (linear (pos 0 ∷ pos 0 ∷ []) (pos 1))

-- P8 A's second line with its first at v2: −v1 + 1.
abbrev p8 : Bool
p8 = equal (resolvent 1 A-second A-first) (linear (neg 1 ∷ pos 0 ∷ []) (pos 1))

-- P9 A: (1, 0), 1 end.
abbrev p9 : Bool
p9 = runs_to (solution (pos 1 ∷ pos 0 ∷ [])) 1 (plan_a 5)

-- P10 A with B = 0: spent, 0.
abbrev p10 : Bool
p10 = runs_to out_of_budget 0 (plan_a 0)

-- P11 A, lines exchanged: as P9.
abbrev p11 : Bool
p11 = runs_to (solution (pos 1 ∷ pos 0 ∷ [])) 1 (problem A-domain (A-second ∷ A-first ∷ []) 5)

-- P12 plan B, the unrounded lines of P1 and P2, limits 0 to 10, B = 1: none, 1.
abbrev p12 : Bool
p12 = runs_to no_solution 1 plan_b

pub table : List Bool
table = p1 ∷ p2 ∷ p3 ∷ p4 ∷ p5 ∷ p6 ∷ p7 ∷ p8 ∷ p9 ∷ p10 ∷ p11 ∷ p12 ∷ []

pub table-holds : T (all table)
unfolding table definitions
table-holds = tt
