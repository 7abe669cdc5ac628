-- Computed cases of turns and runs. The problems were searched for; their values come from document 01 and from two other implementations of it.
use Rattle.std.specs.Prelude.{ℕ, Bool, ◌&&◌, not, List, [], ◌∷◌, eqb, ℤ, pos, replicate}
use Rattle.model_problems.specs.Lists.{all, all_pairs, with_default}
use Rattle.model_problems.specs.Constraint.{Constraint, Box, falsified, resolvent, in_range, equal}
use Rattle.model_problems.specs.Problem.{Problem}
use Rattle.model_walk.specs.Search.{Reason, domain, decision, flipped, constraint, Reasons, Core, Status, undecided, infeasible, solved, depth, core_of, open_problem}
use Rattle.model_walk.specs.Move.{descend}
use Rattle.model_walk.specs.Conflict.{analyze, levels_tested}
use Rattle.model_walk.specs.Step.{go_on, no_solution, out_of_budget, solution}
use Rattle.model_claims.specs.Demand.{state_after}
use Rattle.model_problems.specs.Examples.{neg, linear, between, problem, plan_a, same_bounds, to}
use Rattle.model_walk.specs.Examples.{same_reasons, runs_to}
use Rattle.model_cases.specs.Examples.{steps_to, entry, writes}

-- ---- what a state holds after k turns from the opening: depth, the deepest level's bounds and causes, kept cuts with their numbers, cuts made
abbrev pub stands : ℕ → Box → List Reasons → List Constraint → List ℕ → ℕ → Core → Bool
stands d b rs ks ns made c =
    all (
    eqb (depth c) d ∷
    all_pairs same_bounds c.deepest.box b ∷
    all_pairs same_reasons c.deepest.reasons rs ∷
    all_pairs equal c.cuts ks ∷
    all_pairs eqb c.numbers ns ∷
    eqb c.made made ∷
    [])

abbrev pub after : ℕ → Problem → Core
after k p = (state_after k (open_problem p)).core

abbrev pub by : Reason → Reason → Reasons
by l u = record { lower = l; upper = u }

-- the mark after k turns from the opening
abbrev pub status_code : Status → ℕ
status_code undecided = 0
status_code infeasible = 1
status_code solved = 2

abbrev marked : Status → ℕ → Problem → Bool
marked m k p = eqb (status_code (state_after k (open_problem p)).status) (status_code m)

-- plan A after its first turn: frame 1 is gone, and v1 starts at 1 in frame 0, cause turned
abbrev stepped_a : Bool
stepped_a =
    stands 0 (between (pos 1) (pos 1) ∷ to 1 ∷ []) (by flipped domain ∷ by domain domain ∷ []) (linear (neg 1 ∷ pos 0 ∷ []) (pos 1) ∷ []) (3 ∷ []) 1 (after 1 (plan_a 5))

-- its turns: go on, the solution, and the solution again; marked by that verdict
abbrev steps_a : Bool
steps_a =
    all (
    steps_to go_on 1 0 (plan_a 5) ∷
    steps_to (solution (pos 1 ∷ pos 0 ∷ [])) 1 1 (plan_a 5) ∷
    steps_to (solution (pos 1 ∷ pos 0 ∷ [])) 1 2 (plan_a 5) ∷
    marked undecided 1 (plan_a 5) ∷
    marked solved 2 (plan_a 5) ∷
    [])

-- ---- a dead end met at depth 2 whose cut is false from depth 1 on: 'end 1 line 2 cut 3 depth 2 back 1'
-- limits 0 to 2; −v1 − v2 + v3 + v4 + 1 and v2 − v3 − v4
abbrev pub jumping : Problem
jumping =
    problem (replicate 4 (to 2))
    (linear (neg 1 ∷ neg 1 ∷ pos 1 ∷ pos 1 ∷ []) (pos 1) ∷ linear (pos 0 ∷ pos 1 ∷ neg 1 ∷ neg 1 ∷ []) (pos 0) ∷ []) 9

abbrev jump_cut : Constraint
jump_cut = linear (neg 1 ∷ pos 0 ∷ pos 0 ∷ pos 0 ∷ []) (pos 1)

abbrev backjump : Bool
backjump =
    all (
    writes (entry 1 2 3 2 1 jump_cut (0 ∷ 0 ∷ 0 ∷ 1 ∷ []) ∷ []) 3 jumping ∷
    stands 0 (between (pos 1) (pos 2) ∷ replicate 3 (to 2)) (by flipped domain ∷ replicate 3 (by domain domain)) (jump_cut ∷ []) (3 ∷ []) 1 (after 1 jumping) ∷
    runs_to (solution (pos 1 ∷ pos 0 ∷ pos 0 ∷ pos 0 ∷ [])) 1 jumping ∷
    [])

-- met at depth 2, d = 2: the variable decided at d is turned, which is not the one decided at d − 1
-- limits 0 to 1; v1 − v2 − v3 + 1 and −v2 + v3
abbrev pub stepping : Problem
stepping = problem (replicate 3 (to 1)) (linear (pos 1 ∷ neg 1 ∷ neg 1 ∷ []) (pos 1) ∷ linear (pos 0 ∷ neg 1 ∷ pos 1 ∷ []) (pos 0) ∷ []) 9

abbrev pub step_cut : Constraint
step_cut = linear (pos 1 ∷ neg 2 ∷ pos 0 ∷ []) (pos 1)

abbrev back_one : Bool
back_one =
    all (
    writes (entry 1 2 3 2 2 step_cut (0 ∷ 0 ∷ 1 ∷ []) ∷ []) 3 stepping ∷
    stands 1 (to 0 ∷ between (pos 1) (pos 1) ∷ to 1 ∷ []) (by domain decision ∷ by flipped domain ∷ by domain domain ∷ []) (step_cut ∷ []) (3 ∷ []) 1 (after 1 stepping) ∷
    runs_to (solution (pos 0 ∷ pos 1 ∷ pos 0 ∷ [])) 1 stepping ∷
    [])

-- ---- 'Take the outcome as F only if it is false in the deepest frame'
-- limits 0 to 1 and 0 to 2; −3v1 + 2v2 + 2 and v1 − 2v2. In frame 0 the first gives v1 ≥ 1 and v2 ≤ 0, and the second is false.
-- With the first at v2 it gives −v1 + 1, which is in range and not false, so F stays; at v1 it then gives −v2 + 1.
abbrev loosening : Problem
loosening = problem (to 1 ∷ to 2 ∷ []) (linear (neg 3 ∷ pos 2 ∷ []) (pos 2) ∷ linear (pos 1 ∷ neg 2 ∷ []) (pos 0) ∷ []) 9

abbrev not_taken : Bool
not_taken =
    let s = descend (core_of loosening) in
    let f = linear (pos 1 ∷ neg 2 ∷ []) (pos 0) in
    let g = resolvent 1 f (linear (neg 3 ∷ pos 2 ∷ []) (pos 2)) in
    let a = analyze s.core f in
    all (
    all_pairs same_bounds s.core.deepest.box (between (pos 1) (pos 1) ∷ to 0 ∷ []) ∷
    eqb (with_default 9 s.falsified) 1 ∷
    equal g (linear (neg 1 ∷ pos 0 ∷ []) (pos 1)) ∷
    in_range g ∷
    not (falsified g s.core.deepest.box) ∷
    equal a.cut (linear (pos 0 ∷ neg 1 ∷ []) (pos 1)) ∷
    all_pairs eqb a.used (1 ∷ 0 ∷ []) ∷
    writes (entry 1 2 3 0 0 (linear (pos 0 ∷ neg 1 ∷ []) (pos 1)) (1 ∷ 0 ∷ []) ∷ []) 2 loosening ∷
    [])

-- '.. and within ±2^30': 2^30·v1 − v2 + c and −v1 + 1, limits 0 to 1 and 0 to 3, give −v2 + 2^30 + c at v1: taken for c = 0, not for c = 1
abbrev ranging : ℤ → Problem
ranging c = problem (to 1 ∷ to 3 ∷ []) (linear (pos 1_073_741_824 ∷ neg 1 ∷ []) c ∷ linear (neg 1 ∷ pos 0 ∷ []) (pos 1) ∷ []) 9

abbrev range_edge : Bool
range_edge =
    writes (entry 1 2 3 0 0 (linear (pos 0 ∷ neg 1 ∷ []) (pos 1_073_741_824)) (1 ∷ 0 ∷ []) ∷ []) 2 (ranging (pos 0)) &&
    writes (entry 1 2 2 0 0 (linear (neg 1 ∷ pos 0 ∷ []) (pos 1)) (0 ∷ 0 ∷ []) ∷ []) 2 (ranging (pos 1))

-- '.. a kept line J with a coefficient of opposite sign at v': a made-up cause that names a line of the same sign, here the false one, is passed over
abbrev blamed : Constraint → ℕ → Core
blamed k v =
    record {
      variables = 2;
      thresholds = replicate 2 (pos 0);
      inputs = k ∷ [];
      cuts = [];
      numbers = [];
      made = 0;
      deepest = record { box = replicate 2 (between (pos v) (pos v)); reasons = replicate 2 (by (constraint 1) (constraint 1)); decided = 0 };
      outer = [];
    }

abbrev same_sign : Constraint → ℕ → Bool
same_sign k v =
    let a = analyze (blamed k v) k in
    all (falsified k (blamed k v).deepest.box ∷ equal a.cut k ∷ all_pairs eqb a.used (0 ∷ 0 ∷ []) ∷ [])

abbrev wrong_sign : Bool
wrong_sign = same_sign (linear (neg 1 ∷ neg 1 ∷ []) (pos 1)) 0 && same_sign (linear (pos 1 ∷ pos 1 ∷ []) (neg 1)) 1

-- ---- 'If it equals a kept line, it has the lowest such number': none is made then
-- limits 0 to 1; −2v1 − 3v2 + 2v3 + 2, −2v1 + v2 − 2v3, and −2v1 − v3 + 1 twice: the second with the first at v2 is the third
abbrev repeated_line : Constraint
repeated_line = linear (neg 2 ∷ pos 0 ∷ neg 1 ∷ []) (pos 1)

abbrev repeating : Problem
repeating =
    problem (replicate 3 (to 1))
    (linear (neg 2 ∷ neg 3 ∷ pos 2 ∷ []) (pos 2) ∷ linear (neg 2 ∷ pos 1 ∷ neg 2 ∷ []) (pos 0) ∷ repeated_line ∷ repeated_line ∷ []) 9

abbrev equal_input : Bool
equal_input =
    all (
    writes (entry 1 2 3 1 1 repeated_line (0 ∷ 1 ∷ 0 ∷ []) ∷ []) 3 repeating ∷
    stands 0 (between (pos 1) (pos 1) ∷ replicate 2 (to 1)) (by flipped domain ∷ replicate 2 (by domain domain)) [] [] 0 (after 1 repeating) ∷
    runs_to (solution (pos 1 ∷ pos 0 ∷ pos 0 ∷ [])) 1 repeating ∷
    [])

-- limits 0 to 1, 0 to 2, 0 to 1; 2v1 − 3v2 − 3v3 + 2 and −2v1 + 2v2 + v3: the first cut, number 3, is false itself at the second dead end
abbrev pub twice : ℕ → Problem
twice b = problem (to 1 ∷ to 2 ∷ to 1 ∷ []) (linear (pos 2 ∷ neg 3 ∷ neg 3 ∷ []) (pos 2) ∷ linear (neg 2 ∷ pos 2 ∷ pos 1 ∷ []) (pos 0) ∷ []) b

abbrev twice_cut : Constraint
twice_cut = linear (neg 4 ∷ pos 3 ∷ pos 0 ∷ []) (pos 2)

abbrev equal_cut : Bool
equal_cut =
    all (
    writes (entry 1 2 3 1 1 twice_cut (0 ∷ 0 ∷ 1 ∷ []) ∷ entry 2 3 3 0 0 twice_cut (0 ∷ 0 ∷ 0 ∷ []) ∷ []) 4 (twice 9) ∷
    stands 0 (between (pos 1) (pos 1) ∷ to 1 ∷ to 1 ∷ []) (by flipped domain ∷ by domain (constraint 2) ∷ by domain domain ∷ []) (twice_cut ∷ []) (3 ∷ []) 1 (after 1 (twice 9)) ∷
    stands 0 (between (pos 1) (pos 1) ∷ between (pos 1) (pos 1) ∷ to 1 ∷ []) (by flipped domain ∷ by (constraint 1) (constraint 2) ∷ by domain domain ∷ []) (twice_cut ∷ []) (3 ∷ []) 1 (after 2 (twice 9)) ∷
    [])

-- ---- verdicts
-- 'none' where the dead end is met at depth 1, 'and the frames stay': limits 0 to 2; −v1 − v2 + v3 and v1 + v2 − v3 + 1
abbrev hopeless : Problem
hopeless = problem (replicate 3 (to 2)) (linear (neg 1 ∷ neg 1 ∷ pos 1 ∷ []) (pos 0) ∷ linear (pos 1 ∷ pos 1 ∷ neg 1 ∷ []) (pos 1) ∷ []) 9

abbrev none_cut : Constraint
none_cut = linear (pos 0 ∷ pos 0 ∷ pos 0 ∷ []) (pos 1)

abbrev none_deep : Bool
none_deep =
    all (
    writes (entry 1 2 3 1 0 none_cut (0 ∷ 0 ∷ 1 ∷ []) ∷ []) 3 hopeless ∷
    stands 1 (to 0 ∷ between (pos 1) (pos 1) ∷ between (pos 1) (pos 1) ∷ []) (by domain decision ∷ by (constraint 1) (constraint 2) ∷ by (constraint 2) (constraint 1) ∷ []) (none_cut ∷ []) (3 ∷ []) 1 (after 1 hopeless) ∷
    steps_to no_solution 1 0 hopeless ∷
    steps_to no_solution 1 2 hopeless ∷
    marked infeasible 1 hopeless ∷
    runs_to no_solution 1 hopeless ∷
    [])

-- N3's number of frames tested, by depth met and d: two where the deepest alone is false, each frame where all are
abbrev frames_tested : Bool
frames_tested = all (eqb (levels_tested 3 3) 2 ∷ eqb (levels_tested 3 2) 3 ∷ eqb (levels_tested 3 1) 4 ∷ eqb (levels_tested 3 0) 4 ∷ eqb (levels_tested 0 0) 1 ∷ [])

-- 'no lines (each lo_i)'
abbrev no_lines : Bool
no_lines = runs_to (solution (pos 0 ∷ neg 2 ∷ [])) 0 (problem (to 3 ∷ between (neg 2) (pos 5) ∷ []) [] 0)

-- 'spent' at as many dead ends as B, and not one before; the walk stays as before the turn. Plan A has one dead end and `twice` has two.
abbrev spent_at_budget : Bool
spent_at_budget =
    all (
    runs_to (solution (pos 1 ∷ pos 0 ∷ [])) 1 (plan_a 1) ∷
    steps_to go_on 1 0 (twice 1) ∷
    steps_to out_of_budget 1 1 (twice 1) ∷
    steps_to out_of_budget 1 2 (twice 1) ∷
    marked undecided 2 (twice 1) ∷
    stands 0 (between (pos 1) (pos 1) ∷ to 1 ∷ to 1 ∷ []) (by flipped domain ∷ by domain (constraint 2) ∷ by domain domain ∷ []) (twice_cut ∷ []) (3 ∷ []) 1 (after 2 (twice 1)) ∷
    runs_to out_of_budget 1 (twice 1) ∷
    runs_to no_solution 2 (twice 2) ∷
    [])

unfoldable pub search_cases : List Bool
search_cases =
    not_taken ∷ backjump ∷ spent_at_budget ∷
    stepped_a ∷ steps_a ∷ back_one ∷ range_edge ∷ wrong_sign ∷ equal_input ∷ equal_cut ∷ none_deep ∷ frames_tested ∷ no_lines ∷ []
