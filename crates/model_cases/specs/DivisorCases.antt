-- Computed cases of document 02's N1: a divisor line among the kept lines, and at a dead end.
use Rattle.std.specs.Prelude.{ℕ, Bool, List, [], ◌∷◌, eqb, pos, replicate}
use Rattle.model_problems.specs.Lists.{all, all_pairs, with_default}
use Rattle.model_problems.specs.Constraint.{Constraint, equal}
use Rattle.model_problems.specs.Problem.{Problem}
use Rattle.model_walk.specs.Search.{domain, decision, flipped, constraint, core_of}
use Rattle.model_walk.specs.Move.{descend}
use Rattle.model_walk.specs.Conflict.{numbered, at_conflict}
use Rattle.model_walk.specs.Step.{no_solution, solution}
use Rattle.model_walk.specs.Brief.{over, level}
use Rattle.model_problems.specs.Examples.{neg, linear, divided, problem, to, at}
use Rattle.model_walk.specs.Examples.{runs_to}
use Rattle.model_cases.specs.Examples.{entry, writes}
use Rattle.model_cases.specs.SearchCases.{stands, after, by}

-- ---- 'never .. equal to a cut'
-- a cut with the numbers of a divisor line is made, with the next number
abbrev not_equal : Bool
not_equal =
    let cut = linear (neg 1 ∷ pos 0 ∷ []) (pos 1) in
    let n = numbered (over (divided 3 (neg 1 ∷ pos 0 ∷ []) (pos 1) ∷ []) (level (at 0) (at 0) 0) []) cut in
    all (eqb n.number 2 ∷ all_pairs equal n.core.cuts (cut ∷ []) ∷ eqb n.core.made 1 ∷ [])

-- the lowest false number wins, of either sort
abbrev first_false : List Constraint → ℕ → Bool
first_false ks j = eqb (with_default 9 (descend (core_of (problem (at 1 ∷ []) ks 9))).falsified) j

abbrev lowest : Bool
lowest =
    let wrong = divided 2 (pos 1 ∷ []) (pos 0) in
    let high = linear (pos 1 ∷ []) (pos 0) in
    let right = divided 3 (pos 1 ∷ []) (pos 2) in
    all (first_false (right ∷ wrong ∷ high ∷ []) 1 ∷ first_false (right ∷ high ∷ wrong ∷ []) 1 ∷ first_false (right ∷ right ∷ []) 9 ∷ [])

-- ---- 'a dead end on it learns nothing'
abbrev zero_cut : Constraint
zero_cut = linear (pos 0 ∷ pos 0 ∷ []) (pos 0)

-- limits 0 to 1; 2 | v1 + v2 + 1: met at depth 2
abbrev odd : Problem
odd = problem (replicate 2 (to 1)) (divided 2 (pos 1 ∷ pos 1 ∷ []) (pos 1) ∷ []) 9

abbrev nothing_learned : Bool
nothing_learned =
    all (
    writes (entry 1 1 0 2 2 zero_cut (0 ∷ 0 ∷ []) ∷ []) 3 odd ∷
    stands 1 (to 0 ∷ at 1 ∷ []) (by domain decision ∷ by flipped domain ∷ []) [] [] 0 (after 1 odd) ∷
    runs_to (solution (pos 0 ∷ pos 1 ∷ [])) 1 odd ∷
    [])

-- limits 0 to 2; 2 | v1 + 1, −v1 − v2 + 2 and −v1 + v2 + 1: a cut is learned and leaves v1 = 2, where the first line is false. The cut stays.
abbrev mixed : Problem
mixed = problem (replicate 2 (to 2)) (divided 2 (pos 1 ∷ pos 0 ∷ []) (pos 1) ∷ linear (neg 1 ∷ neg 1 ∷ []) (pos 2) ∷ linear (neg 1 ∷ pos 1 ∷ []) (pos 1) ∷ []) 9

abbrev cut_stays : Bool
cut_stays =
    let cut = linear (neg 1 ∷ pos 0 ∷ []) (pos 2) in
    all (
    writes (entry 1 3 4 1 1 cut (0 ∷ 2 ∷ []) ∷ entry 2 1 0 0 0 zero_cut (0 ∷ 0 ∷ []) ∷ []) 3 mixed ∷
    stands 0 (at 2 ∷ to 1 ∷ []) (by flipped domain ∷ by domain (constraint 3) ∷ []) (cut ∷ []) (4 ∷ []) 1 (after 2 mixed) ∷
    runs_to no_solution 2 mixed ∷
    [])

-- 'd is the least depth where it is false': a made-up walk with v1 = 0 decided at depth 1 and v2 = 0 at depth 2, where 2 | v1 + 1 is false from depth 1 on
abbrev least_depth : Bool
least_depth =
    let x = at_conflict (over (divided 2 (pos 1 ∷ pos 0 ∷ []) (pos 1) ∷ []) (level (at 0) (at 0) 1) (level (at 0) (to 1) 0 ∷ level (to 1) (to 1) 0 ∷ [])) 0 in
    all (
    eqb x.falsified 1 ∷
    eqb x.cut_number 0 ∷
    eqb x.depth 2 ∷
    eqb x.back 1 ∷
    equal x.cut zero_cut ∷
    all_pairs eqb x.used (0 ∷ 0 ∷ []) ∷
    stands 0 (at 1 ∷ to 1 ∷ []) (by flipped (constraint 1) ∷ by (constraint 1) (constraint 1) ∷ []) [] [] 0 x.core ∷
    [])

unfoldable pub divisor_cases : List Bool
divisor_cases = not_equal ∷ lowest ∷ nothing_learned ∷ cut_stays ∷ least_depth ∷ []
