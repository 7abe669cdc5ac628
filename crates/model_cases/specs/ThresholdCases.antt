-- Computed cases of document 02's N6: bounds that jump, files with thresholds, and made-up walks.
-- Verdicts, counts and bytes are those of two other implementations.
use Rattle.std.specs.Prelude.{ℕ, Bool, ◌&&◌, not, List, [], ◌∷◌, ◌++◌, map, eqb, ℤ, pos, replicate}
use Rattle.model_problems.specs.Lists.{all, all_of, any_of}
use Rattle.model_problems.specs.Constraint.{Constraint, Bounds}
use Rattle.model_problems.specs.Problem.{Problem}
use Rattle.model_files.specs.File.{read_error, read_file, file_of, write_error}
use Rattle.model_walk.specs.Search.{domain, flipped, Level, undecided, Search, open_problem}
use Rattle.model_walk.specs.Validity.{valid}
use Rattle.model_walk.specs.Step.{no_solution, solution, Outcome, run_call}
use Rattle.model_claims.specs.Enumeration.{all_turns, walk}
use Rattle.model_walk.specs.Trace.{joined}
use Rattle.model_problems.specs.Examples.{neg, linear, with_divisor, between, semicontinuous, A-first, A-second, is_ok, to}
use Rattle.model_walk.specs.Examples.{runs_to}
use Rattle.model_cases.specs.Examples.{same_bytes, same_problem, entry, writes, filled}
use Rattle.model_cases.specs.SearchCases.{stands, after, by}
use Rattle.model_cases.specs.ExclusionCases.{rounds}
use Rattle.model_cases.specs.ListingCases.{lists}

-- ---- bounds that jump
-- the run's count of bounds set by lines: 'a jump is one'
abbrev sets_in : ℕ → Problem → Bool
sets_in n p = is_ok (λ (o : Outcome). eqb o.propagations n) (run_call (open_problem p))

-- limits 0 to 5, t = 3: −v1 + 1 raises L to 3, v1 − 2 lowers U to 0, and both together are 'none'
abbrev one : List Constraint → Problem
one ks = semicontinuous (pos 3 ∷ []) (to 5 ∷ []) ks 5

abbrev implied : Bool
implied =
    let low = linear (neg 1 ∷ []) (pos 1) in
    let high = linear (pos 1 ∷ []) (neg 2) in
    all (
    runs_to (solution (pos 3 ∷ [])) 0 (one (low ∷ [])) ∷
    sets_in 1 (one (low ∷ [])) ∷
    runs_to (solution (pos 0 ∷ [])) 0 (one (high ∷ [])) ∷
    sets_in 1 (one (high ∷ [])) ∷
    runs_to no_solution 1 (one (low ∷ high ∷ [])) ∷
    sets_in 1 (one (low ∷ high ∷ [])) ∷
    [])

-- plan A with limits 0 to 5 and t = 3 at v1: after its dead end v1 starts at 3, cause turned
abbrev wider_a : Problem
wider_a = semicontinuous (pos 3 ∷ pos 0 ∷ []) (to 5 ∷ to 1 ∷ []) (A-first ∷ A-second ∷ []) 5

abbrev turned : Bool
turned =
    all (
    writes (entry 1 2 3 1 1 (linear (neg 1 ∷ pos 0 ∷ []) (pos 1)) (0 ∷ 1 ∷ []) ∷ []) 3 wider_a ∷
    stands 0 (between (pos 3) (pos 5) ∷ to 1 ∷ []) (by flipped domain ∷ by domain domain ∷ []) (linear (neg 1 ∷ pos 0 ∷ []) (pos 1) ∷ []) (3 ∷ []) 1 (after 1 wider_a) ∷
    runs_to (solution (pos 3 ∷ pos 0 ∷ [])) 1 wider_a ∷
    [])

-- a strike jumps too: the forms of limits 0 to 4 with t = 3 are 0, 3 and 4
abbrev struck_past : Bool
struck_past =
    let p = semicontinuous (pos 3 ∷ []) (to 4 ∷ []) [] 0 in
    lists ((pos 0 ∷ []) ∷ (pos 3 ∷ []) ∷ []) (pos 0 ∷ pos 3 ∷ []) 2 (solution (pos 4 ∷ [])) 0 (walk (all_turns ∷ rounds 2) (open_problem p)) 4 (open_problem p)

-- ---- files: limits 0 to 5 with t = 3, 0 to 1, no lines, B = 5; t_1 stands at byte 268
abbrev head_with : ℕ → ℕ → List ℕ → List ℕ → List ℕ
head_with m lo ts check =
    filled (joined ((66 ∷ 76 ∷ 85 ∷ 69 ∷ 2 ∷ 0 ∷ m ∷ 0 ∷ 5 ∷ 0 ∷ 0 ∷ 0 ∷ []) ∷ (lo ∷ 0 ∷ 0 ∷ 0 ∷ 5 ∷ 0 ∷ 0 ∷ 0 ∷ 0 ∷ 0 ∷ 0 ∷ 0 ∷ 1 ∷ 0 ∷ 0 ∷ 0 ∷ []) ∷ replicate 240 0 ∷ ts ∷ [])) check

abbrev round_trip : Bool
round_trip =
    let f = head_with 0 0 (3 ∷ []) (83 ∷ 76 ∷ 85 ∷ 69 ∷ []) in
    let p = semicontinuous (pos 3 ∷ pos 0 ∷ []) (to 5 ∷ to 1 ∷ []) [] 5 in
    is_ok (λ (q : Problem). same_problem q p) (read_file f) && same_bytes (file_of p) f

-- reading: 13 before 6 and 7, after 5; t past n is 7
abbrev pub thirteen : Bool
thirteen =
    let heavy : List ℕ = filled (1 ∷ 0 ∷ 0 ∷ 0 ∷ 255 ∷ 255 ∷ 255 ∷ 255 ∷ 1 ∷ 0 ∷ 0 ∷ 64 ∷ 1 ∷ []) (4 ∷ 0 ∷ 0 ∷ 64 ∷ []) in
    all (
    eqb (read_error (head_with 1 0 (1 ∷ []) (81 ∷ 76 ∷ 86 ∷ 69 ∷ []) ++ heavy)) 13 ∷
    eqb (read_error (head_with 0 6 (1 ∷ []) (87 ∷ 76 ∷ 85 ∷ 69 ∷ []))) 5 ∷
    eqb (read_error (head_with 0 0 (3 ∷ 0 ∷ 0 ∷ 0 ∷ 0 ∷ 0 ∷ 0 ∷ 0 ∷ 1 ∷ []) (84 ∷ 76 ∷ 85 ∷ 69 ∷ []))) 7 ∷
    [])

-- writing: t of −1, 0, 1, 2, hi and one more, lo not 0; after 4 and 5, before 6, 10 and 8
abbrev writing : ℤ → Bounds → List Constraint → ℕ → ℕ
writing t b ks room = write_error (semicontinuous (t ∷ []) (b ∷ []) ks 5) room

abbrev edges : Bool
edges =
    let heavy = linear (pos 1_073_741_825 ∷ []) (pos 0) in
    let odd = with_divisor (pos 1) (linear (pos 1 ∷ []) (pos 0)) in
    all (
    eqb (writing (neg 1) (to 5) [] 512) 13 ∷
    eqb (writing (pos 0) (to 5) [] 512) 0 ∷
    eqb (writing (pos 1) (to 5) [] 512) 13 ∷
    eqb (writing (pos 2) (to 5) [] 512) 0 ∷
    eqb (writing (pos 5) (to 5) [] 512) 0 ∷
    eqb (writing (pos 6) (to 5) [] 512) 13 ∷
    eqb (writing (pos 2) (between (neg 1) (pos 5)) [] 512) 13 ∷
    eqb (writing (pos 2) (between (pos 2) (pos 5)) [] 512) 13 ∷
    eqb (writing (pos 0) (between (pos 2) (pos 5)) [] 512) 0 ∷
    eqb (writing (pos 1) (between (pos 6) (pos 5)) [] 512) 5 ∷
    eqb (writing (pos 1) (to 5) (heavy ∷ []) 1024) 13 ∷
    eqb (writing (pos 1) (to 5) (odd ∷ []) 1024) 13 ∷
    eqb (writing (pos 1) (to 5) [] 511) 13 ∷
    eqb (writing (pos 2) (to 5) (heavy ∷ []) 1024) 6 ∷
    [])

-- ---- made-up walks: 't_i 1, negative or above the highest value a limit may have, or a bound from 1 to t_i − 1'
abbrev state : ℤ → Level → List Level → Search
state t l ls =
    record {
      core = record { variables = 2; thresholds = t ∷ pos 0 ∷ []; inputs = A-first ∷ A-second ∷ []; cuts = []; numbers = []; made = 0; deepest = l; outer = ls };
      budget = 5;
      conflicts = 0;
      propagations = 0;
      status = undecided;
    }

abbrev level : Bounds → Bounds → Level
level b c = record { box = b ∷ c ∷ []; reasons = replicate 2 (by domain domain); decided = 1 }

abbrev within : ℤ → Bounds → Search
within t b = state t (level b (to 1)) []

-- the same bounds in the frame above
abbrev above : ℤ → Bounds → Search
above t b = state t (level (to 0) (to 0)) (level b (to 1) ∷ [])

abbrev foreign : Bool
foreign =
    all (
    all_of valid (map (λ (t : ℤ). within t (to 0)) (pos 0 ∷ pos 2 ∷ pos 16_777_216 ∷ [])) ∷
    not (any_of valid (map (λ (t : ℤ). within t (to 0)) (neg 1 ∷ pos 1 ∷ pos 16_777_217 ∷ []))) ∷
    all_of valid (map (within (pos 3)) (to 5 ∷ to 3 ∷ between (pos 3) (pos 5) ∷ between (neg 2) (pos 0) ∷ between (neg 2) (pos 4) ∷ [])) ∷
    not (any_of valid (map (within (pos 3)) (to 1 ∷ to 2 ∷ between (pos 1) (pos 5) ∷ between (pos 2) (pos 5) ∷ between (pos 2) (pos 2) ∷ []))) ∷
    all_of valid (map (above (pos 3)) (to 5 ∷ to 0 ∷ between (neg 2) (pos 3) ∷ [])) ∷
    not (any_of valid (map (above (pos 3)) (to 1 ∷ to 2 ∷ between (neg 2) (pos 1) ∷ []))) ∷
    [])

unfoldable pub threshold_cases : List Bool
threshold_cases = implied ∷ turned ∷ struck_past ∷ round_trip ∷ edges ∷ foreign ∷ []
