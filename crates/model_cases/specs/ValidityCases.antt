-- Computed cases of document 01's foreign walk (9), with N1's divisors: states that are accepted, and made-up ones beside them that are refused for one condition each.
use Rattle.std.specs.Prelude.{ℕ, Bool, ◌&&◌, not, List, [], ◌∷◌, map, ℤ, pos, replicate}
use Rattle.model_problems.specs.Lists.{tab, all, all_of, any_of}
use Rattle.model_problems.specs.Constraint.{Constraint, Bounds}
use Rattle.model_walk.specs.Search.{Reason, domain, decision, flipped, constraint, Level, Status, undecided, infeasible, solved, Search, open_problem}
use Rattle.model_walk.specs.Validity.{valid}
use Rattle.model_walk.specs.Step.{step_call, run_call}
use Rattle.model_claims.specs.Demand.{state_after}
use Rattle.model_problems.specs.Examples.{neg, linear, divided, with_divisor, between, problem, A-first, A-second, A-domain, plan_a, is_error, at}

-- ---- the states that plan A meets: opened, after its first turn, and marked solved after its second
abbrev met_a : Bool
met_a = all (valid (open_problem (plan_a 5)) ∷ valid (state_after 1 (open_problem (plan_a 5))) ∷ valid (state_after 2 (open_problem (plan_a 5))) ∷ [])

-- ---- made-up states over plan A's lines: n = 2, B = 5
-- levels, the deepest first; kept cuts with their numbers; cuts made; dead ends; mark
abbrev state : Level → List Level → List Constraint → List ℕ → ℕ → ℕ → Status → Search
state l ls ks ns made ends status =
    record {
      core = record { variables = 2; thresholds = replicate 2 (pos 0); inputs = A-first ∷ A-second ∷ []; cuts = ks; numbers = ns; made = made; deepest = l; outer = ls };
      budget = 5;
      conflicts = ends;
      propagations = 0;
      status = status;
    }

-- two variables' bounds with no causes but limits, and the decided variable
abbrev level : Bounds → Bounds → ℕ → Level
level b c i = record { box = b ∷ c ∷ []; reasons = replicate 2 (record { lower = domain; upper = domain }); decided = i }

abbrev unit : Bounds
unit = between (pos 0) (pos 1)

-- frame 0, and frame 1 with v1 decided
abbrev root : Level
root = level unit unit 0

abbrev decided : Level
decided = level (at 0) unit 0

-- no cuts, one dead end
abbrev plain : Level → List Level → Status → Search
plain l ls status = state l ls [] [] 0 1 status

-- a list of accepted states, and a list of refused ones
abbrev accepted : List Search → Bool
accepted ss = all_of valid ss

abbrev refused : List Search → Bool
refused ss = not (any_of valid ss)

-- the states that the ones below differ from by one condition
abbrev base_case : Bool
base_case = accepted (plain root [] undecided ∷ plain decided (root ∷ []) undecided ∷ plain (level (at 0) (at 0) 1) (decided ∷ root ∷ []) undecided ∷ [])

-- 'n, m, B': n 32 and 33, and 0; m 64 and 65; B 1,000,000,000 and one more. Every line is 0 ≤ 0.
abbrev sized : ℕ → ℕ → ℕ → Search
sized n m b =
    open_problem (problem (replicate n unit) (replicate m (linear (replicate n (pos 0)) (pos 0))) b)

abbrev size_case : Bool
size_case =
    accepted (sized 32 0 5 ∷ sized 1 64 5 ∷ sized 1 0 1_000_000_000 ∷ []) &&
    refused (sized 33 0 5 ∷ sized 0 0 5 ∷ sized 1 65 5 ∷ sized 1 0 1_000_000_001 ∷ [])

-- 'depth above n'
abbrev too_deep : Bool
too_deep = refused (plain (level (at 0) (at 0) 1) (level (at 0) (at 0) 1 ∷ decided ∷ root ∷ []) undecided ∷ [])

-- 'a bound' out of range: 2^24 and one more; 'an L above its U'
abbrev bound_case : Bool
bound_case =
    accepted (plain (level (between (neg 16_777_216) (pos 16_777_216)) unit 0) [] undecided ∷ []) &&
    refused (plain (level unit (between (pos 0) (pos 16_777_217)) 0) [] undecided ∷ plain (level unit (between (neg 16_777_217) (pos 0)) 0) [] undecided ∷ plain (level unit (between (pos 1) (pos 0)) 0) [] undecided ∷ [])

-- 'a kept line's constant or coefficient' out of range: 2^30 and one more, in a kept cut
abbrev with_cut : Constraint → List ℕ → ℕ → ℕ → Search
with_cut k ns made ends = state root [] (k ∷ []) ns made ends undecided

abbrev cut : Constraint
cut = linear (neg 1 ∷ pos 0 ∷ []) (pos 1)

abbrev range_case : Bool
range_case =
    accepted (with_cut cut (3 ∷ []) 1 1 ∷ with_cut (linear (neg 1_073_741_824 ∷ pos 0 ∷ []) (pos 1_073_741_824)) (3 ∷ []) 1 1 ∷ []) &&
    refused (with_cut (linear (neg 1_073_741_825 ∷ pos 0 ∷ []) (pos 1)) (3 ∷ []) 1 1 ∷ with_cut (linear (neg 1 ∷ pos 0 ∷ []) (pos 1_073_741_825)) (3 ∷ []) 1 1 ∷ [])

-- N1: an input's divisor that is negative, 1 or above 2^20
abbrev with_input : Constraint → Level → Status → Search
with_input k l status =
    record {
      core = record { variables = 2; thresholds = replicate 2 (pos 0); inputs = k ∷ A-second ∷ []; cuts = []; numbers = []; made = 0; deepest = l; outer = [] };
      budget = 5;
      conflicts = 1;
      propagations = 0;
      status = status;
    }

abbrev divided_by : ℤ → Search
divided_by q = with_input (with_divisor q A-first) root undecided

abbrev divisor_case : Bool
divisor_case =
    accepted (map divided_by (pos 0 ∷ pos 2 ∷ pos 1_048_576 ∷ [])) && refused (map divided_by (neg 1 ∷ neg 2 ∷ pos 1 ∷ pos 1_048_577 ∷ []))

-- both marks go by the divisor line's own test: 2 | v1 + v2 + 1 is false at (1, 1) and not at (1, 0)
abbrev divided_marks : Bool
divided_marks =
    let k = divided 2 (pos 1 ∷ pos 1 ∷ []) (pos 1) in
    let met = level (at 1) (at 0) 0 in
    let missed = level (at 1) (at 1) 0 in
    accepted (with_input k met solved ∷ with_input k missed infeasible ∷ []) && refused (with_input k missed solved ∷ with_input k met infeasible ∷ [])

-- 'kept cuts not numbered as above'
abbrev number_case : Bool
number_case = refused (with_cut cut (2 ∷ []) 1 1 ∷ with_cut cut (4 ∷ []) 1 1 ∷ [])

-- 65 cuts made: the 64 kept ones are numbered 4 to 67, m being 2
abbrev many : ℕ → Search
many first =
    record {
      core = record { variables = 2; thresholds = replicate 2 (pos 0); inputs = A-first ∷ A-second ∷ []; cuts = replicate 64 cut; numbers = tab (λ (k : ℕ). k) first 64; made = 65; deepest = root; outer = [] };
      budget = 65;
      conflicts = 65;
      propagations = 0;
      status = undecided;
    }

abbrev many_case : Bool
many_case = accepted (many 4 ∷ []) && refused (many 3 ∷ many 5 ∷ [])

-- 'dead ends above B', and 'cuts made above dead ends'
abbrev count_case : Bool
count_case = accepted (with_cut cut (3 ∷ []) 1 5 ∷ []) && refused (with_cut cut (3 ∷ []) 1 6 ∷ with_cut cut (3 ∷ []) 1 0 ∷ [])

-- 'a cause's line number (1 to m plus cuts made)': one cut made, a lower and an upper bound's cause
abbrev caused : Reason → Reason → Search
caused r u =
    state (record { box = A-domain; reasons = record { lower = domain; upper = domain } ∷ record { lower = r; upper = u } ∷ []; decided = 0 }) [] (cut ∷ []) (3 ∷ []) 1 1 undecided

abbrev reason_case : Bool
reason_case =
    accepted (caused decision flipped ∷ caused flipped decision ∷ caused (constraint 1) (constraint 3) ∷ []) &&
    refused (caused (constraint 0) domain ∷ caused (constraint 4) domain ∷ caused domain (constraint 0) ∷ caused domain (constraint 4) ∷ [])

-- 'a deeper frame not inside the one above'
abbrev inside_case : Bool
inside_case =
    refused (plain (level (at 0) (between (pos 0) (pos 2)) 0) (root ∷ []) undecided ∷ plain (level (at 0) (between (neg 1) (pos 1)) 0) (root ∷ []) undecided ∷ [])

-- 'a decided quantity' out of range; 'not open above'; 'not at the upper frame's L below', with either bound
abbrev decided_case : Bool
decided_case =
    refused (
    plain (level (at 0) (at 0) 2) (root ∷ []) undecided ∷
    plain decided (level (at 0) unit 0 ∷ []) undecided ∷
    plain (level (at 1) unit 0) (root ∷ []) undecided ∷
    plain (level unit unit 0) (root ∷ []) undecided ∷
    [])

-- 'marked solution with some L < U or a false kept line in the deepest frame': (1, 0) is plan A's solution, and (0, 0) breaks its first line
abbrev solved_case : Bool
solved_case =
    accepted (plain (level (at 1) (at 0) 0) [] solved ∷ []) && refused (plain (level (at 1) unit 0) [] solved ∷ plain (level (at 0) (at 0) 0) [] solved ∷ [])

-- 'marked 'none' with no kept line false in frame 0': it is frame 0 that counts, not the deepest
abbrev none_case : Bool
none_case =
    accepted (plain (level (at 0) (at 0) 0) [] infeasible ∷ []) && refused (plain (level (at 1) (at 0) 0) [] infeasible ∷ plain (level (at 0) (at 0) 0) (level unit (at 0) 0 ∷ []) infeasible ∷ [])

-- a turn and a run refuse a foreign walk with 9
abbrev nine : Bool
nine = is_error 9 (step_call (with_cut cut (4 ∷ []) 1 1)) && is_error 9 (run_call (with_cut cut (4 ∷ []) 1 1))

unfoldable pub validity_cases : List Bool
validity_cases =
    met_a ∷ base_case ∷ size_case ∷ too_deep ∷ bound_case ∷ range_case ∷ divisor_case ∷ divided_marks ∷ number_case ∷ many_case ∷ count_case ∷ reason_case ∷ inside_case ∷ decided_case ∷ solved_case ∷ none_case ∷ nine ∷ []
