-- Computed cases of document 02's N4: a solution struck out, and lists of runs and strikes. The values were worked out by hand and met in another implementation.
use Rattle.std.specs.Prelude.{ℕ, zero, suc, Bool, false, ◌&&◌, List, [], ◌∷◌, eqb, pos, replicate}
use Rattle.model_problems.specs.Lists.{all, all_of, all_pairs}
use Rattle.model_problems.specs.Constraint.{Bounds, Box, equal}
use Rattle.model_problems.specs.Problem.{Problem}
use Rattle.model_walk.specs.Search.{domain, decision, flipped, Reasons, Level, Status, undecided, infeasible, solved, Search, levels, open_problem}
use Rattle.model_walk.specs.Step.{Verdict, no_solution, out_of_budget, with_status}
use Rattle.model_walk.specs.Exclude.{Exclusion, struck, ended, unsolved, Excluded, exclude_call}
use Rattle.model_problems.specs.Points.{Point, all_solutions}
use Rattle.model_claims.specs.Enumeration.{Call, one_turn, all_turns, strike, Reply, verdict, exclusion, refused, walk, says, shown, strikes}
use Rattle.model_problems.specs.Examples.{neg, linear, divided, between, problem, plan_a, plan_b, same_values, same_bounds, is_ok, is_error, to, at}
use Rattle.model_walk.specs.Examples.{same_reasons, same_verdict}
use Rattle.model_cases.specs.SearchCases.{by, status_code, stepping, step_cut}

-- ---- equality of answers and of whole walks
abbrev exclusion_code : Exclusion → ℕ
exclusion_code struck = 0
exclusion_code ended = 1
exclusion_code unsolved = 2

abbrev same_level : Level → Level → Bool
same_level l o = all (all_pairs same_bounds l.box o.box ∷ all_pairs same_reasons l.reasons o.reasons ∷ eqb l.decided o.decided ∷ [])

abbrev pub same_state : Search → Search → Bool
same_state s t =
    all (
    eqb s.core.variables t.core.variables ∷
    same_values s.core.thresholds t.core.thresholds ∷
    all_pairs equal s.core.inputs t.core.inputs ∷
    all_pairs equal s.core.cuts t.core.cuts ∷
    all_pairs eqb s.core.numbers t.core.numbers ∷
    eqb s.core.made t.core.made ∷
    all_pairs same_level (levels s.core) (levels t.core) ∷
    eqb s.budget t.budget ∷
    eqb s.conflicts t.conflicts ∷
    eqb s.propagations t.propagations ∷
    eqb (status_code s.status) (status_code t.status) ∷
    [])

-- a strike answers a and gives the walk t
abbrev strikes_to : Exclusion → Search → Search → Bool
strikes_to a t s = is_ok (λ (e : Excluded). eqb (exclusion_code e.answer) (exclusion_code a) && same_state e.state t) (exclude_call s)

-- it answers a, 'the walk as it was'
abbrev leaves : Exclusion → Search → Bool
leaves a s = strikes_to a s s

-- ---- 'the deepest frame goes, its decision is turned and the mark is cleared'
-- `stepping` finds (0, 1, 0) at depth 2 after a dead end with a cut, then (0, 1, 1) at depth 1 and (1, 1, 1) at depth 0
abbrev level : Box → List Reasons → Level
level b rs = record { box = b; reasons = rs; decided = 0 }

-- the walk that the cut, the one dead end and the one bound set by a line stay in, not marked
abbrev unmarked : Level → List Level → Search
unmarked l ls =
    record {
      core = record { variables = 3; thresholds = replicate 3 (pos 0); inputs = stepping.constraints; cuts = step_cut ∷ []; numbers = 3 ∷ []; made = 1; deepest = l; outer = ls };
      budget = 9;
      conflicts = 1;
      propagations = 1;
      status = undecided;
    }

abbrev untouched : Level
untouched = level (replicate 3 (to 1)) (replicate 3 (by domain domain))

abbrev pub stepped : List Call → Search
stepped cs = walk cs (open_problem stepping)

abbrev struck_at_two : Bool
struck_at_two =
    strikes_to struck
    (unmarked (level (to 0 ∷ at 1 ∷ at 1 ∷ []) (by domain decision ∷ by flipped domain ∷ by flipped domain ∷ [])) (untouched ∷ []))
    (stepped (all_turns ∷ []))

abbrev struck_at_one : Bool
struck_at_one =
    strikes_to struck
    (unmarked (level (at 1 ∷ to 1 ∷ to 1 ∷ []) (by flipped domain ∷ by domain domain ∷ by domain domain ∷ [])) [])
    (stepped (all_turns ∷ strike ∷ all_turns ∷ []))

-- 'at depth 0 the listing ends, the walk as it was': a further strike says so again
abbrev ended_at_zero : Bool
ended_at_zero = leaves ended (stepped (all_turns ∷ strike ∷ all_turns ∷ strike ∷ all_turns ∷ []))

-- ---- ''no form', which changes nothing': opened, just struck out, marked 'none', and after 'spent'
abbrev no_form : Bool
no_form =
    all_of (leaves unsolved)
    (open_problem (plan_a 5) ∷ stepped (strike ∷ all_turns ∷ []) ∷ walk (all_turns ∷ []) (open_problem plan_b) ∷ walk (all_turns ∷ []) (open_problem (plan_a 0)) ∷ [])

-- 9 comes first: the opened walk with a mark that it has not earned
abbrev pub marked_as : Status → Search
marked_as m = let s = open_problem (plan_a 5) in with_status s s.core m

abbrev foreign : Bool
foreign = is_error 9 (exclude_call (marked_as solved)) && is_error 9 (exclude_call (marked_as infeasible))

-- a made-up walk over no lines, decided from v2 to v1 and from −3 on: the quantity decided last is turned, in the frame above it
abbrev made_up_level : Bounds → Bounds → Reasons → ℕ → Level
made_up_level b c r i = record { box = b ∷ c ∷ []; reasons = r ∷ by domain decision ∷ []; decided = i }

abbrev made_up_state : Level → List Level → Status → Search
made_up_state l ls m =
    record { core = record { variables = 2; thresholds = replicate 2 (pos 0); inputs = []; cuts = []; numbers = []; made = 0; deepest = l; outer = ls }; budget = 0; conflicts = 0; propagations = 0; status = m }

abbrev made_up : Bool
made_up =
    let low = between (neg 3) (neg 3) in
    let root = made_up_level (between (neg 3) (pos 1)) (to 1) (by domain domain) 7 in
    let outer = made_up_level (between (neg 3) (pos 1)) (to 0) (by domain domain) 1 in
    strikes_to struck (made_up_state (made_up_level (between (neg 2) (pos 1)) (to 0) (by flipped domain) 1) (root ∷ []) undecided)
    (made_up_state (made_up_level low (to 0) (by domain decision) 0) (outer ∷ root ∷ []) solved)

-- ---- lists of calls, the latest first
-- the last one's reply
abbrev says_verdict : Verdict → Reply → Bool
says_verdict v (verdict w) = same_verdict w v
says_verdict v (exclusion e) = false
says_verdict v (refused e) = false

abbrev says_exclusion : Exclusion → Reply → Bool
says_exclusion a (verdict w) = false
says_exclusion a (exclusion e) = eqb (exclusion_code e) (exclusion_code a)
says_exclusion a (refused e) = false

-- k times a run and a strike
abbrev pub rounds : ℕ → List Call
rounds zero = []
rounds (suc k) = strike ∷ all_turns ∷ rounds k

-- what they show, how many they strike out, and the dead ends
abbrev gives : List Point → ℕ → ℕ → List Call → Problem → Bool
gives vs k ends cs p =
    let s = open_problem p in
    all (all_pairs same_values (shown cs s) vs ∷ eqb (strikes cs s) k ∷ eqb (walk cs s).conflicts ends ∷ [])

abbrev solves : List Point → Problem → Bool
solves vs p = all_pairs same_values (all_solutions p) vs

-- to 'ended'; a turn after it shows the last one again, which is not counted anew
abbrev pub S-first : Point
S-first = pos 0 ∷ pos 1 ∷ pos 0 ∷ []

abbrev pub S-second : Point
S-second = pos 0 ∷ pos 1 ∷ pos 1 ∷ []

abbrev pub S-third : Point
S-third = pos 1 ∷ pos 1 ∷ pos 1 ∷ []

abbrev stepping_forms : List Point
stepping_forms = S-first ∷ S-second ∷ S-third ∷ []

abbrev to_ended : Bool
to_ended =
    all (
    says_exclusion ended (says strike (all_turns ∷ rounds 2) (open_problem stepping)) ∷
    gives stepping_forms 2 1 (rounds 3) stepping ∷
    gives stepping_forms 2 1 (one_turn ∷ rounds 3) stepping ∷
    solves stepping_forms stepping ∷
    [])

-- plan C of docs/SPECIFICATION.md, limits 0 to 2: 3 | v1 + v2 and −v1 − v2 + 2. To 'none', which says here that there is no further form; under a smaller budget to
-- 'spent', with the first forms shown
abbrev pub plan_c : ℕ → Problem
plan_c b = problem (replicate 2 (to 2)) (divided 3 (pos 1 ∷ pos 1 ∷ []) (pos 0) ∷ linear (neg 1 ∷ neg 1 ∷ []) (pos 2) ∷ []) b

abbrev pub C-first : Point
C-first = pos 1 ∷ pos 2 ∷ []

abbrev pub C-second : Point
C-second = pos 2 ∷ pos 1 ∷ []

abbrev to_none : Bool
to_none =
    all (
    says_verdict no_solution (says all_turns (rounds 2) (open_problem (plan_c 4))) ∷
    gives (C-first ∷ C-second ∷ []) 2 4 (all_turns ∷ rounds 2) (plan_c 4) ∷
    says_verdict out_of_budget (says all_turns (rounds 2) (open_problem (plan_c 3))) ∷
    gives (C-first ∷ C-second ∷ []) 2 3 (all_turns ∷ rounds 2) (plan_c 3) ∷
    says_verdict out_of_budget (says all_turns (rounds 1) (open_problem (plan_c 2))) ∷
    gives (C-first ∷ []) 1 2 (all_turns ∷ rounds 1) (plan_c 2) ∷
    solves (C-first ∷ C-second ∷ []) (plan_c 0) ∷
    [])

unfoldable pub exclusion_cases : List Bool
exclusion_cases = struck_at_two ∷ struck_at_one ∷ ended_at_zero ∷ no_form ∷ foreign ∷ made_up ∷ to_ended ∷ to_none ∷ []
