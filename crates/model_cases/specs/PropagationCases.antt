-- Computed cases of document 02's N5: the count of bounds set by lines, and its limit. The counts of whole runs and listings come from another implementation, those of single
-- turns from the moves that reference/search.py makes; at the limit the same are added by hand.
use Rattle.std.specs.Prelude.{ℕ, suc, ◌+◌, ◌-◌, Bool, ◌&&◌, not, List, [], ◌∷◌, ◌++◌, eqb, pos, length, replicate}
use Rattle.model_problems.specs.Lists.{tab, all, all_of, all_pairs}
use Rattle.model_problems.specs.Problem.{Problem, Result}
use Rattle.model_walk.specs.Search.{Search, core_of, open_problem}
use Rattle.model_walk.specs.Move.{slack, propagations_in}
use Rattle.model_walk.specs.Validity.{valid, admitted}
use Rattle.model_walk.specs.Step.{go_on, out_of_budget, solution, Outcome, step_call, run_call}
use Rattle.model_walk.specs.Trace.{Trace, trace_call}
use Rattle.model_walk.specs.Exclude.{Excluded, exclude_call}
use Rattle.model_walk.specs.Propagations.{bounds_set}
use Rattle.model_walk.specs.Listing.{Listing, list_call}
use Rattle.model_claims.specs.Demand.{answer_at}
use Rattle.model_claims.specs.Enumeration.{Call, one_turn, all_turns, strike, turns, answer, walk, set_in}
use Rattle.model_problems.specs.Examples.{neg, linear, divided, between, problem, plan_a, plan_b, same_values, is_ok, is_error, to}
use Rattle.model_walk.specs.Examples.{same_verdict, answers}
use Rattle.model_cases.specs.Examples.{same_bytes}
use Rattle.model_cases.specs.SearchCases.{after, stepping, jumping, twice}
use Rattle.model_cases.specs.ExclusionCases.{stepped, rounds, S-first, S-second, S-third, plan_c, C-first}
use Rattle.model_cases.specs.ListingCases.{old, lists}

-- ---- the count
-- n stands in the answer and in its walk
abbrev counts : ℕ → Result Outcome → Bool
counts n r = is_ok (λ (o : Outcome). eqb o.propagations n && eqb o.state.propagations n) r

-- after each turn from the opening; so many bounds did lines set until then
abbrev tallies : List ℕ → Problem → Bool
tallies ns p =
    let s = open_problem p in
    all_pairs counts ns (tab (λ (k : ℕ). answer_at k s) 0 (length ns)) && all_pairs eqb ns (tab (λ (k : ℕ). bounds_set (suc k) s) 0 (length ns))

-- after the calls cs and c: in the answer, in the walk, and as the bounds that lines set in them
abbrev reaches : ℕ → Call → List Call → Search → Bool
reaches n c cs s = all (eqb (answer c (walk cs s)).propagations n ∷ eqb (walk (c ∷ cs) s).propagations n ∷ eqb (set_in (c ∷ cs) s) n ∷ [])

-- to the verdict: by a run, by a trace and turn by turn
abbrev sets : ℕ → Problem → Bool
sets n p =
    let s = open_problem p in
    all (counts n (run_call s) ∷ reaches n all_turns [] s ∷ reaches n (turns 4) [] s ∷ reaches n one_turn (turns 1 ∷ one_turn ∷ one_turn ∷ []) s ∷ [])

-- 'for plan A, `set 1`': its first line gives v2 ≥ 1 below the decision v1 ≤ 0. The second turn, after the bound turned and with another decision, sets none
abbrev set_a : Bool
set_a = tallies (1 ∷ 1 ∷ 1 ∷ []) (plan_a 5) && sets 1 (plan_a 5)

-- 'A spent turn restores it with the rest of the state': plan A's first turn, and the second one of `twice`, which would set one bound more
abbrev spent_restores : Bool
spent_restores =
    all (
    eqb (propagations_in (core_of (plan_a 0))) 1 ∷
    tallies (0 ∷ 0 ∷ []) (plan_a 0) ∷
    sets 0 (plan_a 0) ∷
    eqb (propagations_in (after 1 (twice 1))) 1 ∷
    tallies (3 ∷ 3 ∷ 3 ∷ []) (twice 1) ∷
    sets 3 (twice 1) ∷
    [])

-- a turn that says 'none' keeps its bounds: plan B's only one, and the second one of `twice`
abbrev none_keeps : Bool
none_keeps = all (tallies (11 ∷ 11 ∷ []) plan_b ∷ sets 11 plan_b ∷ tallies (3 ∷ 4 ∷ 4 ∷ []) (twice 2) ∷ sets 4 (twice 2) ∷ [])

-- 'Two lines can creep against each other one unit at a time', limits 0 to 10: v1 − v2 + 1 and −v1 + v2, to 'none' after as many bounds as all hi − lo have units
abbrev creeping : Problem
creeping = problem (replicate 2 (to 10)) (linear (pos 1 ∷ neg 1 ∷ []) (pos 1) ∷ linear (neg 1 ∷ pos 1 ∷ []) (pos 0) ∷ []) 1

-- limits 0 to 7, B = 0: 3v1 − 2v2 + 1 and −2v1 + v2 + 1, to the solution (3, 5), and with it struck out to (4, 7), which is the last
abbrev climbing : Problem
climbing = problem (replicate 2 (to 7)) (linear (pos 3 ∷ neg 2 ∷ []) (pos 1) ∷ linear (neg 2 ∷ pos 1 ∷ []) (pos 1) ∷ []) 0

abbrev creeps : Bool
creeps = all (tallies (20 ∷ 20 ∷ []) creeping ∷ sets 20 creeping ∷ eqb (slack creeping.domain) 20 ∷ tallies (9 ∷ 9 ∷ []) climbing ∷ sets 9 climbing ∷ [])

-- decisions and turned bounds are not counted: no lines, with two decisions, and 3 | v1 + 1, limits 0 to 2, whose turns decide and turn v1 twice
abbrev not_by_lines : Bool
not_by_lines =
    sets 0 (problem (to 3 ∷ between (neg 2) (pos 5) ∷ []) [] 0) && tallies (0 ∷ 0 ∷ 0 ∷ []) (problem (to 2 ∷ []) (divided 3 (pos 1 ∷ []) (pos 1) ∷ []) 2)

-- where there is nothing to set, plan A after its first turn; and calls that take no turn, where the next turn would set one
abbrev nothing_set : Bool
nothing_set =
    let s = open_problem (twice 2) in
    all (eqb (propagations_in (after 1 (plan_a 5))) 0 ∷ reaches 3 (turns 0) (one_turn ∷ []) s ∷ reaches 3 strike (one_turn ∷ []) s ∷ [])

-- ---- 'with N4': a strike leaves the count, and the turns after it go on from there
-- a listing with much room strikes out k forms and ends with the count n, and so do runs and strikes
abbrev lists_to : ℕ → ℕ → Problem → Bool
lists_to k n p =
    let s = open_problem p in
    is_ok (λ (l : Listing Outcome). all (eqb (length l.struck) k ∷ eqb l.last.propagations n ∷ eqb l.last.state.propagations n ∷ [])) (list_call s (old 80)).answer &&
    reaches n all_turns (rounds k) s

abbrev struck_out : Bool
struck_out =
    let s = open_problem stepping in
    all (
    reaches 1 all_turns [] s ∷
    reaches 1 strike (all_turns ∷ []) s ∷
    reaches 1 strike (all_turns ∷ rounds 1) s ∷
    reaches 3 strike (all_turns ∷ rounds 2) s ∷
    lists_to 2 3 stepping ∷
    lists_to 18 24 jumping ∷
    lists_to 1 10 climbing ∷
    lists_to 2 2 (plan_c 4) ∷
    lists_to 1 2 (plan_c 2) ∷
    [])

-- ---- 'A walk with a count above 2^62 is 9'
abbrev limit : ℕ
limit = 4_611_686_018_427_387_904

-- a made-up walk: another count in one that is met
abbrev counting : ℕ → Search → Search
counting k s = record { core = s.core; budget = s.budget; conflicts = s.conflicts; propagations = k; status = s.status }

abbrev old_bytes : List ℕ
old_bytes = replicate 1024 7

-- every call takes plan A's opened walk with the count k, and a strike the walk at its solution
abbrev takes : ℕ → Bool
takes k =
    let s = counting k (open_problem (plan_a 5)) in
    let v = solution (pos 1 ∷ pos 0 ∷ []) in
    all (
    answers go_on 1 (step_call s) ∷
    counts (suc k) (step_call s) ∷
    answers v 1 (run_call s) ∷
    counts (suc k) (run_call s) ∷
    is_ok (λ (t : Trace). same_verdict t.verdict v && eqb t.propagations (suc k)) (trace_call s old_bytes).answer ∷
    is_ok (λ (l : Listing Outcome). eqb l.last.propagations (suc k)) (list_call s (old 4)).answer ∷
    is_ok (λ (e : Excluded). eqb e.state.propagations k) (exclude_call (counting k (walk (all_turns ∷ []) (open_problem (plan_a 5))))) ∷
    [])

-- every call refuses the walk, in which nothing else is wrong, and the buffers keep what they hold
abbrev refuses : Search → Bool
refuses s =
    let t = trace_call s old_bytes in
    let l = list_call s (old 4) in
    all (
    valid s ∷
    not (admitted s) ∷
    is_error 9 (step_call s) ∷
    is_error 9 (run_call s) ∷
    is_error 9 (exclude_call s) ∷
    is_error 9 t.answer ∷
    same_bytes t.buffer old_bytes ∷
    is_error 9 l.answer ∷
    same_values l.buffer (old 4) ∷
    [])

abbrev limits : Bool
limits = takes (limit - 1) && takes limit && all_of refuses (counting (suc limit) (open_problem (plan_a 5)) ∷ counting (suc limit) (stepped (all_turns ∷ [])) ∷ [])

-- 'a run tests this once, at its start': the first two turns of plan C set one bound each, and the third finds (1, 2). The second of them is refused as a call, and a run takes all three
abbrev tested_once : Bool
tested_once =
    let s = counting limit (open_problem (plan_c 4)) in
    all (
    answers go_on 1 (step_call s) ∷
    counts (suc limit) (step_call s) ∷
    refuses (walk (one_turn ∷ []) s) ∷
    eqb (set_in (one_turn ∷ one_turn ∷ []) s) 1 ∷
    answers (solution C-first) 2 (run_call s) ∷
    counts (limit + 2) (run_call s) ∷
    eqb (set_in (all_turns ∷ []) s) 2 ∷
    [])

-- a spent turn at the limit restores the count: plan A's first turn would set one bound, and the walk is taken again
abbrev spent_at_limit : Bool
spent_at_limit =
    let s = counting limit (open_problem (plan_a 0)) in
    all (answers out_of_budget 0 (step_call s) ∷ counts limit (step_call s) ∷ answers out_of_budget 0 (run_call s) ∷ counts limit (run_call s) ∷ admitted (walk (all_turns ∷ one_turn ∷ []) s) ∷ [])

-- A listing strikes nothing out of a walk that passed the limit, as the strike would be refused. The runs of `stepping` set 1, 0 and 2 bounds.
abbrev listing_stops : Bool
listing_stops =
    let s = counting limit (open_problem stepping) in
    let r = counting (limit - 1) (open_problem stepping) in
    all (
    lists [] [] 9 (solution S-first) 1 (counting (suc limit) (stepped (all_turns ∷ []))) 9 s ∷
    lists [] [] 9 (solution S-first) 1 (walk (rounds 1) s) 9 s ∷
    lists (S-first ∷ S-second ∷ []) (S-first ++ S-second) 3 (solution S-third) 1 (counting (limit + 2) (stepped (all_turns ∷ rounds 2))) 9 r ∷
    [])

unfoldable pub propagation_cases : List Bool
propagation_cases = set_a ∷ spent_restores ∷ none_keeps ∷ creeps ∷ not_by_lines ∷ nothing_set ∷ struck_out ∷ limits ∷ tested_once ∷ spent_at_limit ∷ listing_stops ∷ []
