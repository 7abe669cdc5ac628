-- The walk in brief: small computed cases of document 02's N1, N4 and N5. `model_cases` has the others.
use Rattle.std.specs.Prelude.{ℕ, suc, Bool, ◌&&◌, List, [], ◌∷◌, T, eqb, pos, length, replicate}
use Rattle.model_problems.specs.Lists.{all, all_pairs}
use Rattle.model_problems.specs.Constraint.{Constraint, Bounds, equal}
use Rattle.model_problems.specs.Points.{Point}
use Rattle.model_problems.specs.Ranges.{max_propagations}
use Rattle.model_problems.specs.Examples.{neg, linear, divided, between, to, at, problem, plan_a, plan_b, same_values, is_ok}
use Rattle.model_walk.specs.Search.{constraint, Level, Core, Search, levels, open_problem}
use Rattle.model_walk.specs.Conflict.{analyze}
use Rattle.model_walk.specs.Step.{Verdict, go_on, no_solution, out_of_budget, solution, Outcome, step, run}
use Rattle.model_walk.specs.Exclude.{exclude_within}
use Rattle.model_walk.specs.Listing.{Listing, list_call}
use Rattle.model_walk.specs.Examples.{same_verdict, runs_to}
use Rattle.model_walk.specs.Computing.{definitions}

-- ---- N1
-- 'implies no bound': 5 | v1 from 1 to 3 is left to decisions, each of which it makes false
abbrev no_bound : Bool
no_bound = runs_to no_solution 3 (problem (between (pos 1) (pos 3) ∷ []) (divided 5 (pos 1 ∷ []) (pos 0) ∷ []) 9)

-- 'never combined'
-- a core of two variables over these inputs, its levels from the deepest out
abbrev pub over : List Constraint → Level → List Level → Core
over ks l ls = record { variables = 2; thresholds = replicate 2 (pos 0); inputs = ks; cuts = []; numbers = []; made = 0; deepest = l; outer = ls }

abbrev pub level : Bounds → Bounds → ℕ → Level
level b c i = record { box = b ∷ c ∷ []; reasons = replicate 2 (record { lower = constraint 1; upper = constraint 1 }); decided = i }

-- a made-up cause names 2 | −v1, whose sign at v1 is opposite: with it v1 + 1 would give 1 ≤ 0. As an inequality it is combined.
abbrev found : Constraint → Constraint → List ℕ → Bool
found k cut us =
    let f = linear (pos 1 ∷ pos 0 ∷ []) (pos 1) in
    let a = analyze (over (k ∷ f ∷ []) (level (at 0) (at 0) 0) []) f in
    equal a.cut cut && all_pairs eqb a.used us

abbrev not_combined : Bool
not_combined =
    found (divided 2 (neg 1 ∷ pos 0 ∷ []) (pos 0)) (linear (pos 1 ∷ pos 0 ∷ []) (pos 1)) (0 ∷ 0 ∷ []) &&
    found (linear (neg 1 ∷ pos 0 ∷ []) (pos 0)) (linear (pos 0 ∷ pos 0 ∷ []) (pos 1)) (1 ∷ 0 ∷ [])

-- ---- N5: the count that an answer carries, and its walk
abbrev counts : Verdict → ℕ → Outcome → Bool
counts v n o = all (same_verdict o.verdict v ∷ eqb o.propagations n ∷ eqb o.state.propagations n ∷ [])

-- without lines two decisions lead to the solution; plan A's first turn sets one bound and turns one; plan B's only turn says 'none' and keeps its bounds; a spent turn restores the count
abbrev counted : Bool
counted =
    all (
    counts (solution (pos 0 ∷ pos 0 ∷ [])) 0 (run (open_problem (problem (replicate 2 (to 3)) [] 0))) ∷
    counts go_on 1 (step (open_problem (plan_a 5))) ∷
    counts no_solution 11 (run (open_problem plan_b)) ∷
    counts out_of_budget 0 (step (open_problem (plan_a 0))) ∷
    [])

-- a made-up walk: another count in one that is met
abbrev counting : ℕ → Search → Search
counting k s = record { core = s.core; budget = s.budget; conflicts = s.conflicts; propagations = k; status = s.status }

-- 'a run tests this once, at its start': plan A's first turn passes the limit, and the run goes on to the solution
abbrev tested_once : Bool
tested_once = counts (solution (pos 1 ∷ pos 0 ∷ [])) (suc max_propagations) (run (counting max_propagations (open_problem (plan_a 5))))

-- ---- N4: limits 0 to 2, no line
abbrev three : Search
three = open_problem (problem (to 2 ∷ []) [] 0)

-- from s, with a buffer of k numbers, the forms vs are struck out
abbrev strikes_out : List Point → ℕ → Search → Bool
strikes_out vs k s = is_ok (λ (l : Listing Outcome). all_pairs same_values l.struck vs) (list_call s (replicate k (pos 7))).answer

-- room for one; nothing is struck out of a marked walk; nor, by a listing, of one past the limit
abbrev listed : Bool
listed =
    all (
    strikes_out ((pos 0 ∷ []) ∷ []) 1 three ∷
    strikes_out [] 2 (run three).state ∷
    eqb (length (levels (exclude_within (counting (suc max_propagations) (run three).state)).state.core)) 2 ∷
    [])

pub brief : List Bool
brief = no_bound ∷ not_combined ∷ counted ∷ tested_once ∷ listed ∷ []

pub brief-holds : T (all brief)
unfolding brief definitions
brief-holds = tt
