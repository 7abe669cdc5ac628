-- Computed cases of N4's listing in one call, on the plans of ExclusionCases.antt: what it strikes out, where it ends, and the numbers in the buffer.
use Rattle.std.specs.Prelude.{ℕ, Bool, ◌&&◌, List, [], ◌∷◌, ◌++◌, eqb, ℤ, pos, replicate}
use Rattle.model_problems.specs.Lists.{all, all_pairs}
use Rattle.model_walk.specs.Search.{Search, solved, open_problem}
use Rattle.model_walk.specs.Step.{Verdict, no_solution, out_of_budget, solution, Outcome}
use Rattle.model_problems.specs.Points.{Point}
use Rattle.model_walk.specs.Listing.{Listing, list_call}
use Rattle.model_claims.specs.Enumeration.{all_turns, strike, walk}
use Rattle.model_problems.specs.Examples.{plan_b, same_values, is_ok, is_error}
use Rattle.model_walk.specs.Examples.{same_verdict}
use Rattle.model_cases.specs.SearchCases.{stepping}
use Rattle.model_cases.specs.ExclusionCases.{same_state, stepped, marked_as, rounds, S-first, S-second, S-third, plan_c, C-first, C-second}

-- so many numbers that a listing must not touch
abbrev pub old : ℕ → List ℤ
old k = replicate k (pos 7)

-- from s, with a buffer of k old numbers: the forms vs are struck out and stand in it, `numbers`, then `rest` old ones; the last run says v, with so many dead
-- ends and as many bounds set as in t, and leaves the walk t
abbrev pub lists : List Point → List ℤ → ℕ → Verdict → ℕ → Search → ℕ → Search → Bool
lists vs numbers rest v ends t k s =
    let l = list_call s (old k) in
    is_ok (λ (x : Listing Outcome). all (all_pairs same_values x.struck vs ∷ same_verdict x.last.verdict v ∷ eqb x.last.count ends ∷ eqb x.last.propagations t.propagations ∷ same_state x.last.state t ∷ [])) l.answer &&
    same_values l.buffer (numbers ++ old rest)

-- `stepping` has three forms, the last of them at depth 0. Room for none, for one and for two: the form that there is no room for stands
abbrev by_room : Bool
by_room =
    all (
    lists [] [] 2 (solution S-first) 1 (stepped (all_turns ∷ [])) 2 (open_problem stepping) ∷
    lists (S-first ∷ []) S-first 1 (solution S-second) 1 (stepped (all_turns ∷ rounds 1)) 4 (open_problem stepping) ∷
    lists (S-first ∷ S-second ∷ []) (S-first ++ S-second) 0 (solution S-third) 1 (stepped (all_turns ∷ rounds 2)) 6 (open_problem stepping) ∷
    [])

-- room for more: the form at depth 0 is not struck out, and its place keeps the old numbers
abbrev at_depth_zero : Bool
at_depth_zero = lists (S-first ∷ S-second ∷ []) (S-first ++ S-second) 4 (solution S-third) 1 (stepped (all_turns ∷ rounds 2)) 10 (open_problem stepping)

-- a marked walk says its verdict again, and stays; a walk just struck out goes on
abbrev from_marked : Bool
from_marked =
    let s = stepped (all_turns ∷ []) in
    let none = walk (all_turns ∷ []) (open_problem plan_b) in
    all (
    lists [] [] 9 (solution S-first) 1 s 9 s ∷
    lists [] [] 4 no_solution 1 none 4 none ∷
    lists (S-second ∷ []) S-second 6 (solution S-third) 1 (stepped (all_turns ∷ rounds 2)) 9 (stepped (strike ∷ all_turns ∷ [])) ∷
    [])

-- to 'none', and under smaller budgets to 'spent'
abbrev to_end : Bool
to_end =
    all (
    lists (C-first ∷ C-second ∷ []) (C-first ++ C-second) 3 no_solution 4 (walk (all_turns ∷ rounds 2) (open_problem (plan_c 4))) 7 (open_problem (plan_c 4)) ∷
    lists (C-first ∷ C-second ∷ []) (C-first ++ C-second) 3 out_of_budget 3 (walk (all_turns ∷ rounds 2) (open_problem (plan_c 3))) 7 (open_problem (plan_c 3)) ∷
    lists (C-first ∷ []) C-first 5 out_of_budget 2 (walk (all_turns ∷ rounds 1) (open_problem (plan_c 2))) 7 (open_problem (plan_c 2)) ∷
    [])

-- 9 comes first, and the buffer keeps its numbers
abbrev foreign : Bool
foreign = let l = list_call (marked_as solved) (old 5) in is_error 9 l.answer && same_values l.buffer (old 5)

unfoldable pub listing_cases : List Bool
listing_cases = by_room ∷ at_depth_zero ∷ from_marked ∷ to_end ∷ foreign ∷ []
