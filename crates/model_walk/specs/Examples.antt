-- What computed cases of the walk share: tests of equality, and what a run comes to.
use Rattle.std.specs.Prelude.{ℕ, ◌+◌, Bool, ◌&&◌, List, [], ◌∷◌, eqb, ℤ, pos}
use Rattle.model_problems.specs.Constraint.{Constraint, Box}
use Rattle.model_problems.specs.Problem.{Problem, Result}
use Rattle.model_problems.specs.Examples.{same_values, is_ok}
use Rattle.model_walk.specs.Search.{Reason, domain, decision, flipped, constraint, Reasons, open_problem}
use Rattle.model_walk.specs.Move.{Move, conflict, new_lower, new_upper, decide, finish, next_move}
use Rattle.model_walk.specs.Step.{Verdict, go_on, no_solution, out_of_budget, solution, Outcome, run_call}

-- ---- equality
abbrev reason_code : Reason → ℕ
reason_code domain = 0
reason_code decision = 1
reason_code flipped = 2
reason_code (constraint k) = 3 + k

abbrev pub same_reasons : Reasons → Reasons → Bool
same_reasons r s = eqb (reason_code r.lower) (reason_code s.lower) && eqb (reason_code r.upper) (reason_code s.upper)

abbrev verdict_code : Verdict → ℕ
verdict_code go_on = 0
verdict_code no_solution = 1
verdict_code out_of_budget = 2
verdict_code (solution v) = 3

abbrev verdict_values : Verdict → List ℤ
verdict_values go_on = []
verdict_values no_solution = []
verdict_values out_of_budget = []
verdict_values (solution v) = v

abbrev pub same_verdict : Verdict → Verdict → Bool
same_verdict v w = eqb (verdict_code v) (verdict_code w) && same_values (verdict_values v) (verdict_values w)

-- ---- moves: the next one is v as the new lower or upper bound of the first variable, by the first constraint
abbrev lower_in : Move → List ℤ
lower_in (conflict j) = []
lower_in (new_lower j i v) = pos j ∷ pos i ∷ v ∷ []
lower_in (new_upper j i v) = []
lower_in (decide i) = []
lower_in finish = []

abbrev upper_in : Move → List ℤ
upper_in (conflict j) = []
upper_in (new_lower j i v) = []
upper_in (new_upper j i v) = pos j ∷ pos i ∷ v ∷ []
upper_in (decide i) = []
upper_in finish = []

abbrev pub sets_lower : ℤ → Constraint → Box → Bool
sets_lower v k box = same_values (lower_in (next_move (k ∷ []) box)) (pos 0 ∷ pos 0 ∷ v ∷ [])

abbrev pub sets_upper : ℤ → Constraint → Box → Bool
sets_upper v k box = same_values (upper_in (next_move (k ∷ []) box)) (pos 0 ∷ pos 0 ∷ v ∷ [])

-- ---- answers
-- the verdict and the count
abbrev pub answers : Verdict → ℕ → Result Outcome → Bool
answers v n r = is_ok (λ (o : Outcome). same_verdict o.verdict v && eqb o.count n) r

-- a run from the opening
abbrev pub runs_to : Verdict → ℕ → Problem → Bool
runs_to v n p = answers v n (run_call (open_problem p))
