-- N4 in one call: runs, each solution struck out before the next run, while a lent buffer has room for it.
use Rattle.std.specs.Prelude.{ℕ, zero, suc, ◌*◌, ◌/◌, Bool, true, false, List, [], ◌∷◌, ◌++◌, ℤ, length, drop}
use Rattle.model_problems.specs.Problem.{Result, ok, error}
use Rattle.model_problems.specs.Points.{Point}
use Rattle.model_walk.specs.Search.{Status, undecided, infeasible, solved, Search}
use Rattle.model_walk.specs.Validity.{admitted}
use Rattle.model_walk.specs.Step.{Verdict, go_on, no_solution, out_of_budget, solution, Outcome, run}
use Rattle.model_walk.specs.Trace.{joined}
use Rattle.model_walk.specs.Exclude.{Exclusion, struck, ended, unsolved, exclude_within}

-- the solutions struck out, in order, and what comes after the last of them
pub record Listing (A : Type 0) : Type 0 where
  pub struck : List Point
  pub last : A

unfoldable pub ends_with : {A : Type 0} → A → Listing A
ends_with a = record { struck = []; last = a }

unfoldable pub list_after : {A : Type 0} → List Point → Listing A → Listing A
list_after vs l = record { struck = vs ++ l.struck; last = l.last }

-- a solution that was struck out, and what follows it; all else ends the listing
unfoldable pub goes_on : {A : Type 0} → Verdict → Exclusion → A → Listing A → Listing A
goes_on (solution v) struck a l = list_after (v ∷ []) l
goes_on (solution v) ended a l = ends_with a
goes_on (solution v) unsolved a l = ends_with a
goes_on go_on e a l = ends_with a
goes_on no_solution e a l = ends_with a
goes_on out_of_budget e a l = ends_with a

unfoldable pub list_from : ℕ → Search → Listing Outcome
list_from zero s = ends_with (run s)
list_from (suc room) s = let o = run s in let e = exclude_within o.state in goes_on o.verdict e.answer o (list_from room e.state)

-- a marked walk gives its verdict again, and nothing is struck out
unfoldable pub room_at : Status → ℕ → ℕ
room_at undecided room = room
room_at infeasible room = 0
room_at solved room = 0

unfoldable pub list : ℕ → Search → Listing Outcome
list room s = list_from (room_at s.status room) s

-- ---- into a lent buffer of numbers: the values of those struck out stand at its start, n for each; its other numbers stay
pub record Listed : Type 0 where
  pub answer : Result (Listing Outcome)
  pub buffer : List ℤ

unfoldable pub listed_in : Listing Outcome → ℕ → List ℤ → Listed
listed_in l n buffer = record { answer = ok l; buffer = joined l.struck ++ drop (n * length l.struck) buffer }

-- a foreign walk is refused with 9, and the buffer keeps its numbers
unfoldable pub listed_by : Bool → Search → List ℤ → Listed
listed_by true s buffer = let n = s.core.variables in listed_in (list (length buffer / n) s) n buffer
listed_by false s buffer = record { answer = error 9; buffer = buffer }

unfoldable pub list_call : Search → List ℤ → Listed
list_call s buffer = listed_by (admitted s) s buffer
