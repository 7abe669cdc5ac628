-- N5: how many bounds the lines set in a list of turns, told from the walk itself and not from the count that it carries.
use Rattle.std.specs.Prelude.{ℕ, zero, suc, ◌+◌}
use Rattle.model_walk.specs.Search.{Status, undecided, infeasible, solved, Search}
use Rattle.model_walk.specs.Move.{propagations_in}
use Rattle.model_walk.specs.Step.{Verdict, go_on, no_solution, out_of_budget, solution, step}

-- a spent turn is taken back, and its moves with it
unfoldable pub kept_by : Verdict → ℕ → ℕ
kept_by go_on k = k
kept_by no_solution k = k
kept_by out_of_budget k = 0
kept_by (solution v) k = k

-- in a turn: a marked walk makes no move
unfoldable pub bounds_set_by : Status → Search → ℕ
bounds_set_by undecided s = kept_by (step s).verdict (propagations_in s.core)
bounds_set_by infeasible s = 0
bounds_set_by solved s = 0

-- in k turns, one after the other
unfoldable pub bounds_set : ℕ → Search → ℕ
bounds_set zero s = 0
bounds_set (suc k) s = bounds_set_by s.status s + bounds_set k (step s).state
