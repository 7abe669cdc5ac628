-- Document 02's N4, 'every form': a solution is struck out, and the search can go on to the next one.
use Rattle.std.specs.Prelude.{ℕ, zero, suc, cond}
use Rattle.model_problems.specs.Problem.{Result}
use Rattle.model_walk.specs.Search.{Status, undecided, infeasible, solved, Search, depth}
use Rattle.model_walk.specs.Conflict.{back_up}
use Rattle.model_walk.specs.Validity.{within_limit, admitted}
use Rattle.model_walk.specs.Step.{with_status, checked}

-- 'struck', 'ended', 'no form'
pub data Exclusion : Type 0 where
  struck ended unsolved : Exclusion

pub record Excluded : Type 0 where
  pub answer : Exclusion
  pub state : Search

unfoldable pub unchanged : Exclusion → Search → Excluded
unchanged a s = record { answer = a; state = s }

-- at a marked solution: at depth 0 the listing ends; else the deepest level goes, its decision is flipped and the mark is cleared. It is no dead end: the
-- counts and the cuts stay
unfoldable pub exclude_at : ℕ → Search → Excluded
exclude_at zero s = unchanged ended s
exclude_at (suc d) s = record { answer = struck; state = with_status s (back_up (suc d) s.core) undecided }

unfoldable pub exclude_by : Status → Search → Excluded
exclude_by undecided s = unchanged unsolved s
exclude_by infeasible s = unchanged unsolved s
exclude_by solved s = exclude_at (depth s.core) s

unfoldable pub exclude : Search → Excluded
exclude s = exclude_by s.status s

-- the call: a foreign walk is refused with 9, before all else
unfoldable pub exclude_call : Search → Result Excluded
exclude_call s = checked (admitted s) (exclude s)

-- inside a listing: a state that passed N5's limit would be refused, so nothing is struck out of it
unfoldable pub exclude_within : Search → Excluded
exclude_within s = cond (within_limit s) (exclude s) (unchanged unsolved s)
