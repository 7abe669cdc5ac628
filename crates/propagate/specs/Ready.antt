-- What propagation asks of a level and the kept constraints: sizes, and the ranges that validity tests.
use Rattle.std.specs.Prelude.{ℕ, ◌+◌, ◌≤◌, List, T, ℤ, length, ◌≡◌}
use Rattle.model_problems.specs.Lists.{tab, all_of, all_pairs}
use Rattle.model_problems.specs.Ranges.{max_variables, max_constraints, max_budget}
use Rattle.model_problems.specs.Constraint.{Constraint, in_range}
use Rattle.model_problems.specs.Problem.{bounds_in_range}
use Rattle.model_problems.specs.Threshold.{outside_gap}
use Rattle.layout.specs.Rows.{row_at, box_of, thresholds_of}
use Rattle.state.specs.View.{kept_cuts}
use Rattle.state.specs.Change.{Whole}
use Rattle.state.specs.declared.Level.{Level}

-- the kept constraints of m inputs and `made` cuts made
abbrev pub kept_rows : ℕ → ℕ → ℕ → List ℤ → List Constraint
kept_rows n m made rows = tab (row_at n rows) 0 (m + kept_cuts made)

pub record Ready (n m made : ℕ) (rows : List ℤ) (level : Level) : Type 0 where
  pub few : n ≤ max_variables
  pub inputs : m ≤ max_constraints
  pub cuts : made ≤ max_budget
  pub whole : Whole level
  pub constraints : T (all_of in_range (kept_rows n m made rows))
  pub bounds : T (all_of bounds_in_range (box_of n level.lower level.upper))

-- no bound lies below its threshold but above 0
pub record GapFree (n : ℕ) (thresholds lower upper : List ℤ) : Type 0 where
  pub long : length thresholds ≡ 32
  pub outside : T (all_pairs outside_gap (thresholds_of n thresholds) (box_of n lower upper))
