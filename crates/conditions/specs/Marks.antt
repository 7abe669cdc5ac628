-- The mark in the terms of the kept constraints and the bounds of the outermost and the deepest level.
use Rattle.std.specs.Prelude.{Bool, true, not, ◌&&◌, List}
use Rattle.model_problems.specs.Constraint.{Constraint, Box, is_open}
use Rattle.model_problems.specs.Lists.{any_of}
use Rattle.model_walk.specs.Search.{Status, undecided, infeasible, solved}
use Rattle.model_walk.specs.Validity.{falsifies}

unfoldable pub mark_valid : Status → List Constraint → Box → Box → Bool
mark_valid undecided kept outermost deepest = true
mark_valid infeasible kept outermost deepest = any_of (falsifies outermost) kept
mark_valid solved kept outermost deepest = not (any_of is_open deepest) && not (any_of (falsifies deepest) kept)
