-- The kept constraints by number and by position.
use Rattle.std.specs.Prelude.{ℕ, ◌+◌, ◌<◌, Option, None, Some, IfSome, List, ◌≡◌, ℤ}
use Rattle.std.proofs.Math.Option as model-option
use Rattle.model_problems.specs.Constraint.{Constraint}
use Rattle.model_walk.specs.Search.{Level, kept_number}
use Rattle.layout.specs.Rows.{row_at}
use Rattle.state.specs.View.{kept_cuts, core_with}

-- what stands at a position, if there is one
unfoldable pub constraint_in : ℕ → List ℤ → Option ℕ → model-option.Option Constraint
constraint_in n rows None = model-option.none
constraint_in n rows (Some j) = model-option.some (row_at n rows j)

-- the position of the kept constraint with a number, none where no kept one has it
pub record PositionOf (m made number : ℕ) (position : Option ℕ) : Type 0 where
  pub inside : IfSome position (λ j. j < m + kept_cuts made)
  pub found : (n : ℕ) (rows : List ℤ) (numbers : List ℕ) (l : Level) (ls : List Level) → kept_number (core_with n m made rows numbers l ls) number ≡ constraint_in n rows position
