-- The backjump level: what the search for it asks of the levels, and what it finds.
use Rattle.std.specs.Prelude.{ℕ, suc, ◌≤◌, ◌<◌, true, false, List, ◌≡◌, T, get_or}
use Rattle.model_problems.specs.Lists.{all_of}
use Rattle.model_problems.specs.Constraint.{Box, Constraint, falsified}
use Rattle.model_problems.specs.Problem.{bounds_in_range}
use Rattle.model_walk.specs.Validity.{box_inside}
use Rattle.layout.specs.Rows.{box_of}
use Rattle.state.specs.View.{no_level}
use Rattle.state.specs.declared.Level.{Level}

-- the box of the level at depth t
unfoldable pub box_at : ℕ → List Level → ℕ → Box
box_at n levels t = box_of n (get_or levels t no_level).lower (get_or levels t no_level).upper

-- the levels from 0 to depth, as validity asks: bounds in range, no L above its U, each level inside the one above it
pub record LevelsNested (n depth : ℕ) (levels : List Level) : Type 0 where
  pub range : (t : ℕ) → t ≤ depth → T (all_of bounds_in_range (box_at n levels t))
  pub inside : (t : ℕ) → t < depth → T (box_inside (box_at n levels (suc t)) (box_at n levels t))

-- d is the least depth whose level falsifies the constraint
pub record LeastFalsifying (k : Constraint) (n depth : ℕ) (levels : List Level) (d : ℕ) : Type 0 where
  pub reach : d ≤ depth
  pub falsifies : falsified k (box_at n levels d) ≡ true
  pub least : (t : ℕ) → t < d → falsified k (box_at n levels t) ≡ false
