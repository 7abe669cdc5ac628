-- The sizes of a problem, as numbers: the model's test of every problem that has them.
use Rattle.std.specs.Prelude.{ℕ, Bool, [], ◌∷◌, leb}
use Rattle.model_problems.specs.Lists.{all}
use Rattle.model_problems.specs.Ranges.{max_variables, max_constraints, max_budget}

unfoldable pub sizes_fit : ℕ → ℕ → ℕ → Bool
sizes_fit n m budget = all (leb 1 n ∷ leb n max_variables ∷ leb m max_constraints ∷ leb budget max_budget ∷ [])
