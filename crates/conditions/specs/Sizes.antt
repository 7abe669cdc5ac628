-- The numbers of the kept cuts.
use Rattle.std.specs.Prelude.{ℕ, ◌+◌}
use Rattle.model_problems.specs.Ranges.{max_constraints, max_budget}

-- the largest number that a kept cut can have
abbrev pub max_first : ℕ
max_first = max_constraints + max_budget

-- numbers one after the other
unfoldable pub number_from : ℕ → ℕ → ℕ
number_from first p = first + p
