-- What a file says where its sizes are right, in the order of the arrays that it is read into.
use Rattle.std.specs.Prelude.{ℕ, zero, suc, ◌+◌, ◌*◌, ◌/◌, ◌%◌, ◌-◌, ◌≤◌, Bool, ◌&&◌, List, ◌++◌, ℤ, pos, length, replicate}
use Rattle.model_files.specs.Bytes.{i32_at, block_length}
use Rattle.model_files.specs.File.{variables_in, constraints_in, bounds_offset, constraint_of, problem_in, block_count_matches}
use Rattle.model_problems.specs.Lists.{tab}
use Rattle.model_problems.specs.Constraint.{Constraint, coefficient_at}
use Rattle.model_problems.specs.Problem.{sizes_in_range}
use Rattle.model_problems.specs.Ranges.{max_variables, max_constraints}
use Rattle.layout.specs.Rows.{row_length}

-- 4 does not hold
unfoldable pub sizes_match : List ℕ → Bool
sizes_match f = sizes_in_range (problem_in f) && block_count_matches f

-- the sizes are in range, and there is a block for every constraint
pub record Blocks (f : List ℕ) : Type 0 where
  pub few-variables : variables_in f ≤ max_variables
  pub few-constraints : constraints_in f ≤ max_constraints
  pub long : block_length * suc (constraints_in f) ≤ length f

-- the variables that the arrays have room for, and the numbers of their rows
abbrev pub room : ℕ
room = 32

abbrev pub cells : ℕ
cells = 2112

-- the constraints that they have room for
abbrev pub divisor_room : ℕ
divisor_room = 64

unfoldable pub zeros : ℕ → List ℤ
zeros n = replicate n (pos 0)

-- an array of `width` numbers that is filled from its start: f 0, f 1, .., count of them, and zeros
unfoldable pub filled : (ℕ → ℤ) → ℕ → ℕ → List ℤ
filled f count width = tab f 0 count ++ zeros (width - count)

-- the bound of variable i; the upper bounds stand 4 bytes after the lower ones
unfoldable pub bound_in : List ℕ → ℕ → ℕ → ℤ
bound_in f side i = i32_at f (bounds_offset i + side)

-- number i of a row
unfoldable pub in_row : Constraint → ℕ → ℤ
in_row k zero = k.constant
in_row k (suc i) = coefficient_at k i

-- the divisor of constraint j
unfoldable pub divisor_in : List ℕ → ℕ → ℤ
divisor_in f j = (constraint_of f j).divisor

-- number c of the rows
unfoldable pub cell_in : List ℕ → ℕ → ℤ
cell_in f c = in_row (constraint_of f (c / row_length)) (c % row_length)
