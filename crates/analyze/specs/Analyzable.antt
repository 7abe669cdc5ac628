-- What analysis asks of the state's arrays, and what combining gives.
use Rattle.std.specs.Prelude.{ℕ, ◌+◌, ◌≤◌, ◌<◌, true, Option, MatchOption, List, ◌≡◌, T, ℤ, length}
use Rattle.model_problems.specs.Lists.{tab, all_of}
use Rattle.model_problems.specs.Ranges.{max_variables, max_constraints, max_budget}
use Rattle.model_problems.specs.Constraint.{in_range}
use Rattle.model_problems.specs.Problem.{bounds_in_range}
use Rattle.model_walk.specs.Search.{Level, Core}
use Rattle.model_walk.specs.Conflict as model
use Rattle.layout.specs.Rows.{row_length, constraint_at, row_at, box_of, max_rows, rows_length}
use Rattle.state.specs.View.{kept_cuts, reasons_in, core_with}

-- the sizes, and the numbers of the kept rows and of the bounds, are in document 01's ranges
pub record Analyzable (n m made : ℕ) (rows lower upper : List ℤ) : Type 0 where
  pub variables : n ≤ max_variables
  pub inputs : m ≤ max_constraints
  pub cuts : made ≤ max_budget
  pub rows-size : length rows ≡ rows_length
  pub lower-size : length lower ≡ max_variables
  pub upper-size : length upper ≡ max_variables
  pub rows-range : T (all_of in_range (tab (row_at n rows) 0 (m + kept_cuts made)))
  pub box-range : T (all_of bounds_in_range (box_of n lower upper))

-- F, at a variable, and one of the kept constraints to combine it with
pub record Resolvable (n kept : ℕ) (f : List ℤ) (i j : ℕ) : Type 0 where
  pub variable : i < n
  pub position : j < kept
  pub row : j < max_rows
  pub size : length f ≡ row_length
  pub range : in_range (constraint_at n f 0) ≡ true

-- a state's core with these arrays as its deepest level
abbrev pub core_at : (n m made : ℕ) (rows lower upper : List ℤ) (below above numbers : List ℕ) (decided : ℕ) (outer : List Level) → Core
core_at n m made rows lower upper below above numbers decided outer =
    core_with n m made rows numbers (record { box = box_of n lower upper; reasons = tab (reasons_in below above) 0 n; decided = decided }) outer

-- F after a variable and the number of the constraint taken in there, as the model has them, and F in range
pub record ResolvedAs (n : ℕ) (s : model.Resolved) (f : List ℤ) (number : ℕ) : Type 0 where
  pub same : s ≡ record { cut = constraint_at n f 0; used = number }
  pub range : in_range (constraint_at n f 0) ≡ true
  pub size : length f ≡ row_length

-- F stays, or the outcome g is taken, whatever the constraint's number is
abbrev pub ResolventOf : ℕ → List ℤ → List ℤ → List ℤ → List ℤ → ℕ → ℕ → Option (List ℤ) → Type 0
ResolventOf n rows lower upper f i j outcome =
    MatchOption outcome ((number : ℕ) → model.resolve_with (box_of n lower upper) i (constraint_at n f 0) number (row_at n rows j) ≡ record { cut = constraint_at n f 0; used = 0 })
    (λ g. (number : ℕ) → ResolvedAs n (model.resolve_with (box_of n lower upper) i (constraint_at n f 0) number (row_at n rows j)) g number)
